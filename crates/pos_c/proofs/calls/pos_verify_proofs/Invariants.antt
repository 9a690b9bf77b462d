use Rattle.std.proofs.Common.{◌≡◌, length}
use Rattle.pos_c.proofs.RequestLemmas.{AnsweredSoFar}
use Rattle.pos_c.proofs.calls.pos_verify_proofs.Given as goal

abbrev pub invariant-loop-i : goal.invariant-loop-i
invariant-loop-i l =
    (l.i-end ≡ length l.requests) × AnsweredSoFar l.requests l.proofs l.initial.answers l.answers l.i
