use Rattle.std.proofs.Common.{◌≡◌, length}
use Rattle.pos_verify.specs.Levels.{AllFit, AreGroupNodes}
use Rattle.pos_verify.proofs.leaves.Given as goal

abbrev pub invariant-loop-i : goal.invariant-loop-i
invariant-loop-i l =
    (length l.entries ≡ 64) × AreGroupNodes l.id.0 l.size 0 l.values l.i l.entries × AllFit l.size 1 l.i l.entries
