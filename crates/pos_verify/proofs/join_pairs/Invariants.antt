use Rattle.std.proofs.Common.{◌≡◌, ◌+◌, ◌-◌, ◌^◌}
use Rattle.pos_verify.proofs.LevelLemmas.{JoinedSoFar}
use Rattle.pos_verify.proofs.join_pairs.Given as goal

abbrev pub invariant-loop-pair : goal.invariant-loop-pair
invariant-loop-pair l =
    (l.pair-end ≡ 2 ^ (6 - l.level)) × JoinedSoFar l.size (l.level + 1) l.pair l.initial.entries l.entries
