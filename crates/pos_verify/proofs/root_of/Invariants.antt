use Rattle.pos_verify.proofs.LevelLemmas.{LevelsSoFar}
use Rattle.pos_verify.proofs.root_of.Given as goal

abbrev pub invariant-loop-level : goal.invariant-loop-level
invariant-loop-level l = LevelsSoFar l.id.0 l.size l.values l.level l.entries
