use Rattle.std.proofs.Common.{arith}
use Rattle.std.proofs.lemmas.Result.{on_ok_weaker}
use Rattle.pos_buckets.proofs.PairLemmas.{below-all}
use Rattle.pos_buckets.proofs.targets.Targets.list.Goals as goal

pub returns-clause-pairs : goal.returns-clause-pairs
returns-clause-pairs c =
    on_ok_weaker _ (below-all c.args.left.now c.args.right.now _ (omega arith)) c.list_marked-listed.ensures
