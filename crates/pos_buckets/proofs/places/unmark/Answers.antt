use Rattle.std.proofs.Common.{arith}
use Rattle.pos_buckets.proofs.PlaceLemmas.{left-all, left-more, left-none}
use Rattle.pos_buckets.proofs.places.unmark.Goals as goal

pub loop-i-init : goal.loop-i-init
loop-i-init c = left-all _ _ _ _ c.requires.marked

pub loop-i-preserved : goal.loop-i-preserved
loop-i-preserved c = left-more _ _ _ _ _ c.requires.inside (omega arith) c.loop-i.invariant

pub returns : goal.returns
returns c = left-none c.args.base c.args.values.now _ _ _ (omega arith) c.loop-i.invariant
