use Rattle.std.proofs.Common.{refl, arith}
use Rattle.pos_buckets.proofs.BuiltLemmas.{low_at, built-none, built-more, lows-built}
use Rattle.pos_buckets.proofs.targets.low_parts.Goals as goal

pub loop-i-init : goal.loop-i-init
loop-i-init c = built-none low_at _ c.in-Ok.ensures.items

pub loop-i-preserved : goal.loop-i-preserved
loop-i-preserved c = built-more low_at _ _ _ _ c.loop-i.invariant c.in_ok-push.ensures refl

pub returns : goal.returns
returns c = lows-built _ _ c.loop-i.invariant (omega arith)
