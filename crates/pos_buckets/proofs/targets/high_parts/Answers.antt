use Rattle.std.proofs.Common.{refl, arith}
use Rattle.pos_buckets.proofs.BuiltLemmas.{high_at, built-none, built-more, highs-built}
use Rattle.pos_buckets.proofs.targets.high_parts.Goals as goal

pub loop-i-init : goal.loop-i-init
loop-i-init c = built-none high_at _ c.in-Ok.ensures.items

pub loop-i-preserved : goal.loop-i-preserved
loop-i-preserved c = built-more high_at _ _ _ _ c.loop-i.invariant c.in_ok-push.ensures refl

pub returns : goal.returns
returns c = highs-built _ _ c.loop-i.invariant (omega arith)
