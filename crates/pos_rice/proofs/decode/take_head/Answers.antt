use Rattle.std.proofs.Common.{refl}
use Rattle.pos_rice.proofs.StepLemmas.{IfNone-holds}
use Rattle.pos_rice.proofs.HeadLemmas.{no_first, no_low, low_too_large}
use Rattle.pos_rice.proofs.decode.take_head.Goals as goal

pub returns-in_err-first-clause-none : goal.returns-in_err-first-clause-none
returns-in_err-first-clause-none c = IfNone-holds _ (no_first c.args.k c.args.reader.now (c.in_err-first.ensures.none.0 refl))

pub returns-in_err-low-clause-none : goal.returns-in_err-low-clause-none
returns-in_err-low-clause-none c = IfNone-holds _ (no_low c.args.k c.in_ok-first.first c.args.reader.now _ c.in_ok-first.ensures.below c.in_ok-first.ensures.some (c.in_err-low.ensures.none.0 refl))

pub returns-else-low-k-clause-none : goal.returns-else-low-k-clause-none
returns-else-low-k-clause-none c =
    low_too_large c.args.k c.in_ok-first.first c.in_ok-low.field-0 c.args.reader.now _ _ c.in_ok-first.ensures.below c.in_ok-first.ensures.some c.in_ok-low.ensures.below c.in_ok-low.ensures.some c.requires c.if-low-k.false
