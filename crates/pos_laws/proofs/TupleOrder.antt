-- The order of tuples is an order: total, one way and transitive.
use Rattle.std.proofs.Common.{inl, inr, ⊎_elim}
use Rattle.pos_order.proofs.OrderLemmas.{under_trans, under_one_way, under_total, below_from_under, under_from_below}
use Rattle.pos_laws.specs.OrderLaws.{BelowIsTotal, BelowGoesOneWay, BelowIsTransitive}

pub below_is_total : BelowIsTotal
below_is_total a b e n =
    ⊎_elim
    (λ f. absurd (n f))
    (⊎_elim (λ h. inl (below_from_under a b h)) (λ h. inr (below_from_under b a h)))
    (under_total a b e)

pub below_goes_one_way : BelowGoesOneWay
below_goes_one_way a b h g = under_one_way a b (under_from_below a b h) (under_from_below b a g)

pub below_is_transitive : BelowIsTransitive
below_is_transitive a b c h g =
    below_from_under a c (under_trans a b c (under_from_below a b h) (under_from_below b c g))
