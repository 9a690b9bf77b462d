-- `<=` of two arrays is the order of their items.
use Rattle.std.proofs.Common.{ap, refl, ◌∙◌, nat_cmp}
use Rattle.std.specs.Ordering.{is_le, is_some_and}
use Rattle.std.specs.Cmp.Lexicographic.{lists_agrees}
use Rattle.pos_farm.proofs.offer.is_no_worse.Goals as goal

pub returns : goal.returns
returns c = c.le.ensures ∙ ap (is_some_and is_le) (lists_agrees {R = nat_cmp} (λ x y. refl) c.args.offer.now.quality c.args.other.now.quality)
