-- A tuple is a turning of its plot order.
use Rattle.std.proofs.Common.{◌≡◌, zero, suc, ◌^◌, inl, inr, ⊎_elim, ◌++◌, length, take, drop, sym, refl, ap, ◌∙◌, subst}
use Rattle.pos_order.specs.Order.{lesser_first, plot_order, Turning}
use Rattle.pos_order.proofs.NodeParts.{take-half, drop-half}
use Rattle.pos_order.proofs.PlotOrderLemmas.{length_first_half, length_second_half, length-plot_order}
use Rattle.pos_order.proofs.OrderLemmas.{lesser_first_cases}
use Rattle.pos_laws.specs.OrderLaws.{TuplesTurnTheirPlotOrder}

pub tuples_turn_their_plot_order : TuplesTurnTheirPlotOrder
unfolding plot_order Turning
tuples_turn_their_plot_order zero xs e = refl
tuples_turn_their_plot_order (suc n) xs e =
    let a = length_first_half n xs e in
    let b = length_second_half n xs e in
    let l = plot_order n (take (2 ^ n) xs) in
    let r = plot_order n (drop (2 ^ n) xs) in
    let ll : length l ≡ 2 ^ n = length-plot_order n _ ∙ a in
    let lr : length r ≡ 2 ^ n = length-plot_order n _ ∙ b in
    let tl = tuples_turn_their_plot_order n _ a in
    let tr = tuples_turn_their_plot_order n _ b in
    ⊎_elim
    (λ (f : lesser_first l r ≡ l ++ r).
    inl (
      subst (Turning n (take (2 ^ n) xs)) (sym (ap (take (2 ^ n)) f ∙ take-half n l r ll)) tl,
      subst (Turning n (drop (2 ^ n) xs)) (sym (ap (drop (2 ^ n)) f ∙ drop-half n l r ll)) tr,
    ))
    (λ (f : lesser_first l r ≡ r ++ l).
    inr (
      subst (Turning n (take (2 ^ n) xs)) (sym (ap (drop (2 ^ n)) f ∙ drop-half n r l lr)) tl,
      subst (Turning n (drop (2 ^ n) xs)) (sym (ap (take (2 ^ n)) f ∙ take-half n r l lr)) tr,
    ))
    (lesser_first_cases l r)
