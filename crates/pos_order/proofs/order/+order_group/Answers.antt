use Rattle.std.proofs.Common.{◌≡◌, ◌-◌, ◌++◌, length, ap, ap₂, sym, ◌∙◌, arith, refl, true, false}
use Rattle.pos_order.specs.Order.{plot_order, lesser_first, is_below}
use Rattle.pos_order.proofs.PlotOrderLemmas.{half_count, half_twice, length-plot_order, plot_order-halves}
use Rattle.pos_order.proofs.order.+order_group.Goals as goal

pub returns-then-level-eq0 : goal.returns-then-level-eq0
unfolding plot_order
returns-then-level-eq0 t c = rw c.if-level-eq0.true refl

pub order_group-requires : goal.order_group-requires
order_group-requires t c =
    let half = half_count c.args.level (length c.args.values.now) c.if-level-eq0.false c.requires.count in
    (omega arith, (c.split_at_mut-left.ensures.front_len ∙ half, omega arith))

pub order_group-requires-2 : goal.order_group-requires-2
order_group-requires-2 t c =
    let half = half_count c.args.level (length c.args.values.now) c.if-level-eq0.false c.requires.count in
    let twice = half_twice c.args.level (length c.args.values.now) c.if-level-eq0.false c.requires.count in
    (omega arith, (omega (arith, c.split_at_mut-left.ensures.back_len), omega arith))

pub below-requires : goal.below-requires
below-requires t c =
    let half = half_count c.args.level (length c.args.values.now) c.if-level-eq0.false c.requires.count in
    let twice = half_twice c.args.level (length c.args.values.now) c.if-level-eq0.false c.requires.count in
    let front : length c.order_group.new.values ≡ length c.split_at_mut-left.result.0.now =
    ap length c.order_group.ensures ∙ length-plot_order _ _
    in
    let back : length c.order_group-2.new.values ≡ length c.split_at_mut-left.result.1.now =
    ap length c.order_group-2.ensures ∙ length-plot_order _ _
    in
    omega (arith, c.split_at_mut-left.ensures.front_len, c.split_at_mut-left.ensures.back_len)

pub returns-then-below : goal.returns-then-below
unfolding lesser_first
returns-then-below t c =
    let whole = plot_order-halves c.args.level c.args.values.now c.order_group.new.values c.order_group-2.new.values
    c.if-level-eq0.false c.requires.count
    (c.order_group.ensures ∙ ap (plot_order (c.args.level - 1)) c.split_at_mut-left.ensures.front)
    (c.order_group-2.ensures ∙ ap (plot_order (c.args.level - 1)) c.split_at_mut-left.ensures.back) in
    let turned : is_below c.order_group-2.new.values c.order_group.new.values ≡ true = sym c.if-below.ensures.tested in
    ap₂ (λ a b. a ++ b) c.swap_with_slice.ensures.after c.swap_with_slice.ensures.other_after
    ∙ sym (whole ∙ rw turned refl)

pub returns-else-below : goal.returns-else-below
unfolding lesser_first
returns-else-below t c =
    let whole = plot_order-halves c.args.level c.args.values.now c.order_group.new.values c.order_group-2.new.values
    c.if-level-eq0.false c.requires.count
    (c.order_group.ensures ∙ ap (plot_order (c.args.level - 1)) c.split_at_mut-left.ensures.front)
    (c.order_group-2.ensures ∙ ap (plot_order (c.args.level - 1)) c.split_at_mut-left.ensures.back) in
    let kept : is_below c.order_group-2.new.values c.order_group.new.values ≡ false = sym c.if-below.ensures.tested in
    sym (whole ∙ rw kept refl)
