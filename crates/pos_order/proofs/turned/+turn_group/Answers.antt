-- The halves are turned, and joined in the order in which they match.
use Rattle.std.proofs.Common.{◌∙◌, ◌-◌, ◌^◌, ◌<◌, ℕ, ◌++◌, All, IfNone, length, sym, ap₂, refl, subst, arith}
use Rattle.std.proofs.lemmas.List.Elements.{All-take, All-drop}
use Rattle.pos_order.specs.Turned.{IsTurnedTo, HasNoTurning}
use Rattle.pos_order.proofs.PlotOrderLemmas.{half_count, half_twice}
use Rattle.pos_order.proofs.Turnings.{AreTurnedHalves, turned_one, left_has_none, right_has_none, joined_straight, joined_crossed, neither_matches}
use Rattle.pos_order.proofs.turned.+turn_group.Goals as goal
use Rattle.pos_order.proofs.turned.+turn_group.Goals.{In_ok-after}

pub returns-then-level-eq0-clause-turned : goal.returns-then-level-eq0-clause-turned
returns-then-level-eq0-clause-turned t c =
    turned_one c.args.id.now.0 c.args.size c.args.level c.args.values.now c.first.result c.if-level-eq0.true c.requires.count c.requires.small c.first.ensures.entry

pub turn_group-requires : goal.turn_group-requires
turn_group-requires t c =
    let half = half_count c.args.level (length c.args.values.now) c.if-level-eq0.false c.requires.count in
    let small : All (λ x. x < 2 ^ c.args.size) c.split_at_mut-left.result.0.now =
    subst (All (λ x. x < 2 ^ c.args.size)) (sym c.split_at_mut-left.ensures.front) (All-take (λ x. x < 2 ^ c.args.size) _ c.args.values.now c.requires.small) in
    (omega arith, (c.split_at_mut-left.ensures.front_len ∙ half, (omega arith, small)))

pub turn_group-requires-2 : goal.turn_group-requires-2
turn_group-requires-2 t c =
    let half = half_count c.args.level (length c.args.values.now) c.if-level-eq0.false c.requires.count in
    let twice = half_twice c.args.level (length c.args.values.now) c.if-level-eq0.false c.requires.count in
    let small : All (λ x. x < 2 ^ c.args.size) c.split_at_mut-left.result.1.now =
    subst (All (λ x. x < 2 ^ c.args.size)) (sym c.split_at_mut-left.ensures.back) (All-drop (λ x. x < 2 ^ c.args.size) _ c.args.values.now c.requires.small) in
    (omega arith, (omega (arith, c.split_at_mut-left.ensures.back_len), (omega arith, small)))

pub returns-in_err-before-clause-none : goal.returns-in_err-before-clause-none
returns-in_err-before-clause-none t c =
    let never = left_has_none c.args.id.now.0 c.args.size c.args.level c.args.values.now c.split_at_mut-left.result.0.now c.if-level-eq0.false c.requires.count
    c.split_at_mut-left.ensures.front c.in_err-before.ensures.none in
    subst (λ r. IfNone r (HasNoTurning c.args.id.now.0 c.args.size c.args.level c.args.values.now)) (sym c.from_residual.ensures) never

pub returns-in_err-after-clause-none : goal.returns-in_err-after-clause-none
returns-in_err-after-clause-none t c =
    let never = right_has_none c.args.id.now.0 c.args.size c.args.level c.args.values.now c.split_at_mut-left.result.1.now c.if-level-eq0.false c.requires.count
    c.split_at_mut-left.ensures.back c.in_err-after.ensures.none in
    subst (λ r. IfNone r (HasNoTurning c.args.id.now.0 c.args.size c.args.level c.args.values.now)) (sym c.from_residual-in_err-after.ensures) never

-- both halves, turned
halves : (t : ℕ) (c : In_ok-after t) → AreTurnedHalves c.args.id.now.0 c.args.size c.args.level c.args.values.now c.turn_group.new.values c.turn_group-2.new.values
    c.in_ok-before.before c.in_ok-after.after
halves t c = record {
  some = c.if-level-eq0.false;
  len = c.requires.count;
  before = subst (λ ys. IsTurnedTo c.args.id.now.0 c.args.size (c.args.level - 1) ys c.turn_group.new.values c.in_ok-before.before) c.split_at_mut-left.ensures.front c.in_ok-before.ensures.turned;
  after = subst (λ ys. IsTurnedTo c.args.id.now.0 c.args.size (c.args.level - 1) ys c.turn_group-2.new.values c.in_ok-after.after) c.split_at_mut-left.ensures.back c.in_ok-after.ensures.turned;
}

pub returns-then-matches-clause-turned : goal.returns-then-matches-clause-turned
returns-then-matches-clause-turned t c =
    joined_straight c.args.id.now.0 c.args.size c.args.level c.args.values.now _ _ _ _ c.fx.result
    (halves t (goal.at.returns-then-matches-clause-turned t c).In_ok-after) (c.if-matches.ensures.matched.0 refl) c.fx.ensures.entry

pub returns-then-not-matches-clause-none : goal.returns-then-not-matches-clause-none
returns-then-not-matches-clause-none t c =
    neither_matches c.args.id.now.0 c.args.size c.args.level c.args.values.now _ _ _ _
    (halves t (goal.at.returns-then-not-matches-clause-none t c).In_ok-after) (sym c.if-matches.ensures.tested) (sym c.if-not-matches.ensures.tested)

pub returns-clause-turned : goal.returns-clause-turned
returns-clause-turned t c =
    let turned = joined_crossed c.args.id.now.0 c.args.size c.args.level c.args.values.now _ _ _ _ c.fx-2.result
    (halves t (goal.at.returns-clause-turned t c).In_ok-after) (c.if-not-matches.ensures.matched.0 refl) c.fx-2.ensures.entry in
    subst (λ zs. IsTurnedTo c.args.id.now.0 c.args.size c.args.level c.args.values.now zs c.fx-2.result)
    (ap₂ (λ a b. a ++ b) (sym c.swap_with_slice.ensures.after) (sym c.swap_with_slice.ensures.other_after)) turned
