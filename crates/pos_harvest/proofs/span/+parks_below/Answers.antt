-- The head of the park in the middle is read, and the search goes on in one half.
use Rattle.std.proofs.Common.{◌≡◌, ◌+◌, ◌-◌, ◌/◌, ◌<◌, ◌≤◌, List, ℕ, arith}
use Rattle.std.proofs.lemmas.Result.{err_from_is_err_and}
use Rattle.pos_reader.specs.declared.refusal.ReadRefusal.TheVariants.{Damage as Found}
use Rattle.pos_reader.specs.Plots.{IsPlotFile}
use Rattle.pos_reader.proofs.AnswerLemmas.{damage_of}
use Rattle.pos_reader.proofs.ReadingLemmas.{reading_after}
use Rattle.pos_harvest.specs.Searches.{IsBetween}
use Rattle.pos_harvest.proofs.CallLemmas.{if_ok}
use Rattle.pos_harvest.proofs.SpanLemmas.{head_damage, upper_half, lower_half, between_upper, between_lower}
use Rattle.pos_harvest.proofs.span.+parks_below.Goals as goal
use Rattle.pos_layout.specs.Fields.{layout_in}

less_of : (m n : ℕ) → m ≤ n → (m ≡ n → ⊥) → m < n
less_of m n most apart = omega arith

middle_inside : (low high all : ℕ) → low ≤ high → (low ≡ high → ⊥) → high ≤ all → low + (high - low) / 2 < all
middle_inside low high all most apart inside = omega arith

pub returns-in_err-head-clause-damage : goal.returns-in_err-head-clause-damage
returns-in_err-head-clause-damage g t c = λ d same b holds.
    let p = err_from_is_err_and c.from_residual.result c.from_residual.ensures.1 in
    let e : c.in_err-head.field-0.0 ≡ Found d = cc (p.1, p.2, same) in
    head_damage c.args.plot.now b _ (c.args.low + (c.args.high - c.args.low) / 2) d holds (middle_inside c.args.low c.args.high _ c.requires.ordered c.if-low-high.false c.requires.inside)
    (damage_of c.in_err-head.field-0.0 d _ e (c.in_err-head.ensures.head b holds))

pub returns-then-branch-f7-clause-reading : goal.returns-then-branch-f7-clause-reading
returns-then-branch-f7-clause-reading g t c = λ steps fits.
    let half = upper_half c.args.low c.args.high steps (less_of c.args.low c.args.high c.requires.ordered c.if-low-high.false) fits in
    reading_after 1 (steps - 1) steps c.in_ok-head.field-0 c.parks_below.result _ _ _ _ _ _ half.0 c.in_ok-head.ensures.reading (c.parks_below.ensures.reading (steps - 1) half.1)

pub returns-then-branch-f7-clause-found : goal.returns-then-branch-f7-clause-found
returns-then-branch-f7-clause-found g t c =
    if_ok c.parks_below.result
    (λ parks. (b : List ℕ) → IsPlotFile c.head.new.self b (g.D.Disk.view c.head.new.disk) → IsBetween (layout_in b) b c.args.f7 (c.args.low + (c.args.high - c.args.low) / 2 + 1) c.args.high → IsBetween (layout_in b) b c.args.f7 parks parks)
    (λ parks. (b : List ℕ) → IsPlotFile c.args.plot.now b (g.D.Disk.view c.args.disk.now) → IsBetween (layout_in b) b c.args.f7 c.args.low c.args.high → IsBetween (layout_in b) b c.args.f7 parks parks)
    (λ parks found b holds between. found b (c.in_ok-head.ensures.reading.left.stays_file b holds)
    (between_upper b c.args.f7 c.args.low c.args.high _ c.in_ok-head.field-0 (c.in_ok-head.ensures.head b holds) c.if-branch-f7.true between))
    c.parks_below.ensures.found

pub returns-else-branch-f7-clause-reading : goal.returns-else-branch-f7-clause-reading
returns-else-branch-f7-clause-reading g t c = λ steps fits.
    let half = lower_half c.args.low c.args.high steps (less_of c.args.low c.args.high c.requires.ordered c.if-low-high.false) fits in
    reading_after 1 (steps - 1) steps c.in_ok-head.field-0 c.parks_below-else-branch-f7.result _ _ _ _ _ _ half.0 c.in_ok-head.ensures.reading (c.parks_below-else-branch-f7.ensures.reading (steps - 1) half.1)

pub returns-else-branch-f7-clause-found : goal.returns-else-branch-f7-clause-found
returns-else-branch-f7-clause-found g t c =
    if_ok c.parks_below-else-branch-f7.result
    (λ parks. (b : List ℕ) → IsPlotFile c.head.new.self b (g.D.Disk.view c.head.new.disk) → IsBetween (layout_in b) b c.args.f7 c.args.low (c.args.low + (c.args.high - c.args.low) / 2) → IsBetween (layout_in b) b c.args.f7 parks parks)
    (λ parks. (b : List ℕ) → IsPlotFile c.args.plot.now b (g.D.Disk.view c.args.disk.now) → IsBetween (layout_in b) b c.args.f7 c.args.low c.args.high → IsBetween (layout_in b) b c.args.f7 parks parks)
    (λ parks found b holds between. found b (c.in_ok-head.ensures.reading.left.stays_file b holds)
    (between_lower b c.args.f7 c.args.low c.args.high _ c.in_ok-head.field-0 (c.in_ok-head.ensures.head b holds) c.if-branch-f7.false between))
    c.parks_below-else-branch-f7.ensures.found
