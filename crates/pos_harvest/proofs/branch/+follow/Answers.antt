-- A number of the branch is read, and the place that its bit chooses is followed.
use Rattle.std.proofs.Common.{◌≡◌, ◌∙◌, ◌≤◌, ◌<◌, ◌+◌, ◌-◌, ◌*◌, ◌^◌, ℕ, Err, sym, ap, subst, arith}
use Rattle.std.proofs.lemmas.Result.{err_from_is_err_and}
use Rattle.pos_lists.specs.Pairs.{greater}
use Rattle.pos_lists.specs.Walk.{limb}
use Rattle.pos_layout.specs.Fields.{count_of, layout_in}
use Rattle.pos_layout.specs.Reading.{num}
use Rattle.pos_layout.specs.Rules.{IsLaidOut}
use Rattle.pos_harvest.specs.Sources.{AnswersBy}
use Rattle.pos_harvest.proofs.SourceLemmas.{refusal_answers, source_then}
use Rattle.pos_harvest.proofs.PlaceLemmas.{point_small, value_inside, place_below, half_is, limb_refused, limb_ends, limb_lesser, limb_greater}
use Rattle.pos_harvest.proofs.branch.+follow.Goals as goal

pub returns-in_err-number-clause-answer : goal.returns-in_err-number-clause-answer
returns-in_err-number-clause-answer g t c = λ b holds.
    let p = err_from_is_err_and c.from_residual.result c.from_residual.ensures.1 in
    refusal_answers g.N.Numbers.source c.from_residual.result c.in_err-number.field-0.0 (limb (num (layout_in b) b) (c.args.table - 1) c.args.q c.args.place) (p.1 ∙ ap (λ e. Err e) p.2)
    (λ d found. limb_refused (num (layout_in b) b) c.args.table c.args.q c.args.place d c.requires.first (c.in_err-number.ensures.number b holds d found))

pub from_point-greater-requires : goal.from_point-greater-requires
from_point-greater-requires g t c = point_small (g.N.Numbers.source.plot c.args.source.now).header.size c.in_ok-number.number c.requires.laid_out.greatest c.in_ok-number.ensures.below

pub returns-then-table-eq1-clause-small : goal.returns-then-table-eq1-clause-small
returns-then-table-eq1-clause-small g t c =
    let most : greater c.in_ok-number.number < 2 ^ (g.N.Numbers.source.plot c.args.source.now).header.size =
    value_inside (g.N.Numbers.source.plot c.args.source.now).header c.args.table c.in_ok-number.number c.if-table-eq1.true c.in_ok-number.ensures.in_range in
    let is = c.from_point-greater.ensures.greater in
    let less = c.from_point-greater.ensures.differ in
    (omega arith, omega arith)

pub returns-then-table-eq1-clause-answer : goal.returns-then-table-eq1-clause-answer
returns-then-table-eq1-clause-answer g t c = λ b holds.
    limb_ends (num (layout_in b) b) c.args.table c.args.q c.args.place c.in_ok-number.number _ _ c.if-table-eq1.true (c.in_ok-number.ensures.number b holds)
    c.from_point-greater.ensures.lesser c.from_point-greater.ensures.greater

two_or_more : (t : ℕ) → 1 ≤ t → (t ≡ 1 → ⊥) → 2 ≤ t
two_or_more t first apart = omega arith

pub follow-requires : goal.follow-requires
follow-requires g t c = λ κs within.
    let same = c.in_ok-number.ensures.reading.left.same in
    let laid : IsLaidOut (g.N.Numbers.source.plot c.number.new.self).header.layout (g.N.Numbers.source.plot c.number.new.self).header = subst (λ p. IsLaidOut p.header.layout p.header) (sym same) c.requires.laid_out in
    let most : greater c.in_ok-number.number < count_of (g.N.Numbers.source.plot c.number.new.self).header (c.args.table - 1) =
    subst (λ p. greater c.in_ok-number.number < count_of p.header (c.args.table - 1)) (sym same)
    (place_below (g.N.Numbers.source.plot c.args.source.now).header c.args.table c.in_ok-number.number c.if-table-eq1.false c.requires.first c.requires.last c.in_ok-number.ensures.in_range) in
    let two : 2 ≤ c.args.table = two_or_more c.args.table c.requires.first c.if-table-eq1.false in
    let last = c.requires.last in
    let is = c.from_point-greater.ensures.greater in
    let less = c.from_point-greater.ensures.differ in
    (omega arith, (within.0, (within.1.0, (within.1.1, (c.in_ok-number.ensures.reading.left.stays_open, (laid, (omega arith, (omega arith, omega arith))))))))

pub follow-requires-else-q-half : goal.follow-requires-else-q-half
follow-requires-else-q-half g t c = λ κs within.
    let same = c.in_ok-number.ensures.reading.left.same in
    let laid : IsLaidOut (g.N.Numbers.source.plot c.number.new.self).header.layout (g.N.Numbers.source.plot c.number.new.self).header = subst (λ p. IsLaidOut p.header.layout p.header) (sym same) c.requires.laid_out in
    let most : greater c.in_ok-number.number < count_of (g.N.Numbers.source.plot c.number.new.self).header (c.args.table - 1) =
    subst (λ p. greater c.in_ok-number.number < count_of p.header (c.args.table - 1)) (sym same)
    (place_below (g.N.Numbers.source.plot c.args.source.now).header c.args.table c.in_ok-number.number c.if-table-eq1.false c.requires.first c.requires.last c.in_ok-number.ensures.in_range) in
    let two : 2 ≤ c.args.table = two_or_more c.args.table c.requires.first c.if-table-eq1.false in
    let last = c.requires.last in
    let is = c.from_point-greater.ensures.greater in
    let less = c.from_point-greater.ensures.differ in
    (omega arith, (within.0, (within.1.0, (within.1.1, (c.in_ok-number.ensures.reading.left.stays_open, (laid, (omega arith, (omega arith, omega arith))))))))

pub returns-then-q-half-clause-answer : goal.returns-then-q-half-clause-answer
returns-then-q-half-clause-answer g t c = λ b holds.
    let two : 2 ≤ c.args.table = two_or_more c.args.table c.requires.first c.if-table-eq1.false in
    let half = half_is c.args.table c.requires.last in
    subst (AnswersBy g.N.Numbers.source.found c.follow.result)
    (sym (limb_lesser (num (layout_in b) b) c.args.table c.args.q c.args.place c.in_ok-number.number c.from_point-greater.result.1 _ two (c.in_ok-number.ensures.number b holds)
    c.from_point-greater.ensures.lesser half c.if-q-half.true))
    (c.follow.ensures.answer b (c.in_ok-number.ensures.reading.left.stays b holds))

pub returns-else-q-half-clause-answer : goal.returns-else-q-half-clause-answer
returns-else-q-half-clause-answer g t c = λ b holds.
    let two : 2 ≤ c.args.table = two_or_more c.args.table c.requires.first c.if-table-eq1.false in
    let half = half_is c.args.table c.requires.last in
    subst (AnswersBy g.N.Numbers.source.found c.follow-else-q-half.result)
    (sym (limb_greater (num (layout_in b) b) c.args.table c.args.q c.args.place c.in_ok-number.number c.from_point-greater.result.0 _ two (c.in_ok-number.ensures.number b holds)
    c.from_point-greater.ensures.greater half c.if-q-half.false))
    (c.follow-else-q-half.ensures.answer b (c.in_ok-number.ensures.reading.left.stays b holds))

-- a number, and a branch from the table below
one_limb : (t : ℕ) → 1 ≤ t → 2 + 2 * (t - 1) ≤ 2 * t
one_limb t first = omega arith

pub returns-then-q-half-clause-reading : goal.returns-then-q-half-clause-reading
returns-then-q-half-clause-reading g t c =
    source_then g.N.Numbers.source 2 (2 * (c.args.table - 1)) (2 * c.args.table) c.in_ok-number.number c.follow.result _ _ _ _ _ _
    (one_limb c.args.table c.requires.first) c.in_ok-number.ensures.reading c.follow.ensures.reading

pub returns-else-q-half-clause-reading : goal.returns-else-q-half-clause-reading
returns-else-q-half-clause-reading g t c =
    source_then g.N.Numbers.source 2 (2 * (c.args.table - 1)) (2 * c.args.table) c.in_ok-number.number c.follow-else-q-half.result _ _ _ _ _ _
    (one_limb c.args.table c.requires.first) c.in_ok-number.ensures.reading c.follow-else-q-half.ensures.reading
