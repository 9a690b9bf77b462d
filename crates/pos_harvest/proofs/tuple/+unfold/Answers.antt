-- A number is read, and the values of its lesser and then of its greater place are written to the halves.
use Rattle.std.proofs.Common.{◌≡◌, ◌∙◌, ◌≤◌, ◌<◌, ◌+◌, ◌-◌, ◌*◌, ◌^◌, ℕ, List, ◌++◌, Ok, Err, length, sym, ap, subst, arith}
use Rattle.std.proofs.lemmas.Result.{err_from_is_err_and}
use Rattle.pos_lists.specs.Pairs.{greater}
use Rattle.pos_lists.specs.Walk.{walk}
use Rattle.pos_layout.specs.Reading.{num}
use Rattle.pos_layout.specs.Rules.{IsLaidOut}
use Rattle.pos_layout.specs.Fields.{layout_in}
use Rattle.pos_order.proofs.PlotOrderLemmas.{half_count, half_twice}
use Rattle.pos_harvest.specs.Searches.{places_of}
use Rattle.pos_harvest.proofs.CallLemmas.{on_ok}
use Rattle.pos_harvest.proofs.PlaceLemmas.{point_small, pair_inside, walk_value, walk_found, walk_refused, walk_left, walk_right, one_walk, two_walks, set_one}
use Rattle.pos_harvest.proofs.SourceLemmas.{if_err, map_err, source_then, source_refused}
use Rattle.pos_harvest.proofs.tuple.+unfold.Goals as goal

pub returns-then-table-eq0-clause-walked : goal.returns-then-table-eq0-clause-walked
returns-then-table-eq0-clause-walked g t c = λ b holds.
    walk_value (num (layout_in b) b) c.args.table c.args.place c.if-table-eq0.true
    ∙ ap (λ xs. Ok xs) (sym (set_one c.args.values.now c.args.table c.args.place c.if-table-eq0.true c.requires.count))

pub returns-in_err-number-clause-reading : goal.returns-in_err-number-clause-reading
returns-in_err-number-clause-reading g t c =
    let p = err_from_is_err_and c.from_residual.result c.from_residual.ensures.1 in
    let fits = one_walk c.args.table c.if-table-eq0.false in
    source_refused g.N.Numbers.source 2 _ c.in_err-number.field-0.0 c.from_residual.result _ _ _ _ (omega arith) (p.1 ∙ ap (λ e. Err e) p.2) c.in_err-number.ensures.reading

pub returns-in_err-number-clause-damage : goal.returns-in_err-number-clause-damage
returns-in_err-number-clause-damage g t c =
    let p = err_from_is_err_and c.from_residual.result c.from_residual.ensures.1 in
    if_err c.from_residual.result c.in_err-number.field-0.0 _ (p.1 ∙ ap (λ e. Err e) p.2)
    (λ d found b holds. walk_refused (num (layout_in b) b) c.args.table c.args.place d c.if-table-eq0.false (c.in_err-number.ensures.number b holds d found))

pub from_point-greater-requires : goal.from_point-greater-requires
from_point-greater-requires g t c = point_small (g.N.Numbers.source.plot c.args.source.now).header.size c.in_ok-number.number c.requires.laid_out.greatest c.in_ok-number.ensures.below

some_table : (t : ℕ) → (t ≡ 0 → ⊥) → 1 ≤ t
some_table t apart = omega arith

pub unfold-requires : goal.unfold-requires
unfold-requires g t c = λ κs within.
    let same = c.in_ok-number.ensures.reading.left.same in
    let laid : IsLaidOut (g.N.Numbers.source.plot c.number.new.self).header.layout (g.N.Numbers.source.plot c.number.new.self).header = subst (λ p. IsLaidOut p.header.layout p.header) (sym same) c.requires.laid_out in
    let inside : greater c.in_ok-number.number < places_of (g.N.Numbers.source.plot c.number.new.self).header (c.args.table - 1) =
    subst (λ p. greater c.in_ok-number.number < places_of p.header (c.args.table - 1)) (sym same)
    (pair_inside (g.N.Numbers.source.plot c.args.source.now).header c.args.table c.in_ok-number.number (some_table c.args.table c.if-table-eq0.false) c.requires.few c.in_ok-number.ensures.in_range) in
    let some = some_table c.args.table c.if-table-eq0.false in
    let few = c.requires.few in
    let is = c.from_point-greater.ensures.greater in
    let less = c.from_point-greater.ensures.differ in
    let half = half_count c.args.table (length c.args.values.now) c.if-table-eq0.false c.requires.count in
    (omega arith, (within.0, (within.1.0, (within.1.1, (c.in_ok-number.ensures.reading.left.stays_open, (laid, (c.split_at_mut-left.ensures.front_len ∙ half, (omega arith, omega arith))))))))

pub returns-in_err-unfold-clause-reading : goal.returns-in_err-unfold-clause-reading
returns-in_err-unfold-clause-reading g t c =
    let p = err_from_is_err_and c.from_residual-in_err-unfold.result c.from_residual-in_err-unfold.ensures.1 in
    source_then g.N.Numbers.source 2 (2 * (2 ^ (c.args.table - 1) - 1)) _ c.in_ok-number.number c.from_residual-in_err-unfold.result _ _ _ _ _ _
    (one_walk c.args.table c.if-table-eq0.false) c.in_ok-number.ensures.reading
    (source_refused g.N.Numbers.source (2 * (2 ^ (c.args.table - 1) - 1)) (2 * (2 ^ (c.args.table - 1) - 1)) c.in_err-unfold.field-0.0 c.from_residual-in_err-unfold.result _ _ _ _ (omega arith)
    (p.1 ∙ ap (λ e. Err e) p.2) c.in_err-unfold.ensures.reading)

pub returns-in_err-unfold-clause-damage : goal.returns-in_err-unfold-clause-damage
returns-in_err-unfold-clause-damage g t c =
    let p = err_from_is_err_and c.from_residual-in_err-unfold.result c.from_residual-in_err-unfold.ensures.1 in
    if_err c.from_residual-in_err-unfold.result c.in_err-unfold.field-0.0 _ (p.1 ∙ ap (λ e. Err e) p.2)
    (λ d found b holds.
    walk_left (num (layout_in b) b) c.args.table c.args.place c.in_ok-number.number _ d c.if-table-eq0.false (c.in_ok-number.ensures.number b holds) c.from_point-greater.ensures.lesser
    (c.in_err-unfold.ensures.damage d found b (c.in_ok-number.ensures.reading.left.stays b holds)))

pub unfold-requires-2 : goal.unfold-requires-2
unfold-requires-2 g t c = λ κs within.
    let same = c.in_ok-unfold.ensures.reading.left.same ∙ c.in_ok-number.ensures.reading.left.same in
    let laid : IsLaidOut (g.N.Numbers.source.plot c.unfold.new.source).header.layout (g.N.Numbers.source.plot c.unfold.new.source).header = subst (λ p. IsLaidOut p.header.layout p.header) (sym same) c.requires.laid_out in
    let inside : greater c.in_ok-number.number < places_of (g.N.Numbers.source.plot c.unfold.new.source).header (c.args.table - 1) =
    subst (λ p. greater c.in_ok-number.number < places_of p.header (c.args.table - 1)) (sym same)
    (pair_inside (g.N.Numbers.source.plot c.args.source.now).header c.args.table c.in_ok-number.number (some_table c.args.table c.if-table-eq0.false) c.requires.few c.in_ok-number.ensures.in_range) in
    let some = some_table c.args.table c.if-table-eq0.false in
    let few = c.requires.few in
    let is : c.from_point-greater.result.0 ≡ greater c.in_ok-number.number = c.from_point-greater.ensures.greater in
    let half = half_count c.args.table (length c.args.values.now) c.if-table-eq0.false c.requires.count in
    let twice = half_twice c.args.table (length c.args.values.now) c.if-table-eq0.false c.requires.count in
    let rest : length c.split_at_mut-left.result.1.now ≡ 2 ^ (c.args.table - 1) = omega (arith, c.split_at_mut-left.ensures.back_len) in
    let below : c.from_point-greater.result.0 < places_of (g.N.Numbers.source.plot c.unfold.new.source).header (c.args.table - 1) =
    subst (λ n. n < places_of (g.N.Numbers.source.plot c.unfold.new.source).header (c.args.table - 1)) (sym is) inside in
    (omega arith, (within.0, (within.1.0, (within.1.1, (c.in_ok-unfold.ensures.reading.left.stays_open, (laid, (rest, (omega arith, below))))))))

pub returns-clause-reading : goal.returns-clause-reading
returns-clause-reading g t c =
    source_then g.N.Numbers.source (2 + 2 * (2 ^ (c.args.table - 1) - 1)) (2 * (2 ^ (c.args.table - 1) - 1)) _ c.in_ok-unfold.field-0 c.unfold-2.result _ _ _ _ _ _
    (two_walks c.args.table c.if-table-eq0.false)
    (source_then g.N.Numbers.source 2 (2 * (2 ^ (c.args.table - 1) - 1)) _ c.in_ok-number.number (Ok c.in_ok-unfold.field-0) _ _ _ _ _ _ (omega arith) c.in_ok-number.ensures.reading c.in_ok-unfold.ensures.reading)
    c.unfold-2.ensures.reading

pub returns-clause-walked : goal.returns-clause-walked
returns-clause-walked g t c =
    on_ok c.unfold-2.result
    ((b : List ℕ) → g.N.Numbers.source.Serves c.unfold.new.source b (g.D.Disk.view c.unfold.new.disk) → walk (num (layout_in b) b) (c.args.table - 1) c.from_point-greater.result.0 ≡ Ok c.unfold-2.new.values)
    ((b : List ℕ) → g.N.Numbers.source.Serves c.args.source.now b (g.D.Disk.view c.args.disk.now) → walk (num (layout_in b) b) c.args.table c.args.place ≡ Ok (c.unfold.new.values ++ c.unfold-2.new.values))
    (λ right b holds.
    let first = c.in_ok-number.ensures.reading.left.stays b holds in
    walk_found (num (layout_in b) b) c.args.table c.args.place c.in_ok-number.number _ _ c.unfold.new.values c.unfold-2.new.values c.if-table-eq0.false (c.in_ok-number.ensures.number b holds)
    c.from_point-greater.ensures.lesser c.from_point-greater.ensures.greater (c.in_ok-unfold.ensures.walked b first)
    (right b (c.in_ok-unfold.ensures.reading.left.stays b first)))
    c.unfold-2.ensures.walked

pub returns-clause-damage : goal.returns-clause-damage
returns-clause-damage g t c =
    map_err c.unfold-2.result _ _ (λ refusal right d found b holds.
    let first = c.in_ok-number.ensures.reading.left.stays b holds in
    walk_right (num (layout_in b) b) c.args.table c.args.place c.in_ok-number.number _ _ c.unfold.new.values d c.if-table-eq0.false (c.in_ok-number.ensures.number b holds)
    c.from_point-greater.ensures.lesser c.from_point-greater.ensures.greater (c.in_ok-unfold.ensures.walked b first)
    (right d found b (c.in_ok-unfold.ensures.reading.left.stays b first)))
    c.unfold-2.ensures.damage
