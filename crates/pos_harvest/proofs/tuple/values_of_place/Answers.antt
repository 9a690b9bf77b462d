-- The number of table 7, and the walk from its place.
use Rattle.std.proofs.Common.{◌∙◌, ◌<◌, Ok, Err, refl, sym, ap, subst, arith}
use Rattle.std.proofs.lemmas.Result.{err_from_is_err_and}
use Rattle.pos_lists.specs.PlotLists.{place_in}
use Rattle.pos_layout.specs.Fields.{count_of, layout_in}
use Rattle.pos_layout.specs.Rules.{IsLaidOut}
use Rattle.pos_harvest.proofs.SourceLemmas.{refusal_answers, source_then, source_refused, source_done}
use Rattle.pos_harvest.specs.Places.{tuple_at}
use Rattle.pos_harvest.proofs.PlaceLemmas.{place_inside}
use Rattle.pos_harvest.proofs.TupleLemmas.{tuple_refused, tuple_found}
use Rattle.pos_harvest.proofs.tuple.values_of_place.Goals as goal

pub returns-in_err-number-clause-values : goal.returns-in_err-number-clause-values
returns-in_err-number-clause-values g c = λ b holds.
    let p = err_from_is_err_and c.from_residual.result c.from_residual.ensures.1 in
    refusal_answers g.N.Numbers.source c.from_residual.result c.in_err-number.field-0.0 (tuple_at (layout_in b) b c.args.place) (p.1 ∙ ap (λ e. Err e) p.2)
    (λ d found. tuple_refused b c.args.place d (c.in_err-number.ensures.number b holds d found))

pub unfold-requires : goal.unfold-requires
unfold-requires g c =
    let same = c.in_ok-number.ensures.reading.left.same in
    let size = c.size-size.ensures.size ∙ ap (λ p. p.header.size) c.plot.ensures in
    let inside : c.place_in.result < count_of (g.N.Numbers.source.plot c.number.new.self).header 6 =
    subst (λ p. c.place_in.result < count_of p.header 6) (sym same)
    (subst (λ n. n < count_of (g.N.Numbers.source.plot c.args.source.now).header 6) (sym (c.place_in.ensures ∙ ap (λ k. place_in k c.in_ok-number.number) size))
    (place_inside (g.N.Numbers.source.plot c.args.source.now).header c.in_ok-number.number c.in_ok-number.ensures.in_range)) in
    record {
      is_open = c.in_ok-number.ensures.reading.left.stays_open;
      laid_out = subst (λ p. IsLaidOut p.header.layout p.header) (sym same) (subst (λ p. IsLaidOut p.header.layout p.header) c.plot.ensures c.size-size.ensures.laid_out);
      count = refl;
      few = omega arith;
      place = inside;
    }

pub returns-in_err-unfold-clause-reading : goal.returns-in_err-unfold-clause-reading
returns-in_err-unfold-clause-reading g c =
    let p = err_from_is_err_and c.from_residual-in_err-unfold.result c.from_residual-in_err-unfold.ensures.1 in
    source_then g.N.Numbers.source 2 126 128 c.in_ok-number.number c.from_residual-in_err-unfold.result _ _ _ _ _ _ (omega arith) c.in_ok-number.ensures.reading
    (source_refused g.N.Numbers.source 126 126 c.in_err-unfold.field-0.0 c.from_residual-in_err-unfold.result _ _ _ _ (omega arith) (p.1 ∙ ap (λ e. Err e) p.2) c.in_err-unfold.ensures.reading)

pub returns-in_err-unfold-clause-values : goal.returns-in_err-unfold-clause-values
returns-in_err-unfold-clause-values g c = λ b holds.
    let p = err_from_is_err_and c.from_residual-in_err-unfold.result c.from_residual-in_err-unfold.ensures.1 in
    refusal_answers g.N.Numbers.source c.from_residual-in_err-unfold.result c.in_err-unfold.field-0.0 (tuple_at (layout_in b) b c.args.place) (p.1 ∙ ap (λ e. Err e) p.2)
    (λ d found. tuple_found b c.size-size.result c.args.place c.in_ok-number.number c.place_in.result ((c.size-size.ensures.size ∙ ap (λ p. p.header.size) c.plot.ensures) ∙ ap (λ h. h.size) (g.N.Numbers.source.is_file _ b _ holds).header) (c.in_ok-number.ensures.number b holds) c.place_in.ensures
    ∙ c.in_err-unfold.ensures.damage d found b (c.in_ok-number.ensures.reading.left.stays b holds))

pub returns-clause-reading : goal.returns-clause-reading
returns-clause-reading g c =
    source_done g.N.Numbers.source 128 128 c.in_ok-unfold.field-0 c.unfold.new.values _ _ _ _ (omega arith)
    (source_then g.N.Numbers.source 2 126 128 c.in_ok-number.number (Ok c.in_ok-unfold.field-0) _ _ _ _ _ _ (omega arith) c.in_ok-number.ensures.reading c.in_ok-unfold.ensures.reading)

pub returns-clause-values : goal.returns-clause-values
returns-clause-values g c = λ b holds.
    tuple_found b c.size-size.result c.args.place c.in_ok-number.number c.place_in.result ((c.size-size.ensures.size ∙ ap (λ p. p.header.size) c.plot.ensures) ∙ ap (λ h. h.size) (g.N.Numbers.source.is_file _ b _ holds).header) (c.in_ok-number.ensures.number b holds) c.place_in.ensures
    ∙ c.in_ok-unfold.ensures.walked b (c.in_ok-number.ensures.reading.left.stays b holds)
