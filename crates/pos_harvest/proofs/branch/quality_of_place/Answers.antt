-- The number of table 7, the branch from its place, and the hash of its end.
use Rattle.std.proofs.Common.{◌∙◌, ◌<◌, Ok, Err, sym, ap, subst, arith}
use Rattle.std.proofs.lemmas.Result.{err_from_is_err_and}
use Rattle.pos_lists.specs.PlotLists.{place_in}
use Rattle.pos_layout.specs.Fields.{count_of, layout_in}
use Rattle.pos_layout.specs.Rules.{IsLaidOut}
use Rattle.pos_harvest.proofs.SourceLemmas.{refusal_answers, source_then, source_refused, source_done}
use Rattle.pos_harvest.specs.Places.{quality_in}
use Rattle.pos_harvest.proofs.PlaceLemmas.{place_inside}
use Rattle.pos_harvest.proofs.TupleLemmas.{quality_refused, quality_found, quality_stops}
use Rattle.pos_harvest.proofs.branch.quality_of_place.Goals as goal

pub returns-in_err-number-clause-reading : goal.returns-in_err-number-clause-reading
returns-in_err-number-clause-reading g c =
    let p = err_from_is_err_and c.from_residual.result c.from_residual.ensures.1 in
    source_refused g.N.Numbers.source 2 14 c.in_err-number.field-0.0 c.from_residual.result _ _ _ _ (omega arith) (p.1 ∙ ap (λ e. Err e) p.2) c.in_err-number.ensures.reading

pub returns-in_err-number-clause-quality : goal.returns-in_err-number-clause-quality
returns-in_err-number-clause-quality g c = λ b holds.
    let p = err_from_is_err_and c.from_residual.result c.from_residual.ensures.1 in
    refusal_answers g.N.Numbers.source c.from_residual.result c.in_err-number.field-0.0 (quality_in (layout_in b) b c.args.challenge.now.0 c.args.place) (p.1 ∙ ap (λ e. Err e) p.2)
    (λ d found. quality_refused b c.args.challenge.now.0 c.args.place d (c.in_err-number.ensures.number b holds d found))

pub follow-requires : goal.follow-requires
follow-requires g c =
    let same = c.in_ok-number.ensures.reading.left.same in
    let size = c.size-size.ensures.size ∙ ap (λ p. p.header.size) c.plot.ensures in
    let inside : c.place_in-from.result < count_of (g.N.Numbers.source.plot c.number.new.self).header 6 =
    subst (λ p. c.place_in-from.result < count_of p.header 6) (sym same)
    (subst (λ n. n < count_of (g.N.Numbers.source.plot c.args.source.now).header 6) (sym (c.place_in-from.ensures ∙ ap (λ k. place_in k c.in_ok-number.number) size))
    (place_inside (g.N.Numbers.source.plot c.args.source.now).header c.in_ok-number.number c.in_ok-number.ensures.in_range)) in
    record {
      is_open = c.in_ok-number.ensures.reading.left.stays_open;
      laid_out = subst (λ p. IsLaidOut p.header.layout p.header) (sym same) (subst (λ p. IsLaidOut p.header.layout p.header) c.plot.ensures c.size-size.ensures.laid_out);
      first = omega arith;
      last = omega arith;
      place = inside;
    }

pub returns-in_err-lesser-clause-reading : goal.returns-in_err-lesser-clause-reading
returns-in_err-lesser-clause-reading g c =
    let p = err_from_is_err_and c.from_residual-in_err-lesser.result c.from_residual-in_err-lesser.ensures.1 in
    source_then g.N.Numbers.source 2 12 14 c.in_ok-number.number c.from_residual-in_err-lesser.result _ _ _ _ _ _ (omega arith) c.in_ok-number.ensures.reading
    (source_refused g.N.Numbers.source 12 12 c.in_err-lesser.field-0.0 c.from_residual-in_err-lesser.result _ _ _ _ (omega arith) (p.1 ∙ ap (λ e. Err e) p.2) c.in_err-lesser.ensures.reading)

pub returns-in_err-lesser-clause-quality : goal.returns-in_err-lesser-clause-quality
returns-in_err-lesser-clause-quality g c = λ b holds.
    let p = err_from_is_err_and c.from_residual-in_err-lesser.result c.from_residual-in_err-lesser.ensures.1 in
    refusal_answers g.N.Numbers.source c.from_residual-in_err-lesser.result c.in_err-lesser.field-0.0 (quality_in (layout_in b) b c.args.challenge.now.0 c.args.place) (p.1 ∙ ap (λ e. Err e) p.2)
    (λ d found. quality_stops b c.args.challenge.now.0 c.size-size.result c.args.place c.in_ok-number.number c.place_in-from.result d ((c.size-size.ensures.size ∙ ap (λ p. p.header.size) c.plot.ensures) ∙ ap (λ h. h.size) (g.N.Numbers.source.is_file _ b _ holds).header)
    (c.in_ok-number.ensures.number b holds) c.place_in-from.ensures
    (c.in_err-lesser.ensures.answer b (c.in_ok-number.ensures.reading.left.stays b holds) d found))

pub returns-clause-reading : goal.returns-clause-reading
returns-clause-reading g c =
    source_done g.N.Numbers.source 14 14 (c.in_ok-lesser.lesser, c.in_ok-lesser.greater) c.pair_quality.result _ _ _ _ (omega arith)
    (source_then g.N.Numbers.source 2 12 14 c.in_ok-number.number (Ok (c.in_ok-lesser.lesser, c.in_ok-lesser.greater)) _ _ _ _ _ _ (omega arith) c.in_ok-number.ensures.reading c.in_ok-lesser.ensures.reading)

pub returns-clause-quality : goal.returns-clause-quality
returns-clause-quality g c = λ b holds.
    quality_found b c.args.challenge.now.0 c.size-size.result c.args.place c.in_ok-number.number c.place_in-from.result c.in_ok-lesser.lesser c.in_ok-lesser.greater
    ((c.size-size.ensures.size ∙ ap (λ p. p.header.size) c.plot.ensures) ∙ ap (λ h. h.size) (g.N.Numbers.source.is_file _ b _ holds).header) (c.in_ok-number.ensures.number b holds) c.place_in-from.ensures
    (c.in_ok-lesser.ensures.answer b (c.in_ok-number.ensures.reading.left.stays b holds))
    ∙ ap (λ q. Ok q) (sym c.pair_quality.ensures.value)
