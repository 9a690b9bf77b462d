-- Two starts, the second from the parks of the first on.
use Rattle.std.proofs.Common.{◌≡◌, ◌∙◌, ◌+◌, ◌≤◌, Ok, Err, sym, ap, subst, arith}
use Rattle.std.proofs.lemmas.Result.{err_from_is_err_and}
use Rattle.pos_tuple.specs.Proof.{challenge_value}
use Rattle.pos_layout.specs.Layouts.{parks_of}
use Rattle.pos_layout.specs.Fields.{count_of, header_in, layout_in}
use Rattle.pos_reader.specs.Spans.{Bound}
use Rattle.pos_reader.proofs.ReadingLemmas.{reading_after, reading_refused, reading_done}
use Rattle.pos_harvest.proofs.SpanLemmas.{same_parks, between_all, between_next, starts_rise}
use Rattle.pos_harvest.proofs.span.find.Goals as goal

pub returns-clause-span : goal.returns-clause-span
returns-clause-span g c = λ b holds.
    let after = c.in_ok-first.ensures.reading.left.stays_file b holds in
    let value : c.challenge_value-f7.result ≡ challenge_value (header_in b).size c.args.challenge.now.0 =
    c.challenge_value-f7.ensures.value ∙ ap (λ k. challenge_value k c.args.challenge.now.0) (c.size.ensures.size ∙ ap (λ h. h.size) holds.header) in
    let first = c.in_ok-first.ensures.found b holds
    (between_all b c.challenge_value-f7.result (parks_of c.args.plot.now.header.layout (count_of c.args.plot.now.header 7)) (same_parks c.args.plot.now b _ holds)) in
    let second = c.in_ok-second.ensures.found b after
    (between_next b c.challenge_value-f7.result c.in_ok-first.first.parks (parks_of c.start_of.new.plot.header.layout (count_of c.start_of.new.plot.header 7)) (same_parks c.start_of.new.plot b _ after) first.between) in
    let rise : c.in_ok-first.first.place ≤ c.in_ok-second.second.place =
    starts_rise b c.challenge_value-f7.result c.in_ok-first.first.parks c.in_ok-second.second.parks c.in_ok-first.first.place c.in_ok-second.second.place
    c.in_ok-second.ensures.parks.0 first second in
    let greatest : c.max.result ≡ c.in_ok-second.second.place = omega (arith, c.max.ensures, rise) in
    record {
      ordered = omega (arith, greatest, rise);
      lower = subst (λ v. Bound (layout_in b) b v c.in_ok-first.first.place) value first.bound;
      upper = subst (Bound (layout_in b) b (challenge_value (header_in b).size c.args.challenge.now.0 + 1)) (sym greatest)
          (subst (λ v. Bound (layout_in b) b (v + 1) c.in_ok-second.second.place) value second.bound);
    }

pub returns-in_err-first-clause-reading : goal.returns-in_err-first-clause-reading
returns-in_err-first-clause-reading g c =
    let p = err_from_is_err_and c.from_residual.result c.from_residual.ensures.1 in
    reading_refused 43 100 c.in_err-first.field-0.0 c.from_residual.result _ _ _ _ (omega arith) (p.1 ∙ ap (λ e. Err e) p.2) c.in_err-first.ensures.reading

pub returns-in_err-second-clause-reading : goal.returns-in_err-second-clause-reading
returns-in_err-second-clause-reading g c =
    let p = err_from_is_err_and c.from_residual-in_err-second.result c.from_residual-in_err-second.ensures.1 in
    reading_after 43 43 100 c.in_ok-first.first c.from_residual-in_err-second.result _ _ _ _ _ _ (omega arith) c.in_ok-first.ensures.reading
    (reading_refused 43 43 c.in_err-second.field-0.0 c.from_residual-in_err-second.result _ _ _ _ (omega arith) (p.1 ∙ ap (λ e. Err e) p.2) c.in_err-second.ensures.reading)

pub returns-clause-reading : goal.returns-clause-reading
returns-clause-reading g c =
    reading_done 86 100 c.in_ok-second.second _ _ _ _ _ (omega arith)
    (reading_after 43 43 86 c.in_ok-first.first (Ok c.in_ok-second.second) _ _ _ _ _ _ (omega arith) c.in_ok-first.ensures.reading c.in_ok-second.ensures.reading)
