-- One place after another, each with an offer or the end.
use Rattle.std.proofs.Common.{◌∙◌, ◌+◌, ◌-◌, Err, Some, ap, arith, subst, sym}
use Rattle.std.proofs.lemmas.Result.{err_from_is_err_and}
use Rattle.pos_reader.proofs.AnswerLemmas.{handed_on}
use Rattle.pos_reader.proofs.ReadingLemmas.{read_more}
use Rattle.pos_layout.specs.Fields.{layout_in}
use Rattle.pos_farm.specs.Offers.{AreOffered}
use Rattle.pos_farm.specs.PlotAnswers.{IsTrueOffer}
use Rattle.pos_farm.proofs.AskLemmas.{offered_more, offers_stop, truly_more}
use Rattle.pos_farm.proofs.asking.best_of_places.Goals as goal

pub returns-in_err-offer-clause-damage : goal.returns-in_err-offer-clause-damage
returns-in_err-offer-clause-damage g c = λ d is b holds.
    let p = err_from_is_err_and c.from_residual.result c.from_residual.ensures.1 in
    let same = handed_on c.in_err-offer.field-0.0 d c.from_residual.result (p.1 ∙ ap (λ e. Err e) p.2) is in
    offers_stop b c.args.challenge.now.0 c.args.first c.loop-place.place c.args.second _ _ d (omega arith) (omega arith)
    (c.loop-place.invariant.offered b holds)
    (c.in_err-offer.ensures.damage d (ap (λ e. Err e) same) b (c.loop-place.invariant.far.left.stays_file b holds))

pub loop-place-preserved : goal.loop-place-preserved
loop-place-preserved g c =
    let asked = c.args.challenge.now.0 in
    let so_far = c.loop-place.invariant in
    record {
      far = read_more 128 c.args.first c.loop-place.place c.in_ok-offer.offer 0 _ _ _ _ _ _ (omega arith) so_far.far c.in_ok-offer.ensures.reading;
      offered = λ b holds.
          subst (λ o. AreOffered (layout_in b) b asked c.args.first (c.loop-place.place + 1) (c.loop-place.place + 1 - c.args.first) (Some o)) (sym c.better.ensures)
          (offered_more b asked c.args.first c.loop-place.place c.loop-place.best c.in_ok-offer.offer (omega arith) (so_far.offered b holds)
          (c.in_ok-offer.ensures.offer b (so_far.far.left.stays_file b holds)));
      truly = subst (IsTrueOffer asked) (sym c.better.ensures) (truly_more asked c.loop-place.best c.in_ok-offer.offer so_far.truly c.in_ok-offer.ensures.truly);
    }
