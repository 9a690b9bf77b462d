-- One place after another, each with a proof or the end.
use Rattle.std.proofs.Common.{◌∙◌, Err, ap, arith}
use Rattle.std.proofs.lemmas.Result.{err_from_is_err_and}
use Rattle.pos_reader.proofs.AnswerLemmas.{handed_on}
use Rattle.pos_reader.proofs.ReadingLemmas.{read_more}
use Rattle.pos_check.proofs.StepLemmas.{places_more, places_stop}
use Rattle.pos_check.proofs.checking.add_places.Goals as goal

pub returns-in_err-quality-clause-damage : goal.returns-in_err-quality-clause-damage
returns-in_err-quality-clause-damage g c = λ d is b holds.
    let p = err_from_is_err_and c.from_residual.result c.from_residual.ensures.1 in
    let same = handed_on c.in_err-quality.field-0.0 d c.from_residual.result (p.1 ∙ ap (λ e. Err e) p.2) is in
    places_stop b c.args.challenge.now.0 c.args.first c.loop-place.place c.args.second c.args.hasher.now c.loop-place.hasher d (omega arith) (omega arith)
    (c.loop-place.invariant.taken b holds)
    (c.in_err-quality.ensures.damage d (ap (λ e. Err e) same) b (c.loop-place.invariant.far.left.stays_file b holds))

pub loop-place-preserved : goal.loop-place-preserved
loop-place-preserved g c = record {
  far = read_more 128 c.args.first c.loop-place.place c.in_ok-quality.quality 0 _ _ _ _ _ _ (omega arith) c.loop-place.invariant.far c.in_ok-quality.ensures.reading;
  taken = λ b holds.
      let after = c.loop-place.invariant.far.left.stays_file b holds in
      places_more b c.args.challenge.now.0 c.args.first c.loop-place.place c.args.hasher.now c.loop-place.hasher c.update.new.self c.in_ok-quality.quality (omega arith)
      (c.loop-place.invariant.taken b holds) (c.in_ok-quality.ensures.proof b after) (c.in_ok-quality.ensures.quality b after) c.update.ensures;
}
