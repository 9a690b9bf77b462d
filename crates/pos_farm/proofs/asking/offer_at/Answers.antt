-- The offer of a proof, with the quality of its values.
use Rattle.std.proofs.Common.{◌∙◌, Err, ap}
use Rattle.std.proofs.lemmas.Result.{err_from_is_err_and}
use Rattle.pos_layout.specs.Fields.{layout_in}
use Rattle.pos_reader.proofs.AnswerLemmas.{handed_on}
use Rattle.pos_farm.proofs.AskLemmas.{fails_there}
use Rattle.pos_farm.proofs.asking.offer_at.Goals as goal

pub returns-in_err-proof-clause-damage : goal.returns-in_err-proof-clause-damage
returns-in_err-proof-clause-damage g c = λ d is b holds.
    let p = err_from_is_err_and c.from_residual.result c.from_residual.ensures.1 in
    let same = handed_on c.in_err-proof.field-0.0 d c.from_residual.result (p.1 ∙ ap (λ e. Err e) p.2) is in
    fails_there (layout_in b) b c.args.challenge.now.0 c.args.place c.in_err-proof.field-0.0 d same (c.in_err-proof.ensures.answer b holds)
