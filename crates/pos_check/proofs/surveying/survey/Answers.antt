-- A plot was made, and its check was answered.
use Rattle.std.proofs.Common.{◌∙◌, Err, ap}
use Rattle.std.proofs.lemmas.Result.{err_from_is_err_and}
use Rattle.pos_check.proofs.SurveyLemmas.{check_done, check_refused, run_of}
use Rattle.pos_check.proofs.surveying.survey.Goals as goal

pub returns-in_err-summary : goal.returns-in_err-summary
returns-in_err-summary g c =
    let p = err_from_is_err_and c.from_residual-in_err-summary.result c.from_residual-in_err-summary.ensures.1 in
    check_refused c.args.number c.args.size c.args.n c.args.name.now c.args.scratch.now c.in_ok-counts.counts _ _ _
    (run_of c.args.number c.args.size c.k.result c.standard-plan.result c.survey_id.result.0 c.args.name.now c.args.scratch.now _ _ _ c.survey_id.ensures c.standard-plan.ensures c.k.ensures.value
    c.in_ok-counts.ensures)
    c.in_err-summary.field-0.0 c.from_residual-in_err-summary.result (p.1 ∙ ap (λ e. Err e) p.2) c.in_err-summary.ensures

pub returns : goal.returns
returns g c =
    check_done c.args.number c.args.size c.args.n c.args.name.now c.args.scratch.now c.in_ok-counts.counts _ _ _
    (run_of c.args.number c.args.size c.k.result c.standard-plan.result c.survey_id.result.0 c.args.name.now c.args.scratch.now _ _ _ c.survey_id.ensures c.standard-plan.ensures c.k.ensures.value
    c.in_ok-counts.ensures)
    c.in_ok-summary.summary c.in_ok-summary.ensures
