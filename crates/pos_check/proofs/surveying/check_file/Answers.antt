-- The file was opened, and its check ended early.
use Rattle.std.proofs.Common.{◌∙◌, Err, ap}
use Rattle.std.proofs.lemmas.Result.{err_from_is_err_and}
use Rattle.pos_check.proofs.SurveyLemmas.{file_checked, file_not_checked}
use Rattle.pos_check.proofs.surveying.check_file.Goals as goal

pub returns-in_err-summary : goal.returns-in_err-summary
returns-in_err-summary g c =
    let p = err_from_is_err_and c.from_residual-in_err-summary.result c.from_residual-in_err-summary.ensures.1 in
    file_not_checked c.args.name.now c.args.n c.in_ok-plot.plot c.check.new.plot c.in_err-summary.field-0.0 c.from_residual-in_err-summary.result _ _ _ _
    (p.1 ∙ ap (λ e. Err e) p.2) c.in_ok-plot.ensures.kept c.in_ok-plot.ensures.faults.quiet c.in_ok-plot.ensures.ok
    c.in_err-summary.ensures.reading c.in_err-summary.ensures.damage

pub returns : goal.returns
returns g c =
    file_checked c.args.name.now c.args.n c.in_ok-plot.plot c.check.new.plot c.in_ok-summary.summary _ _ _ _
    c.in_ok-plot.ensures.kept c.in_ok-plot.ensures.faults.quiet c.in_ok-plot.ensures.ok
    c.in_ok-summary.ensures.reading c.in_ok-summary.ensures.challenges c.in_ok-summary.ensures.summary
