-- The plot was opened and checked, and the summary's line is the text.
use Rattle.std.proofs.Common.{◌∙◌, Err, ap}
use Rattle.pos_app.specs.CheckAnswers.{IsCheckDamage}
use Rattle.pos_app.proofs.CheckLemmas.{checked_right}
use Rattle.pos_app.proofs.FileLemmas.{found_right, kept_then}
use Rattle.pos_app.proofs.shown.checked_text.Goals as goal
use Rattle.std.proofs.lemmas.Result.{err_from_is_err_and}
use Rattle.pos_layout.specs.Fields.{layout_in}
use Rattle.pos_check.specs.Summaries.{StopsCheck}
use Rattle.pos_app.proofs.ShownLemmas.{no_summary}

pub returns : goal.returns
returns g c =
    let before = g.D.Disk.view c.args.disk.now in
    let between = g.D.Disk.view c.open_plot.new.disk in
    let after = g.D.Disk.view c.check.new.disk in
    found_right _ (IsCheckDamage c.args.challenges) c.args.file.now _ before after
    (checked_right c.args.file.now c.in_ok-plot.plot c.args.challenges c.in_ok-summary.summary _ before between after
    c.in_ok-checked_line.ensures c.in_ok-summary.ensures.challenges c.in_ok-plot.ensures.opened.right c.in_ok-plot.ensures.reads c.in_ok-summary.ensures.reads c.in_ok-summary.ensures.summary)
    (kept_then before between after c.in_ok-plot.ensures.opened.kept c.in_ok-summary.ensures.reading.left.reads.kept)
    (c.in_ok-summary.ensures.reading.faults.quiet ∙ c.in_ok-plot.ensures.opened.quiet)

pub returns-in_err-summary : goal.returns-in_err-summary
returns-in_err-summary g c =
    let p = err_from_is_err_and c.from_residual-in_err-summary.result c.from_residual-in_err-summary.ensures.1 in
    no_summary _ (λ b d. StopsCheck (layout_in b) b c.args.challenges d) c.args.file.now c.in_ok-plot.plot _ _
    _ _ _ c.in_ok-plot.ensures.opened.kept c.in_ok-plot.ensures.opened.quiet c.in_ok-plot.ensures.opened.right
    c.in_err-summary.field-0.0 _ (p.1 ∙ ap (λ e. Err e) p.2) c.in_err-summary.ensures.reading c.in_err-summary.ensures.damage
