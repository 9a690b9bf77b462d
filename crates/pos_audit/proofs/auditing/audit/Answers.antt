-- The file was not opened; it was, and its plot audited.
use Rattle.std.proofs.Common.{◌∙◌, Err, ap}
use Rattle.std.proofs.lemmas.Result.{err_from_is_err_and}
use Rattle.pos_audit.proofs.AuditingLemmas.{audit_done, audit_not_opened, file_apart}
use Rattle.pos_audit.proofs.auditing.audit.Goals as goal

pub returns-in_err-plot : goal.returns-in_err-plot
returns-in_err-plot g c =
    let p = err_from_is_err_and c.from_residual.result c.from_residual.ensures.1 in
    audit_not_opened c.args.name.now c.args.scratch.now c.in_err-plot.field-0.0 c.from_residual.result _ _ (p.1 ∙ ap (λ e. Err e) p.2)
    c.in_err-plot.ensures.kept c.in_err-plot.ensures.damage (λ e. (c.in_err-plot.ensures.absent e).0) c.in_err-plot.ensures.faults

pub audit_plot-requires-clause-apart : goal.audit_plot-requires-clause-apart
audit_plot-requires-clause-apart g c =
    file_apart c.args.name.now c.args.scratch.now c.in_ok-plot.plot _ _ c.in_ok-plot.ensures.kept c.in_ok-plot.ensures.faults.quiet c.in_ok-plot.ensures.ok c.requires.apart
    (g.met.D.Disk.is_disk c.open.new.disk)

pub returns : goal.returns
returns g c =
    audit_done c.args.name.now c.args.scratch.now c.in_ok-plot.plot _ _ c.in_ok-plot.ensures.kept c.in_ok-plot.ensures.faults.quiet c.in_ok-plot.ensures.ok c.requires.apart
    _ c.audit_plot.result c.audit_plot.ensures
