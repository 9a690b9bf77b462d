-- The second file was made, or was not; then it was compared.
use Rattle.std.proofs.Common.{◌≡◌, ◌∙◌, Err, ap, subst}
use Rattle.std.proofs.lemmas.Result.{err_from_is_err_and}
use Rattle.pos_edge.specs.ScratchNames.{IsScratchName}
use Rattle.pos_audit.specs.Audits.{second_name}
use Rattle.pos_audit.proofs.AuditingLemmas.{compared_by_name, plot_refused, readable_by, run_is, second_is_no_scratch}
use Rattle.pos_audit.proofs.auditing.audit_plot.Goals as goal

pub plot_sized-requires-clause-apart : goal.plot_sized-requires-clause-apart
plot_sized-requires-clause-apart g c =
    let same : c.deref.result.now ≡ second_name c.args.scratch.now = c.deref.ensures ∙ c.in-Ok-format.ensures.ok in
    λ is. second_is_no_scratch c.args.scratch.now (subst (λ n. IsScratchName c.args.scratch.now n) same is)

pub returns-in_err-plot_sized : goal.returns-in_err-plot_sized
returns-in_err-plot_sized g c =
    let p = err_from_is_err_and c.from_residual.result c.from_residual.ensures.1 in
    plot_refused c.args.plot.now c.args.scratch.now _ _ c.in_err-plot_sized.field-0.0 c.from_residual.result (p.1 ∙ ap (λ e. Err e) p.2)
    (run_is c.args.plot.now c.args.scratch.now _ _ c.layout.result c.memo.result.now c.id.result.0 c.size-size.result c.k.result c.standard-plan.result c.deref.result.now _
    c.layout.ensures c.memo.ensures.memo (ap (λ i. i.0) c.id.ensures) c.size-size.ensures.size c.k.ensures.value c.standard-plan.ensures (c.deref.ensures ∙ c.in-Ok-format.ensures.ok)
    c.in_err-plot_sized.ensures)

pub compare_with-requires-clause-readable : goal.compare_with-requires-clause-readable
compare_with-requires-clause-readable g c =
    readable_by c.args.plot.now c.args.scratch.now _ _ c.in_ok-plot_sized.field-0
    (run_is c.args.plot.now c.args.scratch.now _ _ c.layout.result c.memo.result.now c.id.result.0 c.size-size.result c.k.result c.standard-plan.result c.deref.result.now _
    c.layout.ensures c.memo.ensures.memo (ap (λ i. i.0) c.id.ensures) c.size-size.ensures.size c.k.ensures.value c.standard-plan.ensures (c.deref.ensures ∙ c.in-Ok-format.ensures.ok)
    c.in_ok-plot_sized.ensures)
    (g.D.Disk.view c.plot_sized.new.disk) c.requires.is_open (g.met.D.Disk.is_disk c.args.disk.now) c.requires.apart c.file.result.0 c.file.ensures

pub returns : goal.returns
returns g c =
    compared_by_name c.args.plot.now c.args.scratch.now _ _ c.in_ok-plot_sized.field-0
    (run_is c.args.plot.now c.args.scratch.now _ _ c.layout.result c.memo.result.now c.id.result.0 c.size-size.result c.k.result c.standard-plan.result c.deref.result.now _
    c.layout.ensures c.memo.ensures.memo (ap (λ i. i.0) c.id.ensures) c.size-size.ensures.size c.k.ensures.value c.standard-plan.ensures (c.deref.ensures ∙ c.in-Ok-format.ensures.ok)
    c.in_ok-plot_sized.ensures)
    (g.D.Disk.view c.compare_with.new.disk) c.requires.is_open (g.met.D.Disk.is_disk c.args.disk.now) c.requires.apart
    c.file.result.0 c.deref-2.result.now c.compare_with.result c.file.ensures (c.deref-2.ensures ∙ c.in-Ok-format.ensures.ok) c.compare_with.ensures
