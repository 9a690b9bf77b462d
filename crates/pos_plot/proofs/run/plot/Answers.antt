use Rattle.std.proofs.lemmas.Result.{err_from_is_err_and}
use Rattle.std.proofs.Common.{◌≡◌, Err, Ok, sym, ap, ◌∙◌, subst}
use Rattle.pos_edge.specs.ScratchNames.{IsScratchName, fresh_scratch}
use Rattle.pos_layout.specs.Writing.{IsBegun}
use Rattle.pos_plot.specs.PlotRuns.{IsPlotRun}
use Rattle.pos_plot.specs.Faults.{of_work}
use Rattle.pos_plot.specs.Steps.{HasStarted}
use Rattle.pos_plot.proofs.RunLemmas.{run_none, run_not_started, run_not_filled, run_not_closed, run_done, started_other, filled_apart, filled_other}
use Rattle.pos_plot.proofs.run.plot.Goals as goal

pub fill-requires : goal.fill-requires
fill-requires g c =
    let o = g.D.Disk.view c.args.disk.now in
    let a = g.D.Disk.view c.start.new.disk in
    let w = c.in_ok-writer.writer in
    let l = c.args.layout in
    let memo = c.args.memo.now in
    let id = c.args.id.now.0 in
    let name = c.args.name.now in
    let base = c.in_ok-files.files.base in
    let same : base ≡ c.args.scratch.now = ap (λ s. s.base) c.in_ok-files.ensures in
    let apart : IsScratchName base name → ⊥ = λ is. c.requires.apart (subst (λ q. IsScratchName q name) same is) in
    let started : HasStarted l memo id g.row.K name w o a = subst (λ k. HasStarted l memo id k name w o a) c.of.ensures c.in_ok-writer.ensures.ok in
    record {
      least = c.requires.least;
      greatest = c.requires.greatest;
      plan = c.requires.plan;
      fresh = c.in_ok-files.ensures ∙ ap (λ q. fresh_scratch q) (sym same);
      begins = subst (λ m. IsBegun w.file m g.row.K w) (sym started.begins.layout_is) started.begins;
      stands = (l, memo, started.stands);
      other = started_other l memo id g.row.K c.args.plan.now name base o w w a apart c.in_ok-writer.ensures.start started;
    }

pub close-requires : goal.close-requires
close-requires g c =
    let o = g.D.Disk.view c.args.disk.now in
    let a = g.D.Disk.view c.start.new.disk in
    let w = c.in_ok-writer.writer in
    let l = c.args.layout in
    let memo = c.args.memo.now in
    let id = c.args.id.now.0 in
    let name = c.args.name.now in
    let base = c.in_ok-files.files.base in
    let same : base ≡ c.args.scratch.now = ap (λ s. s.base) c.in_ok-files.ensures in
    let apart : IsScratchName base name → ⊥ = λ is. c.requires.apart (subst (λ q. IsScratchName q name) same is) in
    let started : HasStarted l memo id g.row.K name w o a = subst (λ k. HasStarted l memo id k name w o a) c.of.ensures c.in_ok-writer.ensures.ok in
    let b = g.D.Disk.view c.fill.new.disk in
    let t = c.fill.new.files in
    let after = c.fill.new.writer in
    let h = c.in_ok-fill.ensures.ok in record {
      stand = h.stand;
      stands = (let made = h.lists l memo started.stands in (made.0, made.1));
      ended = h.ended;
      apart = filled_apart l memo id g.row.K c.args.plan.now name base o w w a apart c.in_ok-writer.ensures.start started t after b h;
      other = filled_other l memo id g.row.K c.args.plan.now name base o w w a apart c.in_ok-writer.ensures.start started t after b h;
    }

pub returns-in_err-files : goal.returns-in_err-files
returns-in_err-files g c =
    let o = g.D.Disk.view c.args.disk.now in
    let p = err_from_is_err_and c.from_residual.result c.from_residual.ensures.1 in
    subst (λ r. IsPlotRun c.args.layout c.args.memo.now c.args.id.now.0 _ c.args.plan.now c.args.name.now c.args.scratch.now r o o) (sym (p.1 ∙ ap (λ y. Err y) p.2))
    (run_none c.args.layout c.args.memo.now c.args.id.now.0 _ c.args.plan.now c.args.name.now c.args.scratch.now o (g.met.D.Disk.is_disk c.args.disk.now))

pub returns-in_err-writer : goal.returns-in_err-writer
returns-in_err-writer g c =
    let o = g.D.Disk.view c.args.disk.now in
    let a = g.D.Disk.view c.start.new.disk in
    let p = err_from_is_err_and c.from_residual-in_err-writer.result c.from_residual-in_err-writer.ensures.1 in
    subst (λ r. IsPlotRun c.args.layout c.args.memo.now c.args.id.now.0 _ c.args.plan.now c.args.name.now c.args.scratch.now r o a) (sym (p.1 ∙ ap (λ y. Err y) p.2))
    (run_not_started c.args.layout c.args.memo.now c.args.id.now.0 _ c.args.plan.now c.args.name.now c.args.scratch.now o c.in_err-writer.field-0.0 a c.in_err-writer.ensures.start)

pub returns-in_err-fill : goal.returns-in_err-fill
returns-in_err-fill g c =
    let o = g.D.Disk.view c.args.disk.now in
    let a = g.D.Disk.view c.start.new.disk in
    let w = c.in_ok-writer.writer in
    let l = c.args.layout in
    let memo = c.args.memo.now in
    let id = c.args.id.now.0 in
    let name = c.args.name.now in
    let base = c.in_ok-files.files.base in
    let same : base ≡ c.args.scratch.now = ap (λ s. s.base) c.in_ok-files.ensures in
    let apart : IsScratchName base name → ⊥ = λ is. c.requires.apart (subst (λ q. IsScratchName q name) same is) in
    let started : HasStarted l memo id g.row.K name w o a = subst (λ k. HasStarted l memo id k name w o a) c.of.ensures c.in_ok-writer.ensures.ok in
    let b = g.D.Disk.view c.fill.new.disk in
    let p = err_from_is_err_and c.from_residual-in_err-fill.result c.from_residual-in_err-fill.ensures.1 in
    subst (λ r. IsPlotRun l memo id g.row.K c.args.plan.now name c.args.scratch.now r o b) (sym (p.1 ∙ ap (λ y. Err y) p.2))
    (subst (λ q. IsPlotRun l memo id g.row.K c.args.plan.now name q (Err c.in_err-fill.field-0.0) o b) same
    (run_not_filled l memo id g.row.K c.args.plan.now name base o w w a apart c.in_ok-writer.ensures.start started c.in_err-fill.field-0.0 b (g.met.D.Disk.is_disk c.fill.new.disk) c.in_err-fill.ensures.fill))

pub returns-in_err-counts : goal.returns-in_err-counts
returns-in_err-counts g c =
    let o = g.D.Disk.view c.args.disk.now in
    let a = g.D.Disk.view c.start.new.disk in
    let w = c.in_ok-writer.writer in
    let l = c.args.layout in
    let memo = c.args.memo.now in
    let id = c.args.id.now.0 in
    let name = c.args.name.now in
    let base = c.in_ok-files.files.base in
    let same : base ≡ c.args.scratch.now = ap (λ s. s.base) c.in_ok-files.ensures in
    let apart : IsScratchName base name → ⊥ = λ is. c.requires.apart (subst (λ q. IsScratchName q name) same is) in
    let started : HasStarted l memo id g.row.K name w o a = subst (λ k. HasStarted l memo id k name w o a) c.of.ensures c.in_ok-writer.ensures.ok in
    let b = g.D.Disk.view c.fill.new.disk in
    let t = c.fill.new.files in
    let after = c.fill.new.writer in
    let d = g.D.Disk.view c.close.new.disk in
    let p = err_from_is_err_and c.from_residual-in_err-counts.result c.from_residual-in_err-counts.ensures.1 in
    subst (λ r. IsPlotRun l memo id g.row.K c.args.plan.now name c.args.scratch.now r o d) (sym (p.1 ∙ ap (λ y. Err y) p.2))
    (subst (λ q. IsPlotRun l memo id g.row.K c.args.plan.now name q (Err (of_work c.in_err-counts.field-0.0)) o d) same
    (run_not_closed l memo id g.row.K c.args.plan.now name base o w w a apart c.in_ok-writer.ensures.start started c.in_ok-fill.field-0 t after b d
    (g.met.D.Disk.is_disk c.fill.new.disk) (g.met.D.Disk.is_disk c.close.new.disk) c.in_ok-fill.ensures.fill c.in_ok-fill.ensures.ok c.in_err-counts.field-0.0 c.in_err-counts.ensures.close))

pub returns : goal.returns
returns g c =
    let o = g.D.Disk.view c.args.disk.now in
    let a = g.D.Disk.view c.start.new.disk in
    let w = c.in_ok-writer.writer in
    let l = c.args.layout in
    let memo = c.args.memo.now in
    let id = c.args.id.now.0 in
    let name = c.args.name.now in
    let base = c.in_ok-files.files.base in
    let same : base ≡ c.args.scratch.now = ap (λ s. s.base) c.in_ok-files.ensures in
    let apart : IsScratchName base name → ⊥ = λ is. c.requires.apart (subst (λ q. IsScratchName q name) same is) in
    let started : HasStarted l memo id g.row.K name w o a = subst (λ k. HasStarted l memo id k name w o a) c.of.ensures c.in_ok-writer.ensures.ok in
    let b = g.D.Disk.view c.fill.new.disk in
    let t = c.fill.new.files in
    let after = c.fill.new.writer in
    let d = g.D.Disk.view c.close.new.disk in
    subst (λ q. IsPlotRun l memo id g.row.K c.args.plan.now name q (Ok c.in_ok-counts.counts) o d) same
    (run_done l memo id g.row.K c.args.plan.now name base o w w a apart c.in_ok-writer.ensures.start started c.in_ok-fill.field-0 t after b d
    (g.met.D.Disk.is_disk c.fill.new.disk) (g.met.D.Disk.is_disk c.close.new.disk) c.in_ok-fill.ensures.fill c.in_ok-fill.ensures.ok c.in_ok-counts.counts c.in_ok-counts.ensures.close c.in_ok-counts.ensures.ok)
