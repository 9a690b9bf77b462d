use Rattle.std.proofs.lemmas.Result.{err_from_is_err_and}
use Rattle.std.proofs.Common.{Err, sym, ap, ◌∙◌, subst}
use Rattle.pos_plot.specs.Steps.{IsFileStart}
use Rattle.pos_layout.proofs.ShutLemmas.{created_is_fresh}
use Rattle.pos_plot.proofs.StartLemmas.{start_refused, start_failed, start_went_well, started}
use Rattle.pos_plot.proofs.starting.start.Goals as goal

pub begin-requires-clause-memo : goal.begin-requires-clause-memo
begin-requires-clause-memo g c = c.requires.memo

pub begin-requires-clause-fresh : goal.begin-requires-clause-fresh
begin-requires-clause-fresh g c =
    created_is_fresh c.args.name.now c.in_ok-file.file.0 (g.D.Disk.view c.args.disk.now) (g.D.Disk.view c.create.new.self) (g.met.D.Disk.is_disk c.create.new.self) c.create.ensures.kept.clock c.in_ok-file.ensures.ok

pub returns-in_err-file-clause-start : goal.returns-in_err-file-clause-start
returns-in_err-file-clause-start g c =
    let o = g.D.Disk.view c.args.disk.now in
    let a = g.D.Disk.view c.create.new.self in
    let p = err_from_is_err_and c.from_residual.result c.from_residual.ensures.1 in
    subst (λ r. IsFileStart c.args.name.now r o a) (sym (p.1 ∙ ap (λ y. Err y) p.2))
    (start_refused _ c.args.name.now c.in_err-file.field-0.0 o a (g.met.D.Disk.is_disk c.args.disk.now) c.in_err-file.ensures.kept
    (λ is. c.in_err-file.ensures.exists (ap (λ y. Err y) is)) (λ is. c.in_err-file.ensures.failed (ap (λ y. Err y) is)) (λ is. c.in_err-file.ensures.memory (ap (λ y. Err y) is)))

pub returns-in_err-writer-clause-start : goal.returns-in_err-writer-clause-start
returns-in_err-writer-clause-start g c =
    let o = g.D.Disk.view c.args.disk.now in
    let m = g.D.Disk.view c.create.new.self in
    let a = g.D.Disk.view c.begin.new.disk in
    let p = err_from_is_err_and c.from_residual-in_err-writer.result c.from_residual-in_err-writer.ensures.1 in
    subst (λ r. IsFileStart c.args.name.now r o a) (sym (p.1 ∙ ap (λ y. Err y) p.2))
    (start_failed _ c.args.name.now c.in_ok-file.file.0 c.in_err-writer.field-0.0 o m a (g.met.D.Disk.is_disk c.create.new.self) (g.met.D.Disk.is_disk c.begin.new.disk)
    c.in_ok-file.ensures.kept c.in_ok-file.ensures.ok c.in_ok-file.ensures.quiet c.in_err-writer.ensures.works)

pub returns : goal.returns
returns g c =
    let o = g.D.Disk.view c.args.disk.now in
    let m = g.D.Disk.view c.create.new.self in
    let a = g.D.Disk.view c.begin.new.disk in record {
      start = start_went_well c.args.name.now c.in_ok-file.file.0 _ c.in_ok-writer.writer o m a (g.met.D.Disk.is_disk c.create.new.self) (g.met.D.Disk.is_disk c.begin.new.disk)
          c.in_ok-file.ensures.kept c.in_ok-file.ensures.ok c.in_ok-file.ensures.quiet c.in_ok-writer.ensures.works;
      ok = started c.args.layout c.args.memo.now c.args.id.now.0 c.args.size c.args.name.now c.in_ok-file.file.0 c.in_ok-writer.writer _ o m a (g.met.D.Disk.is_disk c.create.new.self) (g.met.D.Disk.is_disk c.begin.new.disk)
          c.in_ok-file.ensures.ok c.in_ok-writer.ensures.works c.in_ok-writer.ensures.begun c.in_ok-writer.ensures.ok;
    }
