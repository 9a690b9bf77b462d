-- The file is not made, or made and begun or not.
use Rattle.std.proofs.Common.{◌∙◌, Err, ap, subst, sym}
use Rattle.std.proofs.lemmas.Result.{err_from_is_err_and}
use Rattle.pos_convert.specs.Copies.{IsCopyStart}
use Rattle.pos_convert.proofs.StartLemmas.{memo_allowed, start_failed, start_went_well}
use Rattle.pos_convert.proofs.starting.start.Goals as goal

pub begin-requires-clause-memo : goal.begin-requires-clause-memo
begin-requires-clause-memo g c = memo_allowed _ c.requires.memo

pub returns-in_err-writer-clause-start : goal.returns-in_err-writer-clause-start
returns-in_err-writer-clause-start g c =
    let o = g.D.Disk.view c.args.disk.now in
    let m = g.D.Disk.view c.create.new.self in
    let a = g.D.Disk.view c.begin.new.disk in
    let p = err_from_is_err_and c.from_residual-in_err-writer.result c.from_residual-in_err-writer.ensures.1 in
    subst (λ r. IsCopyStart c.args.name.now r o a) (sym (p.1 ∙ ap (λ y. Err y) p.2))
    (start_failed _ c.args.name.now c.in_ok-file.file.0 c.in_err-writer.field-0.0 o m a (g.met.D.Disk.is_disk c.create.new.self) (g.met.D.Disk.is_disk c.begin.new.disk)
    c.in_ok-file.ensures.kept c.in_ok-file.ensures.ok c.in_ok-file.ensures.quiet c.in_err-writer.ensures.works)

pub returns-clause-start : goal.returns-clause-start
returns-clause-start g c =
    let o = g.D.Disk.view c.args.disk.now in
    let m = g.D.Disk.view c.create.new.self in
    let a = g.D.Disk.view c.begin.new.disk in
    start_went_well c.args.name.now c.in_ok-file.file.0 _ c.in_ok-writer.writer o m a (g.met.D.Disk.is_disk c.create.new.self) (g.met.D.Disk.is_disk c.begin.new.disk)
    c.in_ok-file.ensures.kept c.in_ok-file.ensures.ok c.in_ok-file.ensures.quiet c.in_ok-writer.ensures.works
