-- Each exit: no memory, the new file not begun, the lists not copied, the file not finished; or it is.
use Rattle.std.proofs.Common.{◌∙◌, Err, ap}
use Rattle.std.proofs.lemmas.Result.{err_from_is_err_and}
use Rattle.pos_convert.proofs.ConvertingLemmas.{convert_done, convert_none, convert_not_copied, convert_not_finished, convert_not_started, copied_standing, start_apart, start_begun, start_open}
use Rattle.pos_convert.proofs.converting.convert.Goals as goal

pub returns-in_default : goal.returns-in_default
returns-in_default g c = convert_none c.args.plot.now c.args.memo.now c.args.name.now (g.D.Disk.view c.args.disk.now) (g.met.D.Disk.is_disk c.args.disk.now) c.requires.is_open

pub returns-in_err-writer : goal.returns-in_err-writer
returns-in_err-writer g c =
    let p = err_from_is_err_and c.from_residual.result c.from_residual.ensures.1 in
    convert_not_started c.args.plot.now c.args.memo.now c.args.name.now (g.D.Disk.view c.args.disk.now) (g.met.D.Disk.is_disk c.args.disk.now) c.requires.is_open
    c.in_err-writer.field-0.0 c.from_residual.result (g.D.Disk.view c.start.new.disk) (p.1 ∙ ap (λ e. Err e) p.2) c.in_err-writer.ensures.start

pub copy_tables-requires-clause-is_open : goal.copy_tables-requires-clause-is_open
copy_tables-requires-clause-is_open g c =
    start_open c.args.plot.now c.args.memo.now c.args.name.now (g.D.Disk.view c.args.disk.now) (g.met.D.Disk.is_disk c.args.disk.now) c.requires.is_open
    c.in_ok-writer.writer c.in_ok-writer.writer (g.D.Disk.view c.start.new.disk) c.in_ok-writer.ensures.start c.in_ok-writer.ensures.ok

pub copy_tables-requires-clause-apart : goal.copy_tables-requires-clause-apart
copy_tables-requires-clause-apart g c =
    start_apart c.args.plot.now c.args.memo.now c.args.name.now (g.D.Disk.view c.args.disk.now) (g.met.D.Disk.is_disk c.args.disk.now) c.requires.is_open
    c.in_ok-writer.writer c.in_ok-writer.writer (g.D.Disk.view c.start.new.disk) c.in_ok-writer.ensures.start c.in_ok-writer.ensures.ok

pub copy_tables-requires-clause-begun : goal.copy_tables-requires-clause-begun
copy_tables-requires-clause-begun g c =
    start_begun c.args.plot.now c.args.memo.now c.args.name.now (g.D.Disk.view c.args.disk.now) (g.met.D.Disk.is_disk c.args.disk.now) c.requires.is_open
    c.in_ok-writer.writer c.in_ok-writer.writer (g.D.Disk.view c.start.new.disk) c.in_ok-writer.ensures.start c.in_ok-writer.ensures.ok

pub returns-in_err-copy_tables : goal.returns-in_err-copy_tables
returns-in_err-copy_tables g c =
    let p = err_from_is_err_and c.from_residual-in_err-copy_tables.result c.from_residual-in_err-copy_tables.ensures.1 in
    convert_not_copied c.args.plot.now c.args.memo.now c.args.name.now (g.D.Disk.view c.args.disk.now) (g.met.D.Disk.is_disk c.args.disk.now) c.requires.is_open
    c.in_ok-writer.writer c.in_ok-writer.writer (g.D.Disk.view c.start.new.disk) c.in_ok-writer.ensures.start c.in_ok-writer.ensures.ok
    c.copy_tables.new.plot c.copy_tables.new.writer c.in_err-copy_tables.field-0.0 c.from_residual-in_err-copy_tables.result (g.D.Disk.view c.copy_tables.new.disk) (g.met.D.Disk.is_disk c.copy_tables.new.disk)
    (p.1 ∙ ap (λ e. Err e) p.2) c.in_err-copy_tables.ensures.copying (λ d same. c.in_err-copy_tables.ensures.damage d (ap (λ e. Err e) same))

pub finish-requires-clause-stands : goal.finish-requires-clause-stands
finish-requires-clause-stands g c =
    copied_standing c.args.plot.now c.args.memo.now c.args.name.now (g.D.Disk.view c.args.disk.now) (g.met.D.Disk.is_disk c.args.disk.now) c.requires.is_open
    c.in_ok-writer.writer c.in_ok-writer.writer (g.D.Disk.view c.start.new.disk) c.in_ok-writer.ensures.start c.in_ok-writer.ensures.ok
    c.in_ok-copy_tables.field-0 c.copy_tables.new.plot c.copy_tables.new.writer (g.D.Disk.view c.copy_tables.new.disk) (g.met.D.Disk.is_disk c.copy_tables.new.disk)
    c.in_ok-copy_tables.ensures.copying c.in_ok-copy_tables.ensures.ok

pub returns-in_err-length : goal.returns-in_err-length
returns-in_err-length g c =
    let p = err_from_is_err_and c.from_residual-in_err-length.result c.from_residual-in_err-length.ensures.1 in
    convert_not_finished c.args.plot.now c.args.memo.now c.args.name.now (g.D.Disk.view c.args.disk.now) (g.met.D.Disk.is_disk c.args.disk.now) c.requires.is_open
    c.in_ok-writer.writer c.in_ok-writer.writer (g.D.Disk.view c.start.new.disk) c.in_ok-writer.ensures.start c.in_ok-writer.ensures.ok
    c.in_ok-copy_tables.field-0 c.copy_tables.new.plot c.copy_tables.new.writer (g.D.Disk.view c.copy_tables.new.disk) (g.met.D.Disk.is_disk c.copy_tables.new.disk)
    c.in_ok-copy_tables.ensures.copying c.in_ok-copy_tables.ensures.ok c.in_err-length.field-0.0 c.from_residual-in_err-length.result (g.D.Disk.view c.finish.new.disk) (g.met.D.Disk.is_disk c.finish.new.disk)
    (p.1 ∙ ap (λ e. Err e) p.2) c.in_err-length.ensures.works

pub returns : goal.returns
returns g c =
    convert_done c.args.plot.now c.args.memo.now c.args.name.now (g.D.Disk.view c.args.disk.now) (g.met.D.Disk.is_disk c.args.disk.now) c.requires.is_open
    c.in_ok-writer.writer c.in_ok-writer.writer (g.D.Disk.view c.start.new.disk) c.in_ok-writer.ensures.start c.in_ok-writer.ensures.ok
    c.in_ok-copy_tables.field-0 c.copy_tables.new.plot c.copy_tables.new.writer (g.D.Disk.view c.copy_tables.new.disk) (g.met.D.Disk.is_disk c.copy_tables.new.disk)
    c.in_ok-copy_tables.ensures.copying c.in_ok-copy_tables.ensures.ok c.in_ok-length.length c.in_ok-length.length (g.D.Disk.view c.finish.new.disk) (g.met.D.Disk.is_disk c.finish.new.disk)
    c.in_ok-length.ensures.works c.in_ok-length.ensures.ok
