-- The first table that is damaged, or all seven.
use Rattle.std.proofs.Common.{◌∙◌, ◌+◌, Err, refl, ap, arith}
use Rattle.std.proofs.lemmas.Result.{err_from_is_err_and}
use Rattle.pos_convert.proofs.CopyingLemmas.{damage_handed}
use Rattle.pos_convert.proofs.TableLemmas.{tables_damage, tables_next, tables_none, tables_standing}
use Rattle.pos_convert.proofs.copying.copy_tables.Goals as goal

pub loop-table-init : goal.loop-table-init
loop-table-init g c = record {
  far = tables_none c.args.plot.now c.args.writer.now (g.D.Disk.view c.args.disk.now) c.requires.begun;
  room = refl;
}

pub copy_table-requires-clause-stands : goal.copy_table-requires-clause-stands
copy_table-requires-clause-stands g c =
    tables_standing c.args.plot.now c.loop-table.plot c.loop-table.table c.args.writer.now c.loop-table.writer (g.D.Disk.view c.args.disk.now) (g.D.Disk.view c.loop-table.disk)
    c.loop-table.invariant.far c.requires.begun c.requires.is_open c.requires.apart

pub returns-in_err-copy_table-clause-damage : goal.returns-in_err-copy_table-clause-damage
returns-in_err-copy_table-clause-damage g c = λ d is.
    let p = err_from_is_err_and c.from_residual.result c.from_residual.ensures.1 in
    let same = damage_handed c.in_err-copy_table.field-0.0 c.from_residual.result d (p.1 ∙ ap (λ e. Err e) p.2) is in
    tables_damage c.args.plot.now c.loop-table.plot c.loop-table.table c.args.writer.now c.loop-table.writer (g.D.Disk.view c.args.disk.now) (g.D.Disk.view c.loop-table.disk)
    c.loop-table.invariant.far c.requires.begun c.requires.is_open c.requires.apart (c.loop-table.table + 1) d refl (omega arith) (c.in_err-copy_table.ensures.damage d (ap (λ e. Err e) same))

pub loop-table-preserved : goal.loop-table-preserved
loop-table-preserved g c = record {
  far = tables_next c.args.plot.now c.loop-table.plot c.loop-table.table c.args.writer.now c.loop-table.writer (g.D.Disk.view c.args.disk.now) (g.D.Disk.view c.loop-table.disk)
      c.loop-table.invariant.far c.requires.begun c.requires.is_open c.requires.apart (c.loop-table.table + 1) c.copy_table.new.plot c.copy_table.new.writer (g.D.Disk.view c.copy_table.new.disk) refl
      c.in_ok-copy_table.ensures.ok c.in_ok-copy_table.field-0 c.in_ok-copy_table.ensures.copying;
  room = c.in_ok-copy_table.ensures.room ∙ c.loop-table.invariant.room;
}
