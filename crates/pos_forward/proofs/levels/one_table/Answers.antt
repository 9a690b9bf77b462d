use Rattle.std.proofs.Common.{◌^◌, length, refl, sym, ap, subst, ◌∙◌, arith, All}
use Rattle.pos_record.specs.Kinds.{FirstFits}
use Rattle.pos_forward.specs.Tables.{AreFirstRows}
use Rattle.pos_forward.proofs.OneLemmas.{few_rows, first_made, first_memory, first_refused, stored_worked, values_fit, went_well}
use Rattle.pos_forward.proofs.SevenLemmas.{first_tables, some_rows}
use Rattle.pos_forward.proofs.levels.one_table.Goals as goal

pub returns-then-is_err : goal.returns-then-is_err
returns-then-is_err g c = record {
  fault = λ cap. first_memory c.args.id.now.0 g.row.K cap c.args.scratch.now (g.D.Disk.view c.args.disk.now);
  made = tt;
  fresh = tt;
}

pub store-requires : goal.store-requires
store-requires g c =
    let table : AreFirstRows c.args.id.now.0 c.of.result c.first_table.new.rows.items =
    went_well (AreFirstRows c.args.id.now.0 c.of.result c.first_table.new.rows.items) c.first_table.result (sym c.if-is_err.ensures.value) c.first_table.ensures in
    let fit : All (FirstFits g.row.K) c.first_table.new.rows.items = subst (λ k. All (FirstFits k) c.first_table.new.rows.items) c.of.ensures table.fit in (
      omega arith,
      (
        omega arith,
        (
          c.requires.size,
          (
            c.requires.files,
            (
              few_rows g.row.K (length c.first_table.new.rows.items) c.requires.size.1 (table.count ∙ ap (λ k. 2 ^ k) c.of.ensures),
              (values_fit g.row.K c.first_table.new.rows.items fit, fit),
            ),
          ),
        ),
      ),
    )

pub returns-in-Ok : goal.returns-in-Ok
returns-in-Ok g c =
    let id = c.args.id.now.0 in
    let k = g.row.K in
    let s = c.args.scratch.now in
    let u = c.store.new.scratch in
    let a = g.D.Disk.view c.args.disk.now in
    let b = g.D.Disk.view c.store.new.disk in
    let xs = c.first_table.new.rows.items in
    let values = c.in-Ok.made.0 in
    let rows = c.in-Ok.made.1 in
    let stored = c.in-Ok.ensures in
    let table : AreFirstRows id c.of.result xs = went_well (AreFirstRows id c.of.result xs) c.first_table.result (sym c.if-is_err.ensures.value) c.first_table.ensures in
    let first = first_made id k s u values rows xs xs a b (subst (λ n. AreFirstRows id n xs) c.of.ensures table) refl stored.stored in
    let worked = stored_worked _ _ _ _ c.in-Ok.made s u values rows _ _ a b c.store.ensures.work stored.done stored.answer stored.stored in
    record {
      fault = tt;
      made = λ cap. first_tables id k cap s u values rows a b c.requires.stands worked first;
      fresh = (some_rows id k s u values rows a b first, first.rows_page);
    }

pub returns : goal.returns
returns g c = record {
  fault = λ cap. first_refused c.in-Err.fault c.args.id.now.0 g.row.K cap c.args.scratch.now c.store.new.scratch (g.D.Disk.view c.args.disk.now) (g.D.Disk.view c.store.new.disk) c.store.ensures.work c.store.ensures.most c.in-Err.ensures.answer;
  made = tt;
  fresh = tt;
}
