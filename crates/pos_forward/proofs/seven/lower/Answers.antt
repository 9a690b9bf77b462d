use Rattle.std.proofs.Common.{◌≡◌, ℕ, ◌+◌, ◌*◌, ◌≤◌, ◌∷◌, [], refl, arith}
use Rattle.std.proofs.lemmas.Result.{err_from_is_err_and}
use Rattle.pos_edge.proofs.FaultLemmas.{Rose-since}
use Rattle.pos_record.specs.Kinds.{first_read, first_width, row_read, middle_width}
use Rattle.pos_forward.specs.Drafts.{first_row_entry}
use Rattle.pos_forward.specs.Stored.{draft_row}
use Rattle.pos_forward.specs.TablesSoFar.{AreDraftedAs, AreEntriesOf, row_entry}
use Rattle.pos_forward.proofs.SoFarLemmas.{drafted_entries, more_retied}
use Rattle.pos_forward.proofs.SevenLemmas.{row_fits, tables_further, tables_refused, tables_wider}
use Rattle.pos_forward.proofs.seven.lower.Goals as goal

two_of : (made : ℕ) → made ≤ 9960 → made + 2 ≤ 10000
two_of made space = omega arith

room_of : (made after : ℕ) → made ≤ 9960 → after ≡ made + 2 * 1 → after + 4 ≤ 10000
room_of made after space two = omega arith

pub one_table-requires : goal.one_table-requires
one_table-requires g c = (omega arith, (omega arith, (c.requires.size, (two_of c.args.scratch.now.made c.requires.space, c.requires.stands))))

pub returns-in_err-values : goal.returns-in_err-values
returns-in_err-values g c =
    let p = err_from_is_err_and c.from_residual.result c.from_residual.ensures.1 in
    let cap = c.args.room.now.capacity in
    let e = c.in_err-values.field-0.0 in
    rw (p.1, p.2) (record {
      fault = tables_wider e c.args.id.now.0 g.row.K cap 2 6 c.args.scratch.now c.one_table.new.scratch (g.D.Disk.view c.args.disk.now) (g.D.Disk.view c.one_table.new.disk) (omega arith) (c.in_err-values.ensures.fault cap);
      made = tt;
      room = tt;
      lanes = tt;
      reads = tt;
    })

pub two_tables-requires : goal.two_tables-requires
two_tables-requires g c =
    let r = c.requires in
    let id = c.args.id.now.0 in
    let k = g.row.K in
    let cap = c.args.room.now.capacity in
    let s = c.args.scratch.now in
    let u = c.one_table.new.scratch in
    let a = g.D.Disk.view c.args.disk.now in
    let b = g.D.Disk.view c.one_table.new.disk in
    let rows = c.in_ok-values.rows in
    let first = c.in_ok-values.ensures in
    let begun = first.made cap in (
      omega arith,
      (
        omega arith,
        (
          omega arith,
          (
            r.size,
            (
              refl,
              (
                refl,
                (
                  omega arith,
                  (
                    omega arith,
                    (
                      begun.last,
                      (
                        (begun.tables.xs, begun.tables.kept),
                        (
                          begun.few,
                          (
                            r.capacity,
                            (
                              r.ready,
                              (
                                room_of s.made u.made r.space begun.worked.made,
                                ((λ draft fit. row_fits k 2 draft fit), ((λ draft. refl), (λ draft fit. row_fits k 3 draft fit))),
                              ),
                            ),
                          ),
                        ),
                      ),
                    ),
                  ),
                ),
              ),
            ),
          ),
        ),
      ),
    )

pub returns-in_err-p2 : goal.returns-in_err-p2
returns-in_err-p2 g c =
    let r = c.requires in
    let id = c.args.id.now.0 in
    let k = g.row.K in
    let cap = c.args.room.now.capacity in
    let s = c.args.scratch.now in
    let u = c.one_table.new.scratch in
    let v = c.two_tables.new.scratch in
    let a = g.D.Disk.view c.args.disk.now in
    let b = g.D.Disk.view c.one_table.new.disk in
    let d = g.D.Disk.view c.two_tables.new.disk in
    let rows = c.in_ok-values.rows in
    let first = c.in_ok-values.ensures in
    let begun = first.made cap in
    let e = c.in_err-p2.field-0.0 in
    let q = c.from_residual-in_err-p2.result in
    let p = err_from_is_err_and q c.from_residual-in_err-p2.ensures.1 in
    rw (p.1, p.2) (record {
      fault = tables_refused id k cap 0 (AreEntriesOf (first_row_entry k)) (first_read k) (first_width k) s u v rows (c.in_ok-values.values ∷ []) a b d r.space begun e 4 6 refl (omega arith) c.in_err-p2.ensures.fault;
      made = tt;
      room = tt;
      lanes = tt;
      reads = tt;
    })

pub returns : goal.returns
returns g c =
    let r = c.requires in
    let id = c.args.id.now.0 in
    let k = g.row.K in
    let cap = c.args.room.now.capacity in
    let s = c.args.scratch.now in
    let u = c.one_table.new.scratch in
    let v = c.two_tables.new.scratch in
    let a = g.D.Disk.view c.args.disk.now in
    let b = g.D.Disk.view c.one_table.new.disk in
    let d = g.D.Disk.view c.two_tables.new.disk in
    let rows = c.in_ok-values.rows in
    let first = c.in_ok-values.ensures in
    let begun = first.made cap in
    let second = c.in_ok-p2.ensures in
    let lists = c.in_ok-p2.p2 ∷ c.in_ok-p2.p3 ∷ [] in
    record {
      fault = tt;
      made = tables_further id k cap 0 (AreEntriesOf (first_row_entry k)) (first_read k) (first_width k) s u v rows (c.in_ok-values.values ∷ []) a b d r.space begun
          2 (AreEntriesOf (row_entry k 3)) (row_read k 3) (middle_width k 3) c.in_ok-p2.rows lists r.capacity (omega arith)
          (more_retied k cap 0 2 (AreEntriesOf (first_row_entry k)) (first_read k) (first_width k) (AreDraftedAs k 3 (draft_row 3)) (AreEntriesOf (row_entry k 3)) (row_read k 3) (middle_width k 3) u v rows lists c.in_ok-p2.rows b d
          (drafted_entries k 3 (draft_row 3) (row_entry k 3) (λ draft. refl)) second.made);
      room = second.room;
      lanes = second.lanes;
      reads = Rose-since a.reads b.reads d.reads begun.worked.work.kept.reads (second.reads first.fresh.0 first.fresh.1);
    }
