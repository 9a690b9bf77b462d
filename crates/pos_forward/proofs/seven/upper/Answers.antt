use Rattle.std.proofs.Common.{◌≡◌, ℕ, ◌+◌, ◌*◌, ◌^◌, ◌≤◌, ◌∷◌, [], refl, sym, subst, arith}
use Rattle.std.proofs.lemmas.Result.{err_from_is_err_and}
use Rattle.pos_record.specs.Kinds.{row_read, middle_width, number_read, number_width}
use Rattle.pos_forward.specs.Stored.{draft_number, draft_row}
use Rattle.pos_forward.specs.TablesSoFar.{AreDraftedAs, AreEntriesOf, HasMoreTables, IsMoreFault, row_entry}
use Rattle.pos_forward.proofs.SoFarLemmas.{drafted_entries, eights_then, more_refused, more_retied, more_then, more_wider}
use Rattle.pos_forward.proofs.SevenLemmas.{number_fits, row_fits}
use Rattle.pos_forward.proofs.seven.upper.Goals as goal

four_of : (made : ℕ) → made + 8 ≤ 10000 → made + 4 ≤ 10000
four_of made room = omega arith

four_is : (many : ℕ) → many + 2 * 2 ≡ 2 * 4 → many ≡ 4
four_is many so_many = omega arith

four_more : (made many after : ℕ) → made + 8 ≤ 10000 → many + 2 * 2 ≡ 2 * 4 → after ≡ made + many → after + 4 ≤ 10000
four_more made many after room so_many is = omega arith

room_of : (made : ℕ) → made + 8 ≤ 10000 → made + 2 * 6 ≤ 10000 + 2 * 2
room_of made room = omega arith

within_of : (x c most : ℕ) → x ≤ c → c ≤ most → x ≤ most
within_of x c most p q = omega arith

pub two_tables-requires : goal.two_tables-requires
two_tables-requires g c =
    let r = c.requires in
    let k = g.row.K in (
      omega arith,
      (
        omega arith,
        (
          omega arith,
          (
            r.size,
            (
              refl,
              (
                refl,
                (
                  omega arith,
                  (
                    omega arith,
                    (
                      r.rows,
                      (
                        r.kept,
                        (
                          r.few,
                          (
                            r.capacity,
                            (
                              r.ready,
                              (
                                four_of c.args.scratch.now.made r.files,
                                ((λ draft fit. row_fits k 4 draft fit), ((λ draft. refl), (λ draft fit. row_fits k 5 draft fit))),
                              ),
                            ),
                          ),
                        ),
                      ),
                    ),
                  ),
                ),
              ),
            ),
          ),
        ),
      ),
    )

pub returns-in_err-p4 : goal.returns-in_err-p4
returns-in_err-p4 g c =
    let p = err_from_is_err_and c.from_residual.result c.from_residual.ensures.1 in
    let k = g.row.K in
    let e = c.in_err-p4.field-0.0 in
    rw (p.1, p.2) (record {
      fault = more_wider e k c.args.room.now.capacity 2 4 8 (AreEntriesOf (row_entry k 3)) (row_read k 3) (middle_width k 3) c.args.rows c.args.scratch.now c.two_tables.new.scratch
          (g.D.Disk.view c.args.disk.now) (g.D.Disk.view c.two_tables.new.disk) (omega arith) c.in_err-p4.ensures.fault;
      made = tt;
      lanes = tt;
    })

pub two_tables-requires-2 : goal.two_tables-requires-2
two_tables-requires-2 g c =
    let r = c.requires in
    let k = g.row.K in
    let cap = c.args.room.now.capacity in
    let s = c.args.scratch.now in
    let u = c.two_tables.new.scratch in
    let a = g.D.Disk.view c.args.disk.now in
    let b = g.D.Disk.view c.two_tables.new.disk in
    let rows = c.args.rows in
    let first = c.in_ok-p4.ensures in
    let one = more_retied k cap 2 4 (AreEntriesOf (row_entry k 3)) (row_read k 3) (middle_width k 3) (AreDraftedAs k 5 (draft_row 5)) (AreEntriesOf (row_entry k 5)) (row_read k 5) (middle_width k 5) s u rows
    (c.in_ok-p4.p4 ∷ c.in_ok-p4.p5 ∷ []) c.in_ok-p4.rows a b (drafted_entries k 5 (draft_row 5) (row_entry k 5) (λ draft. refl)) first.made in (
      omega arith,
      (
        omega arith,
        (
          omega arith,
          (
            r.size,
            (
              refl,
              (
                refl,
                (
                  omega arith,
                  (
                    omega arith,
                    (
                      one.last,
                      (
                        one.holds,
                        (
                          within_of c.in_ok-p4.rows.count cap (2 ^ (k + 1)) one.few r.capacity,
                          (
                            subst (λ z. z ≤ 2 ^ (k + 1)) (sym first.room.capacity) r.capacity,
                            (
                              first.room.matcher,
                              (
                                four_more s.made one.many u.made r.files one.so_many one.worked.made,
                                ((λ draft fit. row_fits k 6 draft fit), ((λ draft. refl), (λ draft fit. number_fits k draft r.size fit))),
                              ),
                            ),
                          ),
                        ),
                      ),
                    ),
                  ),
                ),
              ),
            ),
          ),
        ),
      ),
    )

pub returns-in_err-p6 : goal.returns-in_err-p6
returns-in_err-p6 g c =
    let r = c.requires in
    let k = g.row.K in
    let cap = c.args.room.now.capacity in
    let s = c.args.scratch.now in
    let u = c.two_tables.new.scratch in
    let v = c.two_tables-2.new.scratch in
    let a = g.D.Disk.view c.args.disk.now in
    let b = g.D.Disk.view c.two_tables.new.disk in
    let d = g.D.Disk.view c.two_tables-2.new.disk in
    let rows = c.args.rows in
    let first = c.in_ok-p4.ensures in
    let one = more_retied k cap 2 4 (AreEntriesOf (row_entry k 3)) (row_read k 3) (middle_width k 3) (AreDraftedAs k 5 (draft_row 5)) (AreEntriesOf (row_entry k 5)) (row_read k 5) (middle_width k 5) s u rows
    (c.in_ok-p4.p4 ∷ c.in_ok-p4.p5 ∷ []) c.in_ok-p4.rows a b (drafted_entries k 5 (draft_row 5) (row_entry k 5) (λ draft. refl)) first.made in
    let second = c.in_err-p6.ensures in
    let e = c.in_err-p6.field-0.0 in
    let q = c.from_residual-in_err-p6.result in
    let p = err_from_is_err_and q c.from_residual-in_err-p6.ensures.1 in
    rw (p.1, p.2) (record {
      fault = more_refused k cap 2 4 (AreEntriesOf (row_entry k 3)) (row_read k 3) (middle_width k 3) (AreEntriesOf (row_entry k 5)) (row_read k 5) (middle_width k 5) s u v rows c.in_ok-p4.rows
          (c.in_ok-p4.p4 ∷ c.in_ok-p4.p5 ∷ []) a b d r.rows one e 4 4 8 (four_is one.many one.so_many) refl (omega arith) r.files
          (subst (λ z. IsMoreFault k z 4 4 (AreEntriesOf (row_entry k 5)) (row_read k 5) (middle_width k 5) c.in_ok-p4.rows u v b d e) first.room.capacity second.fault);
      made = tt;
      lanes = tt;
    })

pub returns : goal.returns
returns g c =
    let r = c.requires in
    let k = g.row.K in
    let cap = c.args.room.now.capacity in
    let s = c.args.scratch.now in
    let u = c.two_tables.new.scratch in
    let v = c.two_tables-2.new.scratch in
    let a = g.D.Disk.view c.args.disk.now in
    let b = g.D.Disk.view c.two_tables.new.disk in
    let d = g.D.Disk.view c.two_tables-2.new.disk in
    let rows = c.args.rows in
    let first = c.in_ok-p4.ensures in
    let one = more_retied k cap 2 4 (AreEntriesOf (row_entry k 3)) (row_read k 3) (middle_width k 3) (AreDraftedAs k 5 (draft_row 5)) (AreEntriesOf (row_entry k 5)) (row_read k 5) (middle_width k 5) s u rows
    (c.in_ok-p4.p4 ∷ c.in_ok-p4.p5 ∷ []) c.in_ok-p4.rows a b (drafted_entries k 5 (draft_row 5) (row_entry k 5) (λ draft. refl)) first.made in
    let second = c.in_ok-p6.ensures in
    let lists = c.in_ok-p6.p6 ∷ c.in_ok-p6.p7 ∷ [] in
    record {
      fault = tt;
      made = more_then k cap 2 4 (AreEntriesOf (row_entry k 3)) (row_read k 3) (middle_width k 3) (AreEntriesOf (row_entry k 5)) (row_read k 5) (middle_width k 5) s u v rows c.in_ok-p4.rows
          (c.in_ok-p4.p4 ∷ c.in_ok-p4.p5 ∷ []) a b d r.rows one 6 (AreDraftedAs k 7 draft_number) (number_read k) (number_width k) c.in_ok-p6.last lists (omega arith) (room_of s.made r.files)
          (subst (λ z. HasMoreTables k z 4 6 (AreEntriesOf (row_entry k 5)) (row_read k 5) (middle_width k 5) (AreDraftedAs k 7 draft_number) (number_read k) (number_width k) u v c.in_ok-p4.rows lists c.in_ok-p6.last b d)
          first.room.capacity second.made);
      lanes = eights_then c.args.lanes.now c.two_tables.new.lanes c.two_tables-2.new.lanes (c.in_ok-p4.p4 ∷ c.in_ok-p4.p5 ∷ []) lists first.lanes second.lanes;
    }
