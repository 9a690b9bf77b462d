use Rattle.std.proofs.Common.{◌≡◌, ℕ, ◌+◌, ◌*◌, ◌-◌, ◌^◌, ◌≤◌, ◌∷◌, [], refl, sym, ap, ◌∙◌, subst, arith}
use Rattle.std.proofs.lemmas.Result.{err_from_is_err_and}
use Rattle.pos_edge.proofs.FaultLemmas.{Rose-until}
use Rattle.pos_forward.specs.TablesSoFar.{AreDraftedAs, AreEntriesOf, HasMoreTables, IsMoreFault}
use Rattle.pos_forward.proofs.SoFarLemmas.{drafted_entries, eights_then, more_refused, more_retied, more_then, more_wider}
use Rattle.pos_forward.proofs.further.two_tables.Goals as goal

one_of : (t table : ℕ) → t ≡ table + 1 → 2 ≤ t → 1 ≤ table
one_of t table is low = omega arith

six_of : (t table : ℕ) → t ≡ table + 1 → t ≤ 6 → table ≤ 6
six_of t table is high = omega arith

one_same : (t table : ℕ) → table ≡ t → 2 ≤ t → 1 ≤ table
one_same t table is low = omega arith

six_same : (t table : ℕ) → table ≡ t → t ≤ 6 → table ≤ 6
six_same t table is high = omega arith

four_of : (made : ℕ) → made + 4 ≤ 10000 → made + 2 ≤ 10000
four_of made room = omega arith

two_is : (many t : ℕ) → 2 ≤ t → many + 2 * (t - 2) ≡ 2 * (t - 1) → many ≡ 2
two_is many t low so_many = omega arith

two_more : (made many after t : ℕ) → 2 ≤ t → made + 4 ≤ 10000 → many + 2 * (t - 2) ≡ 2 * (t - 1) → after ≡ made + many → after + 2 ≤ 10000
two_more made many after t low room so_many is = omega arith

room_of : (made t : ℕ) → 2 ≤ t → made + 4 ≤ 10000 → made + 2 * t ≤ 10000 + 2 * (t - 2)
room_of made t low room = omega arith

within_of : (x c most : ℕ) → x ≤ c → c ≤ most → x ≤ most
within_of x c most p q = omega arith

level_of : (t : ℕ) → t + 1 - 2 ≡ t - 1
level_of t = omega arith

next_of : (t : ℕ) → t + 1 - 1 ≡ t
next_of t = omega arith

pub next_table-requires : goal.next_table-requires
next_table-requires g c =
    let r = c.requires in
    (omega arith, (omega arith, (omega arith, (r.size, (r.below, (one_of c.args.t g.R.Stored.table r.below r.first_table, (six_of c.args.t g.R.Stored.table r.below r.sixth_table, (r.rows, (r.kept, (r.few, (r.capacity, (r.ready, (four_of c.args.scratch.now.made r.files, r.middle_fits)))))))))))))

pub returns-in_err-first : goal.returns-in_err-first
returns-in_err-first g c =
    let p = err_from_is_err_and c.from_residual.result c.from_residual.ensures.1 in
    let e = c.in_err-first.field-0.0 in
    rw (p.1, p.2) (record {
      fault = more_wider e g.row.K c.args.room.now.capacity (c.args.t - 2) 2 4 (AreEntriesOf g.R.Stored.entry) g.R.Record.read g.R.Record.bit_count c.args.rows c.args.scratch.now c.next_table.new.scratch
          (g.D.Disk.view c.args.disk.now) (g.D.Disk.view c.next_table.new.disk) (omega arith) c.in_err-first.ensures.fault;
      made = tt;
      room = tt;
      lanes = tt;
      reads = tt;
    })

pub next_table-requires-2 : goal.next_table-requires-2
next_table-requires-2 g c =
    let r = c.requires in
    let k = g.row.K in
    let t = c.args.t in
    let cap = c.args.room.now.capacity in
    let s = c.args.scratch.now in
    let u = c.next_table.new.scratch in
    let a = g.D.Disk.view c.args.disk.now in
    let b = g.D.Disk.view c.next_table.new.disk in
    let first = c.in_ok-first.ensures in
    let one = more_retied k cap (t - 2) (t - 1) (AreEntriesOf g.R.Stored.entry) g.R.Record.read g.R.Record.bit_count (AreDraftedAs k t g.M.MadeOf.made_of) (AreEntriesOf g.M.Stored.entry) g.M.Record.read g.M.Record.bit_count s u c.args.rows
    (c.in_ok-first.first ∷ []) c.in_ok-first.middle a b (drafted_entries k t g.M.MadeOf.made_of g.M.Stored.entry r.middle_entry) first.made in (
      omega arith,
      (
        omega arith,
        (
          omega arith,
          (
            r.size,
            (
              ap (λ z. z + 1) (sym r.middle),
              (
                one_same t g.M.Stored.table r.middle r.first_table,
                (
                  six_same t g.M.Stored.table r.middle r.sixth_table,
                  (
                    one.last,
                    (
                      one.holds,
                      (within_of c.in_ok-first.middle.count cap (2 ^ (k + 1)) one.few r.capacity, (subst (λ z. z ≤ 2 ^ (k + 1)) (sym first.room.capacity) r.capacity, (first.room.matcher, (two_more s.made one.many u.made t r.first_table r.files one.so_many one.worked.made, r.fits)))),
                    ),
                  ),
                ),
              ),
            ),
          ),
        ),
      ),
    )

pub returns-in_err-second : goal.returns-in_err-second
returns-in_err-second g c =
    let r = c.requires in
    let k = g.row.K in
    let t = c.args.t in
    let cap = c.args.room.now.capacity in
    let s = c.args.scratch.now in
    let u = c.next_table.new.scratch in
    let v = c.next_table-2.new.scratch in
    let a = g.D.Disk.view c.args.disk.now in
    let b = g.D.Disk.view c.next_table.new.disk in
    let d = g.D.Disk.view c.next_table-2.new.disk in
    let first = c.in_ok-first.ensures in
    let one = more_retied k cap (t - 2) (t - 1) (AreEntriesOf g.R.Stored.entry) g.R.Record.read g.R.Record.bit_count (AreDraftedAs k t g.M.MadeOf.made_of) (AreEntriesOf g.M.Stored.entry) g.M.Record.read g.M.Record.bit_count s u c.args.rows
    (c.in_ok-first.first ∷ []) c.in_ok-first.middle a b (drafted_entries k t g.M.MadeOf.made_of g.M.Stored.entry r.middle_entry) first.made in
    let second = c.in_err-second.ensures in
    let e = c.in_err-second.field-0.0 in
    let q = c.from_residual-in_err-second.result in
    let p = err_from_is_err_and q c.from_residual-in_err-second.ensures.1 in
    rw (p.1, p.2) (record {
      fault = more_refused k cap (t - 2) (t - 1) (AreEntriesOf g.R.Stored.entry) g.R.Record.read g.R.Record.bit_count (AreEntriesOf g.M.Stored.entry) g.M.Record.read g.M.Record.bit_count s u v c.args.rows c.in_ok-first.middle
          (c.in_ok-first.first ∷ []) a b d r.rows one e 2 2 4 (two_is one.many t r.first_table one.so_many) refl (omega arith) r.files
          (subst (λ n. IsMoreFault k cap n 2 (AreEntriesOf g.M.Stored.entry) g.M.Record.read g.M.Record.bit_count c.in_ok-first.middle u v b d e) (level_of t)
          (subst (λ z. IsMoreFault k z (t + 1 - 2) 2 (AreEntriesOf g.M.Stored.entry) g.M.Record.read g.M.Record.bit_count c.in_ok-first.middle u v b d e) first.room.capacity second.fault));
      made = tt;
      room = tt;
      lanes = tt;
      reads = tt;
    })

pub returns : goal.returns
returns g c =
    let r = c.requires in
    let k = g.row.K in
    let t = c.args.t in
    let cap = c.args.room.now.capacity in
    let s = c.args.scratch.now in
    let u = c.next_table.new.scratch in
    let v = c.next_table-2.new.scratch in
    let a = g.D.Disk.view c.args.disk.now in
    let b = g.D.Disk.view c.next_table.new.disk in
    let d = g.D.Disk.view c.next_table-2.new.disk in
    let first = c.in_ok-first.ensures in
    let one = more_retied k cap (t - 2) (t - 1) (AreEntriesOf g.R.Stored.entry) g.R.Record.read g.R.Record.bit_count (AreDraftedAs k t g.M.MadeOf.made_of) (AreEntriesOf g.M.Stored.entry) g.M.Record.read g.M.Record.bit_count s u c.args.rows
    (c.in_ok-first.first ∷ []) c.in_ok-first.middle a b (drafted_entries k t g.M.MadeOf.made_of g.M.Stored.entry r.middle_entry) first.made in
    let second = c.in_ok-second.ensures in
    let last = c.in_ok-second.last in
    let lists = c.in_ok-second.second ∷ [] in
    record {
      fault = tt;
      made = more_then k cap (t - 2) (t - 1) (AreEntriesOf g.R.Stored.entry) g.R.Record.read g.R.Record.bit_count (AreEntriesOf g.M.Stored.entry) g.M.Record.read g.M.Record.bit_count s u v c.args.rows c.in_ok-first.middle
          (c.in_ok-first.first ∷ []) a b d r.rows one t (AreDraftedAs k (t + 1) g.S.MadeOf.made_of) g.S.Record.read g.S.Record.bit_count last lists r.sixth_table (room_of s.made t r.first_table r.files)
          (subst (λ n. HasMoreTables k cap n t (AreEntriesOf g.M.Stored.entry) g.M.Record.read g.M.Record.bit_count (AreDraftedAs k (t + 1) g.S.MadeOf.made_of) g.S.Record.read g.S.Record.bit_count u v c.in_ok-first.middle lists last b d) (level_of t)
          (subst (λ m. HasMoreTables k cap (t + 1 - 2) m (AreEntriesOf g.M.Stored.entry) g.M.Record.read g.M.Record.bit_count (AreDraftedAs k (t + 1) g.S.MadeOf.made_of) g.S.Record.read g.S.Record.bit_count u v c.in_ok-first.middle lists last b d) (next_of t)
          (subst (λ z. HasMoreTables k z (t + 1 - 2) (t + 1 - 1) (AreEntriesOf g.M.Stored.entry) g.M.Record.read g.M.Record.bit_count (AreDraftedAs k (t + 1) g.S.MadeOf.made_of) g.S.Record.read g.S.Record.bit_count u v c.in_ok-first.middle lists last b d)
          first.room.capacity second.made)));
      room = record { matcher = second.room.matcher; capacity = second.room.capacity ∙ first.room.capacity };
      lanes = eights_then c.args.lanes.now c.next_table.new.lanes c.next_table-2.new.lanes (c.in_ok-first.first ∷ []) lists first.lanes second.lanes;
      reads = λ some page. Rose-until a.reads b.reads d.reads (first.reads some page) second.made.worked.work.kept.reads;
    }
