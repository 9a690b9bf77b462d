use Rattle.std.proofs.Common.{◌≡◌, ℕ, ◌+◌, ◌*◌, ◌^◌, ◌≤◌, ◌∷◌, [], refl, sym, subst, arith}
use Rattle.std.proofs.lemmas.Result.{err_from_is_err_and}
use Rattle.pos_edge.proofs.FaultLemmas.{Rose-until}
use Rattle.pos_record.specs.Kinds.{row_read, middle_width, number_read, number_width}
use Rattle.pos_forward.specs.Stored.{draft_number}
use Rattle.pos_forward.specs.TablesSoFar.{AreDraftedAs, AreEntriesOf, HasMoreTables, IsMoreFault, row_entry}
use Rattle.pos_forward.proofs.SoFarLemmas.{eights_then}
use Rattle.pos_forward.proofs.SevenLemmas.{tables_further, tables_refused, tables_wider}
use Rattle.pos_forward.proofs.seven.all_lists.Goals as goal

room_of : (made after : ℕ) → made ≤ 9960 → after ≡ made + 2 * 3 → after + 8 ≤ 10000
room_of made after space first = omega arith

pub returns-in_err-values : goal.returns-in_err-values
returns-in_err-values g c =
    let p = err_from_is_err_and c.from_residual.result c.from_residual.ensures.1 in
    let e = c.in_err-values.field-0.0 in
    rw (p.1, p.2) (record {
      fault = tables_wider e c.args.id.now.0 g.row.K c.args.room.now.capacity 6 14 c.args.scratch.now c.lower.new.scratch (g.D.Disk.view c.args.disk.now) (g.D.Disk.view c.lower.new.disk) (omega arith) c.in_err-values.ensures.fault;
      made = tt;
      lanes = tt;
      reads = tt;
    })

pub upper-requires : goal.upper-requires
upper-requires g c =
    let r = c.requires in
    let first = c.in_ok-values.ensures in
    let begun = first.made in
    (omega arith, (omega arith, (omega arith, (r.size, (begun.last, ((begun.tables.xs, begun.tables.kept), (begun.few, (subst (λ z. z ≤ 2 ^ (g.row.K + 1)) (sym first.room.capacity) r.capacity, (first.room.matcher, room_of c.args.scratch.now.made c.lower.new.scratch.made r.space begun.worked.made)))))))))

pub returns-in_err-p4 : goal.returns-in_err-p4
returns-in_err-p4 g c =
    let r = c.requires in
    let id = c.args.id.now.0 in
    let k = g.row.K in
    let cap = c.args.room.now.capacity in
    let s = c.args.scratch.now in
    let u = c.lower.new.scratch in
    let v = c.upper.new.scratch in
    let a = g.D.Disk.view c.args.disk.now in
    let b = g.D.Disk.view c.lower.new.disk in
    let d = g.D.Disk.view c.upper.new.disk in
    let rows = c.in_ok-values.rows in
    let first = c.in_ok-values.ensures in
    let begun = first.made in
    let lists = c.in_ok-values.values ∷ c.in_ok-values.p2 ∷ c.in_ok-values.p3 ∷ [] in
    let e = c.in_err-p4.field-0.0 in
    let q = c.from_residual-in_err-p4.result in
    let p = err_from_is_err_and q c.from_residual-in_err-p4.ensures.1 in
    rw (p.1, p.2) (record {
      fault = tables_refused id k cap 2 (AreEntriesOf (row_entry k 3)) (row_read k 3) (middle_width k 3) s u v rows lists a b d r.space begun e 8 14 refl (omega arith)
          (subst (λ z. IsMoreFault k z 2 8 (AreEntriesOf (row_entry k 3)) (row_read k 3) (middle_width k 3) rows u v b d e) first.room.capacity c.in_err-p4.ensures.fault);
      made = tt;
      lanes = tt;
      reads = tt;
    })

pub returns : goal.returns
returns g c =
    let r = c.requires in
    let id = c.args.id.now.0 in
    let k = g.row.K in
    let cap = c.args.room.now.capacity in
    let s = c.args.scratch.now in
    let u = c.lower.new.scratch in
    let v = c.upper.new.scratch in
    let a = g.D.Disk.view c.args.disk.now in
    let b = g.D.Disk.view c.lower.new.disk in
    let d = g.D.Disk.view c.upper.new.disk in
    let rows = c.in_ok-values.rows in
    let first = c.in_ok-values.ensures in
    let begun = first.made in
    let lists = c.in_ok-values.values ∷ c.in_ok-values.p2 ∷ c.in_ok-values.p3 ∷ [] in
    let second = c.in_ok-p4.ensures in
    let others = c.in_ok-p4.p4 ∷ c.in_ok-p4.p5 ∷ c.in_ok-p4.p6 ∷ c.in_ok-p4.p7 ∷ [] in
    let more = subst (λ z. HasMoreTables k z 2 6 (AreEntriesOf (row_entry k 3)) (row_read k 3) (middle_width k 3) (AreDraftedAs k 7 draft_number) (number_read k) (number_width k) u v rows others c.in_ok-p4.last b d) first.room.capacity second.made in
    record {
      fault = tt;
      made = tables_further id k cap 2 (AreEntriesOf (row_entry k 3)) (row_read k 3) (middle_width k 3) s u v rows lists a b d r.space begun 6 (AreDraftedAs k 7 draft_number) (number_read k) (number_width k) c.in_ok-p4.last others r.capacity (omega arith) more;
      lanes = eights_then c.args.lanes.now c.lower.new.lanes c.upper.new.lanes (c.in_ok-values.p2 ∷ c.in_ok-values.p3 ∷ []) others first.lanes second.lanes;
      reads = Rose-until a.reads b.reads d.reads first.reads more.worked.work.kept.reads;
    }
