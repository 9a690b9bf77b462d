use Rattle.std.proofs.Common.{◌≤◌, ℕ, Bool, length, sym, ap, ◌∙◌, arith}
use Rattle.pos_edge.specs.View.{View}
use Rattle.pos_edge.specs.Frame.{ReadsOnly}
use Rattle.pos_marks.specs.declared.set.Marks.{Marks}
use Rattle.pos_marks.specs.Marks.{Marked}
use Rattle.pos_marks.proofs.MarkLemmas.{marked_reads}
use Rattle.pos_prune.proofs.KeptLemmas.{places_are}
use Rattle.pos_prune.proofs.PassLemmas.{reads_then}
use Rattle.pos_table_uses.proofs.tests.all_compared.Goals as goal

level_1 : 1 ≤ 6
level_1 = omega arith

level_2 : 2 ≤ 6
level_2 = omega arith

level_3 : 3 ≤ 6
level_3 = omega arith

level_4 : 4 ≤ 6
level_4 = omega arith

level_5 : 5 ≤ 6
level_5 = omega arith

still_marked : (m : Marks) (a b : View) → ReadsOnly a b → ((p : ℕ → Bool) × Marked m p a) → (p : ℕ → Bool) × Marked m p b
still_marked m a b only h = (h.0, marked_reads m h.0 a b only h.1)

pub compared-requires-clause-stands : goal.compared-requires-clause-stands
compared-requires-clause-stands g c =
    let marks = c.requires.stands.2.of_table_2.marks in
    (marks.0, marks.1)

pub compared-requires-clause-sealed : goal.compared-requires-clause-sealed
compared-requires-clause-sealed g c = c.requires.stands.2.of_table_2.sealed

pub compared-requires-clause-places : goal.compared-requires-clause-places
compared-requires-clause-places g c =
    let kept = c.requires.stands.2 in
    places_are g.row.K c.requires.stands.0 c.args.kept.tables c.args.kept.m2 1 c.requires.stands.1 (g.D.Disk.view c.args.disk.now) level_1 kept.of_table_2 kept.tables
    ∙ (sym c.requires.of_table_2 ∙ sym (ap length c.deref.ensures.value))

pub compared-requires-2-clause-stands : goal.compared-requires-2-clause-stands
compared-requires-2-clause-stands g c =
    let marks = c.requires.stands.2.of_table_3.marks in
    still_marked c.args.kept.m3 (g.D.Disk.view c.args.disk.now) (g.D.Disk.view c.compared.new.disk) c.in_ok-of_table_2.ensures (marks.0, marks.1)

pub compared-requires-2-clause-sealed : goal.compared-requires-2-clause-sealed
compared-requires-2-clause-sealed g c = c.requires.stands.2.of_table_3.sealed

pub compared-requires-2-clause-places : goal.compared-requires-2-clause-places
compared-requires-2-clause-places g c =
    let kept = c.requires.stands.2 in
    places_are g.row.K c.requires.stands.0 c.args.kept.tables c.args.kept.m3 2 c.requires.stands.1 (g.D.Disk.view c.args.disk.now) level_2 kept.of_table_3 kept.tables
    ∙ (sym c.requires.of_table_3 ∙ sym (ap length c.deref-2.ensures.value))

pub compared-requires-3-clause-stands : goal.compared-requires-3-clause-stands
compared-requires-3-clause-stands g c =
    let marks = c.requires.stands.2.of_table_4.marks in
    let r2 = reads_then (g.D.Disk.view c.args.disk.now) (g.D.Disk.view c.compared.new.disk) (g.D.Disk.view c.compared-2.new.disk) c.in_ok-of_table_2.ensures c.in_ok-of_table_3.ensures in
    still_marked c.args.kept.m4 (g.D.Disk.view c.args.disk.now) (g.D.Disk.view c.compared-2.new.disk) r2 (marks.0, marks.1)

pub compared-requires-3-clause-sealed : goal.compared-requires-3-clause-sealed
compared-requires-3-clause-sealed g c = c.requires.stands.2.of_table_4.sealed

pub compared-requires-3-clause-places : goal.compared-requires-3-clause-places
compared-requires-3-clause-places g c =
    let kept = c.requires.stands.2 in
    places_are g.row.K c.requires.stands.0 c.args.kept.tables c.args.kept.m4 3 c.requires.stands.1 (g.D.Disk.view c.args.disk.now) level_3 kept.of_table_4 kept.tables
    ∙ (sym c.requires.of_table_4 ∙ sym (ap length c.deref-3.ensures.value))

pub compared-requires-4-clause-stands : goal.compared-requires-4-clause-stands
compared-requires-4-clause-stands g c =
    let marks = c.requires.stands.2.of_table_5.marks in
    let r2 = reads_then (g.D.Disk.view c.args.disk.now) (g.D.Disk.view c.compared.new.disk) (g.D.Disk.view c.compared-2.new.disk) c.in_ok-of_table_2.ensures c.in_ok-of_table_3.ensures in
    let r3 = reads_then (g.D.Disk.view c.args.disk.now) (g.D.Disk.view c.compared-2.new.disk) (g.D.Disk.view c.compared-3.new.disk) r2 c.in_ok-of_table_4.ensures in
    still_marked c.args.kept.m5 (g.D.Disk.view c.args.disk.now) (g.D.Disk.view c.compared-3.new.disk) r3 (marks.0, marks.1)

pub compared-requires-4-clause-sealed : goal.compared-requires-4-clause-sealed
compared-requires-4-clause-sealed g c = c.requires.stands.2.of_table_5.sealed

pub compared-requires-4-clause-places : goal.compared-requires-4-clause-places
compared-requires-4-clause-places g c =
    let kept = c.requires.stands.2 in
    places_are g.row.K c.requires.stands.0 c.args.kept.tables c.args.kept.m5 4 c.requires.stands.1 (g.D.Disk.view c.args.disk.now) level_4 kept.of_table_5 kept.tables
    ∙ (sym c.requires.of_table_5 ∙ sym (ap length c.deref-4.ensures.value))

pub compared-requires-5-clause-stands : goal.compared-requires-5-clause-stands
compared-requires-5-clause-stands g c =
    let marks = c.requires.stands.2.of_table_6.marks in
    let r2 = reads_then (g.D.Disk.view c.args.disk.now) (g.D.Disk.view c.compared.new.disk) (g.D.Disk.view c.compared-2.new.disk) c.in_ok-of_table_2.ensures c.in_ok-of_table_3.ensures in
    let r3 = reads_then (g.D.Disk.view c.args.disk.now) (g.D.Disk.view c.compared-2.new.disk) (g.D.Disk.view c.compared-3.new.disk) r2 c.in_ok-of_table_4.ensures in
    let r4 = reads_then (g.D.Disk.view c.args.disk.now) (g.D.Disk.view c.compared-3.new.disk) (g.D.Disk.view c.compared-4.new.disk) r3 c.in_ok-of_table_5.ensures in
    still_marked c.args.kept.m6 (g.D.Disk.view c.args.disk.now) (g.D.Disk.view c.compared-4.new.disk) r4 (marks.0, marks.1)

pub compared-requires-5-clause-sealed : goal.compared-requires-5-clause-sealed
compared-requires-5-clause-sealed g c = c.requires.stands.2.of_table_6.sealed

pub compared-requires-5-clause-places : goal.compared-requires-5-clause-places
compared-requires-5-clause-places g c =
    let kept = c.requires.stands.2 in
    places_are g.row.K c.requires.stands.0 c.args.kept.tables c.args.kept.m6 5 c.requires.stands.1 (g.D.Disk.view c.args.disk.now) level_5 kept.of_table_6 kept.tables
    ∙ (sym c.requires.of_table_6 ∙ sym (ap length c.deref-5.ensures.value))
