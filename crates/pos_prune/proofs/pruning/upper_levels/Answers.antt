use Rattle.std.proofs.Common.{◌≡◌, ◌+◌, ◌<◌, ◌≤◌, ℕ, true, sym, ◌∙◌, arith}
use Rattle.pos_lists.specs.TableLists.{PairsInside}
use Rattle.pos_marks.specs.Marks.{marks_file}
use Rattle.pos_runs.specs.Runs.{pages_at}
use Rattle.pos_prune.specs.Marking.{AreLevelsMade}
use Rattle.pos_prune.specs.Passes.{gives_below, is_marked}
use Rattle.pos_prune.proofs.KeptLemmas.{marks_asked, marks_new, marks_of_top, marks_past, places_are}
use Rattle.pos_prune.proofs.SeveralLemmas.{answer_well, exit_behind, left_then, so_far_more, so_far_none}
use Rattle.pos_prune.proofs.pruning.upper_levels.Given.{Over}
use Rattle.pos_prune.proofs.pruning.upper_levels.Goals as goal
use Rattle.pos_prune.proofs.pruning.upper_levels.Goals.{In_ok-m4, In_ok-m5, In_ok-m6}

-- numbers, found where nothing else is known
size : 640 < 9223372036854775808
size = omega arith

below_most : (c : ℕ) → c < 5 → c < 20
below_most c few = omega arith

level_of : (n : ℕ) → n < 6 → n ≤ 6
level_of n few = omega arith

level_3 : 3 < 6
level_3 = omega arith

level_4 : 4 < 6
level_4 = omega arith

level_5 : 5 < 6
level_5 = omega arith

room_first : (made : ℕ) → made ≤ 9960 → made < 10000
room_first made room = omega arith

room_left : (made now c : ℕ) → made ≤ 9970 → now ≡ made + c → c < 5 → now < 10000
room_left made now c room is few = omega arith

numbers_fit : (now : ℕ) → now < 10000 → now ≤ 10001
numbers_fit now few = omega arith

room_upper : (made : ℕ) → made ≤ 9960 → made ≤ 9970
room_upper made room = omega arith

-- the marks of one, two and three levels were made
one : (g : Over) (c : In_ok-m6 g)
    → AreLevelsMade g.row.K 1 c.args.tables.now c.marks_of_six.new.tables c.args.scratch.now c.marks_of_six.new.scratch (g.D.Disk.view c.args.disk.now) (g.D.Disk.view c.marks_of_six.new.disk)
one g c =
    let t = c.args.tables.now in
    let s = c.args.scratch.now in
    let v = g.D.Disk.view c.args.disk.now in
    so_far_more g.row.K 0 5 (gives_below (pages_at t 6).count) t t c.marks_of_six.new.tables c.in_ok-m6.m6 s s c.marks_of_six.new.scratch v v (g.D.Disk.view c.marks_of_six.new.disk)
    (below_most 0 (omega arith)) (room_upper s.made c.requires.room) (so_far_none g.row.K t s v c.requires.files c.requires.left) c.in_ok-m6.ensures.made

two : (g : Over) (c : In_ok-m5 g)
    → AreLevelsMade g.row.K 1 c.args.tables.now c.marks_of_six.new.tables c.args.scratch.now c.marks_of_six.new.scratch (g.D.Disk.view c.args.disk.now) (g.D.Disk.view c.marks_of_six.new.disk)
    → AreLevelsMade g.row.K 2 c.args.tables.now c.marks_below.new.tables c.args.scratch.now c.marks_below.new.scratch (g.D.Disk.view c.args.disk.now) (g.D.Disk.view c.marks_below.new.disk)
two g c p =
    let v = g.D.Disk.view c.marks_of_six.new.disk in
    so_far_more g.row.K 1 4 (is_marked c.in_ok-m6.m6 v) c.args.tables.now c.marks_of_six.new.tables c.marks_below.new.tables c.in_ok-m5.m5 c.args.scratch.now c.marks_of_six.new.scratch c.marks_below.new.scratch
    (g.D.Disk.view c.args.disk.now) v (g.D.Disk.view c.marks_below.new.disk) (below_most 1 (omega arith)) (room_upper c.args.scratch.now.made c.requires.room) p c.in_ok-m5.ensures.made

three : (g : Over) (c : In_ok-m4 g)
    → AreLevelsMade g.row.K 2 c.args.tables.now c.marks_below.new.tables c.args.scratch.now c.marks_below.new.scratch (g.D.Disk.view c.args.disk.now) (g.D.Disk.view c.marks_below.new.disk)
    → AreLevelsMade g.row.K 3 c.args.tables.now c.marks_below-2.new.tables c.args.scratch.now c.marks_below-2.new.scratch (g.D.Disk.view c.args.disk.now) (g.D.Disk.view c.marks_below-2.new.disk)
three g c p =
    let v = g.D.Disk.view c.marks_below.new.disk in
    so_far_more g.row.K 2 3 (is_marked c.in_ok-m5.m5 v) c.args.tables.now c.marks_below.new.tables c.marks_below-2.new.tables c.in_ok-m4.m4 c.args.scratch.now c.marks_below.new.scratch c.marks_below-2.new.scratch
    (g.D.Disk.view c.args.disk.now) v (g.D.Disk.view c.marks_below-2.new.disk) (below_most 2 (omega arith)) (room_upper c.args.scratch.now.made c.requires.room) p c.in_ok-m4.ensures.made

pub marks_of_six-requires : goal.marks_of_six-requires
marks_of_six-requires g c =
    (size, (c.requires.size, (room_first c.args.scratch.now.made c.requires.room, (c.requires.files, (c.requires.left, (c.requires.stands.0, c.requires.stands.1))))))

pub marks_below-requires : goal.marks_below-requires
marks_below-requires g c =
    let t1 = c.marks_of_six.new.tables in
    let s1 = c.marks_of_six.new.scratch in
    let v1 = g.D.Disk.view c.marks_of_six.new.disk in
    let p1 = one g (goal.at.marks_below-requires g c).In_ok-m6 in
    let ts = c.requires.stands.0 in
    let h = c.requires.stands.1 in
    let k = marks_of_top g.row.K c.args.tables.now t1 c.in_ok-m6.m6 c.args.scratch.now s1 ts (g.D.Disk.view c.args.disk.now) v1 c.in_ok-m6.ensures.made h c.requires.stands.2 in
    let few = room_left c.args.scratch.now.made s1.made 1 (room_upper c.args.scratch.now.made c.requires.room) p1.worked.made (omega arith) in
    (size, (c.requires.size, (level_4, (few, (p1.files, (p1.left, ((ts, p1.stands ts h), ((k.marks.0, k.marks.1), (k.left, (k.sealed, places_are g.row.K s1 t1 c.in_ok-m6.m6 5 ts v1 (level_of 5 level_5) k (p1.stands ts h)))))))))))

pub marks_below-requires-2 : goal.marks_below-requires-2
marks_below-requires-2 g c =
    let t1 = c.marks_of_six.new.tables in
    let s1 = c.marks_of_six.new.scratch in
    let v1 = g.D.Disk.view c.marks_of_six.new.disk in
    let t2 = c.marks_below.new.tables in
    let s2 = c.marks_below.new.scratch in
    let v2 = g.D.Disk.view c.marks_below.new.disk in
    let at = goal.at.marks_below-requires-2 g c in
    let p1 = one g at.In_ok-m6 in
    let p2 = two g at.In_ok-m5 p1 in
    let ts = c.requires.stands.0 in
    let h = c.requires.stands.1 in
    let inside = c.requires.stands.2 in
    let k1 = marks_of_top g.row.K c.args.tables.now t1 c.in_ok-m6.m6 c.args.scratch.now s1 ts (g.D.Disk.view c.args.disk.now) v1 c.in_ok-m6.ensures.made h inside in
    let inside1 : v1.tells ≡ true → PairsInside ts 6 = λ told. inside (sym p1.worked.done.kept.tells ∙ told) in
    let k2 = marks_new g.row.K 4 (is_marked c.in_ok-m6.m6 v1) t1 t2 c.in_ok-m5.m5 s1 s2 ts k1.marks.0 v1 v2 level_4 c.in_ok-m5.ensures.made (p1.stands ts h) k1.marks.1 inside1 k1.marks.2 in
    let few = room_left c.args.scratch.now.made s2.made 2 (room_upper c.args.scratch.now.made c.requires.room) p2.worked.made (omega arith) in
    (size, (c.requires.size, (level_3, (few, (p2.files, (p2.left, ((ts, p2.stands ts h), ((k2.marks.0, k2.marks.1), (k2.left, (k2.sealed, places_are g.row.K s2 t2 c.in_ok-m5.m5 4 ts v2 (level_of 4 level_4) k2 (p2.stands ts h)))))))))))

pub returns-in_err-m6-clause-answer : goal.returns-in_err-m6-clause-answer
returns-in_err-m6-clause-answer g c =
    let t = c.args.tables.now in
    let s = c.args.scratch.now in
    let v = g.D.Disk.view c.args.disk.now in
    exit_behind g.row.K 0 1 3 t t c.from_residual.result c.in_err-m6.field-0.0 s s c.marks_of_six.new.scratch v v (g.D.Disk.view c.marks_of_six.new.disk) c.from_residual.ensures.1
    (omega arith) (omega arith) (room_upper s.made c.requires.room) (so_far_none g.row.K t s v c.requires.files c.requires.left) c.in_err-m6.ensures.answer

pub returns-in_err-m5-clause-answer : goal.returns-in_err-m5-clause-answer
returns-in_err-m5-clause-answer g c =
    let s = c.args.scratch.now in
    exit_behind g.row.K 1 1 3 c.args.tables.now c.marks_of_six.new.tables c.from_residual-in_err-m5.result c.in_err-m5.field-0.0 s c.marks_of_six.new.scratch c.marks_below.new.scratch
    (g.D.Disk.view c.args.disk.now) (g.D.Disk.view c.marks_of_six.new.disk) (g.D.Disk.view c.marks_below.new.disk) c.from_residual-in_err-m5.ensures.1
    (omega arith) (omega arith) (room_upper s.made c.requires.room) (one g (goal.at.returns-in_err-m5-clause-answer g c).In_ok-m6) c.in_err-m5.ensures.answer

pub returns-in_err-m4-clause-answer : goal.returns-in_err-m4-clause-answer
returns-in_err-m4-clause-answer g c =
    let s = c.args.scratch.now in
    let at = goal.at.returns-in_err-m4-clause-answer g c in
    exit_behind g.row.K 2 1 3 c.args.tables.now c.marks_below.new.tables c.from_residual-in_err-m4.result c.in_err-m4.field-0.0 s c.marks_below.new.scratch c.marks_below-2.new.scratch
    (g.D.Disk.view c.args.disk.now) (g.D.Disk.view c.marks_below.new.disk) (g.D.Disk.view c.marks_below-2.new.disk) c.from_residual-in_err-m4.ensures.1
    (omega arith) (omega arith) (room_upper s.made c.requires.room) (two g at.In_ok-m5 (one g at.In_ok-m6)) c.in_err-m4.ensures.answer

pub returns-clause-answer : goal.returns-clause-answer
returns-clause-answer g c =
    let at = goal.at.returns-clause-answer g c in
    answer_well g.row.K 3 c.args.tables.now c.marks_below-2.new.tables _ c.args.scratch.now c.marks_below-2.new.scratch (g.D.Disk.view c.args.disk.now) (g.D.Disk.view c.marks_below-2.new.disk)
    (three g at.In_ok-m4 (two g at.In_ok-m5 (one g at.In_ok-m6))).worked

pub returns-clause-made : goal.returns-clause-made
returns-clause-made g c =
    let t0 = c.args.tables.now in
    let s0 = c.args.scratch.now in
    let v0 = g.D.Disk.view c.args.disk.now in
    let room = room_upper s0.made c.requires.room in
    let t1 = c.marks_of_six.new.tables in
    let s1 = c.marks_of_six.new.scratch in
    let v1 = g.D.Disk.view c.marks_of_six.new.disk in
    let e1 = c.in_ok-m6.ensures in
    let t2 = c.marks_below.new.tables in
    let s2 = c.marks_below.new.scratch in
    let v2 = g.D.Disk.view c.marks_below.new.disk in
    let e2 = c.in_ok-m5.ensures in
    let t3 = c.marks_below-2.new.tables in
    let s3 = c.marks_below-2.new.scratch in
    let v3 = g.D.Disk.view c.marks_below-2.new.disk in
    let e3 = c.in_ok-m4.ensures in
    let at = goal.at.returns-clause-made g c in
    let p1 = one g at.In_ok-m6 in
    let p2 = two g at.In_ok-m5 p1 in
    let p3 = three g at.In_ok-m4 p2 in
    record {
      levels = p3;
      upper = λ ts h inside.
          let k0_1 = marks_of_top g.row.K t0 t1 c.in_ok-m6.m6 s0 s1 ts v0 v1 e1.made h inside in
          let k0_2 = marks_asked s1 s2 c.in_ok-m6.m6 c.marks_below.new.above 5 ts v1 v2 e2.asked e2.made.worked.done.kept.tells (left_then s1 s2 (marks_file c.in_ok-m5.m5) e2.made.scratch) k0_1 in
          let inside1 : v1.tells ≡ true → PairsInside ts 6 = λ told. inside (sym p1.worked.done.kept.tells ∙ told) in
          let k1_2 = marks_new g.row.K 4 (is_marked c.in_ok-m6.m6 v1) t1 t2 c.in_ok-m5.m5 s1 s2 ts k0_1.marks.0 v1 v2 level_4 e2.made (p1.stands ts h) k0_1.marks.1 inside1 k0_1.marks.2 in
          let few0_3 = numbers_fit s3.made (room_left s0.made s3.made 3 room p3.worked.made (omega arith)) in
          let k0_3 = marks_past s2 s3 c.marks_below.new.above 5 s3.made ts v2 v3 (g.met.D.Disk.is_disk c.marks_below.new.disk) p2.files few0_3 e3.made.worked.done.kept (left_then s2 s3 (marks_file c.in_ok-m4.m4) e3.made.scratch) k0_2 in
          let k1_3 = marks_asked s2 s3 c.in_ok-m5.m5 c.marks_below-2.new.above 4 ts v2 v3 e3.asked e3.made.worked.done.kept.tells (left_then s2 s3 (marks_file c.in_ok-m4.m4) e3.made.scratch) k1_2 in
          let inside2 : v2.tells ≡ true → PairsInside ts 6 = λ told. inside (sym p2.worked.done.kept.tells ∙ told) in
          let k2_3 = marks_new g.row.K 3 (is_marked c.in_ok-m5.m5 v2) t2 t3 c.in_ok-m4.m4 s2 s3 ts k1_2.marks.0 v2 v3 level_3 e3.made (p2.stands ts h) k1_2.marks.1 inside2 k1_2.marks.2 in
          record { of_table_4 = k2_3; of_table_5 = k1_3; of_table_6 = k0_3 };
    }
