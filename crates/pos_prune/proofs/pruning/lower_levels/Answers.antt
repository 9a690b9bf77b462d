use Rattle.std.proofs.Common.{◌≡◌, ◌+◌, ◌<◌, ◌≤◌, ℕ, true, sym, ◌∙◌, arith}
use Rattle.pos_lists.specs.TableLists.{PairsInside}
use Rattle.pos_marks.specs.Marks.{marks_file}
use Rattle.pos_prune.specs.Marking.{AreLevelsMade}
use Rattle.pos_prune.specs.Passes.{is_marked}
use Rattle.pos_prune.proofs.KeptLemmas.{marks_asked, marks_new, marks_past, places_are}
use Rattle.pos_prune.proofs.SeveralLemmas.{answer_well, exit_behind, left_then, so_far_more, so_far_none}
use Rattle.pos_prune.proofs.pruning.lower_levels.Given.{Over}
use Rattle.pos_prune.proofs.pruning.lower_levels.Goals as goal
use Rattle.pos_prune.proofs.pruning.lower_levels.Goals.{In_ok-m2, In_ok-m3}

-- numbers, found where nothing else is known
size : 640 < 9223372036854775808
size = omega arith

below_most : (c : ℕ) → c < 5 → c < 20
below_most c few = omega arith

level_of : (n : ℕ) → n < 6 → n ≤ 6
level_of n few = omega arith

level_1 : 1 < 6
level_1 = omega arith

level_2 : 2 < 6
level_2 = omega arith

level_3 : 3 < 6
level_3 = omega arith

room_first : (made : ℕ) → made ≤ 9970 → made < 10000
room_first made room = omega arith

room_left : (made now c : ℕ) → made ≤ 9970 → now ≡ made + c → c < 5 → now < 10000
room_left made now c room is few = omega arith

numbers_fit : (now : ℕ) → now < 10000 → now ≤ 10001
numbers_fit now few = omega arith

-- the marks of one and two levels were made
one : (g : Over) (c : In_ok-m3 g)
    → AreLevelsMade g.row.K 1 c.args.tables.now c.marks_below.new.tables c.args.scratch.now c.marks_below.new.scratch (g.D.Disk.view c.args.disk.now) (g.D.Disk.view c.marks_below.new.disk)
one g c =
    let t = c.args.tables.now in
    let s = c.args.scratch.now in
    let v = g.D.Disk.view c.args.disk.now in
    so_far_more g.row.K 0 2 (is_marked c.args.above.now v) t t c.marks_below.new.tables c.in_ok-m3.m3 s s c.marks_below.new.scratch v v (g.D.Disk.view c.marks_below.new.disk)
    (below_most 0 (omega arith)) c.requires.room (so_far_none g.row.K t s v c.requires.files c.requires.left) c.in_ok-m3.ensures.made

two : (g : Over) (c : In_ok-m2 g)
    → AreLevelsMade g.row.K 1 c.args.tables.now c.marks_below.new.tables c.args.scratch.now c.marks_below.new.scratch (g.D.Disk.view c.args.disk.now) (g.D.Disk.view c.marks_below.new.disk)
    → AreLevelsMade g.row.K 2 c.args.tables.now c.marks_below-2.new.tables c.args.scratch.now c.marks_below-2.new.scratch (g.D.Disk.view c.args.disk.now) (g.D.Disk.view c.marks_below-2.new.disk)
two g c p =
    let v = g.D.Disk.view c.marks_below.new.disk in
    so_far_more g.row.K 1 1 (is_marked c.in_ok-m3.m3 v) c.args.tables.now c.marks_below.new.tables c.marks_below-2.new.tables c.in_ok-m2.m2 c.args.scratch.now c.marks_below.new.scratch c.marks_below-2.new.scratch
    (g.D.Disk.view c.args.disk.now) v (g.D.Disk.view c.marks_below-2.new.disk) (below_most 1 (omega arith)) c.requires.room p c.in_ok-m2.ensures.made

pub marks_below-requires : goal.marks_below-requires
marks_below-requires g c =
    let t0 = c.args.tables.now in
    let s0 = c.args.scratch.now in
    let v0 = g.D.Disk.view c.args.disk.now in
    let ts = c.requires.stands.0 in
    let h = c.requires.stands.1 in
    let k0 = c.requires.stands.3 in
    (size, (c.requires.size, (level_2, (room_first s0.made c.requires.room, (c.requires.files, (c.requires.left, ((ts, h), ((k0.marks.0, k0.marks.1), (k0.left, (k0.sealed, places_are g.row.K s0 t0 c.args.above.now 3 ts v0 (level_of 3 level_3) k0 h))))))))))

pub marks_below-requires-2 : goal.marks_below-requires-2
marks_below-requires-2 g c =
    let t0 = c.args.tables.now in
    let s0 = c.args.scratch.now in
    let v0 = g.D.Disk.view c.args.disk.now in
    let t1 = c.marks_below.new.tables in
    let s1 = c.marks_below.new.scratch in
    let v1 = g.D.Disk.view c.marks_below.new.disk in
    let p1 = one g (goal.at.marks_below-requires-2 g c).In_ok-m3 in
    let ts = c.requires.stands.0 in
    let h = c.requires.stands.1 in
    let k0 = c.requires.stands.3 in
    let k1 = marks_new g.row.K 2 (is_marked c.args.above.now v0) t0 t1 c.in_ok-m3.m3 s0 s1 ts k0.marks.0 v0 v1 level_2 c.in_ok-m3.ensures.made h k0.marks.1 c.requires.stands.2 k0.marks.2 in
    let few = room_left s0.made s1.made 1 c.requires.room p1.worked.made (omega arith) in
    (size, (c.requires.size, (level_1, (few, (p1.files, (p1.left, ((ts, p1.stands ts h), ((k1.marks.0, k1.marks.1), (k1.left, (k1.sealed, places_are g.row.K s1 t1 c.in_ok-m3.m3 2 ts v1 (level_of 2 level_2) k1 (p1.stands ts h)))))))))))

pub returns-in_err-m3-clause-answer : goal.returns-in_err-m3-clause-answer
returns-in_err-m3-clause-answer g c =
    let t = c.args.tables.now in
    let s = c.args.scratch.now in
    let v = g.D.Disk.view c.args.disk.now in
    exit_behind g.row.K 0 1 2 t t c.from_residual.result c.in_err-m3.field-0.0 s s c.marks_below.new.scratch v v (g.D.Disk.view c.marks_below.new.disk) c.from_residual.ensures.1
    (omega arith) (omega arith) c.requires.room (so_far_none g.row.K t s v c.requires.files c.requires.left) c.in_err-m3.ensures.answer

pub returns-in_err-m2-clause-answer : goal.returns-in_err-m2-clause-answer
returns-in_err-m2-clause-answer g c =
    exit_behind g.row.K 1 1 2 c.args.tables.now c.marks_below.new.tables c.from_residual-in_err-m2.result c.in_err-m2.field-0.0 c.args.scratch.now c.marks_below.new.scratch c.marks_below-2.new.scratch
    (g.D.Disk.view c.args.disk.now) (g.D.Disk.view c.marks_below.new.disk) (g.D.Disk.view c.marks_below-2.new.disk) c.from_residual-in_err-m2.ensures.1
    (omega arith) (omega arith) c.requires.room (one g (goal.at.returns-in_err-m2-clause-answer g c).In_ok-m3) c.in_err-m2.ensures.answer

pub returns-clause-answer : goal.returns-clause-answer
returns-clause-answer g c =
    let at = goal.at.returns-clause-answer g c in
    answer_well g.row.K 2 c.args.tables.now c.marks_below-2.new.tables _ c.args.scratch.now c.marks_below-2.new.scratch (g.D.Disk.view c.args.disk.now) (g.D.Disk.view c.marks_below-2.new.disk)
    (two g at.In_ok-m2 (one g at.In_ok-m3)).worked

pub returns-clause-made : goal.returns-clause-made
returns-clause-made g c =
    let t0 = c.args.tables.now in
    let s0 = c.args.scratch.now in
    let v0 = g.D.Disk.view c.args.disk.now in
    let t1 = c.marks_below.new.tables in
    let s1 = c.marks_below.new.scratch in
    let v1 = g.D.Disk.view c.marks_below.new.disk in
    let e1 = c.in_ok-m3.ensures in
    let t2 = c.marks_below-2.new.tables in
    let s2 = c.marks_below-2.new.scratch in
    let v2 = g.D.Disk.view c.marks_below-2.new.disk in
    let e2 = c.in_ok-m2.ensures in
    let at = goal.at.returns-clause-made g c in
    let p1 = one g at.In_ok-m3 in
    let p2 = two g at.In_ok-m2 p1 in
    record {
      levels = p2;
      lower = λ ts h inside k0.
          let k0_1 = marks_asked s0 s1 c.args.above.now c.marks_below.new.above 3 ts v0 v1 e1.asked e1.made.worked.done.kept.tells (left_then s0 s1 (marks_file c.in_ok-m3.m3) e1.made.scratch) k0 in
          let k1_1 = marks_new g.row.K 2 (is_marked c.args.above.now v0) t0 t1 c.in_ok-m3.m3 s0 s1 ts k0.marks.0 v0 v1 level_2 e1.made h k0.marks.1 inside k0.marks.2 in
          let few0_2 = numbers_fit s2.made (room_left s0.made s2.made 2 c.requires.room p2.worked.made (omega arith)) in
          let k0_2 = marks_past s1 s2 c.marks_below.new.above 3 s2.made ts v1 v2 (g.met.D.Disk.is_disk c.marks_below.new.disk) p1.files few0_2 e2.made.worked.done.kept (left_then s1 s2 (marks_file c.in_ok-m2.m2) e2.made.scratch) k0_1 in
          let k1_2 = marks_asked s1 s2 c.in_ok-m3.m3 c.marks_below-2.new.above 2 ts v1 v2 e2.asked e2.made.worked.done.kept.tells (left_then s1 s2 (marks_file c.in_ok-m2.m2) e2.made.scratch) k1_1 in
          let inside1 : v1.tells ≡ true → PairsInside ts 6 = λ told. inside (sym p1.worked.done.kept.tells ∙ told) in
          let k2_2 = marks_new g.row.K 1 (is_marked c.in_ok-m3.m3 v1) t1 t2 c.in_ok-m2.m2 s1 s2 ts k1_1.marks.0 v1 v2 level_1 e2.made (p1.stands ts h) k1_1.marks.1 inside1 k1_1.marks.2 in
          (k2_2, k1_2, k0_2);
    }
