use Rattle.std.proofs.Common.{◌≡◌, ◌+◌, ◌<◌, ◌≤◌, ℕ, true, sym, ◌∙◌, arith}
use Rattle.pos_lists.specs.TableLists.{PairsInside}
use Rattle.pos_prune.proofs.SeveralLemmas.{all_kept, answer_well, exit_behind, so_far_none}
use Rattle.pos_prune.proofs.pruning.kept_levels.Goals as goal

-- numbers, found where nothing else is known
size : 640 < 9223372036854775808
size = omega arith

room_upper : (made : ℕ) → made ≤ 9960 → made ≤ 9970
room_upper made room = omega arith

room_lower : (made now : ℕ) → made ≤ 9960 → now ≡ made + 3 → now ≤ 9970
room_lower made now room is = omega arith

pub upper_levels-requires : goal.upper_levels-requires
upper_levels-requires g c =
    let stands = c.requires.stands in
    (size, (c.requires.size, (c.requires.room, (c.requires.files, (c.requires.left, (stands.0, stands.1, stands.2))))))

pub lower_levels-requires : goal.lower_levels-requires
lower_levels-requires g c =
    let p1 = c.in_ok-upper.ensures.made.levels in
    let ts = c.requires.stands.0 in
    let h = c.requires.stands.1 in
    let inside = c.requires.stands.2 in
    let upper = c.in_ok-upper.ensures.made.upper ts h inside in
    let inside1 : (g.D.Disk.view c.upper_levels.new.disk).tells ≡ true → PairsInside ts 6 = λ told. inside (sym p1.worked.done.kept.tells ∙ told) in
    (size, (c.requires.size, (room_lower c.args.scratch.now.made c.upper_levels.new.scratch.made c.requires.room p1.worked.made, (p1.files, (p1.left, (ts, p1.stands ts h, inside1, upper.of_table_4))))))

pub returns-in_err-upper-clause-answer : goal.returns-in_err-upper-clause-answer
returns-in_err-upper-clause-answer g c =
    let t = c.args.tables in
    let s = c.args.scratch.now in
    let v = g.D.Disk.view c.args.disk.now in
    exit_behind g.row.K 0 3 5 t t c.from_residual.result c.in_err-upper.field-0.0 s s c.upper_levels.new.scratch v v (g.D.Disk.view c.upper_levels.new.disk) c.from_residual.ensures.1
    (omega arith) (omega arith) (room_upper s.made c.requires.room) (so_far_none g.row.K t s v c.requires.files c.requires.left) c.in_err-upper.ensures.answer

pub returns-in_err-lower-clause-answer : goal.returns-in_err-lower-clause-answer
returns-in_err-lower-clause-answer g c =
    let s = c.args.scratch.now in
    exit_behind g.row.K 3 2 5 c.args.tables c.upper_levels.new.tables c.from_residual-in_err-lower.result c.in_err-lower.field-0.0 s c.upper_levels.new.scratch c.lower_levels.new.scratch
    (g.D.Disk.view c.args.disk.now) (g.D.Disk.view c.upper_levels.new.disk) (g.D.Disk.view c.lower_levels.new.disk) c.from_residual-in_err-lower.ensures.1
    (omega arith) (omega arith) (room_upper s.made c.requires.room) c.in_ok-upper.ensures.made.levels c.in_err-lower.ensures.answer

pub returns-clause-answer : goal.returns-clause-answer
returns-clause-answer g c =
    let upper = c.in_ok-upper.upper in
    let lower = c.in_ok-lower.lower in
    answer_well g.row.K 5 c.args.tables c.lower_levels.new.tables _ c.args.scratch.now c.lower_levels.new.scratch (g.D.Disk.view c.args.disk.now) (g.D.Disk.view c.lower_levels.new.disk)
    (all_kept g.row.K c.args.tables c.upper_levels.new.tables c.lower_levels.new.tables lower.m2 lower.m3 upper.m4 c.lower_levels.new.above upper.m5 upper.m6 c.args.scratch.now c.upper_levels.new.scratch c.lower_levels.new.scratch
    (g.D.Disk.view c.args.disk.now) (g.D.Disk.view c.upper_levels.new.disk) (g.D.Disk.view c.lower_levels.new.disk) (g.met.D.Disk.is_disk c.upper_levels.new.disk)
    (room_upper c.args.scratch.now.made c.requires.room) c.in_ok-upper.ensures.made c.in_ok-lower.ensures.made).worked

pub returns-clause-made : goal.returns-clause-made
returns-clause-made g c =
    let upper = c.in_ok-upper.upper in
    let lower = c.in_ok-lower.lower in
    all_kept g.row.K c.args.tables c.upper_levels.new.tables c.lower_levels.new.tables lower.m2 lower.m3 upper.m4 c.lower_levels.new.above upper.m5 upper.m6 c.args.scratch.now c.upper_levels.new.scratch c.lower_levels.new.scratch
    (g.D.Disk.view c.args.disk.now) (g.D.Disk.view c.upper_levels.new.disk) (g.D.Disk.view c.lower_levels.new.disk) (g.met.D.Disk.is_disk c.upper_levels.new.disk)
    (room_upper c.args.scratch.now.made c.requires.room) c.in_ok-upper.ensures.made c.in_ok-lower.ensures.made
