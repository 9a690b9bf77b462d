use Rattle.std.proofs.Common.{◌≡◌, ◌^◌, ◌%◌, ◌*◌, ℕ, length, Err, refl, ap, subst, arith, lit<}
use Rattle.std.proofs.lemmas.Result.{err_from_is_err_and}
use Rattle.std.specs.Array.Iter.{array_into_iter_items}
use Rattle.pos_edge.specs.declared.scratch.WorkFault.TheVariants.{Scratch}
use Rattle.pos_relocate.specs.Passes.{IsPass}
use Rattle.pos_relocate.specs.Numbers.{numbers_of}
use Rattle.pos_relocate.proofs.PassLemmas.{ok_no_fault, pass_done, pass_exit, pass_then}
use Rattle.pos_relocate.proofs.LastTableLemmas.{gathering_pass}
use Rattle.pos_relocate.proofs.LevelsLemmas.{LevelsSoFar, levels_below, levels_can, levels_done, levels_next, levels_none, levels_stopped, limit_of_values, same_file_then, turn_fits, turn_grown, turn_next, turn_up}
use Rattle.pos_relocate.proofs.relocating.renumber_levels.Goals as goal

pub gather_values-requires : goal.gather_values-requires
gather_values-requires g c = (lit< tt, (c.requires.size, c.requires.stands))

pub returns-in_err-places-clause-pass : goal.returns-in_err-places-clause-pass
returns-in_err-places-clause-pass g c =
    let e = err_from_is_err_and c.from_residual.result c.from_residual.ensures.1 in
    let a = g.D.Disk.view c.args.disk.now in
    let b = g.D.Disk.view c.gather_values.new.disk in
    pass_exit c.args.writer.now.file c.from_residual.result e.0 c.in_err-places.field-0.0 a b e.1 e.2
    (gathering_pass c.args.writer.now (Err c.in_err-places.field-0.0) a b c.requires.standing c.in_err-places.ensures.reading)

pub returns-in_err-places-clause-damage : goal.returns-in_err-places-clause-damage
returns-in_err-places-clause-damage g c = λ damage is ts stands told sound used.
    let e = err_from_is_err_and c.from_residual.result c.from_residual.ensures.1 in
    let same : c.in_err-places.field-0.0 ≡ Scratch damage = (let x = e.1 in let y = e.2 in cc) in
    absurd (c.in_err-places.ensures.no_damage damage (ap (λ f. Err f) same))

pub into_iter-chosen-iterator-requires : goal.into_iter-chosen-iterator-requires
into_iter-chosen-iterator-requires g c = (lit< tt, lit< tt)

pub loop-chosen-init : goal.loop-chosen-init
loop-chosen-init g c =
    let k = g.row.K in
    let got = c.in_ok-places.ensures in
    record {
      left = c.into_iter-chosen-iterator.ensures.into_iter_gives.0;
      turn = refl;
      so_far = levels_none k (1 * 2 ^ k % 2 ^ 64) c.args.m2 c.args.m3 c.args.m4 c.args.m5 c.args.m6 (numbers_of c.in_ok-places.places) c.args.tables.now c.gather_values.new.tables c.args.writer.now
          (g.D.Disk.view c.args.disk.now) (g.D.Disk.view c.gather_values.new.disk) (limit_of_values k c.requires.size.1) c.requires got.reading.only got.reading.quiet got.tables got.below got.values;
    }

pub next-requires : goal.next-requires
next-requires g c = (lit< tt, tt)

pub renumber-requires : goal.renumber-requires
renumber-requires g c =
    let l = c.loop-chosen in
    let turn = turn_next c.args.m2 c.args.m3 c.args.m4 c.args.m5 c.args.m6 l.yielded (array_into_iter_items l.chosen-iterator) c.in-Some.chosen (array_into_iter_items c.next.new.self) l.invariant.left c.in-Some.ensures.steps in (
      lit< tt,
      levels_can g.row.K (length l.yielded) l.limit c.args.m2 c.args.m3 c.args.m4 c.args.m5 c.args.m6 (numbers_of l.places) c.args.tables.now l.tables c.args.writer.now l.writer
          (g.D.Disk.view c.args.disk.now) (g.D.Disk.view l.disk) l.invariant.so_far l.t c.in-Some.chosen l.invariant.turn turn.0 turn.1,
    )

pub drop-chosen-iterator-requires : goal.drop-chosen-iterator-requires
drop-chosen-iterator-requires g c = lit< tt

pub returns-in_err-places-2-clause-pass : goal.returns-in_err-places-2-clause-pass
returns-in_err-places-2-clause-pass g c =
    let e = err_from_is_err_and c.from_residual-in_err-places-2.result c.from_residual-in_err-places-2.ensures.1 in
    let l = c.loop-chosen in
    let was = l.invariant.so_far in
    let a = g.D.Disk.view c.args.disk.now in
    let b = g.D.Disk.view l.disk in
    let d = g.D.Disk.view c.renumber.new.disk in
    let file = c.args.writer.now.file in
    pass_exit file c.from_residual-in_err-places-2.result e.0 c.in_err-places-2.field-0.0 a d e.1 e.2
    (pass_then file (Err c.in_err-places-2.field-0.0) a b d c.requires.standing.1.keeps.file.bytes.live was.writes was.faults
    (subst (λ (f : ℕ). IsPass f (Err c.in_err-places-2.field-0.0) b d) was.same_file.file c.in_err-places-2.ensures.pass))

pub returns-in_err-places-2-clause-same : goal.returns-in_err-places-2-clause-same
returns-in_err-places-2-clause-same g c = same_file_then c.args.writer.now c.loop-chosen.writer c.renumber.new.writer c.loop-chosen.invariant.so_far.same_file c.in_err-places-2.ensures.same

pub returns-in_err-places-2-clause-damage : goal.returns-in_err-places-2-clause-damage
returns-in_err-places-2-clause-damage g c = λ damage is ts stands told sound used.
    let e = err_from_is_err_and c.from_residual-in_err-places-2.result c.from_residual-in_err-places-2.ensures.1 in
    let same : c.in_err-places-2.field-0.0 ≡ Scratch damage = (let x = e.1 in let y = e.2 in cc) in
    let l = c.loop-chosen in
    let turn = turn_next c.args.m2 c.args.m3 c.args.m4 c.args.m5 c.args.m6 l.yielded (array_into_iter_items l.chosen-iterator) c.in-Some.chosen (array_into_iter_items c.next.new.self) l.invariant.left c.in-Some.ensures.steps in
    levels_stopped g.row.K (length l.yielded) l.limit c.args.m2 c.args.m3 c.args.m4 c.args.m5 c.args.m6 (numbers_of l.places) c.args.tables.now l.tables c.args.writer.now l.writer
    (g.D.Disk.view c.args.disk.now) (g.D.Disk.view l.disk) l.invariant.so_far l.t c.in-Some.chosen damage ts l.invariant.turn turn.0 turn.1
    (c.in_err-places-2.ensures.damage damage (ap (λ f. Err f) same) ts) stands told sound used

pub overflow_add-t : goal.overflow_add-t
overflow_add-t g c = omega (
  arith,
  turn_fits c.loop-chosen.t (length c.loop-chosen.yielded) c.loop-chosen.invariant.turn
      (turn_next c.args.m2 c.args.m3 c.args.m4 c.args.m5 c.args.m6 c.loop-chosen.yielded (array_into_iter_items c.loop-chosen.chosen-iterator) c.in-Some.chosen (array_into_iter_items c.next.new.self)
      c.loop-chosen.invariant.left c.in-Some.ensures.steps).0,
)

pub loop-chosen-preserved : goal.loop-chosen-preserved
loop-chosen-preserved g c =
    let l = c.loop-chosen in
    let turn = turn_next c.args.m2 c.args.m3 c.args.m4 c.args.m5 c.args.m6 l.yielded (array_into_iter_items l.chosen-iterator) c.in-Some.chosen (array_into_iter_items c.next.new.self) l.invariant.left c.in-Some.ensures.steps in
    let got = c.in_ok-places-2.ensures in
    let k = g.row.K in
    let a = g.D.Disk.view c.args.disk.now in
    let d = g.D.Disk.view c.renumber.new.disk in
    record {
      left = turn.2;
      turn = turn_up l.t l.yielded c.in-Some.chosen l.invariant.turn;
      so_far = subst (λ (m : ℕ). LevelsSoFar k m c.len-limit.result c.args.m2 c.args.m3 c.args.m4 c.args.m5 c.args.m6 (numbers_of c.in_ok-places-2.places) c.args.tables.now c.renumber.new.tables c.args.writer.now
          c.renumber.new.writer a d) (turn_grown l.yielded c.in-Some.chosen)
          (levels_next k (length l.yielded) l.limit c.args.m2 c.args.m3 c.args.m4 c.args.m5 c.args.m6 (numbers_of l.places) c.args.tables.now l.tables c.args.writer.now l.writer
          a (g.D.Disk.view l.disk) l.invariant.so_far l.t c.len-limit.result c.in-Some.chosen (numbers_of c.in_ok-places-2.places) c.renumber.new.tables c.renumber.new.writer d l.invariant.turn turn.0 turn.1
          c.len-limit.ensures got.pass.writes got.pass.quiet got.tables got.same got.next got.places got.ok);
    }

pub returns-clause-pass : goal.returns-clause-pass
returns-clause-pass g c = pass_done c.args.writer.now.file _ (g.D.Disk.view c.args.disk.now) (g.D.Disk.view c.loop-chosen.disk) c.loop-chosen.invariant.so_far.writes c.loop-chosen.invariant.so_far.faults

pub returns-clause-same : goal.returns-clause-same
returns-clause-same g c = c.loop-chosen.invariant.so_far.same_file

pub returns-clause-tables : goal.returns-clause-tables
returns-clause-tables g c = c.loop-chosen.invariant.so_far.same

pub returns-clause-places : goal.returns-clause-places
returns-clause-places g c =
    let l = c.loop-chosen in
    levels_below g.row.K l.limit c.args.m2 c.args.m3 c.args.m4 c.args.m5 c.args.m6 (numbers_of l.places) c.args.tables.now l.tables c.args.writer.now l.writer
    (g.D.Disk.view c.args.disk.now) (g.D.Disk.view l.disk) l.yielded (array_into_iter_items l.chosen-iterator) l.invariant.left c.in-None.ensures.steps.0 l.invariant.so_far

pub returns-clause-ok : goal.returns-clause-ok
returns-clause-ok g c =
    let l = c.loop-chosen in
    levels_done g.row.K l.limit c.args.m2 c.args.m3 c.args.m4 c.args.m5 c.args.m6 (numbers_of l.places) c.args.tables.now l.tables c.args.writer.now l.writer
    (g.D.Disk.view c.args.disk.now) (g.D.Disk.view l.disk) l.yielded (array_into_iter_items l.chosen-iterator) l.invariant.left c.in-None.ensures.steps.0 l.invariant.so_far

pub returns-clause-damage : goal.returns-clause-damage
returns-clause-damage g c = λ damage is. absurd (ok_no_fault _ (Scratch damage) is)
