use Rattle.std.proofs.Common.{◌≡◌, ℕ, ◌+◌, ◌-◌, ◌*◌, ◌^◌, ◌++◌, length, List, Err, refl, sym, ap, ◌∙◌, subst, arith, lit<}
use Rattle.std.proofs.lemmas.Result.{err_from_is_err_and}
use Rattle.std.specs.Prelude.{slice_index}
use Rattle.pos_edge.specs.declared.scratch.WorkFault.TheVariants.{Scratch}
use Rattle.pos_lists.specs.Numbering.{AreGathered}
use Rattle.pos_laws.specs.Renumbering.{point_at}
use Rattle.pos_runs.specs.Runs.{pages_at}
use Rattle.pos_relocate.specs.Blocks.{pointed_of}
use Rattle.pos_relocate.specs.Gathering.{IsOutsideBelow}
use Rattle.pos_relocate.specs.Numbers.{numbers_of}
use Rattle.pos_relocate.specs.Passes.{AreListed}
use Rattle.pos_relocate.proofs.BlockLemmas.{place_inside, still_chooses, still_chooses_of, unpack_now, unpacked_next, unpacked_none}
use Rattle.pos_relocate.proofs.GatheringLemmas.{gathering_done, gathering_exit, gathering_then}
use Rattle.pos_relocate.proofs.blocks.unpack.Goals as goal

pub loop-i-init : goal.loop-i-init
loop-i-init g c = unpacked_none g.row.K c.args.t c.args.from (numbers_of c.args.below.now) c.args.pairs.now.items c.args.chosen.now c.args.tables.now (g.D.Disk.view c.args.disk.now) c.requires.can c.requires.chooses c.requires.inside

pub unpack_place-requires : goal.unpack_place-requires
unpack_place-requires g c =
    let k = g.row.K in
    let t = c.args.t in
    let below = numbers_of c.args.below.now in
    let l = c.loop-i in
    let a = g.D.Disk.view c.args.disk.now in
    let b = g.D.Disk.view l.disk in (
      lit< tt,
      (
        unpack_now k t c.args.from l.i below c.args.pairs.now.items l.pairs.items c.args.chosen.now l.chosen c.args.tables.now l.tables a b l.invariant,
        (
          let e = c.requires.there in let m = c.loop-i-test.true in let n = l.invariant.same.counts (t - 1) in omega arith,
          (
            still_chooses k t c.args.from l.i below c.args.pairs.now.items l.pairs.items c.args.chosen.now l.chosen c.args.tables.now l.tables a b l.invariant,
            l.invariant.inside,
          ),
        ),
      ),
    )

pub loop-i-preserved : goal.loop-i-preserved
loop-i-preserved g c =
    let l = c.loop-i in
    let a = g.D.Disk.view c.args.disk.now in
    let b = g.D.Disk.view l.disk in
    let step = c.in_ok-unpack_place.ensures in
    unpacked_next g.row.K c.args.t c.args.from l.i (numbers_of c.args.below.now) c.args.pairs.now.items l.pairs.items c.args.chosen.now l.chosen c.args.tables.now l.tables a b l.invariant
    c.unpack_place.new.pairs.items c.unpack_place.new.chosen c.unpack_place.new.tables (g.D.Disk.view c.unpack_place.new.disk)
    step.reading.only step.reading.quiet step.tables step.chosen step.inside step.listed step.found step.gathered

pub returns-in_err-unpack_place-clause-reading : goal.returns-in_err-unpack_place-clause-reading
returns-in_err-unpack_place-clause-reading g c =
    let e = err_from_is_err_and c.from_residual.result c.from_residual.ensures.1 in
    let a = g.D.Disk.view c.args.disk.now in
    let b = g.D.Disk.view c.loop-i.disk in
    let d = g.D.Disk.view c.unpack_place.new.disk in
    gathering_exit c.from_residual.result e.0 c.in_err-unpack_place.field-0.0 a d e.1 e.2
    (gathering_then (Err c.in_err-unpack_place.field-0.0) a b d c.loop-i.invariant.only c.loop-i.invariant.faults c.in_err-unpack_place.ensures.reading)

pub returns-in_err-unpack_place-clause-damage : goal.returns-in_err-unpack_place-clause-damage
returns-in_err-unpack_place-clause-damage g c = λ damage is ts p stands chooses told.
    let e = err_from_is_err_and c.from_residual.result c.from_residual.ensures.1 in
    let same : c.in_err-unpack_place.field-0.0 ≡ Scratch damage = (let x = e.1 in let y = e.2 in cc) in
    let k = g.row.K in
    let t = c.args.t in
    let below = numbers_of c.args.below.now in
    let l = c.loop-i in
    let a = g.D.Disk.view c.args.disk.now in
    let b = g.D.Disk.view l.disk in
    let was = l.invariant in
    let found = c.in_err-unpack_place.ensures.damage damage (ap (λ f. Err f) same) ts p (was.same.stand ts stands)
    (still_chooses_of k t c.args.from l.i below c.args.pairs.now.items l.pairs.items c.args.chosen.now l.chosen c.args.tables.now l.tables a b was p chooses) (was.only.kept.tells ∙ told) in (
      l.i,
      place_inside k t l.i c.args.tables.now ts a c.requires.can.first c.requires.can.last stands (let e = c.requires.there in let m = c.loop-i-test.true in omega arith),
      found.0,
      subst (λ (f : ℕ). IsOutsideBelow ts (t - 2) l.i (length below) f damage) (was.same.numbers (t - 1)) found.1,
    )

pub returns-clause-reading : goal.returns-clause-reading
returns-clause-reading g c = gathering_done tt (g.D.Disk.view c.args.disk.now) (g.D.Disk.view c.loop-i.disk) c.loop-i.invariant.only c.loop-i.invariant.faults

pub returns-clause-tables : goal.returns-clause-tables
returns-clause-tables g c = c.loop-i.invariant.same

pub returns-clause-chosen : goal.returns-clause-chosen
returns-clause-chosen g c = c.loop-i.invariant.chosen

pub returns-clause-inside : goal.returns-clause-inside
returns-clause-inside g c = c.loop-i.invariant.inside

pub returns-clause-listed : goal.returns-clause-listed
returns-clause-listed g c = λ xs h.
    let l = c.loop-i-test.false in
    let m = c.loop-i.auto.i-end in
    let o = c.requires.order in
    let end : c.loop-i.i ≡ c.args.to = omega arith in
    subst (λ (n : ℕ). AreListed n (2 ^ (2 * g.row.K + 2)) (xs ++ pointed_of (numbers_of c.args.below.now) c.loop-i.pairs.items)) end (c.loop-i.invariant.listed xs h)

pub returns-clause-found : goal.returns-clause-found
returns-clause-found g c = c.loop-i.invariant.found

pub returns-clause-gathered : goal.returns-clause-gathered
returns-clause-gathered g c = λ ts p xs stands chooses told was.
    let l = c.loop-i-test.false in
    let m = c.loop-i.auto.i-end in
    let o = c.requires.order in
    let end : c.loop-i.i ≡ c.args.to = omega arith in
    subst (λ (n : ℕ). AreGathered p (point_at ts (c.args.t - 2) (slice_index (numbers_of c.args.below.now))) n (xs ++ pointed_of (numbers_of c.args.below.now) c.loop-i.pairs.items)) end
    (c.loop-i.invariant.gathered ts p xs stands chooses told was)
