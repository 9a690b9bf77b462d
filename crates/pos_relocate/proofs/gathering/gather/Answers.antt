use Rattle.std.proofs.Common.{◌≡◌, ℕ, ◌+◌, ◌-◌, ◌*◌, ◌^◌, map, List, Err, refl, sym, ap, ◌∙◌, subst, arith, lit<}
use Rattle.std.proofs.lemmas.Result.{err_from_is_err_and}
use Rattle.pos_edge.specs.declared.scratch.WorkFault.TheVariants.{Scratch}
use Rattle.std.specs.Prelude.{slice_index}
use Rattle.pos_runs.specs.Runs.{pages_at}
use Rattle.pos_lists.specs.Numbering.{AreGathered}
use Rattle.pos_laws.specs.Renumbering.{point_at}
use Rattle.pos_relocate.specs.Passes.{AreListed}
use Rattle.pos_relocate.specs.Numbers.{numbers_of}
use Rattle.pos_relocate.proofs.GatheringLemmas.{gathering_done, gathering_exit, gathering_spent, gathering_then, reads_none, spent_no_damage}
use Rattle.pos_relocate.proofs.GatheredLemmas.{all_blocks, block_there, can_now, chooses_now, chooses_of, gathered_next, gathered_none, lt_is_le, no_point_first, none_at_most, GatheredSoFar}
use Rattle.pos_relocate.specs.Gathering.{HavePoints}
use Rattle.pos_relocate.proofs.gathering.gather.Goals as goal

pub loop-from-init : goal.loop-from-init
loop-from-init g c =
    let v = g.D.Disk.view c.args.disk.now in record {
      at_most = none_at_most c.count-count.result;
      so_far = subst (λ (items : List g.row.P.Denot). GatheredSoFar g.row.K c.args.t c.args.limit g.P.Pointed.bound 0 (numbers_of c.args.below.now) (map g.P.Pointed.pair items) c.args.chosen.now c.args.chosen.now c.args.tables.now c.args.tables.now v v)
          (sym c.in_ok-entries.ensures.ok) (gathered_none g.row.K c.args.t c.args.limit g.P.Pointed.bound (numbers_of c.args.below.now) c.args.chosen.now c.args.tables.now v c.requires.can c.requires.chooses);
    }

pub returns-in_err-entries-clause-reading : goal.returns-in_err-entries-clause-reading
returns-in_err-entries-clause-reading g c =
    let e = err_from_is_err_and c.from_residual.result c.from_residual.ensures.1 in
    let v = g.D.Disk.view c.args.disk.now in
    gathering_spent c.from_residual.result e.0 c.in_err-entries.field-0.0 v v e.1 e.2 c.in_err-entries.ensures.fault (reads_none v) refl

pub returns-in_err-entries-clause-damage : goal.returns-in_err-entries-clause-damage
returns-in_err-entries-clause-damage g c = λ damage is ts p stands chooses told.
    let e = err_from_is_err_and c.from_residual.result c.from_residual.ensures.1 in
    absurd (spent_no_damage c.from_residual.result e.0 c.in_err-entries.field-0.0 damage e.1 e.2 c.in_err-entries.ensures.fault is)

pub returns-in_err-pairs-clause-reading : goal.returns-in_err-pairs-clause-reading
returns-in_err-pairs-clause-reading g c =
    let e = err_from_is_err_and c.from_residual-in_err-pairs.result c.from_residual-in_err-pairs.ensures.1 in
    let v = g.D.Disk.view c.args.disk.now in
    gathering_spent c.from_residual-in_err-pairs.result e.0 c.in_err-pairs.field-0.0 v v e.1 e.2 c.in_err-pairs.ensures.fault (reads_none v) refl

pub returns-in_err-pairs-clause-damage : goal.returns-in_err-pairs-clause-damage
returns-in_err-pairs-clause-damage g c = λ damage is ts p stands chooses told.
    let e = err_from_is_err_and c.from_residual-in_err-pairs.result c.from_residual-in_err-pairs.ensures.1 in
    absurd (spent_no_damage c.from_residual-in_err-pairs.result e.0 c.in_err-pairs.field-0.0 damage e.1 e.2 c.in_err-pairs.ensures.fault is)

pub loop-from-preserved : goal.loop-from-preserved
loop-from-preserved g c =
    let k = g.row.K in
    let t = c.args.t in
    let xs = map g.P.Pointed.pair c.loop-from.entries.items in
    let a = g.D.Disk.view c.args.disk.now in
    let b = g.D.Disk.view c.loop-from.disk in
    let step = c.in_ok-gather_block.ensures in
    record {
      at_most = c.block_end-to.ensures.inside;
      so_far = gathered_next k t c.args.limit g.P.Pointed.bound c.loop-from.from (numbers_of c.args.below.now) xs c.args.chosen.now c.loop-from.chosen c.args.tables.now c.loop-from.tables a b c.loop-from.invariant.so_far
          c.block_end-to.result (map g.P.Pointed.pair c.gather_block.new.entries.items) c.gather_block.new.chosen c.gather_block.new.tables (g.D.Disk.view c.gather_block.new.disk)
          step.reading.only step.reading.quiet step.tables step.chosen step.listed step.gathered step.points;
    }

pub gather_block-requires : goal.gather_block-requires
gather_block-requires g c =
    let k = g.row.K in
    let t = c.args.t in
    let xs = map g.P.Pointed.pair c.loop-from.entries.items in
    let a = g.D.Disk.view c.args.disk.now in
    let b = g.D.Disk.view c.loop-from.disk in
    let was = c.loop-from.invariant.so_far in (
      lit< tt,
      (
        can_now k t c.args.limit g.P.Pointed.bound c.loop-from.from (numbers_of c.args.below.now) xs c.args.chosen.now c.loop-from.chosen c.args.tables.now c.loop-from.tables a b was,
        (
          lt_is_le c.loop-from.from c.block_end-to.result c.block_end-to.ensures.after,
          (
            block_there (pages_at c.args.tables.now (t - 1)).count c.count-count.result (pages_at c.loop-from.tables (t - 1)).count c.block_end-to.result c.count-count.ensures (was.same.counts (t - 1)) c.block_end-to.ensures.inside,
            chooses_now k t c.args.limit g.P.Pointed.bound c.loop-from.from (numbers_of c.args.below.now) xs c.args.chosen.now c.loop-from.chosen c.args.tables.now c.loop-from.tables a b was,
          ),
        ),
      ),
    )

pub returns-in_err-gather_block-clause-reading : goal.returns-in_err-gather_block-clause-reading
returns-in_err-gather_block-clause-reading g c =
    let e = err_from_is_err_and c.from_residual-in_err-gather_block.result c.from_residual-in_err-gather_block.ensures.1 in
    let a = g.D.Disk.view c.args.disk.now in
    let b = g.D.Disk.view c.loop-from.disk in
    let d = g.D.Disk.view c.gather_block.new.disk in
    gathering_exit c.from_residual-in_err-gather_block.result e.0 c.in_err-gather_block.field-0.0 a d e.1 e.2
    (gathering_then (Err c.in_err-gather_block.field-0.0) a b d c.loop-from.invariant.so_far.only c.loop-from.invariant.so_far.faults c.in_err-gather_block.ensures.reading)

pub returns-in_err-gather_block-clause-damage : goal.returns-in_err-gather_block-clause-damage
returns-in_err-gather_block-clause-damage g c = λ damage is ts p stands chooses told.
    let e = err_from_is_err_and c.from_residual-in_err-gather_block.result c.from_residual-in_err-gather_block.ensures.1 in
    let same : c.in_err-gather_block.field-0.0 ≡ Scratch damage = (let x = e.1 in let y = e.2 in cc) in
    let k = g.row.K in
    let t = c.args.t in
    let xs = map g.P.Pointed.pair c.loop-from.entries.items in
    let a = g.D.Disk.view c.args.disk.now in
    let b = g.D.Disk.view c.loop-from.disk in
    let was = c.loop-from.invariant.so_far in
    no_point_first k t c.args.limit g.P.Pointed.bound c.loop-from.from (numbers_of c.args.below.now) xs c.args.chosen.now c.loop-from.chosen c.args.tables.now c.loop-from.tables a b was ts p damage
    (c.in_err-gather_block.ensures.damage damage (ap (λ f. Err f) same) ts p (was.same.stand ts stands)
    (chooses_of k t c.args.limit g.P.Pointed.bound c.loop-from.from (numbers_of c.args.below.now) xs c.args.chosen.now c.loop-from.chosen c.args.tables.now c.loop-from.tables a b was p chooses) (was.only.kept.tells ∙ told))

pub returns-clause-reading : goal.returns-clause-reading
returns-clause-reading g c = gathering_done c.loop-from.entries (g.D.Disk.view c.args.disk.now) (g.D.Disk.view c.loop-from.disk) c.loop-from.invariant.so_far.only c.loop-from.invariant.so_far.faults

pub returns-clause-tables : goal.returns-clause-tables
returns-clause-tables g c = c.loop-from.invariant.so_far.same

pub returns-clause-listed : goal.returns-clause-listed
returns-clause-listed g c =
    let end = all_blocks (pages_at c.args.tables.now (c.args.t - 1)).count c.count-count.result c.loop-from.from c.count-count.ensures c.loop-from.invariant.at_most c.loop-from-test.false in
    subst (λ (n : ℕ). AreListed n (2 ^ (2 * g.row.K + 2)) (map g.P.Pointed.pair c.loop-from.entries.items)) end c.loop-from.invariant.so_far.listed

pub returns-clause-gathered : goal.returns-clause-gathered
returns-clause-gathered g c = λ ts p stands chooses told.
    let end = all_blocks (pages_at c.args.tables.now (c.args.t - 1)).count c.count-count.result c.loop-from.from c.count-count.ensures c.loop-from.invariant.at_most c.loop-from-test.false in
    subst (λ (n : ℕ). AreGathered p (point_at ts (c.args.t - 2) (slice_index (numbers_of c.args.below.now))) n (map g.P.Pointed.pair c.loop-from.entries.items)) end (c.loop-from.invariant.so_far.gathered ts p stands chooses told)

pub returns-clause-points : goal.returns-clause-points
returns-clause-points g c = λ ts p stands chooses told.
    let end = all_blocks (pages_at c.args.tables.now (c.args.t - 1)).count c.count-count.result c.loop-from.from c.count-count.ensures c.loop-from.invariant.at_most c.loop-from-test.false in
    subst (λ (n : ℕ). HavePoints ts (c.args.t - 2) p (numbers_of c.args.below.now) n) end (c.loop-from.invariant.so_far.points ts p stands chooses told)
