use Rattle.std.proofs.Common.{◌≡◌, ℕ, ◌+◌, ◌-◌, ◌<◌, ◌≤◌, ap, subst, ◌∙◌, arith}
use Rattle.std.proofs.lemmas.Result.{err_from_is_err_and}
use Rattle.pos_edge.specs.Frame.{Nothing}
use Rattle.pos_edge.specs.ScratchNames.{without_file}
use Rattle.pos_edge.proofs.FaultLemmas.{Rose-until}
use Rattle.pos_edge.proofs.ScratchWorkLemmas.{work_read}
use Rattle.pos_forward.specs.Gathering.{IsGathered}
use Rattle.pos_forward.proofs.NextLemmas.{counts_sorted, drafted, gathered_fault, given_worked, removed_fault, row_left, row_live, row_there}
use Rattle.pos_forward.proofs.levels.make_drafts.Goals as goal

level_of : (t table : ℕ) → t ≡ table + 1 → 1 ≤ table → t - 2 + 2 ≡ t
level_of t table is low = omega arith

less_six : (t table : ℕ) → t ≡ table + 1 → table ≤ 6 → t - 2 < 6
less_six t table is high = omega arith

pub gather-requires : goal.gather-requires
gather-requires g c =
    let kept = c.requires.kept.1 in
    (omega arith, (c.of.ensures, (c.requires.size, (c.requires.below, (c.requires.first_table, (c.requires.sixth_table, (record { stands = kept.stands; sealed = c.requires.rows.sealed }, c.requires.ready)))))))

pub returns-in_err-gather : goal.returns-in_err-gather
returns-in_err-gather g c =
    let r = c.requires in
    let p = err_from_is_err_and c.from_residual.result c.from_residual.ensures.1 in
    let t = c.args.t in
    let e = c.in_err-gather.field-0.0 in
    rw (p.1, p.2) (record {
      fault = gathered_fault e g.row.K c.args.room.now.capacity (t - 2) t g.R.Stored.entry g.R.Record.read g.R.Record.bit_count c.args.rows c.args.scratch.now (g.D.Disk.view c.args.disk.now) (g.D.Disk.view c.gather.new.disk)
          (level_of t g.R.Stored.table r.below r.first_table) (less_six t g.R.Stored.table r.below r.sixth_table) r.rows.last c.gather.ensures.read.only c.in_err-gather.ensures.answer;
      given = tt;
      drafted = tt;
      room = tt;
      lanes = tt;
      reads = tt;
    })

pub remove-requires : goal.remove-requires
remove-requires g c =
    let kept = c.requires.kept.1 in
    let read = c.gather.ensures.read in (
      omega arith,
      (
        row_left c.args.scratch.now c.args.rows c.gather.new.rows (g.D.Disk.view c.args.disk.now) c.requires.rows read.same.file,
        (
          row_live c.args.scratch.now.base g.R.Record.read g.R.Record.bit_count c.args.rows c.gather.new.rows c.requires.kept.0 (g.D.Disk.view c.args.disk.now) (g.D.Disk.view c.gather.new.disk) kept read,
          row_there c.args.scratch.now.base g.R.Record.read g.R.Record.bit_count c.args.rows c.gather.new.rows c.requires.kept.0 (g.D.Disk.view c.args.disk.now) (g.D.Disk.view c.gather.new.disk) kept read,
        ),
      ),
    )

pub returns-in-Ok : goal.returns-in-Ok
returns-in-Ok g c =
    let s = c.args.scratch.now in
    let a = g.D.Disk.view c.args.disk.now in
    let b = g.D.Disk.view c.gather.new.disk in
    let d = g.D.Disk.view c.remove.new.disk in
    let read = c.gather.ensures.read in
    let gathered = c.in_ok-gather.ensures in
    record {
      fault = tt;
      given = record {
        left = c.remove.ensures.left ∙ ap (without_file s) read.same.file;
        worked = given_worked g.R.Record.read g.R.Record.bit_count s c.remove.new.scratch c.args.rows c.requires.kept.0 c.gather.new.rows.file a b d (g.met.D.Disk.is_disk c.gather.new.disk) c.requires.rows c.requires.kept.1
            read.only read.same.file c.remove.ensures.left c.remove.ensures.work (c.in-Ok.ensures.done ((work_read Nothing Nothing s a b read.only).stands c.requires.rows.standing)) (c.in-Ok.ensures.quiet ∙ gathered.answer.quiet);
      };
      drafted = drafted g.row.K c.args.t c.args.room.now.capacity g.R.Stored.entry g.R.Record.read g.R.Record.bit_count c.args.rows c.gather.new.room.drafts c.sort.new.self a (let first = c.requires.first_table in let below = c.requires.below in omega arith)
          (subst (λ k. IsGathered k c.args.t g.R.Stored.entry g.R.Record.read g.R.Record.bit_count c.args.rows c.gather.new.room.drafts a) c.of.ensures gathered.made) (c.sort.ensures.table g.row.K) gathered.within c.sort.ensures.permutation;
      room = record { matcher = gathered.ready; capacity = gathered.capacity };
      lanes = counts_sorted c.args.lanes.now c.gather.new.lanes c.gather.new.room.drafts c.sort.new.self c.sort.ensures.permutation gathered.lanes;
      reads = λ some fresh. Rose-until a.reads b.reads d.reads (gathered.reads some fresh) c.remove.ensures.work.kept.reads;
    }

pub returns-in-Err : goal.returns-in-Err
returns-in-Err g c =
    let read = c.gather.ensures.read in
    record {
      fault = removed_fault c.in-Err.fault g.row.K c.args.room.now.capacity (c.args.t - 2) g.R.Stored.entry g.R.Record.read g.R.Record.bit_count c.args.scratch.now c.remove.new.scratch c.args.rows c.requires.kept.0 c.gather.new.rows.file
          (g.D.Disk.view c.args.disk.now) (g.D.Disk.view c.gather.new.disk) (g.D.Disk.view c.remove.new.disk) c.in-Err.ensures.fault c.in-Err.ensures.failed (g.met.D.Disk.is_disk c.gather.new.disk) c.requires.rows c.requires.kept.1
          read.only read.same.file c.remove.ensures.left c.remove.ensures.work;
      given = tt;
      drafted = tt;
      room = tt;
      lanes = tt;
      reads = tt;
    }
