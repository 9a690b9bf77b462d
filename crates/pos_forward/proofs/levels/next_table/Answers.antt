use Rattle.std.proofs.Common.{◌≡◌, ℕ, suc, ◌+◌, ◌-◌, ◌≤◌, ◌^◌, length, refl, sym, ap, subst, ◌∙◌, arith, All}
use Rattle.std.proofs.lemmas.List.{length-map}
use Rattle.std.proofs.lemmas.Result.{err_from_is_err_and}
use Rattle.pos_edge.specs.ScratchNames.{ScratchState}
use Rattle.pos_edge.proofs.FaultLemmas.{Rose-until}
use Rattle.pos_forward.specs.Drafts.{IsPairDraft}
use Rattle.pos_forward.specs.Stored.{draft_pair_record}
use Rattle.pos_forward.specs.TablesSoFar.{AreEntriesOf}
use Rattle.pos_forward.proofs.NextLemmas.{drafts_fit, few_drafts, next_fit, next_made, next_worked, pairs_fit, stored_fault}
use Rattle.pos_forward.proofs.OneLemmas.{stored_worked}
use Rattle.pos_forward.proofs.SoFarLemmas.{eights_of_one, more_at}
use Rattle.pos_forward.proofs.levels.next_table.Goals as goal

level_of : (t table : ℕ) → t ≡ table + 1 → 1 ≤ table → t - 2 + 2 ≡ t
level_of t table is low = omega arith

up_of : (t table : ℕ) → t ≡ table + 1 → 1 ≤ table → suc (t - 2) ≡ t - 1
up_of t table is low = omega arith

pub make_drafts-requires : goal.make_drafts-requires
make_drafts-requires g c = (omega arith, (c.requires.size, (c.requires.below, (c.requires.first_table, (c.requires.sixth_table, (c.requires.rows, (c.requires.kept, c.requires.ready)))))))

pub returns-in_err-make_drafts : goal.returns-in_err-make_drafts
returns-in_err-make_drafts g c =
    let p = err_from_is_err_and c.from_residual.result c.from_residual.ensures.1 in
    rw (p.1, p.2) (record {
      fault = c.in_err-make_drafts.ensures.fault;
      made = tt;
      room = tt;
      lanes = tt;
      reads = tt;
    })

pub store-requires : goal.store-requires
store-requires g c =
    let made : c.make_drafts.new.scratch.made ≡ c.args.scratch.now.made = ap (λ (z : ScratchState). z.made) c.in_ok-make_drafts.ensures.given.left in
    let drafted = c.in_ok-make_drafts.ensures.drafted in
    let fit : All (IsPairDraft g.row.K c.args.t (2 ^ (g.row.K + 1))) c.make_drafts.new.room.drafts =
    drafts_fit g.row.K c.args.t c.args.room.now.capacity g.R.Stored.entry g.R.Record.read g.R.Record.bit_count c.args.rows c.make_drafts.new.room.drafts (g.D.Disk.view c.args.disk.now) (let first = c.requires.first_table in let below = c.requires.below in omega arith) c.requires.few drafted in (
      omega arith,
      (
        omega arith,
        (
          c.requires.size,
          (
            subst (λ m. m + 2 ≤ 10000) (sym made) c.requires.files,
            (
              few_drafts g.row.K c.args.room.now.capacity (length c.make_drafts.new.room.drafts) c.requires.size.1 c.requires.capacity drafted.within,
              (pairs_fit g.row.K c.args.t c.make_drafts.new.room.drafts fit, next_fit g.row.K c.args.t g.S.Record.fits g.S.MadeOf.made_of c.make_drafts.new.room.drafts c.requires.fits fit),
            ),
          ),
        ),
      ),
    )

pub returns-in-Ok : goal.returns-in-Ok
returns-in-Ok g c =
    let r = c.requires in
    let k = g.row.K in
    let t = c.args.t in
    let cap = c.args.room.now.capacity in
    let s = c.args.scratch.now in
    let v = c.make_drafts.new.scratch in
    let u = c.store.new.scratch in
    let a = g.D.Disk.view c.args.disk.now in
    let b = g.D.Disk.view c.make_drafts.new.disk in
    let d = g.D.Disk.view c.store.new.disk in
    let drafts = c.make_drafts.new.room.drafts in
    let first = c.in_ok-make_drafts.ensures in
    let pairs = c.in-Ok.made.0 in
    let next = c.in-Ok.made.1 in
    let stored = c.in-Ok.ensures in
    record {
      fault = tt;
      made = more_at k cap (t - 2) (t - 1) t g.R.Stored.entry g.R.Record.read g.R.Record.bit_count g.S.MadeOf.made_of g.S.Record.read g.S.Record.bit_count s u c.args.rows pairs next drafts a d
          (level_of t g.R.Stored.table r.below r.first_table) (up_of t g.R.Stored.table r.below r.first_table) (g.met.D.Disk.is_disk c.args.disk.now) r.rows
          (next_worked s v u c.args.rows a b d r.rows first.given r.files (stored_worked _ _ _ _ c.in-Ok.made v u pairs next _ _ b d c.store.ensures.work stored.done stored.answer stored.stored))
          (next_made k t cap g.R.Stored.entry g.R.Record.read g.R.Record.bit_count g.S.MadeOf.made_of g.S.Record.read g.S.Record.bit_count s v u c.args.rows pairs next drafts drafts a b d first.given first.drafted refl stored.stored);
      room = first.room;
      lanes = eights_of_one c.args.lanes.now c.make_drafts.new.lanes pairs.count (length drafts) first.lanes (sym stored.stored.kept.first.holds.count ∙ length-map drafts draft_pair_record);
      reads = λ some fresh. Rose-until a.reads b.reads d.reads (first.reads some fresh) c.store.ensures.work.kept.reads;
    }

pub returns-in-Err : goal.returns-in-Err
returns-in-Err g c = record {
  fault = stored_fault c.args.scratch.now c.make_drafts.new.scratch c.store.new.scratch c.args.rows (g.D.Disk.view c.args.disk.now) (g.D.Disk.view c.make_drafts.new.disk) (g.D.Disk.view c.store.new.disk)
      c.requires.rows c.in_ok-make_drafts.ensures.given c.requires.files c.in-Err.fault g.row.K c.args.room.now.capacity (c.args.t - 2) (AreEntriesOf g.R.Stored.entry) g.R.Record.read g.R.Record.bit_count
      c.store.ensures.work c.store.ensures.most c.in-Err.ensures.answer;
  made = tt;
  room = tt;
  lanes = tt;
  reads = tt;
}
