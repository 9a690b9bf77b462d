use Rattle.std.proofs.Common.{◌+◌, ◌^◌, ◌≤◌, ◌∷◌, [], arith, refl, sym, subst}
use Rattle.std.proofs.lemmas.Result.{err_from_is_err_and}
use Rattle.pos_edge.specs.Frame.{Nothing}
use Rattle.pos_edge.specs.ScratchWork.{IsNameBetween}
use Rattle.pos_edge.proofs.ScratchWorkLemmas.{work_none}
use Rattle.pos_record.specs.Kinds.{number_read, number_width}
use Rattle.pos_forward.specs.SevenTables.{AreByEights, AreSevenTables}
use Rattle.pos_forward.specs.Stored.{draft_number}
use Rattle.pos_forward.specs.TablesSoFar.{AreDraftedAs, HasTablesTo, IsTablesFault}
use Rattle.pos_forward.proofs.SevenLemmas.{eights_in_all, seven_all}
use Rattle.pos_forward.proofs.seven.forward.Goals as goal

pub returns-in_default : goal.returns-in_default
returns-in_default g c =
    let s = c.args.scratch.now in
    record {
      work = work_none (IsNameBetween s.base s.made (s.made + 1)) Nothing s (g.D.Disk.view c.args.disk.now);
      done = tt;
      made = tt;
      cause = tt;
      quiet = λ other. refl;
      reads = tt;
      lanes = tt;
    }

pub all_lists-requires : goal.all_lists-requires
all_lists-requires g c =
    let r = c.requires in
    (omega arith, (omega arith, (omega arith, (r.size, (subst (λ z. z ≤ 2 ^ (g.row.K + 1)) (sym c.capacity.ensures) r.plan, (c.in-Ok.ensures, (r.room, r.files)))))))

pub returns-in_err-values : goal.returns-in_err-values
returns-in_err-values g c =
    let s = c.args.scratch.now in
    let u = c.all_lists.new.scratch in
    let a = g.D.Disk.view c.args.disk.now in
    let d = g.D.Disk.view c.all_lists.new.disk in
    let e = c.in_err-values.field-0.0 in
    let q = c.from_residual.result in
    let p = err_from_is_err_and q c.from_residual.ensures.1 in
    let fault = subst (λ cap. IsTablesFault c.args.id.now.0 g.row.K cap 14 s u a d e) c.capacity.ensures c.in_err-values.ensures.fault in
    rw (p.1, p.2) (record {
      work = fault.ended.work;
      done = tt;
      made = tt;
      cause = fault.cause;
      quiet = fault.ended.quiet;
      reads = tt;
      lanes = tt;
    })

pub returns : goal.returns
returns g c =
    let id = c.args.id.now.0 in
    let k = g.row.K in
    let s = c.args.scratch.now in
    let u = c.all_lists.new.scratch in
    let a = g.D.Disk.view c.args.disk.now in
    let d = g.D.Disk.view c.all_lists.new.disk in
    let m = c.in_ok-values in
    let made = subst (λ cap. HasTablesTo id k cap 6 (AreDraftedAs k 7 draft_number) (number_read k) (number_width k) s u (m.values ∷ m.p2 ∷ m.p3 ∷ m.p4 ∷ m.p5 ∷ m.p6 ∷ m.p7 ∷ []) m.last a d) c.capacity.ensures m.ensures.made in
    record {
      work = made.worked.work;
      done = made.worked.done;
      made = subst (λ z. AreSevenTables id k c.args.plan.now s u z a d) (sym c.new-3.ensures) (seven_all id k c.args.plan.now s u m.values m.p2 m.p3 m.p4 m.p5 m.p6 m.p7 m.last a d made);
      cause = tt;
      quiet = made.worked.quiet;
      reads = m.ensures.reads;
      lanes = subst (λ z. AreByEights c.args.lanes.now c.all_lists.new.lanes z) (sym c.new-3.ensures)
          (eights_in_all c.args.lanes.now c.all_lists.new.lanes m.p2.count m.p3.count m.p4.count m.p5.count m.p6.count m.p7.count m.ensures.lanes);
    }
