use Rattle.std.proofs.Common.{ℕ, ◌+◌, ◌^◌, ◌≤◌, List, refl, sym, ◌∙◌, subst, arith}
use Rattle.std.proofs.lemmas.Nat.{one_shl}
use Rattle.std.proofs.lemmas.Result.{err_from_is_err_and}
use Rattle.pos_relocate.specs.Numbers.{bound_of, numbers_of}
use Rattle.pos_relocate.proofs.GatheringLemmas.{gathering_done, gathering_lost, gathering_spent, lost_no_damage, spent_no_damage, reads_none, reads_then}
use Rattle.pos_relocate.proofs.ValuesLemmas.{ValuesSoFar, values_below, values_more, values_none, values_whole}
use Rattle.pos_relocate.proofs.gathering.gather_values.Goals as goal

pub loop-i-init : goal.loop-i-init
loop-i-init g c = record {
  so_far = subst (λ (vs : List ℕ). ValuesSoFar g.row.K 0 vs c.args.tables.now c.args.tables.now (g.D.Disk.view c.args.disk.now) (g.D.Disk.view c.args.disk.now)) (sym c.in_ok-values.ensures.none)
      (values_none g.row.K c.args.tables.now (g.D.Disk.view c.args.disk.now) c.requires.stands);
  bound = subst (λ (n : ℕ). n ≤ bound_of c.in_ok-values.values) (one_shl g.row.K 64 (let most = c.requires.size.1 in omega arith)) c.in_ok-values.ensures.bound;
}

pub returns-in_err-values-clause-reading : goal.returns-in_err-values-clause-reading
returns-in_err-values-clause-reading g c =
    let e = err_from_is_err_and c.from_residual.result c.from_residual.ensures.1 in
    let v = g.D.Disk.view c.args.disk.now in
    gathering_spent c.from_residual.result e.0 c.in_err-values.field-0.0 v v e.1 e.2 c.in_err-values.ensures.fault (reads_none v) refl

pub returns-in_err-values-clause-no_damage : goal.returns-in_err-values-clause-no_damage
returns-in_err-values-clause-no_damage g c = λ d is.
    let e = err_from_is_err_and c.from_residual.result c.from_residual.ensures.1 in
    spent_no_damage c.from_residual.result e.0 c.in_err-values.field-0.0 d e.1 e.2 c.in_err-values.ensures.fault is

pub loop-i-preserved : goal.loop-i-preserved
loop-i-preserved g c =
    let k = g.row.K in
    let a = g.D.Disk.view c.args.disk.now in
    let b = g.D.Disk.view c.loop-i.disk in
    let new = g.D.Disk.view c.value.new.disk in
    let got = c.in_ok-value.ensures in
    record {
      so_far = subst (λ (vs : List ℕ). ValuesSoFar k (c.loop-i.i + 1) vs c.args.tables.now c.value.new.self a new) (sym c.in_ok-push.ensures.ok)
          (values_more k c.loop-i.i c.in_ok-value.value (numbers_of c.loop-i.values) c.args.tables.now c.loop-i.tables c.value.new.self a b new c.loop-i.invariant.so_far got.quiet got.others got.read got.stands got.fits got.value);
      bound = subst (λ (n : ℕ). 2 ^ k ≤ n) (sym c.in_ok-push.ensures.bound) c.loop-i.invariant.bound;
    }

pub returns-in_err-value-clause-reading : goal.returns-in_err-value-clause-reading
returns-in_err-value-clause-reading g c =
    let e = err_from_is_err_and c.from_residual-in_err-value.result c.from_residual-in_err-value.ensures.1 in
    gathering_lost c.from_residual-in_err-value.result e.0 c.in_err-value.field-0.0 (g.D.Disk.view c.args.disk.now) (g.D.Disk.view c.loop-i.disk) (g.D.Disk.view c.value.new.disk) e.1 e.2
    c.in_err-value.ensures.fault c.loop-i.invariant.so_far.only c.in_err-value.ensures.read.only c.in_err-value.ensures.failed

pub returns-in_err-value-clause-no_damage : goal.returns-in_err-value-clause-no_damage
returns-in_err-value-clause-no_damage g c = λ d is.
    let e = err_from_is_err_and c.from_residual-in_err-value.result c.from_residual-in_err-value.ensures.1 in
    lost_no_damage c.from_residual-in_err-value.result e.0 c.in_err-value.field-0.0 d e.1 e.2 c.in_err-value.ensures.fault is

pub returns-in_err-push-clause-reading : goal.returns-in_err-push-clause-reading
returns-in_err-push-clause-reading g c =
    let e = err_from_is_err_and c.from_residual-in_err-push.result c.from_residual-in_err-push.ensures.1 in
    let a = g.D.Disk.view c.args.disk.now in
    let b = g.D.Disk.view c.loop-i.disk in
    let new = g.D.Disk.view c.value.new.disk in
    gathering_spent c.from_residual-in_err-push.result e.0 c.in_err-push.field-0.0 a new e.1 e.2 c.in_err-push.ensures.fault
    (reads_then a b new c.loop-i.invariant.so_far.only c.in_ok-value.ensures.read.only) (c.in_ok-value.ensures.quiet ∙ c.loop-i.invariant.so_far.faults)

pub returns-in_err-push-clause-no_damage : goal.returns-in_err-push-clause-no_damage
returns-in_err-push-clause-no_damage g c = λ d is.
    let e = err_from_is_err_and c.from_residual-in_err-push.result c.from_residual-in_err-push.ensures.1 in
    spent_no_damage c.from_residual-in_err-push.result e.0 c.in_err-push.field-0.0 d e.1 e.2 c.in_err-push.ensures.fault is

pub returns-clause-reading : goal.returns-clause-reading
returns-clause-reading g c = gathering_done _ (g.D.Disk.view c.args.disk.now) (g.D.Disk.view c.loop-i.disk) c.loop-i.invariant.so_far.only c.loop-i.invariant.so_far.faults

pub returns-clause-below : goal.returns-clause-below
returns-clause-below g c = values_below g.row.K c.loop-i.i (numbers_of c.loop-i.values) c.args.tables.now c.loop-i.tables (g.D.Disk.view c.args.disk.now) (g.D.Disk.view c.loop-i.disk)
    (let e = c.count-i-end.ensures in let end = c.loop-i-test.false in let most = c.loop-i.auto.i-end in omega arith) c.loop-i.invariant.so_far

pub returns-clause-values : goal.returns-clause-values
returns-clause-values g c = values_whole g.row.K c.loop-i.i (numbers_of c.loop-i.values) c.args.tables.now c.loop-i.tables (g.D.Disk.view c.args.disk.now) (g.D.Disk.view c.loop-i.disk)
    (let e = c.count-i-end.ensures in let end = c.loop-i-test.false in let most = c.loop-i.auto.i-end in omega arith) c.loop-i.invariant.so_far
