-- All is synced, and then the gate is written and synced: at each exit what was done so far.
use Rattle.std.proofs.Common.{inl, inr}
use Rattle.std.proofs.lemmas.Result.{err_from_is_err_and}
use Rattle.pos_gate.specs.Gates.{IsShut, IsShutOr, IsButGate, opened}
use Rattle.pos_gate.proofs.GateLemmas.{shut_synced, gate_synced, on_ok}
use Rattle.pos_gate.proofs.WorksLemmas.{works_weaker, works_then, works_exit, shut_stays, gate_write, gate_sync}
use Rattle.pos_gate.proofs.writing.open_gate.Goals as goal

pub returns-in_err-sync-clause-works : goal.returns-in_err-sync-clause-works
returns-in_err-sync-clause-works g c = λ b held.
    let u = g.D.Disk.view c.args.disk.now in
    let v = g.D.Disk.view c.sync.new.disk in
    let p = err_from_is_err_and c.from_residual.result c.from_residual.ensures.1 in
    works_exit (IsShutOr (opened b)) c.args.file.0 c.from_residual.result p.0 c.in_err-sync.field-0.0 u v p.1 p.2
    (works_weaker IsShut (IsShutOr (opened b)) c.args.file.0 _ u v (λ i s. inl s) (shut_stays c.args.file.0 b _ u v held c.in_err-sync.ensures.works))

pub returns-in_err-write-clause-works : goal.returns-in_err-write-clause-works
returns-in_err-write-clause-works g c = λ b held.
    let u = g.D.Disk.view c.args.disk.now in
    let v = g.D.Disk.view c.sync.new.disk in
    let w = g.D.Disk.view c.write.new.disk in
    let p = err_from_is_err_and c.from_residual-in_err-write.result c.from_residual-in_err-write.ensures.1 in
    works_exit (IsShutOr (opened b)) c.args.file.0 c.from_residual-in_err-write.result p.0 c.in_err-write.field-0.0 u w p.1 p.2
    (works_then (IsShutOr (opened b)) c.args.file.0 _ _ u v w held.bytes.live
    (works_weaker IsShut (IsShutOr (opened b)) c.args.file.0 _ u v (λ i s. inl s) (shut_stays c.args.file.0 b _ u v held c.in_ok-sync.ensures.works))
    (works_weaker (IsButGate (opened b)) (IsShutOr (opened b)) c.args.file.0 _ v w (λ i s. inr s) (gate_write c.args.file.0 b _ v w held.shut.0 (shut_synced c.args.file.0 b u v held c.sync.ensures.works.kept c.sync.ensures.size c.sync.ensures.contents c.in_ok-sync.ensures.ok) c.in_err-write.ensures.works)))

pub returns-clause-works : goal.returns-clause-works
returns-clause-works g c = λ b held.
    let u = g.D.Disk.view c.args.disk.now in
    let v = g.D.Disk.view c.sync.new.disk in
    let w = g.D.Disk.view c.write.new.disk in
    let x = g.D.Disk.view c.sync-2.new.disk in
    works_then (IsShutOr (opened b)) c.args.file.0 _ c.sync-2.result u v x held.bytes.live
    (works_weaker IsShut (IsShutOr (opened b)) c.args.file.0 _ u v (λ i s. inl s) (shut_stays c.args.file.0 b _ u v held c.in_ok-sync.ensures.works))
    (works_weaker (IsButGate (opened b)) (IsShutOr (opened b)) c.args.file.0 c.sync-2.result v x (λ i s. inr s) (gate_sync c.args.file.0 b _ c.sync-2.result v w x held.shut.0 (shut_synced c.args.file.0 b u v held c.sync.ensures.works.kept c.sync.ensures.size c.sync.ensures.contents c.in_ok-sync.ensures.ok) c.in_ok-write.ensures.works c.sync-2.ensures.works))

pub returns-clause-ok : goal.returns-clause-ok
returns-clause-ok g c =
    let u = g.D.Disk.view c.args.disk.now in
    let v = g.D.Disk.view c.sync.new.disk in
    on_ok c.sync-2.result (λ synced b held.
    gate_synced c.args.file.0 b v (g.D.Disk.view c.write.new.disk) (g.D.Disk.view c.sync-2.new.disk) held.shut.0
    (shut_synced c.args.file.0 b u v held c.sync.ensures.works.kept c.sync.ensures.size c.sync.ensures.contents c.in_ok-sync.ensures.ok)
    c.write.ensures.works.kept c.in_ok-write.ensures.ok c.sync-2.ensures.works.kept c.sync-2.ensures.size c.sync-2.ensures.contents synced)
    c.sync-2.ensures.ok
