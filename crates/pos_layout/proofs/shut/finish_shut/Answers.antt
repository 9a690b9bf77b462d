-- The header is written, and then the gate opened: at each exit what was done so far.
use Rattle.std.proofs.Common.{inl, arith}
use Rattle.std.proofs.lemmas.Result.{err_from_is_err_and}
use Rattle.pos_edge.specs.Images.{written}
use Rattle.pos_gate.specs.Gates.{opened}
use Rattle.pos_layout.specs.Images.{IsShut, IsShutOr}
use Rattle.pos_gate.proofs.GateLemmas.{on_ok}
use Rattle.pos_gate.proofs.WorksLemmas.{works_weaker, works_then, works_exit}
use Rattle.pos_layout.proofs.shut.finish_shut.Goals as goal

pub write_past-requires-clause-held : goal.write_past-requires-clause-held
write_past-requires-clause-held g c = let held = c.requires.held in (held.0, held.1, omega (arith, held.2))

pub open_gate-requires : goal.open_gate-requires
open_gate-requires g c = let held = c.requires.held in (written 1 c.args.header.now held.0, c.in_ok-write_past.ensures.ok held.0 held.1 (omega (arith, held.2)))

pub returns-in_err-write_past-clause-works : goal.returns-in_err-write_past-clause-works
returns-in_err-write_past-clause-works g c = λ b held long.
    let u = g.D.Disk.view c.args.disk.now in
    let v = g.D.Disk.view c.write_past.new.disk in
    let all = opened (written 1 c.args.header.now b) in
    let p = err_from_is_err_and c.from_residual.result c.from_residual.ensures.1 in
    works_exit (IsShutOr all) c.args.file.0 c.from_residual.result p.0 c.in_err-write_past.field-0.0 u v p.1 p.2
    (works_weaker IsShut (IsShutOr all) c.args.file.0 _ u v (λ i s. inl s) c.in_err-write_past.ensures.works)

pub returns-clause-works : goal.returns-clause-works
returns-clause-works g c = λ b held long.
    let u = g.D.Disk.view c.args.disk.now in
    let v = g.D.Disk.view c.write_past.new.disk in
    let w = g.D.Disk.view c.open_gate.new.disk in
    let all = opened (written 1 c.args.header.now b) in
    works_then (IsShutOr all) c.args.file.0 _ c.open_gate.result u v w held.bytes.live
    (works_weaker IsShut (IsShutOr all) c.args.file.0 _ u v (λ i s. inl s) c.in_ok-write_past.ensures.works)
    (c.open_gate.ensures.works (written 1 c.args.header.now b) (c.in_ok-write_past.ensures.ok b held (omega arith)))

pub returns-clause-ok : goal.returns-clause-ok
returns-clause-ok g c =
    on_ok c.open_gate.result (λ opened_ b held long. opened_ (written 1 c.args.header.now b) (c.in_ok-write_past.ensures.ok b held (omega arith)))
    c.open_gate.ensures.ok
