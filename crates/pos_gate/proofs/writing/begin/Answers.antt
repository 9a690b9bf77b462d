-- The gate is written and synced: at each exit what was done so far.
use Rattle.std.proofs.Common.{refl, [], ◌∷◌}
use Rattle.std.proofs.lemmas.Result.{err_from_is_err_and}
use Rattle.pos_gate.specs.Gates.{IsTiny}
use Rattle.pos_gate.proofs.GateLemmas.{begun_shut, on_ok}
use Rattle.pos_gate.proofs.WorksLemmas.{works_exit, tiny_write, tiny_sync}
use Rattle.pos_gate.proofs.writing.begin.Goals as goal

pub returns-in_err-write-clause-works : goal.returns-in_err-write-clause-works
returns-in_err-write-clause-works g c =
    let u = g.D.Disk.view c.args.disk.now in
    let v = g.D.Disk.view c.write.new.disk in
    let p = err_from_is_err_and c.from_residual.result c.from_residual.ensures.1 in
    works_exit IsTiny c.args.file.0 c.from_residual.result p.0 c.in_err-write.field-0.0 u v p.1 p.2
    (tiny_write c.args.file.0 _ u v c.requires c.in_err-write.ensures.works)

pub returns-clause-works : goal.returns-clause-works
returns-clause-works g c =
    let u = g.D.Disk.view c.args.disk.now in
    let v = g.D.Disk.view c.write.new.disk in
    let w = g.D.Disk.view c.sync.new.disk in
    tiny_sync c.args.file.0 _ c.sync.result u v w c.requires c.in_ok-write.ensures.works c.sync.ensures.works

pub returns-clause-ok : goal.returns-clause-ok
returns-clause-ok g c =
    let u = g.D.Disk.view c.args.disk.now in
    let v = g.D.Disk.view c.write.new.disk in
    let w = g.D.Disk.view c.sync.new.disk in
    on_ok c.sync.result (λ synced.
    begun_shut c.args.file.0 (0 ∷ []) u v w refl c.requires c.write.ensures.works.kept c.in_ok-write.ensures.ok c.sync.ensures.works.kept c.sync.ensures.size c.sync.ensures.contents synced)
    c.sync.ensures.ok
