-- A write past the gate of a file with a closed gate.
use Rattle.std.proofs.Common.{length}
use Rattle.pos_gate.proofs.GateLemmas.{HoldsShut-write, on_ok}
use Rattle.pos_gate.proofs.WorksLemmas.{shut_write}
use Rattle.pos_gate.proofs.writing.write_past.Goals as goal

pub returns-clause-works : goal.returns-clause-works
returns-clause-works g c =
    let held = c.requires.held in
    shut_write c.args.file.0 c.args.at (length c.args.piece.now) held.0 c.write.result (g.D.Disk.view c.args.disk.now) (g.D.Disk.view c.write.new.disk) c.requires.behind held.1 c.write.ensures.works

pub returns-clause-ok : goal.returns-clause-ok
returns-clause-ok g c =
    on_ok c.write.result (λ wrote b held within.
    HoldsShut-write c.args.file.0 c.args.at c.args.piece.now b (g.D.Disk.view c.args.disk.now) (g.D.Disk.view c.write.new.disk) c.requires.behind within held c.write.ensures.works.kept c.write.ensures.works.images wrote)
    c.write.ensures.ok
