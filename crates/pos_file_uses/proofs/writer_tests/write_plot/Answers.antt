use Rattle.pos_layout.proofs.ShutLemmas.{created_is_fresh}
use Rattle.pos_file_uses.proofs.writer_tests.write_plot.Goals as goal

pub begin-requires-clause-fresh : goal.begin-requires-clause-fresh
begin-requires-clause-fresh g c =
    created_is_fresh _ _ (g.D.Disk.view c.args.disk.now) (g.D.Disk.view c.create.new.self) (g.met.D.Disk.is_disk c.create.new.self) c.create.ensures.kept.clock c.in-Ok.ensures.ok
