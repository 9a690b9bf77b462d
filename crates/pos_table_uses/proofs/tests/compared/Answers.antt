use Rattle.pos_prune.proofs.PassLemmas.{reads_then}
use Rattle.pos_table_uses.proofs.tests.compared.Goals as goal

pub returns : goal.returns
returns g c =
    reads_then (g.D.Disk.view c.args.disk.now) (g.D.Disk.view c.differing.new.disk) (g.D.Disk.view c.rank.new.disk) c.in_ok-differing.ensures.only c.in_ok-marked.ensures.only_reads
