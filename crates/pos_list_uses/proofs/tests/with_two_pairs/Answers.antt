use Rattle.std.proofs.Common.{◌+◌}
use Rattle.pos_edge.specs.ScratchWork.{IsNameBetween}
use Rattle.pos_list_uses.proofs.UsesLemmas.{stands-made}
use Rattle.pos_list_uses.proofs.tests.with_two_pairs.Goals as goal

pub returns-clause-read : goal.returns-clause-read
returns-clause-read g c = record {
  stands =
      stands-made 26 c.new-7.new.scratch c.seal.new.self c.in_ok-p7.p7 (IsNameBetween c.new-7.new.scratch.base c.new-7.new.scratch.made (c.new-8.new.scratch.made + 1)) (g.D.Disk.view c.seal.new.disk)
      (g.D.Disk.view c.new-8.new.disk) c.new-8.ensures.work.kept c.in_ok-p7.ensures.ok c.in_ok-seal.ensures.stands;
  sealed = c.in_ok-seal.ensures.sealed.is_sealed;
}
