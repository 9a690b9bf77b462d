use Rattle.pos_relocate.specs.Numbers.{numbers_of}
use Rattle.pos_relocate.proofs.BlockLemmas.{UnpackedSoFar}
use Rattle.pos_relocate.proofs.blocks.unpack.Given as goal

abbrev pub invariant-loop-i : goal.invariant-loop-i
invariant-loop-i g l = UnpackedSoFar g.row.K l.fn.t l.fn.from l.i (numbers_of l.below) l.initial.pairs.items l.pairs.items l.initial.chosen l.chosen l.initial.tables l.tables
    (g.D.Disk.view l.initial.disk) (g.D.Disk.view l.disk)
