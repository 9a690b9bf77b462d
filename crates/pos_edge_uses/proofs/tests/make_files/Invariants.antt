use Rattle.std.proofs.Common.{◌≡◌, ◌+◌}
use Rattle.pos_edge.specs.ScratchNames.{StandsOn}
use Rattle.pos_edge_uses.proofs.tests.make_files.Given as goal

abbrev pub invariant-loop-i : goal.invariant-loop-i
invariant-loop-i g l = (l.scratch.made ≡ l.initial.scratch.made + l._i) × StandsOn l.scratch (g.D.Disk.view l.disk)
