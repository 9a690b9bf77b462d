use Rattle.std.proofs.Common.{◌≡◌, List, ◌++◌, vec_len}
use Rattle.pos_edge.specs.declared.scratch.ScratchFile.{ScratchFile}
use Rattle.pos_edge.specs.ScratchNames.{Stand}
use Rattle.pos_edge.proofs.ScratchFiles.{HasCleared}
use Rattle.pos_edge.proofs.scratch.Scratch.clear.Given as goal

abbrev pub invariant-loop-last : goal.invariant-loop-last
invariant-loop-last g l = (l.self-inside.base.bytes.items ≡ l.initial.self-inside.base.bytes.items) × (l.self-inside.made ≡ l.initial.self-inside.made) × ((rest : List ScratchFile) × (l.initial.self-inside.left.items ≡ l.self-inside.left.items ++ rest) × HasCleared l.initial.self-inside.base.bytes.items rest l.all (g.D.Disk.view l.initial.disk) (g.D.Disk.view l.disk)) × Stand l.initial.self-inside.base.bytes.items l.initial.self-inside.made l.self-inside.left.items (g.D.Disk.view l.disk)

abbrev pub decreases-loop-last : goal.decreases-loop-last
decreases-loop-last g l = vec_len l.self-inside.left
