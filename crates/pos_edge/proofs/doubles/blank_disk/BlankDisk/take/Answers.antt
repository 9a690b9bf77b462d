-- The handle has ended.
use Rattle.std.proofs.Common.{refl, false, None}
use Rattle.pos_edge.proofs.Blanks.{sizes-set}
use Rattle.pos_edge.proofs.doubles.blank_disk.BlankDisk.take.Goals as goal

pub returns-clause-sizes : goal.returns-clause-sizes
returns-clause-sizes c =
    let h = c.index-handle.result.now in
    rw (← c.self.view_is) (sizes-set c.self.inside.handles.items c.args.id (record { live = false; slot = h.slot; size = h.size }) None refl)
