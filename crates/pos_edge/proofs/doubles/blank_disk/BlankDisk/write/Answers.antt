-- The handle's size has grown to the write's end.
use Rattle.pos_edge.proofs.Blanks.{sizes-grow}
use Rattle.pos_edge.proofs.doubles.blank_disk.BlankDisk.write.Goals as goal

pub returns-clause-sizes : goal.returns-clause-sizes
returns-clause-sizes c = rw (← c.self.view_is) (λ known is.
    sizes-grow c.self.inside.handles.items c.args.id c.index-handle.result.now known c.max-size.result c.args.end is c.index-handle.ensures c.max-size.ensures)
