-- The files that are left stand without the one that was removed.
use Rattle.pos_edge.proofs.ScratchFiles.{Stand-remove, IsIn}
use Rattle.pos_edge.proofs.scratch.Scratch.remove.Goals as goal

pub returns-clause-stands : goal.returns-clause-stands
returns-clause-stands g c =
    let among : IsIn c.self.inside.left.items c.args.file.0 = rw (← c.self.view_is) at c.requires.left in
    rw (← c.self.view_is, c.forget.ensures) (Stand-remove c.self.inside.base.bytes.items c.self.inside.made c.args.file.0 c.self.inside.left.items (g.D.Disk.view c.args.disk.now) (g.D.Disk.view c.remove.new.self) (g.met.D.Disk.is_disk c.args.disk.now) among c.remove.ensures.kept.tells c.remove.ensures.ends)
