use Rattle.std.proofs.Common.{map, take}
use Rattle.pos_edge.specs.Frame.{SameFaults}
use Rattle.pos_forward.specs.Storing.{AreListWrites, HaveMore}
use Rattle.pos_forward.proofs.store.push_all.Given as goal

-- so many rows were pushed
abbrev pub invariant-loop-i : goal.invariant-loop-i
invariant-loop-i g l = record {
  writes : AreListWrites l.initial.first l.first l.initial.second l.second (g.D.Disk.view l.initial.disk) (g.D.Disk.view l.disk);
  more : HaveMore g.R.Record.read g.R.Record.bit_count g.S.Record.read g.S.Record.bit_count l.initial.first l.first l.initial.second l.second
      (map g.R.MadeOf.made_of (take l.i (g.W.Rows.rows l.rows))) (map g.S.MadeOf.made_of (take l.i (g.W.Rows.rows l.rows))) (g.D.Disk.view l.initial.disk) (g.D.Disk.view l.disk);
  quiet : SameFaults (g.D.Disk.view l.initial.disk) (g.D.Disk.view l.disk);
}
