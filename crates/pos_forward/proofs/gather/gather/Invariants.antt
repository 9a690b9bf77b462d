use Rattle.std.proofs.Common.{◌≡◌}
use Rattle.pos_forward.specs.Eights.{CountsEights}
use Rattle.pos_forward.specs.Gathering.{IsGathering}
use Rattle.pos_forward.proofs.gather.gather.Given as goal

-- so many rows were read, and their entries are taken
abbrev pub invariant-loop-i : goal.invariant-loop-i
invariant-loop-i g l = record {
  gathering : IsGathering l.size l.t g.R.Stored.entry g.R.Record.read g.R.Record.bit_count l.initial.rows l.rows l.i l.least l.room.matcher l.room.drafts (g.D.Disk.view l.initial.disk) (g.D.Disk.view l.disk);
  capacity : l.room.capacity ≡ l.initial.room.capacity;
  eights : CountsEights l.initial.lanes l.lanes l.room.drafts;
}
