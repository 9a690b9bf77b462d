use Rattle.std.proofs.Common.{◌≡◌, ◌-◌, length}
use Rattle.pos_runs.specs.Runs.{pages_at}
use Rattle.pos_table_uses.specs.Reading.{HasRead}
use Rattle.pos_table_uses.proofs.tests.named_by.Given as goal

-- the tables were only read
abbrev pub invariant-loop-i : goal.invariant-loop-i
invariant-loop-i g l = record {
  read : HasRead g.row.K l.fn.tables l.tables (g.D.Disk.view l.fn.disk) (g.D.Disk.view l.disk);
  count : length l.noted.items ≡ (pages_at l.fn.tables (l.fn.t - 1 - 1)).count;
}
