use Rattle.std.proofs.Common.{◌≡◌}
use Rattle.pos_layout.specs.Drafts.{Draft, Stands}
use Rattle.pos_file_uses.proofs.writer_tests.write_table.Given as goal

abbrev pub invariant-loop-number : goal.invariant-loop-number
invariant-loop-number g l = ((p : Draft) × Stands l.writer p (g.D.Disk.view l.disk)) × (l.writer.columns ≡ l.initial.writer.columns) × (l.writer.size ≡ l.initial.writer.size) × (l.writer.count ≡ l.number) × (l.writer.least ≡ l.number)
