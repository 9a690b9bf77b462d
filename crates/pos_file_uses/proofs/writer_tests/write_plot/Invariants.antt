use Rattle.std.proofs.Common.{◌≡◌, length}
use Rattle.pos_layout.specs.Drafts.{Draft, Stands}
use Rattle.pos_file_uses.proofs.writer_tests.write_plot.Given as goal

abbrev pub invariant-loop-count : goal.invariant-loop-count
invariant-loop-count g l = ((p : Draft) × Stands l.writer p (g.D.Disk.view l.disk)) × (length l.writer.columns ≡ l.count-index) × (l.writer.size ≡ l.fn.size) × (l.writer.count ≡ 0) × (l.writer.least ≡ 0)
