-- All tables so far are placed, and where the last of them ends.
use Rattle.std.proofs.Common.{◌≡◌, ℕ, ◌-◌, ◌<◌, ◌≤◌, true}
use Rattle.pos_layout.specs.Fields.{end_of}
use Rattle.pos_layout.specs.Damages.{is_placed}
use Rattle.pos_reader.proofs.header.test_directories.Given as goal

abbrev pub invariant-loop-table : goal.invariant-loop-table
invariant-loop-table l = record {
  ends : l.end ≡ end_of l.header.layout l.header (l.table - 1);
  placed : (t : ℕ) → 1 ≤ t → t < l.table → is_placed l.header.layout l.header t ≡ true;
}
