-- The file was read up to a place, and what stands before it are the lines of the names so far.
use Rattle.std.proofs.Common.{◌≡◌, ◌≤◌, ℕ, List, Some, length, map, string_bytes}
use Rattle.pos_edge.specs.Frame.{NameOf, SameFaults}
use Rattle.pos_reader.specs.Plots.{OnlyReads}
use Rattle.pos_farm.specs.Steps.{IsReadTo}
use Rattle.pos_farm.proofs.list.read_names.Given as goal

abbrev pub invariant-loop-line : goal.invariant-loop-line
invariant-loop-line g l = record {
  as_many : length l.names.items ≡ l.line;
  within : l.at ≤ (g.D.Disk.view l.initial.disk).size_of l.file.0;
  reads : OnlyReads l.line (g.D.Disk.view l.initial.disk) (g.D.Disk.view l.disk);
  quiet : SameFaults (g.D.Disk.view l.initial.disk) (g.D.Disk.view l.disk);
  read : (name b : List ℕ) → NameOf l.file.0 (g.D.Disk.view l.initial.disk) name → (g.D.Disk.view l.initial.disk).contents name ≡ Some b
      → (g.D.Disk.view l.initial.disk).size_of l.file.0 ≡ length b → IsReadTo b l.at (map string_bytes l.names.items);
}
