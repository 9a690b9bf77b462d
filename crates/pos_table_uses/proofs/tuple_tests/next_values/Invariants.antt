use Rattle.pos_lists.specs.TableLists.{TableLists}
use Rattle.pos_runs.specs.Runs.{TablesStand}
use Rattle.pos_prune.specs.Passes.{SameLists}
use Rattle.pos_table_uses.proofs.tuple_tests.next_values.Given as goal

-- the tables can be read
abbrev pub invariant-loop-i : goal.invariant-loop-i
invariant-loop-i g l = record {
  stands : (ts : TableLists) × TablesStand g.row.K l.tables ts (g.D.Disk.view l.disk);
  lists : SameLists l.fn.tables l.tables;
}
