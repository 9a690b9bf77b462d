use Rattle.pos_lists.specs.TableLists.{TableLists}
use Rattle.pos_runs.specs.Runs.{TablesStand}
use Rattle.pos_table_uses.proofs.tuple_tests.agreeing.Given as goal

-- the tables can be read
abbrev pub invariant-loop-level : goal.invariant-loop-level
invariant-loop-level g l = (ts : TableLists) × TablesStand g.row.K l.tables ts (g.D.Disk.view l.disk)
