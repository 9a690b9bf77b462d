use Rattle.std.proofs.Common.{◌≡◌, ◌≤◌, true, false}
use Rattle.pos_runs.specs.Pages.{ListStands}
use Rattle.pos_list_uses.proofs.client.wrong_values.Given as goal

-- so many records were pushed
abbrev pub invariant-loop-x : goal.invariant-loop-x
invariant-loop-x g l = record {
  stands : ListStands 50 l.list (g.D.Disk.view l.disk);
  unsealed : l.list.is_sealed ≡ false;
  count : l.list.count ≡ l.x;
}

-- the list can be read
abbrev pub invariant-loop-i : goal.invariant-loop-i
invariant-loop-i g l = record {
  stands : ListStands 50 l.list (g.D.Disk.view l.disk);
  sealed : l.list.is_sealed ≡ true;
  count : l.list.count ≡ l.count;
  few : l.wrong ≤ l.i;
}
