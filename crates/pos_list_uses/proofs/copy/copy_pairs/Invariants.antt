use Rattle.std.proofs.Common.{◌≡◌}
use Rattle.pos_list_uses.proofs.UsesLemmas.{AreCopied}
use Rattle.pos_list_uses.proofs.copy.copy_pairs.Given as goal

-- i pairs are copied, of as many as the list has
abbrev pub invariant-loop-i : goal.invariant-loop-i
invariant-loop-i g l = record {
  copied : AreCopied g.row.K l.i l.initial.from l.from l.initial.to l.to (g.D.Disk.view l.initial.disk) (g.D.Disk.view l.disk);
  end : l.i-end ≡ l.initial.from.count;
}
