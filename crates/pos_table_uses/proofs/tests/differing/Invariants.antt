use Rattle.std.proofs.Common.{◌≡◌, ◌≤◌, ℕ, Bool, length}
use Rattle.pos_edge.specs.Frame.{ReadsOnly}
use Rattle.pos_marks.specs.Marks.{AreSealed, Marked, place_count}
use Rattle.pos_table_uses.proofs.tests.differing.Given as goal

-- the marks can be read, and no more places differ than were asked
abbrev pub invariant-loop-i : goal.invariant-loop-i
invariant-loop-i g l = record {
  only : ReadsOnly (g.D.Disk.view l.fn.disk) (g.D.Disk.view l.disk);
  stands : (p : ℕ → Bool) × Marked l.marks p (g.D.Disk.view l.disk);
  sealed : AreSealed l.marks;
  places : place_count l.marks ≡ length l.noted;
  few : l.differing ≤ l.i;
}
