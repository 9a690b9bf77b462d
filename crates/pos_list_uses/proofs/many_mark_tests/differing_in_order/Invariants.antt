use Rattle.std.proofs.Common.{◌≡◌, ◌≤◌, ℕ, Bool, length}
use Rattle.pos_marks.specs.Marks.{AreSealed, Marked, place_count}
use Rattle.pos_list_uses.proofs.many_mark_tests.differing_in_order.Given as goal

-- the marks can be read, and no more places were asked for than there are before this one
abbrev pub invariant-loop-i : goal.invariant-loop-i
invariant-loop-i g l = record {
  stands : (p : ℕ → Bool) × Marked l.marks p (g.D.Disk.view l.disk);
  sealed : AreSealed l.marks;
  places : place_count l.marks ≡ length l.noted;
  few : l.asked ≤ l.i;
  fewer : l.differing ≤ l.asked;
}
