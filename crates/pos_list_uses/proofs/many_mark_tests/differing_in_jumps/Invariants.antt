use Rattle.std.proofs.Common.{◌≡◌, ◌≤◌, ℕ, Bool, length}
use Rattle.pos_marks.specs.Marks.{AreSealed, Marked, place_count}
use Rattle.pos_list_uses.proofs.many_mark_tests.differing_in_jumps.Given as goal

-- the marks can be read, and no more places differ than were asked for
abbrev pub invariant-loop : goal.invariant-loop
invariant-loop g l = record {
  stands : (p : ℕ → Bool) × Marked l.marks p (g.D.Disk.view l.disk);
  sealed : AreSealed l.marks;
  places : place_count l.marks ≡ length l.noted;
  few : l.differing ≤ l.counter;
}
