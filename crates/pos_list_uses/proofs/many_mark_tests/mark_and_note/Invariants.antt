use Rattle.std.proofs.Common.{◌≡◌, ℕ, Bool, length}
use Rattle.pos_marks.specs.Marks.{AreUnsealed, Marked, place_count}
use Rattle.pos_list_uses.proofs.many_mark_tests.mark_and_note.Given as goal

-- more places can be marked
abbrev pub invariant-loop : goal.invariant-loop
invariant-loop g l = record {
  stands : (p : ℕ → Bool) × Marked l.marks p (g.D.Disk.view l.disk);
  unsealed : AreUnsealed l.marks;
  places : place_count l.marks ≡ length l.fn.noted;
  count : length l.noted ≡ length l.fn.noted;
}
