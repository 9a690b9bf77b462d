use Rattle.std.proofs.Common.{◌≡◌, ℕ, Bool}
use Rattle.pos_marks.specs.Marks.{AreSealed, Marked, marks_file, place_count}
use Rattle.pos_list_uses.proofs.mark_tests.marked_of_ten.Given as goal

-- the marks can be read
abbrev pub invariant-loop-i : goal.invariant-loop-i
invariant-loop-i g l = record {
  stands : (p : ℕ → Bool) × Marked l.marks p (g.D.Disk.view l.disk);
  sealed : AreSealed l.marks;
  places : place_count l.marks ≡ 10;
  file : marks_file l.marks ≡ marks_file l.fn.marks;
}
