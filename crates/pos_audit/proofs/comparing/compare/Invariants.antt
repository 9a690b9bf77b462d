-- All pages so far are the same.
use Rattle.std.proofs.Common.{◌≡◌, length}
use Rattle.pos_audit.specs.declared.comparing.TheConstants.{PAGE}
use Rattle.pos_audit.proofs.ComparingLemmas.{SameSoFar}
use Rattle.pos_audit.proofs.comparing.compare.Given as goal

abbrev pub invariant-loop-number : goal.invariant-loop-number
invariant-loop-number g l = record {
  far : SameSoFar l.found.0 l.want.0 l.number (g.D.Disk.view l.initial.disk) (g.D.Disk.view l.disk);
  page : length l.page ≡ PAGE;
  other : length l.other ≡ PAGE;
}
