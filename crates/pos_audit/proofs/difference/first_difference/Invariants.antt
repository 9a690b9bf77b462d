-- Both lists are the same before the place.
use Rattle.std.proofs.Common.{◌≡◌, take}
use Rattle.pos_audit.proofs.difference.first_difference.Given as goal

abbrev pub invariant-loop-place : goal.invariant-loop-place
invariant-loop-place l = take l.place l.found ≡ take l.place l.want
