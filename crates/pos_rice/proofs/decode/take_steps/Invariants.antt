use Rattle.std.proofs.Common.{◌≡◌, ◌+◌, ◌*◌, ◌^◌, ◌≤◌, ◌++◌, take}
use Rattle.pos_rice.specs.Park.{steps_bits}
use Rattle.pos_rice.specs.Steps.{RiseFrom, last_from}
use Rattle.pos_rice.proofs.decode.take_steps.Given as goal

-- each step is below 2 ^ 113, so the numbers stay below 2 ^ 126 whatever the limit
abbrev pub invariant-loop-place : goal.invariant-loop-place
invariant-loop-place l = record {
  read : l.fn.reader ≡ steps_bits l.low l.first (take l.place-index l.out) ++ l.reader;
  rise : RiseFrom (2 ^ 126) l.first (take l.place-index l.out);
  last : l.last ≡ last_from l.first (take l.place-index l.out);
  near : l.last ≤ l.first + 2 ^ 113 * l.place-index;
}
