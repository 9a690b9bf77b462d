use Rattle.std.proofs.Common.{◌≡◌, ◌≤◌, ◌+◌, ◌^◌, ◌++◌, take, drop}
use Rattle.pos_rice.specs.Park.{steps_bits}
use Rattle.pos_rice.specs.Steps.{RiseFrom, last_from}
use Rattle.pos_rice.proofs.encode.put_steps.Given as goal

abbrev pub invariant-loop-number : goal.invariant-loop-number
invariant-loop-number l = record {
  written : l.writer ≡ l.fn.writer ++ steps_bits l.low l.first (take l.number-index l.numbers);
  before : l.before ≡ last_from l.first (take l.number-index l.numbers);
  from_first : l.first ≤ l.before;
  rest : RiseFrom (l.first + 2 ^ (63 + l.low)) l.before (drop l.number-index l.numbers);
}
