use Rattle.std.proofs.Common.{◌≡◌, ◌≢◌, ◌<◌, ◌^◌, ℕ, Bool, List, ◌+◌, ◌-◌, ◌∷◌, ◌++◌, [], take, length, set, refl, sym, arith, take_all}
use Rattle.std.proofs.lemmas.List.{take_more_set, length-take-le}
use Rattle.pos_rice.specs.Park.{steps_bits}
use Rattle.pos_rice.specs.Steps.{RiseFrom}
use Rattle.pos_rice.proofs.StepLemmas.{IfNone-holds, steps_none, all_near, no_more, one_more, too_far}
use Rattle.pos_rice.proofs.decode.take_steps.Goals as goal

pub loop-place-init : goal.loop-place-init
loop-place-init c = record { read = sym (steps_none c.args.low c.args.first c.args.reader.now); rise = tt; last = refl; near = omega arith }

pub returns-in_err-last-clause-none : goal.returns-in_err-last-clause-none
returns-in_err-last-clause-none c =
    let so_far : length (take c.loop-place.place-index c.loop-place.out) ≡ c.loop-place.place-index = length-take-le c.loop-place.place-index c.loop-place.out (omega arith) in
    let none : (ms : List ℕ) (s : List Bool) → length ms ≡ length c.args.out.now → RiseFrom c.args.limit c.args.first ms → c.args.reader.now ≢ steps_bits c.args.low c.args.first ms ++ s =
    (λ ms s l p. no_more c.args.low (2 ^ 126) c.args.first c.loop-place.last (take c.loop-place.place-index c.loop-place.out) c.args.reader.now c.loop-place.reader
    c.loop-place.invariant.read c.loop-place.invariant.rise c.loop-place.invariant.last c.args.limit c.in_err-last.ensures.none ms s (omega (arith, so_far, l)) p) in
    IfNone-holds _ none

pub loop-place-preserved : goal.loop-place-preserved
loop-place-preserved c =
    let small : c.in_ok-last.field-0 < 2 ^ 126 - c.loop-place.last = omega (arith, c.in_ok-last.ensures.below, c.loop-place.invariant.near, c.requires.few, c.requires.first, c.requires.limit) in
    let taken = one_more c.args.low (2 ^ 126) c.args.first c.loop-place.last (take c.loop-place.place-index c.loop-place.out) c.args.reader.now c.loop-place.reader
    c.loop-place.invariant.read c.loop-place.invariant.rise c.loop-place.invariant.last c.in_ok-last.field-0 c.take_code.new.self c.in_ok-last.ensures.some small in
    let pushed : take (c.loop-place.place-index + 1) (set c.loop-place.out c.loop-place.place-index (c.loop-place.last + (c.in_ok-last.field-0 + 1)))
    ≡ take c.loop-place.place-index c.loop-place.out ++ (c.loop-place.last + (c.in_ok-last.field-0 + 1)) ∷ [] =
    take_more_set c.loop-place.out c.loop-place.place-index (c.loop-place.last + (c.in_ok-last.field-0 + 1)) (omega arith) in
    record {
      read = rw pushed taken.0;
      rise = rw pushed taken.1;
      last = rw pushed taken.2;
      near = omega (arith, c.in_ok-last.ensures.below, c.loop-place.invariant.near);
    }

pub returns-then-last-limit-clause-rise : goal.returns-then-last-limit-clause-rise
returns-then-last-limit-clause-rise c =
    let whole : take c.loop-place.place-index c.loop-place.out ≡ c.loop-place.out = take_all c.loop-place.place-index c.loop-place.out (omega arith) in
    rw whole at (all_near c.args.low (2 ^ 126) c.args.first c.loop-place.last (take c.loop-place.place-index c.loop-place.out) c.args.reader.now c.loop-place.reader
    c.loop-place.invariant.read c.loop-place.invariant.rise c.loop-place.invariant.last c.args.limit c.if-last-limit.true)

pub returns-else-last-limit-clause-none : goal.returns-else-last-limit-clause-none
returns-else-last-limit-clause-none c =
    let so_far : length (take c.loop-place.place-index c.loop-place.out) ≡ c.loop-place.place-index = length-take-le c.loop-place.place-index c.loop-place.out (omega arith) in
    λ ms s l p. too_far c.args.low (2 ^ 126) c.args.first c.loop-place.last (take c.loop-place.place-index c.loop-place.out) c.args.reader.now c.loop-place.reader
    c.loop-place.invariant.read c.loop-place.invariant.rise c.loop-place.invariant.last c.args.limit (omega (arith, c.requires.limit)) c.requires.first c.if-last-limit.false ms s
    (omega (arith, so_far, l)) p
