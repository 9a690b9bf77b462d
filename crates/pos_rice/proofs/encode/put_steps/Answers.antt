use Rattle.std.proofs.Common.{◌≡◌, ◌+◌, ◌^◌, ◌∷◌, ◌++◌, [], take, drop, get_or, refl, sym, arith}
use Rattle.std.proofs.lemmas.List.{append-nil, take_more, drop_more}
use Rattle.pos_rice.specs.Park.{steps_bits}
use Rattle.pos_rice.specs.Steps.{RiseFrom}
use Rattle.pos_rice.proofs.StepLemmas.{put_more, high_fits, last_from-push}
use Rattle.pos_rice.proofs.encode.put_steps.Goals as goal

pub loop-number-init : goal.loop-number-init
unfolding steps_bits
loop-number-init c = record { written = sym (append-nil c.args.writer.now); before = refl; from_first = omega arith; rest = c.requires.near }

pub put_code-requires-clause-run_fits : goal.put_code-requires-clause-run_fits
put_code-requires-clause-run_fits c =
    let dropped = drop_more c.args.numbers.now c.loop-number.number-index 0 c.loop-number-test.true in
    let rest : RiseFrom (c.args.first + 2 ^ (63 + c.args.low)) c.loop-number.before (get_or c.args.numbers.now c.loop-number.number-index 0 ∷ drop (c.loop-number.number-index + 1) c.args.numbers.now) =
    rw dropped at c.loop-number.invariant.rest in
    let fits = high_fits c.args.low c.loop-number.before c.args.first (get_or c.args.numbers.now c.loop-number.number-index 0) _ c.loop-number.invariant.from_first rest in
    omega (arith, fits)

pub loop-number-preserved : goal.loop-number-preserved
loop-number-preserved c =
    let dropped = drop_more c.args.numbers.now c.loop-number.number-index 0 c.loop-number-test.true in
    let rest : RiseFrom (c.args.first + 2 ^ (63 + c.args.low)) c.loop-number.before (get_or c.args.numbers.now c.loop-number.number-index 0 ∷ drop (c.loop-number.number-index + 1) c.args.numbers.now) =
    rw dropped at c.loop-number.invariant.rest in
    let pushed : take (c.loop-number.number-index + 1) c.args.numbers.now ≡ take c.loop-number.number-index c.args.numbers.now ++ get_or c.args.numbers.now c.loop-number.number-index 0 ∷ [] =
    take_more c.args.numbers.now c.loop-number.number-index 0 c.loop-number-test.true in
    record {
      written = rw pushed (put_more c.args.low c.args.first c.loop-number.before (get_or c.args.numbers.now c.loop-number.number-index 0) (take c.loop-number.number-index c.args.numbers.now)
          c.args.writer.now c.loop-number.writer c.put_code.new.self c.loop-number.invariant.written c.loop-number.invariant.before c.in_ok-put_code.ensures.ok);
      before = rw pushed (sym (last_from-push c.args.first (take c.loop-number.number-index c.args.numbers.now) (get_or c.args.numbers.now c.loop-number.number-index 0)));
      from_first = omega (arith, rest.0, c.loop-number.invariant.from_first);
      rest = rest.2;
    }
