use Rattle.std.proofs.Common.{◌-◌, ◌≤◌, ◌^◌, ◌+◌, arith}
use Rattle.pos_tuple.proofs.StreamLemmas.{pow_mono}
use Rattle.pos_verify.proofs.LevelLemmas.{joined-next}
use Rattle.pos_verify.proofs.join_pairs.Goals as goal

pub loop-pair-preserved : goal.loop-pair-preserved
loop-pair-preserved c =
    let most : 2 ^ (6 - c.args.level) ≤ 2 ^ 5 = pow_mono (6 - c.args.level) 5 (omega arith) in (
      c.loop-pair.invariant.0,
      joined-next c.args.size (c.args.level + 1) c.loop-pair.pair c.args.entries.now c.loop-pair.entries c.in-Some.joined
          (omega arith) c.in-Some.ensures.joined c.in-Some.ensures.fits c.loop-pair.invariant.1,
    )
