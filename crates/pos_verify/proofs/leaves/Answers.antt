use Rattle.std.proofs.Common.{◌∙◌, sym, ap, arith, Some}
use Rattle.std.proofs.lemmas.List.{length-set}
use Rattle.pos_verify.proofs.LevelLemmas.{node-one, are_nodes-push, all_fit-push}
use Rattle.pos_verify.proofs.leaves.Goals as goal

pub loop-i-preserved : goal.loop-i-preserved
loop-i-preserved c =
    let node = node-one c.args.id.now.0 c.args.size c.loop-i.i c.args.values.now (omega arith) (c.requires c.loop-i.i 0 (omega arith)) in (
      length-set c.loop-i.entries c.loop-i.i _ ∙ c.loop-i.invariant.0,
      are_nodes-push c.args.id.now.0 c.args.size 0 c.loop-i.i c.args.values.now c.loop-i.entries _ (omega (arith, c.loop-i.invariant.0)) (ap Some c.first.ensures.entry ∙ sym node) c.loop-i.invariant.1,
      all_fit-push c.args.size 1 c.loop-i.i c.loop-i.entries _ (omega (arith, c.loop-i.invariant.0)) (record { y = c.first.ensures.y; metadata = c.first.ensures.meta }) c.loop-i.invariant.2,
    )

pub returns-clause-fit : goal.returns-clause-fit
returns-clause-fit c = λ q e below is. c.loop-i.invariant.2 q e (omega arith) is
