use Rattle.std.proofs.Common.{arith}
use Rattle.pos_app.proofs.FarmTextLemmas.{plots-push}
use Rattle.pos_app.proofs.farm_lines.farm_text.Goals as goal

pub loop-i-preserved : goal.loop-i-preserved
loop-i-preserved c =
    plots-push _ _ c.loop-i.i c.args.answers.now c.index-answers-i.result (omega arith) c.index-answers-i.is c.loop-i.invariant c.in_ok-push_answer.ensures
