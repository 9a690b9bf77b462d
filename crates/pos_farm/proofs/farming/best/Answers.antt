-- One answer more.
use Rattle.pos_farm.proofs.FarmLemmas.{best_taken}
use Rattle.std.proofs.Common.{arith}
use Rattle.pos_farm.proofs.farming.best.Goals as goal

pub loop-i-preserved : goal.loop-i-preserved
loop-i-preserved c =
    best_taken c.args.answers.now c.loop-i.i c.loop-i.best c.better_plot-best.result c.index-answers-i.result c.best_in.result (omega arith)
    c.index-answers-i.is c.best_in.ensures c.better_plot-best.ensures c.loop-i.invariant
