-- The first of the offers that the answers so far name is kept.
use Rattle.std.proofs.Common.{take}
use Rattle.pos_farm.specs.Offers.{IsFirstOf}
use Rattle.pos_farm.specs.PlotAnswers.{bests_from}
use Rattle.pos_farm.proofs.farming.best.Given as goal

abbrev pub invariant-loop-i : goal.invariant-loop-i
invariant-loop-i l = IsFirstOf (bests_from 0 (take l.i l.answers)) l.best
