use Rattle.std.proofs.Common.{take, fold}
use Rattle.pos_edge.specs.Log.{never}
use Rattle.pos_edge.specs.Histories.{IsReplayedFile, seen_at}
use Rattle.pos_edge.proofs.doubles.history.replay_of.Given as goal

abbrev pub invariant-loop-entry : goal.invariant-loop-entry
invariant-loop-entry l = IsReplayedFile l.writes (fold (seen_at l.slot) never (take l.entry-index l.log)).file l.replay
