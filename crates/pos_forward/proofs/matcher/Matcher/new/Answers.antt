use Rattle.pos_forward.proofs.ReadyLemmas.{is-ready}
use Rattle.pos_forward.proofs.matcher.Matcher.new.Goals as goal

pub returns : goal.returns
returns c = is-ready _ c.new-4.ensures c.new-5.ensures c.in_ok-new-2.ensures c.new-6.ensures.none c.new-6.ensures.room
