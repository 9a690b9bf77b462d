use Rattle.std.proofs.Common.{sym}
use Rattle.pos_forward.proofs.TakenLemmas.{same-bucket}
use Rattle.pos_forward.proofs.matcher.Matcher.make_way.Goals as goal

pub returns-then-number-self-clause-ready : goal.returns-then-number-self-clause-ready
returns-then-number-self-clause-ready c = λ es h rise.
    (h.has, same-bucket c.args.size c.args.t es c.args.self.now c.args.drafts.now c.args.y h rise c.if-number-self.true)

pub returns-clause-ready : goal.returns-clause-ready
returns-clause-ready c = λ es h rise. (c.in_ok-close.ensures.closed es h, sym c.in_ok-close.ensures.next)
