-- The mark decides where neither the length nor the gate does.
use Rattle.std.proofs.Common.{arith}
use Rattle.pos_gate.proofs.LookLemmas.{front_unfinished}
use Rattle.pos_gate.proofs.looking.begins_unfinished.Goals as goal

pub returns : goal.returns
returns c = λ b is.
    front_unfinished b c.args.front.now c.args.mark.now c.eq.result is (omega arith) c.if-front-eq0.false c.eq.ensures
