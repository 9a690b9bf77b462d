use Rattle.std.proofs.Common.{◌++◌, ◌∷◌, [], arith}
use Rattle.pos_forward.proofs.GatherLemmas.{more-waits, more-fit, eight-made, length-made}
use Rattle.pos_forward.proofs.ReadyLemmas.{few-none}
use Rattle.pos_forward.proofs.waiting.Waiting.add.Goals as goal

pub returns-then-self-lt-EIGHT-clause-few : goal.returns-then-self-lt-EIGHT-clause-few
returns-then-self-lt-EIGHT-clause-few c = record {
  few = omega arith;
  room = c.put.ensures.room;
  fit = more-fit c.args.size c.args.t c.args.left.now c.args.right.now c.args.pair c.args.self.now c.put.new.self c.put.ensures c.requires.left c.requires.right c.requires.few.fit;
}

pub returns-then-self-lt-EIGHT-clause-gathered : goal.returns-then-self-lt-EIGHT-clause-gathered
returns-then-self-lt-EIGHT-clause-gathered c = λ es pairs left right h.
    more-waits c.args.size c.args.t es pairs c.args.left.now c.args.right.now c.args.pair c.args.self.now c.put.new.self c.args.drafts.now c.put.ensures left right h

pub make_eight-requires-clause-fit : goal.make_eight-requires-clause-fit
make_eight-requires-clause-fit c =
    more-fit c.args.size c.args.t c.args.left.now c.args.right.now c.args.pair c.args.self.now c.put.new.self c.put.ensures c.requires.left c.requires.right c.requires.few.fit

pub returns-clause-few : goal.returns-clause-few
returns-clause-few c = few-none c.args.size c.args.t c.make_eight.new.self c.in_ok-make_eight.ensures.made.none c.in_ok-make_eight.ensures.made.room

pub returns-clause-gathered : goal.returns-clause-gathered
returns-clause-gathered c = λ es pairs left right h.
    eight-made c.args.size c.args.t es (pairs ++ c.args.pair ∷ []) c.put.new.self c.make_eight.new.self c.args.drafts.now c.make_eight.new.drafts
    c.put.ensures.room (omega arith) c.in_ok-make_eight.ensures.made
    (more-waits c.args.size c.args.t es pairs c.args.left.now c.args.right.now c.args.pair c.args.self.now c.put.new.self c.args.drafts.now c.put.ensures left right h)

pub returns-clause-lanes : goal.returns-clause-lanes
returns-clause-lanes c = λ base h.
    omega (arith, c.in_ok-make_eight.ensures.lanes, length-made c.args.size c.args.t c.put.new.self c.make_eight.new.self c.args.drafts.now c.make_eight.new.drafts c.put.ensures.room (omega arith) c.in_ok-make_eight.ensures.made)
