use Rattle.pos_forward.proofs.TakenLemmas.{taken-one}
use Rattle.pos_forward.proofs.matcher.Matcher.take.Goals as goal

pub returns-clause-taken : goal.returns-clause-taken
returns-clause-taken c = λ es h rise.
    let ready = c.in_ok-make_way.ensures.ready es h rise in
    taken-one c.args.size c.args.t es c.args.entry.now c.make_way.new.self c.add.new.self c.make_way.new.drafts
    ready.0 c.in_ok-add.ensures c.requires.next.entry rise ready.1 c.in_ok-make_way.ensures.small
