use Rattle.std.proofs.Common.{◌≡◌, ◌/◌, ◌%◌, ◌<◌, length, arith}
use Rattle.pos_forward.proofs.GatherLemmas.{rest-made, length-made}
use Rattle.pos_forward.proofs.ReadyLemmas.{is-ready}
use Rattle.pos_forward.proofs.TakenLemmas.{all-pairs}
use Rattle.pos_forward.proofs.matcher.Matcher.finish.Goals as goal

pub close-requires-clause-small : goal.close-requires-clause-small
close-requires-clause-small c = omega (arith, c.requires.taken.matched.small)

pub make_rest-requires-clause-few : goal.make_rest-requires-clause-few
make_rest-requires-clause-few c = (c.in_ok-close.ensures.closed c.requires.taken.es c.requires.taken.matched).few

pub returns-clause-made : goal.returns-clause-made
returns-clause-made c = λ es h.
    let has = c.in_ok-close.ensures.closed es h in
    rest-made c.args.size c.args.t es has.done c.close.new.self.waiting c.make_rest.new.self c.close.new.drafts c.make_rest.new.drafts
    c.in_ok-make_rest.ensures has.gathered (all-pairs c.args.size c.args.t es c.close.new.self c.close.new.drafts has c.in_ok-close.ensures.empty)

pub returns-clause-within : goal.returns-clause-within
returns-clause-within c =
    let has = c.in_ok-close.ensures.closed c.requires.taken.es c.requires.taken.matched in
    let few : c.close.new.self.waiting.count < 8 = has.few.few in
    omega (
      arith,
      c.in_ok-close.ensures.within,
      length-made c.args.size c.args.t c.close.new.self.waiting c.make_rest.new.self c.close.new.drafts c.make_rest.new.drafts has.few.room (omega arith) c.in_ok-make_rest.ensures,
    )

pub returns-clause-ready : goal.returns-clause-ready
returns-clause-ready c =
    let has = c.in_ok-close.ensures.closed c.requires.taken.es c.requires.taken.matched in
    is-ready _ c.begin.ensures c.begin-2.ensures has.clear c.in_ok-make_rest.ensures.none c.in_ok-make_rest.ensures.room

pub returns-clause-lanes : goal.returns-clause-lanes
returns-clause-lanes c = λ base h.
    let has = c.in_ok-close.ensures.closed c.requires.taken.es c.requires.taken.matched in
    let few : c.close.new.self.waiting.count < 8 = has.few.few in
    let eights : length c.close.new.drafts % 8 ≡ 0 = has.gathered.eights in
    let counts = c.in_ok-close.ensures.lanes base h in
    let len = length-made c.args.size c.args.t c.close.new.self.waiting c.make_rest.new.self c.close.new.drafts c.make_rest.new.drafts has.few.room (omega arith) c.in_ok-make_rest.ensures in
    let same : length c.make_rest.new.drafts / 8 ≡ length c.close.new.drafts / 8 = omega arith in
    omega (arith, counts)
