use Rattle.std.proofs.Common.{◌≡◌, ◌≤◌, ◌^◌, length, arith, ap}
use Rattle.pos_forward.specs.declared.waiting.Waiting.{Waiting}
use Rattle.pos_forward.proofs.TakenLemmas.{has-overfull, right-end}
use Rattle.pos_forward.proofs.matcher.Matcher.close.Goals as goal

pub test_room-requires : goal.test_room-requires
test_room-requires c = record { few = (c.in_ok-join.ensures.joined c.requires.taken.es c.requires.taken.matched).few.few }

pub turn-requires-clause-room : goal.turn-requires-clause-room
turn-requires-clause-room c =
    let m = c.join.new.self in
    let has = c.in_ok-join.ensures.joined c.requires.taken.es c.requires.taken.matched in
    let end = right-end c.args.size c.args.t c.requires.taken.es has.before m.left m.right has.taken in
    let few : length c.requires.taken.es ≤ 2 ^ 52 = c.requires.taken.few in
    omega (arith, end, few)

pub returns-in_err-test_room-clause-full : goal.returns-in_err-test_room-clause-full
returns-in_err-test_room-clause-full c = λ is es h.
    has-overfull c.args.size c.args.t c.args.capacity es (length es) c.join.new.self c.join.new.drafts (c.in_ok-join.ensures.joined es h)
    c.in_err-test_room.ensures.full

pub returns-clause-closed : goal.returns-clause-closed
returns-clause-closed c = λ es h.
    c.turn.ensures.pairs c.args.size c.args.t es c.join.new.drafts (c.in_ok-join.ensures.joined es h)

pub returns-clause-within : goal.returns-clause-within
returns-clause-within c =
    let same : c.turn.new.self.waiting.count ≡ c.join.new.self.waiting.count = ap (λ (w : Waiting). w.count) c.turn.ensures.waiting in
    omega (arith, c.in_ok-test_room.ensures, same)
