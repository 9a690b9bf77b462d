-- The tests of a park, one after another.
use Rattle.std.proofs.Common.{◌≡◌, ◌+◌, ◌/◌, ◌^◌, true, take, slice_index, ℕ, ap₂, sym, ◌∙◌, arith, ◌<◌}
use Rattle.std.proofs.lemmas.List.{get_or-take}
use Rattle.pos_lists.specs.PlotLists.{f7_in}
use Rattle.pos_reader.proofs.EntryLemmas.{listed_means, park_some, park_few}
use Rattle.pos_reader.proofs.ParkLemmas.{is_digest, numbers-digest, numbers-form, numbers-head, numbers-all, headed_elsewhere, headed_right, headed_wrong}
use Rattle.pos_layout.specs.Fields.{count_of}
use Rattle.pos_layout.specs.Layouts.{park_count}
use Rattle.pos_reader.proofs.park.park_numbers.Goals as goal
use Rattle.pos_reader.proofs.park.park_numbers.Goals.{Else-not-is_digested, In-Ok, else-t-eq7-via-then-t-eq7+else-from-numbers, else-t-eq7-via-else-t-eq7}

counted : (c : Else-not-is_digested) → c.args.entry.now.count ≡ park_count c.args.header.now.layout (count_of c.args.header.now c.args.t) c.args.park
counted c = (listed_means c.args.header.now c.args.t c.args.park c.args.entry.now c.requires.listed).count

digested : (c : Else-not-is_digested) → is_digest c.args.header.now.layout c.args.entry.now c.args.bytes.now ≡ true
digested c = sym c.is_digested.ensures ∙ c.if-not-is_digested.false

pub returns-then-not-is_digested-clause-damage : goal.returns-then-not-is_digested-clause-damage
returns-then-not-is_digested-clause-damage c =
    numbers-digest c.args.header.now c.args.t c.args.park c.args.entry.now c.args.bytes.now (sym c.is_digested.ensures ∙ c.if-not-is_digested.true)

pub decode_park-requires-clause-some : goal.decode_park-requires-clause-some
decode_park-requires-clause-some c =
    let count = counted (goal.at.decode_park-requires-clause-some c).Else-not-is_digested in
    let some = park_some c.args.header.now.layout (count_of c.args.header.now c.args.t) c.args.park c.requires.park.there in
    omega arith

pub decode_park-requires-clause-few : goal.decode_park-requires-clause-few
decode_park-requires-clause-few c =
    let count = counted (goal.at.decode_park-requires-clause-few c).Else-not-is_digested in
    let few = park_few c.args.header.now.layout (count_of c.args.header.now c.args.t) c.args.park in
    omega arith

pub decode_park-requires-clause-room : goal.decode_park-requires-clause-room
decode_park-requires-clause-room c =
    let count = counted (goal.at.decode_park-requires-clause-room c).Else-not-is_digested in
    let few = park_few c.args.header.now.layout (count_of c.args.header.now c.args.t) c.args.park in
    let room = c.requires.room in
    omega arith

pub returns-in_default-clause-damage : goal.returns-in_default-clause-damage
returns-in_default-clause-damage c =
    numbers-form c.args.header.now c.args.t c.args.park c.args.entry.now c.args.bytes.now (digested (goal.at.returns-in_default-clause-damage c).Else-not-is_digested) (rw c.k.ensures.value at c.in_default.ensures.no_numbers)

-- the first number of the park is the first of the buffer
front : (c : In-Ok) → slice_index (take c.args.entry.now.count c.decode_park.new.out) 0 ≡ slice_index c.decode_park.new.out 0
front c =
    let count = counted (goal.at.In-Ok c).Else-not-is_digested in
    let some = park_some c.args.header.now.layout (count_of c.args.header.now c.args.t) c.args.park c.requires.park.there in
    let within : 0 < c.args.entry.now.count = omega arith in
    get_or-take c.args.entry.now.count c.decode_park.new.out 0 0 within

first : (c : In-Ok) (k : ℕ) → k ≡ c.args.header.now.size
    → f7_in c.args.header.now.size (slice_index (take c.args.entry.now.count c.decode_park.new.out) 0) ≡ slice_index c.decode_park.new.out 0 / 2 ^ (k + 1)
first c k same = ap₂ (λ n k. n / 2 ^ (k + 1)) (front c) (sym same)

pub returns-then-from-numbers-clause-damage : goal.returns-then-from-numbers-clause-damage
returns-then-from-numbers-clause-damage c =
    let ok = (goal.at.returns-then-from-numbers-clause-damage c).In-Ok in
    numbers-head c.args.header.now c.args.t c.args.park c.args.entry.now c.args.bytes.now (take c.args.entry.now.count c.decode_park.new.out)
    (digested (goal.at.In-Ok ok).Else-not-is_digested) (rw c.k.ensures.value at c.in-Ok.ensures.numbers)
    (headed_wrong c.args.header.now c.args.t c.args.entry.now (take c.args.entry.now.count c.decode_park.new.out) c.if-t-eq7.true (λ e. c.if-from-numbers.true (c.from.ensures ∙ e ∙ first ok c.k-then-t-eq7.result c.k-then-t-eq7.ensures.value)))

pub returns-clause-ok : goal.returns-clause-ok
returns-clause-ok c =
    let ok = (goal.at.returns-clause-ok c).In-Ok in
    let ns = take c.args.entry.now.count c.decode_park.new.out in
    numbers-all c.args.header.now c.args.t c.args.park c.args.entry.now c.args.bytes.now ns
    (digested (goal.at.In-Ok ok).Else-not-is_digested) (rw c.k.ensures.value at c.in-Ok.ensures.numbers)
    (elim c.else-t-eq7.branch [
      | else-t-eq7-via-then-t-eq7+else-from-numbers w ↦ headed_right c.args.header.now c.args.t c.args.entry.now ns (sym w.from.ensures ∙ w.if-from-numbers.false ∙ sym (first ok w.k-then-t-eq7.result w.k-then-t-eq7.ensures.value))
      | else-t-eq7-via-else-t-eq7 w ↦ headed_elsewhere c.args.header.now c.args.t c.args.entry.now ns w.if-t-eq7.false
    ])
