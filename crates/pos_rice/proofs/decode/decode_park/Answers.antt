use Rattle.std.proofs.Common.{◌≡◌, ◌≤◌, ◌<◌, ℕ, List, suc, ◌+◌, ◌*◌, ◌-◌, ◌∷◌, ◌++◌, length, take, set, replicate, false, refl, sym, ◌∙◌, arith}
use Rattle.std.proofs.lemmas.List.Elements.{All-from_get_or}
use borrow.Rule.Slice.PartMut.{put_mid}
use Rattle.pos_bits.specs.Bits.{bits, bits_of}
use Rattle.pos_rice.specs.declared.TheConstants.{MOST_NUMBERS}
use Rattle.pos_rice.specs.Park.{IsLow, Park}
use Rattle.pos_rice.proofs.CallLemmas.{no_park, no_steps, low_right, fill_right, reads, limit_is, limit_lt, part_length, numbers_are, others_are}
use Rattle.pos_rice.proofs.ParkLemmas.{Reads, Park-from, Park-short_at, IsLow-only, increasing_from}
use Rattle.pos_rice.proofs.ReadingLemmas.{none-numbers_in, park-numbers_in_at}
use Rattle.pos_rice.proofs.decode.decode_park.Goals as goal
use Rattle.pos_rice.proofs.decode.decode_park.Goals.{In-Some-take_steps}

-- what was read before the further numbers
head : (c : In-Some-take_steps) → bits_of c.args.bytes.now ≡ bits c.in-Some.first (2 * c.args.k + 2) ++ (bits c.in-Some.low 7 ++ c.take_head.new.reader)
head c = sym c.new-reader.ensures.value ∙ c.in-Some.ensures.some

-- how many further numbers were read
count : (c : In-Some-take_steps) → length c.take_steps.new.out ≡ c.args.count - 1
count c = c.take_steps.auto.out ∙ part_length c.args.count c.in-Some.first c.args.out.now c.requires.some c.requires.room

-- the numbers stand in the first places
numbers : (c : In-Some-take_steps) → take c.args.count (put_mid 1 (c.args.count - 1) (set c.args.out.now 0 c.in-Some.first) c.take_steps.new.out) ≡ c.in-Some.first ∷ c.take_steps.new.out
numbers c = numbers_are c.args.count c.in-Some.first c.args.out.now c.take_steps.new.out c.requires.some c.requires.room (count c)

-- the count of low bits is right, and what is left is filling, in each list that has these bits
lows : (c : In-Some-take_steps) (n : ℕ) (ms : List ℕ) → length ms ≡ c.args.count - 1 → Reads c.args.k n ms (bits_of c.args.bytes.now) → IsLow (c.in-Some.first ∷ c.take_steps.new.out) c.in-Some.low
lows c n ms l p =
    low_right c.args.k c.in-Some.first c.in-Some.low (bits_of c.args.bytes.now) c.take_head.new.reader (head c) c.in-Some.ensures.first c.in-Some.ensures.low (omega arith)
    _ c.take_steps.new.out c.take_steps.new.reader (limit_is c.args.k c.requires.k_high) c.in-Some-take_steps.ensures.some c.in-Some-take_steps.ensures.rise
    n ms (l ∙ sym (count c)) p

fills : (c : In-Some-take_steps) (n : ℕ) (ms : List ℕ) → length ms ≡ c.args.count - 1 → Reads c.args.k n ms (bits_of c.args.bytes.now) → (z : ℕ) × (z < 8) × (c.take_steps.new.reader ≡ replicate z false)
fills c n ms l p =
    fill_right c.args.k c.in-Some.first c.in-Some.low (bits_of c.args.bytes.now) c.take_head.new.reader (head c) c.in-Some.ensures.first c.in-Some.ensures.low (omega arith)
    _ c.take_steps.new.out c.take_steps.new.reader (limit_is c.args.k c.requires.k_high) c.in-Some-take_steps.ensures.some c.in-Some-take_steps.ensures.rise
    n ms (l ∙ sym (count c)) p

-- where both are so, the bytes are the park of the numbers that were read
found : (c : In-Some-take_steps) → IsLow (c.in-Some.first ∷ c.take_steps.new.out) c.in-Some.low → (z : ℕ) × (z < 8) × (c.take_steps.new.reader ≡ replicate z false) →
    Park c.args.k (c.in-Some.first ∷ c.take_steps.new.out) c.args.bytes.now
found c low_is fill =
    let few : suc (length c.take_steps.new.out) ≤ MOST_NUMBERS = omega (arith, count c) in
    Park-from c.args.k c.in-Some.first c.take_steps.new.out c.args.bytes.now
    (All-from_get_or (λ b. b < 256) c.args.bytes.now 0 (λ i h. omega (arith, c.type_inv.bytes i)))
    (reads c.args.k c.in-Some.first c.in-Some.low (bits_of c.args.bytes.now) c.take_head.new.reader (head c) c.in-Some.ensures.first c.in-Some.ensures.low (omega arith)
    _ c.take_steps.new.out c.take_steps.new.reader (limit_is c.args.k c.requires.k_high) c.in-Some-take_steps.ensures.some c.in-Some-take_steps.ensures.rise
    low_is fill few)

pub returns-then-bytes-gt-MOST_BYTES-clause-no_park : goal.returns-then-bytes-gt-MOST_BYTES-clause-no_park
returns-then-bytes-gt-MOST_BYTES-clause-no_park c = λ ns l p.
    let short = Park-short_at 50 (14 * MOST_NUMBERS) c.args.k ns c.args.bytes.now c.requires.k_high (omega arith) p in
    omega (arith, short, c.if-bytes-gt-MOST_BYTES.true)

pub returns-in_default-clause-no_park : goal.returns-in_default-clause-no_park
returns-in_default-clause-no_park c =
    no_park c.args.k c.args.count c.args.bytes.now c.requires.some (λ n ms l p. c.in_default.ensures.none n p.low _ p.first_below p.low_lt (c.new-reader.ensures.value ∙ p.bits_are))

pub take_steps-requires-clause-limit : goal.take_steps-requires-clause-limit
take_steps-requires-clause-limit c = limit_lt c.args.k c.requires.k_high

pub returns-in_default-take_steps-clause-no_park : goal.returns-in_default-take_steps-clause-no_park
returns-in_default-take_steps-clause-no_park c =
    no_park c.args.k c.args.count c.args.bytes.now c.requires.some
    (no_steps c.args.k c.in-Some.first c.in-Some.low (bits_of c.args.bytes.now) c.take_head.new.reader (sym c.new-reader.ensures.value ∙ c.in-Some.ensures.some) c.in-Some.ensures.first c.in-Some.ensures.low (omega arith)
    (c.args.count - 1) _ (limit_is c.args.k c.requires.k_high)
    (λ ms s l p. c.in_default-take_steps.ensures.none ms s (l ∙ sym (part_length c.args.count c.in-Some.first c.args.out.now c.requires.some c.requires.room)) p))

pub low_width-requires-clause-rising : goal.low_width-requires-clause-rising
low_width-requires-clause-rising c =
    rw (numbers c) (increasing_from _ c.in-Some.first c.take_steps.new.out c.in-Some-take_steps.ensures.rise)

pub returns-then-low-low_width-clause-no_park : goal.returns-then-low-low_width-clause-no_park
returns-then-low-low_width-clause-no_park c =
    let steps = (goal.at.returns-then-low-low_width-clause-no_park c).In-Some-take_steps in
    no_park c.args.k c.args.count c.args.bytes.now c.requires.some (λ n ms l p.
    let is : IsLow (c.in-Some.first ∷ c.take_steps.new.out) c.low_width.result = rw (numbers steps) at c.low_width.ensures.low in
    c.if-low-low_width.true (IsLow-only (c.in-Some.first ∷ c.take_steps.new.out) c.in-Some.low c.low_width.result (omega arith) (lows steps n ms l p) is))

pub returns-else-is_fill-clause-no_park : goal.returns-else-is_fill-clause-no_park
returns-else-is_fill-clause-no_park c =
    let steps = (goal.at.returns-else-is_fill-clause-no_park c).In-Some-take_steps in
    no_park c.args.k c.args.count c.args.bytes.now c.requires.some (λ n ms l p. let full = c.if-is_fill.ensures.1 (fills steps n ms l p) in cc)

pub returns-then-is_fill-clause-ok : goal.returns-then-is_fill-clause-ok
returns-then-is_fill-clause-ok c =
    let steps = (goal.at.returns-then-is_fill-clause-ok c).In-Some-take_steps in
    let is : IsLow (c.in-Some.first ∷ c.take_steps.new.out) c.low_width.result = rw (numbers steps) at c.low_width.ensures.low in
    let low_is : IsLow (c.in-Some.first ∷ c.take_steps.new.out) c.in-Some.low = rw c.if-low-low_width.false is in
    rw (numbers steps) (found steps low_is (c.if-is_fill.ensures.0 refl))

pub returns-then-is_fill-clause-numbers : goal.returns-then-is_fill-clause-numbers
returns-then-is_fill-clause-numbers c =
    let steps = (goal.at.returns-then-is_fill-clause-numbers c).In-Some-take_steps in
    let park : Park c.args.k (c.in-Some.first ∷ c.take_steps.new.out) c.args.bytes.now = rw (numbers steps) at (returns-then-is_fill-clause-ok c) in
    let so_many : suc (length c.take_steps.new.out) ≡ c.args.count = omega (arith, count steps) in
    rw (numbers steps) (park-numbers_in_at c.args.k c.args.count (c.in-Some.first ∷ c.take_steps.new.out) c.args.bytes.now c.requires.k_high so_many park)

pub returns-then-is_fill-clause-rest : goal.returns-then-is_fill-clause-rest
returns-then-is_fill-clause-rest c =
    others_are c.args.count c.in-Some.first c.args.out.now c.take_steps.new.out c.requires.some c.requires.room (count (goal.at.returns-then-is_fill-clause-rest c).In-Some-take_steps)

pub returns-then-bytes-gt-MOST_BYTES-clause-no_numbers : goal.returns-then-bytes-gt-MOST_BYTES-clause-no_numbers
returns-then-bytes-gt-MOST_BYTES-clause-no_numbers c = none-numbers_in c.args.k c.args.count c.args.bytes.now (returns-then-bytes-gt-MOST_BYTES-clause-no_park c)

pub returns-in_default-clause-no_numbers : goal.returns-in_default-clause-no_numbers
returns-in_default-clause-no_numbers c = none-numbers_in c.args.k c.args.count c.args.bytes.now (returns-in_default-clause-no_park c)

pub returns-in_default-take_steps-clause-no_numbers : goal.returns-in_default-take_steps-clause-no_numbers
returns-in_default-take_steps-clause-no_numbers c = none-numbers_in c.args.k c.args.count c.args.bytes.now (returns-in_default-take_steps-clause-no_park c)

pub returns-then-low-low_width-clause-no_numbers : goal.returns-then-low-low_width-clause-no_numbers
returns-then-low-low_width-clause-no_numbers c = none-numbers_in c.args.k c.args.count c.args.bytes.now (returns-then-low-low_width-clause-no_park c)

pub returns-else-is_fill-clause-no_numbers : goal.returns-else-is_fill-clause-no_numbers
returns-else-is_fill-clause-no_numbers c = none-numbers_in c.args.k c.args.count c.args.bytes.now (returns-else-is_fill-clause-no_park c)
