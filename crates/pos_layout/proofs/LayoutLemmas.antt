-- What each layout fixes, by its cases: with these no other proof but a few on bytes 49 to 55 looks into a layout.
use Rattle.std.proofs.Common.{◌≡◌, ◌≢◌, ℕ, ◌+◌, ◌-◌, ◌*◌, ◌/◌, ◌%◌, ◌<◌, ◌≤◌, ltb, true, List, [], ◌∷◌, length, take, drop, refl, sym, ap, ◌∙◌, arith}
use Rattle.std.specs.List.{list_all}
use Rattle.std.proofs.lemmas.Bool.{and_parts, ltb-true}
use Rattle.std.proofs.lemmas.List.Elements.{All-nil, All-cons}
use Rattle.pos_bits.specs.Bits.{AreBytes}
use Rattle.pos_rice.specs.declared.TheConstants.{MOST_NUMBERS}
use Rattle.pos_layout.specs.declared.layout.Layout.{Layout}
use Rattle.pos_layout.specs.declared.layout.Layout.TheVariants.{One, Two}
use Rattle.pos_layout.specs.Layouts.{IsMemo, name_of, full_of, digest_of, memo_of, zeros_of, parks_of, park_count}
use Rattle.pos_layout.specs.Bytes.{part}
use Rattle.pos_layout.specs.Fields.{name_in, zeros_in, layout_in, header_in}
use Rattle.pos_layout.specs.Rules.{Opens}

-- ---- what it fixes

-- one number alone, or two, may need a longer park than `longest_park` allows
pub full_some : (l : Layout) → 3 ≤ full_of l
unfolding full_of
full_some One = omega arith
full_some Two = omega arith

pub full_few : (l : Layout) → full_of l ≤ MOST_NUMBERS
unfolding full_of
full_few One = omega arith
full_few Two = omega arith

pub digest_few : (l : Layout) → digest_of l ≤ 16
unfolding digest_of
digest_few One = omega arith
digest_few Two = omega arith

pub memo_few : (l : Layout) → memo_of l ≤ 256
unfolding memo_of
memo_few One = omega arith
memo_few Two = omega arith

pub zeros_few : (l : Layout) → zeros_of l ≤ 7
unfolding zeros_of
zeros_few One = omega arith
zeros_few Two = omega arith

pub name_length : (l : Layout) → length (name_of l) ≡ 15
unfolding name_of
name_length One = refl
name_length Two = refl

-- bytes below 256, by a test that computes
small_bytes : (b : List ℕ) → list_all (λ x. ltb x 256) b ≡ true → AreBytes b
small_bytes [] h = All-nil (λ x. x < 256)
small_bytes (x ∷ b) h = let both = and_parts (ltb x 256) (list_all (λ x. ltb x 256) b) h in All-cons (λ x. x < 256) x b (ltb-true x 256 both.0) (small_bytes b both.1)

pub name_bytes : (l : Layout) → AreBytes (name_of l)
unfolding name_of
name_bytes One = small_bytes (name_of One) refl
name_bytes Two = small_bytes (name_of Two) refl

-- no memo
pub no_memo : (l : Layout) → IsMemo l []
no_memo l = record { few = omega arith; bytes = All-nil (λ x. x < 256) }

-- ---- the name

pub layout_named : (l : Layout) (b : List ℕ) → name_in b ≡ name_of l → layout_in b ≡ l
unfolding layout_in name_of
layout_named One b e = rw e refl
layout_named Two b e = rw e refl

pub another_name : (l : Layout) (b : List ℕ) → name_in b ≢ name_of (layout_in b) → name_in b ≢ name_of l
another_name l b other same = other (same ∙ ap name_of (sym (layout_named l b same)))

-- what a header says is what the name says
pub header_layout : (b : List ℕ) → (header_in b).layout ≡ layout_in b
unfolding header_in
header_layout b = refl

pub opens_layout : (l : Layout) (b : List ℕ) → Opens l b → (header_in b).layout ≡ l
opens_layout l b opens = header_layout b ∙ layout_named l b opens.name

-- the zeros, by where they begin
pub zeros_from-are : (l : Layout) (b : List ℕ) (from : ℕ) → from ≡ 56 - zeros_of l → take (56 - from) (drop from b) ≡ zeros_in l b
unfolding part
zeros_from-are l b from e =
    let few = zeros_few l in
    let n : 56 - from ≡ zeros_of l = omega arith in
    ap (λ j. take j (drop from b)) n ∙ ap (λ j. take (zeros_of l) (drop j b)) e

-- ---- places in parks

pub park_of_place : (l : Layout) (i n : ℕ) → i < n → i / full_of l < parks_of l n
unfolding full_of
park_of_place One i n h = omega arith
park_of_place Two i n h = omega arith

pub place_back : (l : Layout) (i : ℕ) → full_of l * (i / full_of l) + i % full_of l ≡ i
unfolding full_of
place_back One i = omega arith
place_back Two i = omega arith

pub place_small : (l : Layout) (i : ℕ) → i % full_of l < full_of l
unfolding full_of
place_small One i = omega arith
place_small Two i = omega arith

-- the park of a place has it
pub place_in_park : (l : Layout) (i n : ℕ) → i < n → i % full_of l < park_count l n (i / full_of l)
unfolding full_of
place_in_park One i n h = omega arith
place_in_park Two i n h = omega arith

-- a park begins with a number of its table
pub park_inside : (l : Layout) (park n : ℕ) → park < parks_of l n → full_of l * park < n
unfolding full_of
park_inside One park n h = omega arith
park_inside Two park n h = omega arith
