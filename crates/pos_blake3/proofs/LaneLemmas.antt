-- Lemmas on vectors of lanes.
use Rattle.std.proofs.Common.{◌≡◌, ℕ, zero, suc, ◌<◌, ◌-◌, ◌*◌, ◌/◌, ◌%◌, ◌^◌, List, [], ◌∷◌, length, slice_index, slice_index_or, slice_set, bit_or, bit_xor, arith, refl, sym, ap, ◌∙◌}
use Rattle.std.specs.Simd.Lanes.{zip2}
use Rattle.std.proofs.Common.{drop, take, ◌++◌, ◌≤◌, ap₂}
use Rattle.std.specs.Prelude.{replicate}
use Rattle.std.proofs.lemmas.List.{map-set, take-append-drop, length-take-le}
use Rattle.pos_blake3.specs.Blake3.{xor_rotate, message_words, initial_state, rounds, halves_joined, word_bytes, blake3_block}
use Rattle.pos_blake3.specs.Lanes.{lane}
use Rattle.pos_blake3.proofs.BlakeLemmas.{words_of_padded}

-- what holds of each of the four lanes
pub below_four : (P : ℕ → Type 0) → P 0 → P 1 → P 2 → P 3 → (j : ℕ) → j < 4 → P j
below_four P p0 p1 p2 p3 zero h = p0
below_four P p0 p1 p2 p3 (suc zero) h = p1
below_four P p0 p1 p2 p3 (suc (suc zero)) h = p2
below_four P p0 p1 p2 p3 (suc (suc (suc zero))) h = p3
below_four P p0 p1 p2 p3 (suc (suc (suc (suc n)))) h = absurd (omega arith)

-- what holds of each list of four lanes
four_lanes : (P : List ℕ → Type 0) → ((a b c d : ℕ) → P (a ∷ b ∷ c ∷ d ∷ [])) → (xs : List ℕ) → length xs ≡ 4 → P xs
four_lanes P p (a ∷ b ∷ c ∷ d ∷ []) h = p a b c d
four_lanes P p [] h = absurd (omega arith)
four_lanes P p (a ∷ []) h = absurd (omega arith)
four_lanes P p (a ∷ b ∷ []) h = absurd (omega arith)
four_lanes P p (a ∷ b ∷ c ∷ []) h = absurd (omega arith)
four_lanes P p (a ∷ b ∷ c ∷ d ∷ e ∷ xs) h = absurd (omega arith)

-- two shifts of each lane and an or are a rotation
abbrev Rotates : ℕ → List ℕ → List ℕ → Type 0
Rotates n a b = (j : ℕ) → j < 4
    → slice_index (zip2 bit_or
    (zip2 (λ x s. x / 2 ^ s) (zip2 bit_xor a b) (n ∷ n ∷ n ∷ n ∷ []))
    (zip2 (λ x s. x * 2 ^ s % 2 ^ 32) (zip2 bit_xor a b) ((32 - n) ∷ (32 - n) ∷ (32 - n) ∷ (32 - n) ∷ []))) j
    ≡ xor_rotate (slice_index a j) (slice_index b j) n

pub shifts_rotate : (n : ℕ) → 0 < n → n < 32 → (a : List ℕ) → length a ≡ 4 → (b : List ℕ) → length b ≡ 4 → Rotates n a b
shifts_rotate n low high =
    let right : n % 32 ≡ n = omega arith in
    let left : (32 - n) % 32 ≡ 32 - n = omega arith in
    four_lanes (λ a. (b : List ℕ) → length b ≡ 4 → Rotates n a b) (λ a0 a1 a2 a3.
    four_lanes (Rotates n (a0 ∷ a1 ∷ a2 ∷ a3 ∷ [])) (λ b0 b1 b2 b3.
    below_four _ (rw (right, left) refl) (rw (right, left) refl) (rw (right, left) refl) (rw (right, left) refl)))

-- word i of the state of block j
pub lane_word : (x : List (List ℕ)) (j i : ℕ) → slice_index (lane j x) i ≡ slice_index (slice_index_or x i []) j
unfolding lane
lane_word [] j i = refl
lane_word (w ∷ x) j zero = refl
lane_word (w ∷ x) j (suc i) = lane_word x j i

-- a vector put in place i puts its lane there in the state of block j
pub lane_set : (x : List (List ℕ)) (j i : ℕ) (w : List ℕ) → lane j (slice_set x i w) ≡ slice_set (lane j x) i (slice_index w j)
unfolding lane
lane_set x j i w = map-set (λ (w : List ℕ). slice_index w j) x i w

pub lane_cons : (j : ℕ) (w : List ℕ) (x : List (List ℕ)) → lane j (w ∷ x) ≡ slice_index w j ∷ lane j x
unfolding lane
lane_cons j w x = refl

pub lane_nil : (j : ℕ) → lane j [] ≡ []
unfolding lane
lane_nil j = refl

-- the exclusive or of two vectors, lane by lane
pub xor_lanes : (a : List ℕ) → length a ≡ 4 → (b : List ℕ) → length b ≡ 4 → (j : ℕ) → j < 4
    → slice_index (zip2 bit_xor a b) j ≡ bit_xor (slice_index a j) (slice_index b j)
xor_lanes =
    four_lanes (λ a. (b : List ℕ) → length b ≡ 4 → (j : ℕ) → j < 4 → slice_index (zip2 bit_xor a b) j ≡ bit_xor (slice_index a j) (slice_index b j))
    (λ a0 a1 a2 a3. four_lanes (λ b. (j : ℕ) → j < 4 → slice_index (zip2 bit_xor (a0 ∷ a1 ∷ a2 ∷ a3 ∷ []) b) j ≡ bit_xor (slice_index (a0 ∷ a1 ∷ a2 ∷ a3 ∷ []) j) (slice_index b j))
    (λ b0 b1 b2 b3. below_four _ refl refl refl refl))

-- eight vectors, one by one
pub eight_words : (x : List (List ℕ)) (j : ℕ) → length x ≡ 8
    → lane j x ≡ slice_index (slice_index_or x 0 []) j ∷ slice_index (slice_index_or x 1 []) j ∷ slice_index (slice_index_or x 2 []) j
    ∷ slice_index (slice_index_or x 3 []) j ∷ slice_index (slice_index_or x 4 []) j ∷ slice_index (slice_index_or x 5 []) j
    ∷ slice_index (slice_index_or x 6 []) j ∷ slice_index (slice_index_or x 7 []) j ∷ []
unfolding lane
eight_words (a ∷ b ∷ c ∷ d ∷ e ∷ f ∷ g ∷ h ∷ []) j long = refl
eight_words (a ∷ b ∷ c ∷ d ∷ e ∷ f ∷ g ∷ h ∷ i ∷ x) j long = absurd (omega arith)
eight_words [] j long = absurd (omega arith)
eight_words (a ∷ []) j long = absurd (omega arith)
eight_words (a ∷ b ∷ []) j long = absurd (omega arith)
eight_words (a ∷ b ∷ c ∷ []) j long = absurd (omega arith)
eight_words (a ∷ b ∷ c ∷ d ∷ []) j long = absurd (omega arith)
eight_words (a ∷ b ∷ c ∷ d ∷ e ∷ []) j long = absurd (omega arith)
eight_words (a ∷ b ∷ c ∷ d ∷ e ∷ f ∷ []) j long = absurd (omega arith)
eight_words (a ∷ b ∷ c ∷ d ∷ e ∷ f ∷ g ∷ []) j long = absurd (omega arith)

-- a block with zeros behind its message has the message's words
pub block_words : (s : List ℕ) (n : ℕ) → drop n s ≡ replicate (64 - n) 0 → message_words s ≡ message_words (take n s)
block_words s n zeros =
    let whole : s ≡ take n s ++ replicate (64 - n) 0 = sym (take-append-drop n s) ∙ ap (λ rest. take n s ++ rest) zeros in ap message_words whole ∙ words_of_padded (take n s) (64 - n)

-- what the rounds make of a block with zeros behind its message is the message's hash
pub block_hash :
    (s : List ℕ) (n : ℕ) → n ≤ 64 → length s ≡ 64 → drop n s ≡ replicate (64 - n) 0
    → word_bytes (halves_joined (rounds 7 (initial_state n) (message_words s))) ≡ blake3_block (take n s)
unfolding blake3_block
block_hash s n short long zeros =
    let len : length (take n s) ≡ n = length-take-le n s (omega arith) in
    ap word_bytes (ap halves_joined (ap₂ (rounds 7) (ap initial_state (sym len)) (block_words s n zeros)))
