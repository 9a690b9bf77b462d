-- BLAKE3 of one block: a message of at most 64 bytes, which is a single chunk, and its root.
-- Source: the BLAKE3 paper, 2.2 (the compression function) to 2.4 (chunks).
-- A word is a number below 2 ^ 32, a state a list of sixteen words.
use Rattle.std.specs.Prelude.{ℕ, zero, suc, ◌+◌, ◌*◌, ◌%◌, ◌^◌, List, [], ◌∷◌, ◌++◌, length, map, take, bit_xor, slice_index, slice_set}
use Rattle.std.specs.Int.{w32, rotate_right, to_le_bytes}

-- the sum of two words, with the carry dropped
abbrev pub add32 : ℕ → ℕ → ℕ
add32 x y = (x + y) % 2 ^ 32

-- the exclusive or of two words, rotated right by so many bits
abbrev pub xor_rotate : ℕ → ℕ → ℕ → ℕ
xor_rotate x y n = rotate_right w32 (bit_xor x y) n

-- what the mixing function G makes of four words of the state and two of the message
unfoldable pub mix_words : ℕ → ℕ → ℕ → ℕ → ℕ → ℕ → ℕ × ℕ × ℕ × ℕ
mix_words a b c d p q =
    let a1 = add32 (add32 a b) p in
    let d1 = xor_rotate d a1 16 in
    let c1 = add32 c d1 in
    let b1 = xor_rotate b c1 12 in
    let a2 = add32 (add32 a1 b1) q in
    let d2 = xor_rotate d1 a2 8 in
    let c2 = add32 c1 d2 in
    let b2 = xor_rotate b1 c2 7 in
    (a2, b2, c2, d2)

-- a state with G applied to the words at four places
unfoldable pub mix : List ℕ → ℕ → ℕ → ℕ → ℕ → ℕ → ℕ → List ℕ
mix v a b c d p q =
    let w = mix_words (slice_index v a) (slice_index v b) (slice_index v c) (slice_index v d) p q in
    slice_set (slice_set (slice_set (slice_set v a w.0) b w.1) c w.2) d w.3

-- a round: G on each column of the state, read as four rows of four words, then on each diagonal;
-- it takes the message's words two at a time
unfoldable pub round : List ℕ → List ℕ → List ℕ
round v m =
    let v1 = mix v 0 4 8 12 (slice_index m 0) (slice_index m 1) in
    let v2 = mix v1 1 5 9 13 (slice_index m 2) (slice_index m 3) in
    let v3 = mix v2 2 6 10 14 (slice_index m 4) (slice_index m 5) in
    let v4 = mix v3 3 7 11 15 (slice_index m 6) (slice_index m 7) in
    let v5 = mix v4 0 5 10 15 (slice_index m 8) (slice_index m 9) in
    let v6 = mix v5 1 6 11 12 (slice_index m 10) (slice_index m 11) in
    let v7 = mix v6 2 7 8 13 (slice_index m 12) (slice_index m 13) in
    mix v7 3 4 9 14 (slice_index m 14) (slice_index m 15)

-- place i of the next round's message has the word that stood at this place
unfoldable pub permutation : List ℕ
permutation = 2 ∷ 6 ∷ 3 ∷ 10 ∷ 7 ∷ 0 ∷ 4 ∷ 13 ∷ 1 ∷ 11 ∷ 12 ∷ 5 ∷ 9 ∷ 14 ∷ 15 ∷ 8 ∷ []

-- the message of the next round
unfoldable pub permuted : List ℕ → List ℕ
permuted m = map (slice_index m) permutation

-- so many rounds, with the message permuted from one to the next
unfoldable pub rounds : ℕ → List ℕ → List ℕ → List ℕ
rounds zero v m = v
rounds (suc n) v m = rounds n (round v m) (permuted m)

-- the eight words that every hash begins with
unfoldable pub initial_words : List ℕ
initial_words =
    0x6a09e667 ∷ 0xbb67ae85 ∷ 0x3c6ef372 ∷ 0xa54ff53a
    ∷ 0x510e527f ∷ 0x9b05688c ∷ 0x1f83d9ab ∷ 0x5be0cd19 ∷ []

-- the flags of a block that is the start of a chunk (1), its end (2) and the root (8)
abbrev pub only_block : ℕ
only_block = 1 + 2 + 8

-- the state at the start: the counter of chunks is 0, in two words
unfoldable pub initial_state : ℕ → List ℕ
initial_state len = initial_words ++ take 4 initial_words ++ (0 ∷ 0 ∷ len ∷ only_block ∷ [])

-- the word of the four bytes from a place on, the least significant first; past the end stand zeros
abbrev pub word_from : List ℕ → ℕ → ℕ
word_from s i =
    slice_index s i + 2 ^ 8 * slice_index s (i + 1)
    + 2 ^ 16 * slice_index s (i + 2) + 2 ^ 24 * slice_index s (i + 3)

-- the message's sixteen words
unfoldable pub message_words : List ℕ → List ℕ
message_words s =
    map (λ i. word_from s (4 * i))
    (0 ∷ 1 ∷ 2 ∷ 3 ∷ 4 ∷ 5 ∷ 6 ∷ 7 ∷ 8 ∷ 9 ∷ 10 ∷ 11 ∷ 12 ∷ 13 ∷ 14 ∷ 15 ∷ [])

-- each of the first eight words with the word eight places on
unfoldable pub halves_joined : List ℕ → List ℕ
halves_joined v =
    map (λ i. bit_xor (slice_index v i) (slice_index v (i + 8))) (0 ∷ 1 ∷ 2 ∷ 3 ∷ 4 ∷ 5 ∷ 6 ∷ 7 ∷ [])

-- the bytes of words, each least significant byte first
unfoldable pub word_bytes : List ℕ → List ℕ
word_bytes [] = []
word_bytes (w ∷ ws) = to_le_bytes w32 w ++ word_bytes ws

-- the 32 bytes of the hash of a message of at most 64 bytes
unfoldable pub blake3_block : List ℕ → List ℕ
blake3_block s = word_bytes (halves_joined (rounds 7 (initial_state (length s)) (message_words s)))
