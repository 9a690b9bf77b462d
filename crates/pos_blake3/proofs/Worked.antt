-- The definition tried against published values.
use Rattle.std.proofs.Common.{◌≡◌, [], ◌∷◌, refl}
use Rattle.pos_blake3.specs.Blake3.{blake3_block, word_bytes, halves_joined, rounds, round, mix, mix_words, initial_state, initial_words, message_words, permuted, permutation}

-- the hash of no bytes
pub hash_of_nothing :
    blake3_block []
    ≡ 0xaf ∷ 0x13 ∷ 0x49 ∷ 0xb9 ∷ 0xf5 ∷ 0xf9 ∷ 0xa1 ∷ 0xa6 ∷ 0xa0 ∷ 0x40 ∷ 0x4d ∷ 0xea ∷ 0x36 ∷ 0xdc ∷ 0xc9 ∷ 0x49
    ∷ 0x9b ∷ 0xcb ∷ 0x25 ∷ 0xc9 ∷ 0xad ∷ 0xc1 ∷ 0x12 ∷ 0xb7 ∷ 0xcc ∷ 0x9a ∷ 0x93 ∷ 0xca ∷ 0xe4 ∷ 0x1f ∷ 0x32 ∷ 0x62 ∷ []
unfolding blake3_block word_bytes halves_joined rounds round mix mix_words initial_state initial_words message_words permuted permutation
hash_of_nothing = refl

-- the hash of a whole block, the bytes from 0 to 63
pub hash_of_a_whole_block :
    blake3_block (
    0 ∷ 1 ∷ 2 ∷ 3 ∷ 4 ∷ 5 ∷ 6 ∷ 7 ∷ 8 ∷ 9 ∷ 10 ∷ 11 ∷ 12 ∷ 13 ∷ 14 ∷ 15
    ∷ 16 ∷ 17 ∷ 18 ∷ 19 ∷ 20 ∷ 21 ∷ 22 ∷ 23 ∷ 24 ∷ 25 ∷ 26 ∷ 27 ∷ 28 ∷ 29 ∷ 30 ∷ 31
    ∷ 32 ∷ 33 ∷ 34 ∷ 35 ∷ 36 ∷ 37 ∷ 38 ∷ 39 ∷ 40 ∷ 41 ∷ 42 ∷ 43 ∷ 44 ∷ 45 ∷ 46 ∷ 47
    ∷ 48 ∷ 49 ∷ 50 ∷ 51 ∷ 52 ∷ 53 ∷ 54 ∷ 55 ∷ 56 ∷ 57 ∷ 58 ∷ 59 ∷ 60 ∷ 61 ∷ 62 ∷ 63 ∷ [])
    ≡ 0x4e ∷ 0xed ∷ 0x71 ∷ 0x41 ∷ 0xea ∷ 0x4a ∷ 0x5c ∷ 0xd4 ∷ 0xb7 ∷ 0x88 ∷ 0x60 ∷ 0x6b ∷ 0xd2 ∷ 0x3f ∷ 0x46 ∷ 0xe2
    ∷ 0x12 ∷ 0xaf ∷ 0x9c ∷ 0xac ∷ 0xeb ∷ 0xac ∷ 0xdc ∷ 0x7d ∷ 0x1f ∷ 0x4c ∷ 0x6d ∷ 0xc7 ∷ 0xf2 ∷ 0x51 ∷ 0x1b ∷ 0x98 ∷ []
unfolding blake3_block word_bytes halves_joined rounds round mix mix_words initial_state initial_words message_words permuted permutation
hash_of_a_whole_block = refl
