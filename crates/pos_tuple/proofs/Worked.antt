-- The definitions tried against values of an independent program, which was tried against published ones.
use Rattle.std.proofs.Common.{◌≡◌, [], refl, true}
use Rattle.std.specs.Prelude.{replicate}
use Rattle.pos_bits.specs.Bits.{bits, number, bytes_for, bits_of}
use Rattle.pos_blake3.specs.Blake3.{blake3_block, word_bytes, halves_joined, rounds, round, mix, mix_words, initial_state, initial_words, message_words, permuted, permutation}
use Rattle.rand_core.specs.Steps.{u32_at}
use Rattle.rand_chacha.specs.Block.{block_word, double_rounds, column_round, diagonal_round, quarter_round}
use Rattle.pos_tuple.specs.Stream.{stream_word, stream_byte, stream_bit, stream_bits, f1_of}
use Rattle.pos_tuple.specs.Match.{is_match, has_target_below}
use Rattle.pos_tuple.specs.Node.{hash_bits, collated, next_entry}

-- f1 of two values, for the id of 32 zero bytes and k = 12
pub f1_of_a_value : f1_of (replicate 32 0) 12 3208 ≡ 114418
unfolding f1_of stream_bits stream_bit stream_byte stream_word block_word double_rounds column_round diagonal_round quarter_round u32_at number bits
f1_of_a_value = refl

pub f1_of_another : f1_of (replicate 32 0) 12 2475 ≡ 120998
unfolding f1_of stream_bits stream_bit stream_byte stream_word block_word double_rounds column_round diagonal_round quarter_round u32_at number bits
f1_of_another = refl

-- the two match, with these bits of metadata behind the y of their node
pub two_values_match : is_match 114418 120998 ≡ true
unfolding is_match has_target_below
two_values_match = refl

pub node_of_two_values :
    next_entry 12 2 (record { y = 114418; meta = bits 3208 12 }) (record { y = 120998; meta = bits 2475 12 })
    ≡ record { y = 117350; meta = bits 0b110010001000100110101011 24 }
unfolding next_entry collated hash_bits number bytes_for bits_of bits blake3_block word_bytes halves_joined rounds round mix mix_words initial_state initial_words message_words permuted permutation
node_of_two_values = refl

-- entries of tables 3, 4 and 7 for k = 16, as the tests of chiapos have them; the right y is not hashed
pub entry_of_table_3 :
    next_entry 16 3 (record { y = 0x31e541; meta = bits 0x35bf992d 32 }) (record { y = 0; meta = bits 0x7ce42c82 32 })
    ≡ record { y = 0xf73b3; meta = bits 0x35bf992d7ce42c82 64 }
unfolding next_entry collated hash_bits number bytes_for bits_of bits blake3_block word_bytes halves_joined rounds round mix mix_words initial_state initial_words message_words permuted permutation
entry_of_table_3 = refl

pub entry_of_table_4 :
    next_entry 16 4 (record { y = 0x30cb4c; meta = bits 0x05b6e6e307d4bedc 64 }) (record { y = 0; meta = bits 0x8a9a021ea648a7dd 64 })
    ≡ record { y = 0x11ad5; meta = bits 0xd4bd0b144fc26138 64 }
unfolding next_entry collated hash_bits number bytes_for bits_of bits blake3_block word_bytes halves_joined rounds round mix mix_words initial_state initial_words message_words permuted permutation
entry_of_table_4 = refl

pub entry_of_table_7 :
    next_entry 16 7 (record { y = 0x14f410; meta = bits 0x5fec898f 32 }) (record { y = 0; meta = bits 0x82283d15 32 })
    ≡ record { y = 0x24c3c2; meta = [] }
unfolding next_entry collated hash_bits number bytes_for bits_of bits blake3_block word_bytes halves_joined rounds round mix mix_words initial_state initial_words message_words permuted permutation
entry_of_table_7 = refl
