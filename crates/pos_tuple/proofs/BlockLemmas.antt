-- Words of the stream that lie in one block.
use Rattle.std.proofs.Common.{◌≡◌, ℕ, ◌/◌, ◌%◌, List, refl, ap, ap₂, ◌∙◌}
use Rattle.std.specs.Prelude.{slice_index}
use Rattle.rand_chacha.specs.Block.{add32, double_rounds, initial_state, block_word}
use Rattle.rand_chacha.specs.ChaCha.{key_of}
use Rattle.pos_tuple.specs.Stream.{stream_key, stream_word}

-- a word between the states of a block is the one of the stream in its place
pub word-between :
    (id : List ℕ) (w block at n : ℕ) (before after : List ℕ) → w / 16 ≡ block → w % 16 ≡ at
    → before ≡ initial_state (key_of (stream_key id)) block 0 → after ≡ double_rounds 4 before
    → n ≡ add32 (slice_index after at) (slice_index before at) → n ≡ stream_word id w
unfolding stream_word block_word
word-between id w block at n before after first place start rounds is =
    is
    ∙ ap₂ (λ b a. add32 (slice_index b at) (slice_index a at)) (rounds ∙ ap (double_rounds 4) start) start
    ∙ rw (first, place) refl
