-- The key stream of a plot, and f1, which reads it.
-- Source: the Construction document, "f1"; chiapos, `F1Calculator`. An id is a list of 32 bytes.
use Rattle.std.specs.Prelude.{◌≡◌, ◌<◌, ℕ, zero, suc, ◌+◌, ◌-◌, ◌*◌, ◌/◌, ◌%◌, ◌^◌, ◌==◌, Bool, List, [], ◌∷◌, ◌++◌, take}
use Rattle.rand_chacha.specs.ChaCha.{ChaCha, key_of, word_at}
use Rattle.pos_bits.specs.Bits.{bits, number}
use Rattle.pos_tuple.specs.declared.in_order.Window.{Window}

-- the cipher's key: the byte 1 and the first 31 bytes of the id; the last id byte is not used
abbrev pub stream_key : List ℕ → List ℕ
stream_key id = 1 ∷ take 31 id

-- word w of the stream: ChaCha with 8 rounds, which are 4 double rounds, its counter from 0 and a zero nonce
unfoldable pub stream_word : List ℕ → ℕ → ℕ
stream_word id w = word_at 4 (key_of (stream_key id)) 0 w

-- byte i of the stream; a word gives four, the least significant first
unfoldable pub stream_byte : List ℕ → ℕ → ℕ
stream_byte id i = stream_word id (i / 4) / 256 ^ (i % 4) % 256

-- bit i of the stream; a byte gives eight, the top one first
unfoldable pub stream_bit : List ℕ → ℕ → Bool
stream_bit id i = stream_byte id (i / 8) / 2 ^ (7 - i % 8) % 2 == 1

-- so many bits of the stream, from bit i on
unfoldable pub stream_bits : List ℕ → ℕ → ℕ → List Bool
stream_bits id i zero = []
stream_bits id i (suc n) = stream_bit id i ∷ stream_bits id (i + 1) n

-- f1 of the value x, which is below 2 ^ k: k + 6 bits, k of the stream and then the top 6 of x
unfoldable pub f1_of : List ℕ → ℕ → ℕ → ℕ
f1_of id k x = number (stream_bits id (x * k) k ++ bits (x / 2 ^ (k - 6)) 6)

-- the generator of this id's stream that gives word w next
pub record ReadsFrom (id : List ℕ) (w : ℕ) (g : ChaCha) : Type 0 where
  pub key_is : g.key ≡ key_of (stream_key id)
  pub stream_is : g.stream ≡ 0
  pub place_is : g.word_pos ≡ w

-- the words that a window holds are those of this id's stream from its place on, and its generator gives the word
-- behind them
pub record AreWords (id : List ℕ) (s : Window) : Type 0 where
  pub first_is : s.first ≡ stream_word id s.word
  pub second_is : s.second ≡ stream_word id (s.word + 1)
  pub third_is : s.third ≡ stream_word id (s.word + 2)
  pub reads : ReadsFrom id (s.word + 3) s.rng
  pub small : s.word < 2 ^ 60
