-- A window of three words of the key stream, as it is read, moved and turned into bits.
use Rattle.std.proofs.Common.{◌≡◌, ℕ, ◌+◌, ◌*◌, ◌%◌, ◌^◌, ◌<◌, List, arith, ◌∙◌, ap, subst}
use Rattle.std.specs.Int.{w32, swap_bytes}
use Rattle.rand_chacha.specs.ChaCha.{ChaCha, next_word}
use Rattle.pos_bits.specs.Bits.{bits}
use Rattle.pos_tuple.specs.declared.in_order.Window.{Window}
use Rattle.pos_tuple.specs.Stream.{ReadsFrom, AreWords, stream_word, stream_bits}
use Rattle.pos_tuple.proofs.StreamLemmas.{reads_from-word, reads_from-next, stream_bits-window}

-- three words that were read one after another
pub are_words-read :
    (id : List ℕ) (w a b c : ℕ) (g0 g1 g2 g3 : ChaCha) → w < 2 ^ 60 → ReadsFrom id w g0
    → ◌≡◌ {A = ℕ × ChaCha} (a, g1) (next_word 4 g0)
    → ◌≡◌ {A = ℕ × ChaCha} (b, g2) (next_word 4 g1)
    → ◌≡◌ {A = ℕ × ChaCha} (c, g3) (next_word 4 g2)
    → AreWords id (record { word = w; first = a; second = b; third = c; rng = g3 })
are_words-read id w a b c g0 g1 g2 g3 small at_first one two three =
    let at_second : ReadsFrom id (w + 1) g1 = reads_from-next id w a g0 g1 (omega arith) at_first one in
    let at_third : ReadsFrom id (w + 1 + 1) g2 = reads_from-next id (w + 1) b g1 g2 (omega arith) at_second two in
    let behind : ReadsFrom id (w + 1 + 1 + 1) g3 = reads_from-next id (w + 1 + 1) c g2 g3 (omega arith) at_third three in
    let third_at : w + 1 + 1 ≡ w + 2 = omega arith in
    let behind_at : w + 1 + 1 + 1 ≡ w + 3 = omega arith in
    record {
      first_is = reads_from-word id w a g0 g1 at_first one;
      second_is = reads_from-word id (w + 1) b g1 g2 at_second two;
      third_is = reads_from-word id (w + 1 + 1) c g2 g3 at_third three ∙ ap (stream_word id) third_at;
      reads = subst (λ v. ReadsFrom id v g3) behind_at behind;
      small = small;
    }

-- a window moved by one word
pub are_words-step :
    (id : List ℕ) (s : Window) (c : ℕ) (g : ChaCha) → s.word + 1 < 2 ^ 60 → AreWords id s
    → ◌≡◌ {A = ℕ × ChaCha} (c, g) (next_word 4 s.rng)
    → AreWords id (record { word = s.word + 1; first = s.second; second = s.third; third = c; rng = g })
are_words-step id s c g small h e =
    let behind : ReadsFrom id (s.word + 3 + 1) g = reads_from-next id (s.word + 3) c s.rng g (omega arith) h.reads e in
    let second_at : s.word + 2 ≡ s.word + 1 + 1 = omega arith in
    let third_at : s.word + 3 ≡ s.word + 1 + 2 = omega arith in
    let behind_at : s.word + 3 + 1 ≡ s.word + 1 + 3 = omega arith in
    record {
      first_is = h.second_is;
      second_is = h.third_is ∙ ap (stream_word id) second_at;
      third_is = reads_from-word id (s.word + 3) c s.rng g h.reads e ∙ ap (stream_word id) third_at;
      reads = subst (λ v. ReadsFrom id v g) behind_at behind;
      small = small;
    }

-- the bits of a window
pub are_words-bits :
    (id : List ℕ) (s : Window) (a b c : ℕ) → b < 2 ^ 32 → c < 2 ^ 32 → AreWords id s
    → a ≡ swap_bytes w32 s.first → b ≡ swap_bytes w32 s.second → c ≡ swap_bytes w32 s.third
    → a < 2 ^ 32
    → bits (a * 2 ^ 64 % 2 ^ 128 + b * 2 ^ 32 % 2 ^ 128 + c) 96 ≡ stream_bits id (32 * s.word) 96
are_words-bits id s a b c hb hc h ea eb ec ha =
    let whole : a * 2 ^ 64 % 2 ^ 128 + b * 2 ^ 32 % 2 ^ 128 + c ≡ (a * 2 ^ 32 + b) * 2 ^ 32 + c = omega arith in
    ap (λ v. bits v 96) whole
    ∙ stream_bits-window id s.word a b c hb hc
    (ea ∙ ap (swap_bytes w32) h.first_is)
    (eb ∙ ap (swap_bytes w32) h.second_is)
    (ec ∙ ap (swap_bytes w32) h.third_is)
