-- The key stream: its bits by bytes, by words and by windows of three words.
use Rattle.std.proofs.Common.{◌≡◌, ℕ, zero, suc, ◌+◌, ◌-◌, ◌*◌, ◌/◌, ◌%◌, ◌^◌, ◌<◌, ◌≤◌, ◌==◌, List, ◌∷◌, ◌++◌, length, arith, refl, sym, ◌∙◌, ap, append_assoc, length-append, subst, lit<}
use Rattle.std.specs.Int.{w32, swap_bytes}
use Rattle.std.proofs.Math.Nat.{div-one, pow-le-pow_right, mod-lt, mod-eq_of_lt}
use Rattle.std.proofs.lemmas.Nat.{shr_high, mod_low, shr_below, pow_pos}
use Rattle.pos_bits.specs.Bits.{bits, number}
use Rattle.pos_bits.proofs.BitsLemmas.{number-append, number-lt, number-bits, bits-append}
use Rattle.pos_bits.specs.Blocks.{length-bits}
use Rattle.rand_chacha.specs.ChaCha.{ChaCha, next_word, of_seed}
use Rattle.pos_tuple.specs.Stream.{ReadsFrom, stream_key, stream_word, stream_byte, stream_bit, stream_bits, f1_of}

pub length-stream_bits : (id : List ℕ) (i n : ℕ) → length (stream_bits id i n) ≡ n
unfolding stream_bits
length-stream_bits id i zero = refl
length-stream_bits id i (suc n) = ap suc (length-stream_bits id (i + 1) n)

pub stream_bits-add :
    (id : List ℕ) (i m n : ℕ) → stream_bits id i (m + n) ≡ stream_bits id i m ++ stream_bits id (i + m) n
unfolding stream_bits
stream_bits-add id i zero n =
    let none : zero + n ≡ n = omega arith in
    let same : i + zero ≡ i = omega arith in rw (none, same)
stream_bits-add id i (suc m) n =
    let more : suc m + n ≡ suc (m + n) = omega arith in
    let on : i + 1 + m ≡ i + suc m = omega arith in
    rw (more, ← on) (ap (λ s. stream_bit id i ∷ s) (stream_bits-add id (i + 1) m n))

-- the last n bits of byte j
pub stream_bits-byte_end :
    (id : List ℕ) (j r n : ℕ) → r + n ≡ 8 → stream_bits id (8 * j + r) n ≡ bits (stream_byte id j) n
unfolding stream_bits bits stream_bit
stream_bits-byte_end id j r zero e = refl
stream_bits-byte_end id j r (suc n) e =
    let byte : (8 * j + r) / 8 ≡ j = omega arith in
    let place : 7 - (8 * j + r) % 8 ≡ n = omega arith in
    let next : 8 * j + r + 1 ≡ 8 * j + (r + 1) = omega arith in
    rw (byte, place, next) (ap (λ s. (stream_byte id j / 2 ^ n % 2 == 1) ∷ s) (stream_bits-byte_end id j (r + 1) n (omega arith)))

pub stream_bits-byte : (id : List ℕ) (j : ℕ) → stream_bits id (8 * j) 8 ≡ bits (stream_byte id j) 8
stream_bits-byte id j =
    let here : 8 * j + 0 ≡ 8 * j = omega arith in
    subst (λ i. stream_bits id i 8 ≡ bits (stream_byte id j) 8) here (stream_bits-byte_end id j 0 8 (omega arith))

-- the bits of four bytes are those of their number, the first byte highest
four_bytes :
    (a b c d : ℕ) → a < 256 → b < 256 → c < 256 → d < 256
    → bits (((a * 256 + b) * 256 + c) * 256 + d) 32 ≡ bits a 8 ++ (bits b 8 ++ (bits c 8 ++ bits d 8))
four_bytes a b c d ha hb hc hd =
    bits-append ((a * 256 + b) * 256 + c) d 24 8 hd
    ∙ ap (λ s. s ++ bits d 8)
    (bits-append (a * 256 + b) c 16 8 hc ∙ ap (λ s. s ++ bits c 8) (bits-append a b 8 8 hb))
    ∙ simp append_assoc

-- the bits of a word, its least significant byte first
swapped : (n : ℕ) → swap_bytes w32 n ≡ ((n % 256 * 256 + n / 256 % 256) * 256 + n / 65536 % 256) * 256 + n / 16777216 % 256
swapped n = omega arith

byte_in_word : (id : List ℕ) (w j : ℕ) → j < 4 → stream_byte id (4 * w + j) ≡ stream_word id w / 256 ^ j % 256
unfolding stream_byte
byte_in_word id w j small =
    let word : (4 * w + j) / 4 ≡ w = omega arith in
    let place : (4 * w + j) % 4 ≡ j = omega arith in rw (word, place)

byte_bits :
    (id : List ℕ) (w j i : ℕ) → j < 4 → i ≡ 32 * w + 8 * j
    → stream_bits id i 8 ≡ bits (stream_word id w / 256 ^ j % 256) 8
byte_bits id w j i small e =
    let at : i ≡ 8 * (4 * w + j) = omega arith in
    rw at (stream_bits-byte id (4 * w + j) ∙ ap (λ b. bits b 8) (byte_in_word id w j small))

-- word w is 32 bits of the stream
pub stream_bits-word : (id : List ℕ) (w : ℕ) → stream_bits id (32 * w) 32 ≡ bits (swap_bytes w32 (stream_word id w)) 32
stream_bits-word id w =
    let n = stream_word id w in
    let cut = (
    stream_bits-add id (32 * w) 8 24
    ∙ ap (λ s. stream_bits id (32 * w) 8 ++ s)
    (stream_bits-add id (32 * w + 8) 8 16
    ∙ ap (λ s. stream_bits id (32 * w + 8) 8 ++ s) (stream_bits-add id (32 * w + 8 + 8) 8 8))
    ) in
    let first_byte : stream_bits id (32 * w) 8 ≡ bits (n % 256) 8 =
    byte_bits id w 0 (32 * w) (omega arith) (omega arith) ∙ ap (λ m. bits (m % 256) 8) (div-one n)
    in
    let bytes = four_bytes (n % 256) (n / 256 % 256) (n / 65536 % 256) (n / 16777216 % 256) (omega arith) (omega arith) (omega arith) (omega arith) in
    cut
    ∙ rw (
      first_byte,
      byte_bits id w 1 (32 * w + 8) (omega arith) (omega arith),
      byte_bits id w 2 (32 * w + 8 + 8) (omega arith) (omega arith),
      byte_bits id w 3 (32 * w + 8 + 8 + 8) (omega arith) (omega arith),
    ) (sym (ap (λ m. bits m 32) (swapped n) ∙ bytes))

-- three words are 96 bits of the stream
pub stream_bits-window :
    (id : List ℕ) (w a b c : ℕ) → b < 2 ^ 32 → c < 2 ^ 32
    → a ≡ swap_bytes w32 (stream_word id w) → b ≡ swap_bytes w32 (stream_word id (w + 1)) → c ≡ swap_bytes w32 (stream_word id (w + 2))
    → bits ((a * 2 ^ 32 + b) * 2 ^ 32 + c) 96 ≡ stream_bits id (32 * w) 96
stream_bits-window id w a b c hb hc ea eb ec =
    let second : 32 * w + 32 ≡ 32 * (w + 1) = omega arith in
    let third : 32 * (w + 1) + 32 ≡ 32 * (w + 2) = omega arith in
    let cut = (
    stream_bits-add id (32 * w) 32 64
    ∙ ap (λ s. stream_bits id (32 * w) 32 ++ s)
    (rw second (stream_bits-add id (32 * (w + 1)) 32 32 ∙ ap (λ s. stream_bits id (32 * (w + 1)) 32 ++ s) (rw third refl)))
    ) in
    bits-append (a * 2 ^ 32 + b) c 64 32 hc
    ∙ ap (λ s. s ++ bits c 32) (bits-append a b 32 32 hb)
    ∙ append_assoc (bits a 32) (bits b 32) (bits c 32)
    ∙ rw (ea, eb, ec, ← stream_bits-word id w, ← stream_bits-word id (w + 1), ← stream_bits-word id (w + 2)) (sym cut)

-- the number that bits from bit `start` of 96 on write
pub number-window :
    (id : List ℕ) (w window start n : ℕ) → start + n ≤ 96 → window < 2 ^ 96
    → bits window 96 ≡ stream_bits id (32 * w) 96
    → number (stream_bits id (32 * w + start) n) ≡ window / 2 ^ (96 - (start + n)) % 2 ^ n
number-window id w window start n inside below e =
    let rest = 96 - (start + n) in
    let front = stream_bits id (32 * w) start in
    let part = stream_bits id (32 * w + start) n in
    let back = stream_bits id (32 * w + start + n) rest in
    let all : start + (n + rest) ≡ 96 = omega arith in
    let cut : stream_bits id (32 * w) 96 ≡ front ++ (part ++ back) =
    subst (λ m. stream_bits id (32 * w) m ≡ front ++ (part ++ back)) all
    (stream_bits-add id (32 * w) start (n + rest) ∙ ap (λ s. front ++ s) (stream_bits-add id (32 * w + start) n rest))
    in
    let tail_len : length back ≡ rest = length-stream_bits id (32 * w + start + n) rest in
    let part_len : length part ≡ n = length-stream_bits id (32 * w + start) n in
    let tail_lt : number back < 2 ^ rest = subst (λ m. number back < 2 ^ m) tail_len (number-lt back) in
    let part_lt : number part < 2 ^ n = subst (λ m. number part < 2 ^ m) part_len (number-lt part) in
    let whole : window ≡ (number front * 2 ^ n + number part) * 2 ^ rest + number back =
    (
    sym (number-bits window 96 below)
    ∙ ap number (e ∙ cut ∙ sym (append_assoc front part back))
    ∙ number-append (front ++ part) back
    ∙ rw (tail_len, number-append front part, part_len) refl
    )
    in
    sym
    (
    ap (λ v. v / 2 ^ rest % 2 ^ n) whole
    ∙ ap (λ v. v % 2 ^ n) (shr_high (number front * 2 ^ n + number part) rest (number back) tail_lt)
    ∙ mod_low (number front) n (number part) part_lt
    )

-- f1 from the stream's k bits and the value
pub f1-parts :
    (id : List ℕ) (k x : ℕ) → 6 ≤ k → x < 2 ^ k
    → f1_of id k x ≡ number (stream_bits id (x * k) k) * 2 ^ 6 + x / 2 ^ (k - 6)
unfolding f1_of
f1-parts id k x enough below =
    let six : 6 + (k - 6) ≡ k = omega arith in
    let top_lt : x / 2 ^ (k - 6) < 2 ^ 6 = shr_below x 6 (k - 6) (subst (λ m. x < 2 ^ m) (sym six) below) in
    number-append (stream_bits id (x * k) k) (bits (x / 2 ^ (k - 6)) 6)
    ∙ rw (length-bits (x / 2 ^ (k - 6)) 6, number-bits (x / 2 ^ (k - 6)) 6 top_lt) refl

pub f1-lt : (id : List ℕ) (k x : ℕ) → f1_of id k x < 2 ^ (k + 6)
unfolding f1_of
f1-lt id k x =
    let len : length (stream_bits id (x * k) k ++ bits (x / 2 ^ (k - 6)) 6) ≡ k + 6 =
    length-append (stream_bits id (x * k) k) (bits (x / 2 ^ (k - 6)) 6)
    ∙ rw (length-stream_bits id (x * k) k, length-bits (x / 2 ^ (k - 6)) 6) refl
    in subst (λ m. number (stream_bits id (x * k) k ++ bits (x / 2 ^ (k - 6)) 6) < 2 ^ m) len (number-lt _)

pub pow_mono : (m n : ℕ) → m ≤ n → 2 ^ m ≤ 2 ^ n
pow_mono m n h = pow-le-pow_right {n = 2} (lit< tt) {i = m} {j = n} h

-- what `f1` computes from a window of the stream
pub f1-computed :
    (id : List ℕ) (k x window stream : ℕ) → 10 ≤ k → k ≤ 50 → x < 2 ^ k → window < 2 ^ 96
    → bits window 96 ≡ stream_bits id (32 * (x * k / 32)) 96
    → stream ≡ window / 2 ^ (96 - (x * k % 32 + k)) % 2 ^ k
    → stream * 64 % 2 ^ 64 + x / 2 ^ (k - 6) ≡ f1_of id k x
f1-computed id k x window stream least most below window_lt is value =
    let place : 32 * (x * k / 32) + x * k % 32 ≡ x * k = omega arith in
    let read : number (stream_bits id (x * k) k) ≡ stream =
    subst (λ i. number (stream_bits id i k) ≡ stream) place
    (number-window id (x * k / 32) window (x * k % 32) k (omega arith) window_lt is ∙ sym value)
    in
    let small : 2 ^ k ≤ 2 ^ 50 = pow_mono k 50 most in
    let stream_lt : stream < 2 ^ k = rw value (mod-lt _ (pow_pos k)) in
    let whole : stream * 64 % 2 ^ 64 ≡ stream * 64 = mod-eq_of_lt (omega arith) in
    rw whole (sym (f1-parts id k x (omega arith) below ∙ ap (λ n. n * 2 ^ 6 + x / 2 ^ (k - 6)) read))

pub reads_from-set :
    (id : List ℕ) (w : ℕ) (made set : ChaCha) → w < 2 ^ 60 → made ≡ of_seed (stream_key id)
    → set ≡ record { key = made.key; stream = made.stream; word_pos = w % 2 ^ 68 } → ReadsFrom id w set
reads_from-set id w made set small e f = record {
  key_is = ap (λ g. g.key) f ∙ ap (λ g. g.key) e;
  stream_is = ap (λ g. g.stream) f ∙ ap (λ g. g.stream) e;
  place_is = ap (λ g. g.word_pos) f ∙ mod-eq_of_lt (omega arith);
}

pub reads_from-moved :
    (id : List ℕ) (v w : ℕ) (old set : ChaCha) → w < 2 ^ 60 → ReadsFrom id v old
    → set ≡ record { key = old.key; stream = old.stream; word_pos = w % 2 ^ 68 } → ReadsFrom id w set
reads_from-moved id v w old set small h f = record {
  key_is = ap (λ g. g.key) f ∙ h.key_is;
  stream_is = ap (λ g. g.stream) f ∙ h.stream_is;
  place_is = ap (λ g. g.word_pos) f ∙ mod-eq_of_lt (omega arith);
}

pub reads_from-word :
    (id : List ℕ) (w n : ℕ) (old new : ChaCha) → ReadsFrom id w old
    → ◌≡◌ {A = ℕ × ChaCha} (n, new) (next_word 4 old) → n ≡ stream_word id w
unfolding stream_word
reads_from-word id w n old new h e =
    ap (λ (p : ℕ × ChaCha). p.0) e ∙ rw (h.key_is, h.stream_is, h.place_is) refl

pub reads_from-next :
    (id : List ℕ) (w n : ℕ) (old new : ChaCha) → w < 2 ^ 61 → ReadsFrom id w old
    → ◌≡◌ {A = ℕ × ChaCha} (n, new) (next_word 4 old) → ReadsFrom id (w + 1) new
reads_from-next id w n old new small h e = record {
  key_is = ap (λ (p : ℕ × ChaCha). p.1.key) e ∙ h.key_is;
  stream_is = ap (λ (p : ℕ × ChaCha). p.1.stream) e ∙ h.stream_is;
  place_is = ap (λ (p : ℕ × ChaCha). p.1.word_pos) e ∙ rw h.place_is (mod-eq_of_lt (omega arith));
}
