-- Laws of `bytes` and `bits_of`: each undoes the other, and how they pass through `++`.
use Rattle.std.proofs.Common.{◌≡◌, ℕ, zero, suc, ◌+◌, ◌-◌, ◌*◌, ◌/◌, ◌%◌, ◌^◌, ◌<◌, ◌≤◌, Bool, false, List, [], ◌∷◌, ◌++◌, length, take, drop, replicate, get_or, All, refl, sym, ap, ap₂, ◌∙◌, subst, arith, length-append, append_assoc, append-nil, w64, take_at, pow-suc, pow-add, inl, inr, take_all, take-add, drop_at, drop-drop}
use Rattle.std.specs.Int.{byte_at, bytes_high_first, from_be_bytes, to_be_bytes}
use Rattle.std.proofs.lemmas.Nat.{be_bytes_8}
use Rattle.std.proofs.lemmas.List.{replicate-append-replicate, get_or_past, drop_all}
use Rattle.std.proofs.lemmas.Bool.{cases_lt}
use Rattle.std.proofs.lemmas.List.Elements.{All-append, All-cons, All-drop, All-from_get_or, All-get_or, All-nil, All-replicate, All-take}
use Rattle.pos_bits.specs.Bits.{AreBytes, bits, bits_of, byte_count, bytes, bytes_for}
use Rattle.pos_bits.specs.Blocks.{bits_of_blocks, blocks, length-bits, length-bits_of_blocks, length-blocks}
use Rattle.pos_bits.proofs.BitsLemmas.{bits-mod, bits-none, bits-split, bits-zero}
use Rattle.pos_bits.proofs.BlocksLemmas.{bits_of_blocks-blocks, blocks-append, blocks-lt}

-- ---- bytes are blocks of eight bits

pub bytes_for-blocks : (n : ℕ) (s : List Bool) → bytes_for n s ≡ blocks 8 n s
unfolding bytes_for blocks
bytes_for-blocks zero s = refl
bytes_for-blocks (suc n) s = rw (bytes_for-blocks n (drop 8 s)) refl

pub bits_of-blocks : (bs : List ℕ) → bits_of bs ≡ bits_of_blocks 8 bs
unfolding bits_of bits_of_blocks
bits_of-blocks [] = refl
bits_of-blocks (b ∷ bs) = ap (λ t. bits b 8 ++ t) (bits_of-blocks bs)

-- ---- lengths and bounds

pub length-bits_of : (bs : List ℕ) → length (bits_of bs) ≡ 8 * length bs
length-bits_of bs = ap length (bits_of-blocks bs) ∙ length-bits_of_blocks 8 bs

pub length-bytes_for : (n : ℕ) (s : List Bool) → length (bytes_for n s) ≡ n
length-bytes_for n s = ap length (bytes_for-blocks n s) ∙ length-blocks 8 n s

pub length-bytes : (s : List Bool) → length (bytes s) ≡ byte_count (length s)
length-bytes s = length-bytes_for (byte_count (length s)) s

-- each of them is below 256
pub bytes_for-are_bytes : (n : ℕ) (s : List Bool) → AreBytes (bytes_for n s)
bytes_for-are_bytes n s = subst (λ (xs : List ℕ). All (λ b. b < 256) xs) (sym (bytes_for-blocks n s)) (blocks-lt 8 n s)

pub bytes-are_bytes : (s : List Bool) → AreBytes (bytes s)
bytes-are_bytes s = bytes_for-are_bytes (byte_count (length s)) s

-- ---- joined bytes

pub bits_of-append : (bs cs : List ℕ) → bits_of (bs ++ cs) ≡ bits_of bs ++ bits_of cs
unfolding bits_of
bits_of-append [] cs = refl
bits_of-append (b ∷ bs) cs = rw (bits_of-append bs cs, append_assoc (bits b 8) (bits_of bs) (bits_of cs)) refl

pub bits_of-replicate_zero : (n : ℕ) → bits_of (replicate n 0) ≡ replicate (8 * n) false
unfolding bits_of
bits_of-replicate_zero zero = refl
bits_of-replicate_zero (suc n) =
    let e : 8 * suc n ≡ 8 + 8 * n = omega arith in
    rw (bits-zero 8, bits_of-replicate_zero n, e, replicate-append-replicate 8 (8 * n) false) refl

pub bytes_for-append :
    (n : ℕ) (bs : List ℕ) (s : List Bool) → AreBytes bs → bytes_for (length bs + n) (bits_of bs ++ s) ≡ bs ++ bytes_for n s
bytes_for-append n bs s h =
    bytes_for-blocks (length bs + n) (bits_of bs ++ s)
    ∙ ap (λ t. blocks 8 (length bs + n) (t ++ s)) (bits_of-blocks bs)
    ∙ blocks-append 8 n bs s h
    ∙ ap (λ t. bs ++ t) (sym (bytes_for-blocks n s))

pub bytes-append : (bs : List ℕ) (s : List Bool) → AreBytes bs → bytes (bits_of bs ++ s) ≡ bs ++ bytes s
bytes-append bs s h =
    let e : byte_count (length (bits_of bs ++ s)) ≡ length bs + byte_count (length s) =
    rw (length-append, length-bits_of) (omega arith) in
    ap (λ n. bytes_for n (bits_of bs ++ s)) e ∙ bytes_for-append (byte_count (length s)) bs s h

-- ---- each undoes the other

pub bytes-bits_of : (bs : List ℕ) → AreBytes bs → bytes (bits_of bs) ≡ bs
unfolding bytes_for
bytes-bits_of bs h = ap bytes (sym (append-nil (bits_of bs))) ∙ bytes-append bs [] h ∙ append-nil bs

pub bits_of-bytes_for :
    (n : ℕ) (s : List Bool) → length s ≤ 8 * n → bits_of (bytes_for n s) ≡ s ++ replicate (8 * n - length s) false
bits_of-bytes_for n s h =
    bits_of-blocks (bytes_for n s) ∙ ap (bits_of_blocks 8) (bytes_for-blocks n s) ∙ bits_of_blocks-blocks 8 n s h

-- the string, and fewer than eight 0 bits
pub bits_of-bytes : (s : List Bool) → bits_of (bytes s) ≡ s ++ replicate (8 * byte_count (length s) - length s) false
bits_of-bytes s = bits_of-bytes_for (byte_count (length s)) s (omega arith)

pub fill-lt : (n : ℕ) → 8 * byte_count n - n < 8
fill-lt n = omega arith

pub take-bits_of-bytes : (s : List Bool) → take (length s) (bits_of (bytes s)) ≡ s
take-bits_of-bytes s =
    rw (bits_of-bytes s) (take_at s (replicate (8 * byte_count (length s) - length s) false) (length s) refl)

-- bytes with the same bits are equal
pub bits_of-injective : (bs cs : List ℕ) → AreBytes bs → AreBytes cs → bits_of bs ≡ bits_of cs → bs ≡ cs
bits_of-injective bs cs hb hc e = sym (bytes-bits_of bs hb) ∙ ap bytes e ∙ bytes-bits_of cs hc

-- strings of one length with the same bytes are equal
pub bytes-injective : (s t : List Bool) → length s ≡ length t → bytes s ≡ bytes t → s ≡ t
bytes-injective s t l e =
    sym (take-bits_of-bytes s) ∙ ap₂ (λ n bs. take n (bits_of bs)) l e ∙ take-bits_of-bytes t

-- ---- the bytes of a number

pow-mul_of_8 : (k : ℕ) → 256 ^ k ≡ 2 ^ (8 * k)
pow-mul_of_8 zero = refl
pow-mul_of_8 (suc k) =
    let e : 8 * suc k ≡ 8 * k + 8 = omega arith in
    rw (e, pow-suc 256 k, pow-mul_of_8 k, pow-add 2 (8 * k) 8) refl

byte-below : (bs : List ℕ) → AreBytes bs → (i : ℕ) → get_or bs i 0 < 256
byte-below bs h i =
    elim (cases_lt i (length bs)) [
      | inl in' ↦ All-get_or (λ b. b < 256) bs i 0 in' h
      | inr past ↦ rw (get_or_past bs i 0 past) (omega arith)
    ]

pub byte_at_is : (k n : ℕ) → byte_at k n ≡ n / 2 ^ (8 * k) % 256
byte_at_is zero n = omega arith
byte_at_is (suc k) n = ap (λ m. n / m % 256) (pow-mul_of_8 (suc k))

pub bits_of-bytes_high_first : (k n : ℕ) → bits_of (bytes_high_first k n) ≡ bits n (8 * k)
unfolding bits_of
bits_of-bytes_high_first zero n = sym (bits-none n)
bits_of-bytes_high_first (suc k) n =
    let e : 8 * suc k ≡ 8 + 8 * k = omega arith in
    rw (byte_at_is k n, bits-mod (n / 2 ^ (8 * k)) 8, bits_of-bytes_high_first k n, e) (sym (bits-split n 8 (8 * k)))

-- eight bytes, the highest first, have the bits of their number
pub bits_of-to_be_bytes : (n : ℕ) → bits_of (to_be_bytes w64 n) ≡ bits n 64
bits_of-to_be_bytes n = bits_of-bytes_high_first 8 n

pub bits-from_be_bytes : (bs : List ℕ) → length bs ≡ 8 → AreBytes bs → bits (from_be_bytes w64 bs) 64 ≡ bits_of bs
bits-from_be_bytes bs l h =
    sym (bits_of-to_be_bytes (from_be_bytes w64 bs)) ∙ ap bits_of (be_bytes_8 bs (from_be_bytes w64 bs) l (λ i. byte-below bs h i) refl)

pub bytes_high_first-are_bytes : (k n : ℕ) → AreBytes (bytes_high_first k n)
bytes_high_first-are_bytes zero n = All-nil (λ b. b < 256)
bytes_high_first-are_bytes (suc k) n =
    All-cons (λ b. b < 256) (byte_at k n) (bytes_high_first k n) (rw (byte_at_is k n) (omega arith)) (bytes_high_first-are_bytes k n)

-- ---- bytes of a string and zeros

pub bytes-padded :
    (n : ℕ) (s : List Bool) (out : List ℕ) → length s ≤ 8 * n → AreBytes out → bits_of out ≡ s ++ replicate (8 * n - length s) false →
    out ≡ bytes s ++ replicate (n - byte_count (length s)) 0
bytes-padded n s out h all e =
    let m : ℕ = byte_count (length s) in
    let sum : 8 * m - length s + 8 * (n - m) ≡ 8 * n - length s = omega arith in
    let target : AreBytes (bytes s ++ replicate (n - m) 0) =
    All-append (λ b. b < 256) (bytes s) (replicate (n - m) 0) (bytes-are_bytes s) (All-replicate (λ b. b < 256) (n - m) 0 (omega arith)) in
    bits_of-injective out (bytes s ++ replicate (n - m) 0) all target
    (e
    ∙ sym
    (bits_of-append (bytes s) (replicate (n - m) 0)
    ∙ ap₂ (λ a b. a ++ b) (bits_of-bytes s) (bits_of-replicate_zero (n - m))
    ∙ append_assoc s (replicate (8 * m - length s) false) (replicate (8 * (n - m)) false)
    ∙ ap (λ t. s ++ t) (replicate-append-replicate (8 * m - length s) (8 * (n - m)) false ∙ ap (λ k. replicate k false) sum)))

-- ---- parts of bytes

pub bits_of-one : (b : ℕ) → bits_of (b ∷ []) ≡ bits b 8
unfolding bits_of
bits_of-one b = append-nil (bits b 8)

pub take-bits_of : (n : ℕ) (bs : List ℕ) → take (8 * n) (bits_of bs) ≡ bits_of (take n bs)
unfolding bits_of
take-bits_of zero bs = refl
take-bits_of (suc n) [] = take_all (8 * suc n) [] (omega arith)
take-bits_of (suc n) (b ∷ bs) =
    let e : 8 * suc n ≡ 8 + 8 * n = omega arith in
    rw (e, take-add 8 (8 * n) (bits b 8 ++ bits_of bs), take_at (bits b 8) (bits_of bs) 8 (length-bits b 8), drop_at (bits b 8) (bits_of bs) 8 (length-bits b 8), take-bits_of n bs) refl

pub drop-bits_of : (n : ℕ) (bs : List ℕ) → drop (8 * n) (bits_of bs) ≡ bits_of (drop n bs)
unfolding bits_of
drop-bits_of zero bs = refl
drop-bits_of (suc n) [] = drop_all (8 * suc n) [] (omega arith)
drop-bits_of (suc n) (b ∷ bs) =
    let e : 8 * suc n ≡ 8 + 8 * n = omega arith in
    ap (λ k. drop k (bits b 8 ++ bits_of bs)) e
    ∙ sym (drop-drop (8 * n) 8 (bits b 8 ++ bits_of bs))
    ∙ ap (drop (8 * n)) (drop_at (bits b 8) (bits_of bs) 8 (length-bits b 8))
    ∙ drop-bits_of n bs

pub AreBytes-from_reads : (bs : List ℕ) → ((i : ℕ) → i < length bs → get_or bs i 0 < 256) → AreBytes bs
AreBytes-from_reads bs h = All-from_get_or (λ b. b < 256) bs 0 h

pub AreBytes-part : (bs : List ℕ) (at n : ℕ) → AreBytes bs → AreBytes (take n (drop at bs))
AreBytes-part bs at n h = All-take (λ b. b < 256) n (drop at bs) (All-drop (λ b. b < 256) at bs h)
