-- Bits appended to bytes and a rest of fewer than 64 bits.
use Rattle.std.proofs.Common.{◌≡◌, ℕ, zero, suc, ◌+◌, ◌-◌, ◌*◌, ◌/◌, ◌%◌, ◌^◌, ◌<◌, ◌≤◌, Bool, true, false, List, [], ◌∷◌, ◌++◌, length, take, replicate, refl, sym, ap, ap₂, ◌∙◌, subst, arith, w64, append_assoc, append-nil, pow_pos, pow-add, pow-suc, add-zero, take_at}
use Rattle.std.specs.Int.{to_be_bytes}
use Rattle.std.proofs.Math.Nat.{mod-le}
use Rattle.std.proofs.lemmas.List.Elements.{All-take}
use Rattle.std.proofs.lemmas.List.{replicate-append-replicate}
use Rattle.pos_bits.specs.Bits.{AreBytes, bits, bits_of, byte_count, bytes}
use Rattle.pos_bits.specs.Blocks.{length-bits}
use Rattle.pos_bits.specs.Codes.{code_bits}
use Rattle.pos_bits.proofs.BitsLemmas.{bits-append, bits-mod, bits-none, bits-ones, bits-split, bits-zero}
use Rattle.pos_bits.proofs.BytesLemmas.{bits_of-append, bits_of-to_be_bytes, bytes-append, bytes-bits_of, bytes-padded, bytes_high_first-are_bytes, length-bytes}
use Rattle.pos_bits.proofs.PiecesLemmas.{joined-fits, joined-lt, shifted, top-lt}

-- the value is put behind the rest, and both are fewer than 64 bits
pub rest-joined :
    (rest fill value width : ℕ) → rest < 2 ^ fill → value < 2 ^ width → fill + width ≤ 64 →
    bits (rest * 2 ^ width % 2 ^ 64 + value) (fill + width) ≡ bits rest fill ++ bits value width
rest-joined rest fill value width r v h =
    ap (λ x. bits (x + value) (fill + width)) (shifted 64 rest fill width r h) ∙ bits-append rest value fill width v

pub rest-joined_lt :
    (rest fill value width : ℕ) → rest < 2 ^ fill → value < 2 ^ width → fill + width ≤ 64 →
    rest * 2 ^ width % 2 ^ 64 + value < 2 ^ (fill + width)
rest-joined_lt rest fill value width r v h = rw (shifted 64 rest fill width r h) (joined-lt rest fill width value r v)

-- a whole word of the rest and the top of the value goes to the bytes, and the low digits of the value are the new rest
pub word-appended :
    (items new : List ℕ) (rest fill value width word low : ℕ) → fill < 64 → 64 - fill ≤ width → new ≡ items ++ to_be_bytes w64 word →
    bits word 64 ≡ bits rest fill ++ bits (value / 2 ^ (width - (64 - fill))) (64 - fill) → low ≡ value % 2 ^ (width - (64 - fill)) →
    bits_of new ++ bits low (width - (64 - fill)) ≡ (bits_of items ++ bits rest fill) ++ bits value width
word-appended items new rest fill value width word low f w e is l =
    let room : ℕ = 64 - fill in
    let left : ℕ = width - room in
    let size : room + left ≡ width = omega arith in
    let value_split : bits value width ≡ bits (value / 2 ^ left) room ++ bits value left =
    subst (λ k. bits value k ≡ bits (value / 2 ^ left) room ++ bits value left) size (bits-split value room left) in
    let whole : bits_of new ≡ bits_of items ++ (bits rest fill ++ bits (value / 2 ^ left) room) =
    ap bits_of e ∙ bits_of-append items (to_be_bytes w64 word) ∙ ap (λ t. bits_of items ++ t) (bits_of-to_be_bytes word ∙ is) in
    ap₂ (λ a b. a ++ b) whole (ap (λ x. bits x left) l ∙ bits-mod value left)
    ∙ rw (value_split, append_assoc (bits_of items) (bits rest fill ++ bits (value / 2 ^ left) room), append_assoc (bits rest fill), append_assoc (bits_of items) (bits rest fill)) refl

pub word-of_two :
    (rest fill value width : ℕ) → fill < 64 → 64 - fill ≤ width → rest < 2 ^ fill → value < 2 ^ width →
    bits (rest * 2 ^ (64 - fill) % 2 ^ 64 + value / 2 ^ (width - (64 - fill))) 64
    ≡ bits rest fill ++ bits (value / 2 ^ (width - (64 - fill))) (64 - fill)
word-of_two rest fill value width f w r v =
    let size : fill + (64 - fill) ≡ 64 = omega arith in
    let x : ℕ = rest * 2 ^ (64 - fill) % 2 ^ 64 + value / 2 ^ (width - (64 - fill)) in
    subst (λ k. bits x k ≡ bits rest fill ++ bits (value / 2 ^ (width - (64 - fill))) (64 - fill)) size
    (rest-joined rest fill (value / 2 ^ (width - (64 - fill))) (64 - fill) r (top-lt value width (64 - fill) v w) (omega arith))

pub word-of_one :
    (rest fill value width : ℕ) → fill ≡ 0 →
    bits (value / 2 ^ (width - (64 - fill))) 64 ≡ bits rest fill ++ bits (value / 2 ^ (width - (64 - fill))) (64 - fill)
word-of_one rest fill value width e = rw (e, bits-none rest) refl

-- ---- the last bytes

-- the rest shifted to the top of a word
pub bits-topped : (rest fill : ℕ) → fill ≤ 64 → bits (rest * 2 ^ (64 - fill) % 2 ^ 64) 64 ≡ bits rest fill ++ replicate (64 - fill) false
bits-topped rest fill h =
    let n : ℕ = 64 - fill in
    let size : fill + n ≡ 64 = omega arith in
    bits-mod (rest * 2 ^ n) 64
    ∙ ap₂ bits (sym (add-zero (rest * 2 ^ n))) (sym size)
    ∙ bits-append rest 0 fill n (pow_pos n)
    ∙ ap (λ t. bits rest fill ++ t) (bits-zero n)

pub bytes-of_rest :
    (rest fill : ℕ) → fill ≤ 64 →
    take (byte_count fill) (to_be_bytes w64 (rest * 2 ^ (64 - fill) % 2 ^ 64)) ≡ bytes (bits rest fill)
bytes-of_rest rest fill h =
    let x : ℕ = rest * 2 ^ (64 - fill) % 2 ^ 64 in
    let s : List Bool = bits rest fill in
    let l : length s ≡ fill = length-bits rest fill in
    let padded : to_be_bytes w64 x ≡ bytes s ++ replicate (8 - byte_count (length s)) 0 =
    bytes-padded 8 s (to_be_bytes w64 x) (omega arith) (bytes_high_first-are_bytes 8 x)
    (bits_of-to_be_bytes x ∙ bits-topped rest fill h ∙ ap (λ k. s ++ replicate (64 - k) false) (sym l)) in
    ap (take (byte_count fill)) padded
    ∙ take_at (bytes s) (replicate (8 - byte_count (length s)) 0) (byte_count fill) (length-bytes s ∙ ap byte_count l)

AreBytes-front : (bs cs : List ℕ) → AreBytes (bs ++ cs) → AreBytes bs
AreBytes-front bs cs h =
    subst (λ (xs : List ℕ). AreBytes xs) (take_at bs cs (length bs) refl) (All-take (λ b. b < 256) (length bs) (bs ++ cs) h)

pub last-appended :
    (items new : List ℕ) (rest fill : ℕ) → fill ≤ 64 → AreBytes new →
    new ≡ items ++ take (byte_count fill) (to_be_bytes w64 (rest * 2 ^ (64 - fill) % 2 ^ 64)) →
    new ≡ bytes (bits_of items ++ bits rest fill)
last-appended items new rest fill h all e =
    let last : List ℕ = take (byte_count fill) (to_be_bytes w64 (rest * 2 ^ (64 - fill) % 2 ^ 64)) in
    let front : AreBytes items = AreBytes-front items last (subst (λ (xs : List ℕ). AreBytes xs) e all) in
    e ∙ ap (λ bs. items ++ bs) (bytes-of_rest rest fill h) ∙ sym (bytes-append items (bits rest fill) front)

pub none-appended : (items : List ℕ) (rest fill : ℕ) → fill ≡ 0 → AreBytes items → items ≡ bytes (bits_of items ++ bits rest fill)
none-appended items rest fill e all =
    rw (e, bits-none rest, append-nil (bits_of items)) (sym (bytes-bits_of items all))

-- ---- a run of ones

pub ones-appended :
    (start middle end : List Bool) (ones left n : ℕ) → left ≤ ones → n ≤ left → middle ≡ start ++ replicate (ones - left) true →
    end ≡ middle ++ bits (2 ^ n - 1) n → end ≡ start ++ replicate (ones - (left - n)) true
ones-appended start middle end ones left n h m before after =
    let size : (ones - left) + n ≡ ones - (left - n) = omega arith in
    after
    ∙ ap₂ (λ a b. a ++ b) before (bits-ones n)
    ∙ append_assoc start (replicate (ones - left) true) (replicate n true)
    ∙ ap (λ t. start ++ t) (replicate-append-replicate (ones - left) n true ∙ ap (λ k. replicate k true) size)

-- ones and a zero as one number
pub run-fits : (left : ℕ) → left < 63 → 2 * 2 ^ left % 2 ^ 64 - 2 < 2 ^ (left + 1)
run-fits left h = rw (shifted 64 2 2 left (omega arith) (omega arith), pow-add 2 left 1) (omega (arith, pow_pos left))

pub bits-run : (left : ℕ) → left < 63 → bits (2 * 2 ^ left % 2 ^ 64 - 2) (left + 1) ≡ replicate left true ++ false ∷ []
bits-run left h =
    let value : 2 * 2 ^ left % 2 ^ 64 - 2 ≡ (2 ^ left - 1) * 2 ^ 1 + 0 = rw (shifted 64 2 2 left (omega arith) (omega arith)) (omega arith) in
    ap (λ x. bits x (left + 1)) value
    ∙ bits-append (2 ^ left - 1) 0 left 1 (pow_pos 1)
    ∙ ap₂ (λ a b. a ++ b) (bits-ones left) (bits-zero 1)

pub run-appended :
    (start middle end : List Bool) (ones left : ℕ) → left ≤ ones → left < 63 → middle ≡ start ++ replicate (ones - left) true →
    end ≡ middle ++ bits (2 * 2 ^ left % 2 ^ 64 - 2) (left + 1) → end ≡ start ++ (replicate ones true ++ false ∷ [])
run-appended start middle end ones left h m before after =
    let size : (ones - left) + left ≡ ones = omega arith in
    after
    ∙ ap₂ (λ a b. a ++ b) before (bits-run left m)
    ∙ append_assoc start (replicate (ones - left) true) (replicate left true ++ false ∷ [])
    ∙ ap (λ t. start ++ t)
    (sym (append_assoc (replicate (ones - left) true) (replicate left true) (false ∷ []))
    ∙ ap (λ t. t ++ false ∷ []) (replicate-append-replicate (ones - left) left true ∙ ap (λ k. replicate k true) size))

-- a run, its 0 bit and low bits as one number
module _ (run low value : ℕ) (short : run + low < 63) (below : value < 2 ^ low) where
  pub run-low_some : 2 ≤ 2 * 2 ^ run % 2 ^ 64
  run-low_some = rw (shifted 64 2 2 run (omega arith) (omega (arith, short))) (omega (arith, pow_pos run))

  pub run-low_whole : (2 * 2 ^ run % 2 ^ 64 - 2) * 2 ^ low % 2 ^ 64 ≡ (2 * 2 ^ run % 2 ^ 64 - 2) * 2 ^ low
  run-low_whole = shifted 64 (2 * 2 ^ run % 2 ^ 64 - 2) (run + 1) low (run-fits run (omega (arith, short))) (omega (arith, short))

  pub run-low_lt : (2 * 2 ^ run % 2 ^ 64 - 2) * 2 ^ low % 2 ^ 64 + value < 2 ^ (run + 1 + low)
  run-low_lt = rw run-low_whole (joined-lt (2 * 2 ^ run % 2 ^ 64 - 2) (run + 1) low value (run-fits run (omega (arith, short))) below)

  pub run-low_fits : (2 * 2 ^ run % 2 ^ 64 - 2) * 2 ^ low % 2 ^ 64 + value < 2 ^ 64
  run-low_fits = joined-fits 64 (2 * 2 ^ run % 2 ^ 64 - 2) (run + 1) low value (run-fits run (omega (arith, short))) below (omega (arith, short))

  pub run-low_bits : bits ((2 * 2 ^ run % 2 ^ 64 - 2) * 2 ^ low % 2 ^ 64 + value) (run + 1 + low) ≡ replicate run true ++ false ∷ bits value low
  run-low_bits =
      ap (λ x. bits (x + value) (run + 1 + low)) run-low_whole
      ∙ bits-append (2 * 2 ^ run % 2 ^ 64 - 2) value (run + 1) low below
      ∙ ap (λ t. t ++ bits value low) (bits-run run (omega (arith, short)))
      ∙ append_assoc (replicate run true) (false ∷ []) (bits value low)

lt_pow : (n : ℕ) → n < 2 ^ n
lt_pow zero = omega arith
lt_pow (suc n) = omega (arith, lt_pow n, pow-suc 2 n)

-- a number whose code is shorter than 64 bits fits a word
pub short_number : (number low most : ℕ) → low < 63 → most ≡ 63 - low → number < most * 2 ^ low % 2 ^ 128 → number < 2 ^ 63
short_number number low most narrow is below =
    let size : (63 - low) + low ≡ 63 = omega arith in
    let small : most < 2 ^ (63 - low) = rw is (lt_pow (63 - low)) in
    let whole : most * 2 ^ low + 0 < 2 ^ ((63 - low) + low) = joined-lt most (63 - low) low 0 small (pow_pos low) in
    let top : 2 ^ ((63 - low) + low) ≡ 2 ^ 63 = ap (λ k. 2 ^ k) size in
    omega (arith, mod-le (most * 2 ^ low) (2 ^ 128), whole, top, below)

-- a run, and then low bits, are a code
pub code-appended :
    (start before middle end : List Bool) (low n : ℕ) → before ≡ start → middle ≡ before ++ (replicate (n / 2 ^ low) true ++ false ∷ []) →
    end ≡ middle ++ bits (n % 2 ^ low) low → end ≡ start ++ code_bits low n
unfolding code_bits
code-appended start before middle end low n same first second =
    second
    ∙ ap (λ t. t ++ bits (n % 2 ^ low) low) (first ∙ ap (λ t. t ++ (replicate (n / 2 ^ low) true ++ false ∷ [])) same)
    ∙ append_assoc start (replicate (n / 2 ^ low) true ++ false ∷ []) (bits (n % 2 ^ low) low)
    ∙ ap (λ t. start ++ t) (append_assoc (replicate (n / 2 ^ low) true) (false ∷ []) (bits (n % 2 ^ low) low))
