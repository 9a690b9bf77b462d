-- Strings and numbers read or written piece by piece.
use Rattle.std.proofs.Common.{◌≡◌, ℕ, ◌+◌, ◌-◌, ◌*◌, ◌/◌, ◌%◌, ◌^◌, ◌<◌, ◌≤◌, Bool, List, ◌++◌, length, take, drop, refl, sym, ap, ap₂, ◌∙◌, subst, arith, length-drop, length-take, take-add, drop-drop, append-nil, append_assoc, pow-add, pow_mono, lt_of_lt_of_le}
use Rattle.std.proofs.lemmas.Nat.{mul-add-lt, shl_whole, shr_below}
use Rattle.pos_bits.specs.Bits.{bits, number}
use Rattle.pos_bits.proofs.BitsLemmas.{bits-append, bits-mod, bits-none, bits-number, bits-split, number-append}

-- ---- a value is written from its top

-- the top of a value
pub top-lt : (value width room : ℕ) → value < 2 ^ width → room ≤ width → value / 2 ^ (width - room) < 2 ^ room
top-lt value width room v h =
    let e : width ≡ room + (width - room) = omega arith in
    shr_below value room (width - room) (subst (λ k. value < 2 ^ k) e v)

-- the top of a value is put, and then its low digits
pub two-appended :
    (start middle end : List Bool) (value width top left low : ℕ) → top + left ≡ width → middle ≡ start ++ bits (value / 2 ^ left) top →
    low ≡ value % 2 ^ left → end ≡ middle ++ bits low left → end ≡ start ++ bits value width
two-appended start middle end value width top left low size first l second =
    second
    ∙ ap₂ (λ a b. a ++ b) first (ap (λ x. bits x left) l ∙ bits-mod value left)
    ∙ append_assoc start (bits (value / 2 ^ left) top) (bits value left)
    ∙ ap (λ t. start ++ t) (sym (bits-split value top left) ∙ ap (bits value) size)

pub none-put : (old : List Bool) (value width : ℕ) → width ≡ 0 → old ≡ old ++ bits value width
none-put old value width e = rw (e, bits-none value, append-nil old) refl

-- ---- a number is read from its top

pub length-part : (s : List Bool) (at n : ℕ) → at + n ≤ length s → length (take n (drop at s)) ≡ n
length-part s at n h = rw (length-take, length-drop) (omega arith)

pub part-more :
    (s : List Bool) (start done count : ℕ) →
    take (done + count) (drop start s) ≡ take done (drop start s) ++ take count (drop (start + done) s)
part-more s start done count =
    take-add done count (drop start s) ∙ ap (λ t. take done (drop start s) ++ take count t) (drop-drop done start s)

pub bits-part : (s : List Bool) (at n : ℕ) → at + n ≤ length s → bits (number (take n (drop at s))) n ≡ take n (drop at s)
bits-part s at n h =
    subst (λ k. bits (number (take n (drop at s))) k ≡ take n (drop at s)) (length-part s at n h) (bits-number (take n (drop at s)))

-- a value is shifted up by `count` bits, and a number of so many bits is added
pub shifted : (z value done count : ℕ) → value < 2 ^ done → done + count ≤ z → value * 2 ^ count % 2 ^ z ≡ value * 2 ^ count
shifted z value done count v h = shl_whole value done count z v h

pub joined-lt : (value done count low : ℕ) → value < 2 ^ done → low < 2 ^ count → value * 2 ^ count + low < 2 ^ (done + count)
joined-lt value done count low v l =
    rw pow-add (omega (arith, mul-add-lt value (2 ^ count) low (2 ^ done) v l))

pub joined-fits :
    (z value done count low : ℕ) → value < 2 ^ done → low < 2 ^ count → done + count ≤ z →
    value * 2 ^ count % 2 ^ z + low < 2 ^ z
joined-fits z value done count low v l h =
    rw (shifted z value done count v h) (lt_of_lt_of_le (joined-lt value done count low v l) (pow_mono h))

pub number-more :
    (z : ℕ) (s : List Bool) (start done count value low width : ℕ) → done + count ≡ width → start + done + count ≤ length s → width ≤ z →
    value < 2 ^ done → value ≡ number (take done (drop start s)) → low ≡ number (take count (drop (start + done) s)) →
    value * 2 ^ count % 2 ^ z + low ≡ number (take width (drop start s))
number-more z s start done count value low width e there h v is low_is =
    rw (shifted z value done count v (omega arith), ← e, part-more s start done count, number-append (take done (drop start s)) (take count (drop (start + done) s)), length-part s (start + done) count there, ← is, ← low_is) refl

pub number-more_lt :
    (z value done count low width : ℕ) → done + count ≡ width → width ≤ z → value < 2 ^ done → low < 2 ^ count →
    value * 2 ^ count % 2 ^ z + low < 2 ^ width
number-more_lt z value done count low width e h v l =
    rw (shifted z value done count v (omega arith)) (subst (λ k. value * 2 ^ count + low < 2 ^ k) e (joined-lt value done count low v l))

pub number-none : (s : List Bool) (start width : ℕ) → width ≡ 0 → 0 ≡ number (take width (drop start s))
unfolding number
number-none s start width e = rw e refl

-- one more piece of a part is put behind what was put so far
pub piece-more :
    (s front now new : List Bool) (start done count at x : ℕ) → at ≡ start + done → at + count ≤ length s →
    now ≡ front ++ take done (drop start s) → x ≡ number (take count (drop at s)) → new ≡ now ++ bits x count →
    new ≡ front ++ take (done + count) (drop start s)
piece-more s front now new start done count at x e h before value after =
    after
    ∙ ap₂ (λ a b. a ++ b) before (ap (λ y. bits y count) value ∙ bits-part s at count h ∙ ap (λ k. take count (drop k s)) e)
    ∙ append_assoc front (take done (drop start s)) (take count (drop (start + done) s))
    ∙ ap (λ t. front ++ t) (sym (part-more s start done count))

-- ---- a value is taken from the front of what is left

pub take-none : (s : List Bool) (width : ℕ) → s ≡ bits 0 (width - width) ++ s
take-none s width =
    let e : width - width ≡ 0 = omega arith in
    rw (e, bits-none 0) refl

pub take-more :
    (s now new : List Bool) (value low width left count : ℕ) → count ≤ left → left ≤ width → width ≤ 128 →
    value < 2 ^ (width - left) → low < 2 ^ count → s ≡ bits value (width - left) ++ now → now ≡ bits low count ++ new →
    s ≡ bits (value * 2 ^ count % 2 ^ 128 + low) (width - (left - count)) ++ new
take-more s now new value low width left count h w m v l before after =
    let size : (width - left) + count ≡ width - (left - count) = omega arith in
    before
    ∙ ap (λ t. bits value (width - left) ++ t) after
    ∙ sym (append_assoc (bits value (width - left)) (bits low count) new)
    ∙ ap (λ t. t ++ new)
    (sym (bits-append value low (width - left) count l)
    ∙ ap₂ bits (ap (λ x. x + low) (sym (shifted 128 value (width - left) count v (omega arith)))) size)

pub take-more_lt :
    (value low width left count : ℕ) → count ≤ left → left ≤ width → width ≤ 128 → value < 2 ^ (width - left) → low < 2 ^ count →
    value * 2 ^ count % 2 ^ 128 + low < 2 ^ (width - (left - count))
take-more_lt value low width left count h w m v l =
    let size : (width - left) + count ≡ width - (left - count) = omega arith in
    rw (shifted 128 value (width - left) count v (omega arith))
    (subst (λ k. value * 2 ^ count + low < 2 ^ k) size (joined-lt value (width - left) count low v l))
