-- The laws of the kinds of records: what is put is taken again, and what is taken fits. Proofs alone.
use Rattle.std.specs.Prelude.{ℕ, zero, suc, ◌≡◌, ◌+◌, ◌*◌, ◌/◌, ◌%◌, ◌^◌, ◌≤◌, ◌<◌, Bool, List, [], ◌++◌, length, take, drop}
use Rattle.std.proofs.Common.{refl, sym, ap, ap₂, ◌∙◌, subst, arith, append_assoc, append-nil, take_at, drop_at, take_all, take-add, length-append, drop-drop, le_trans}
use Rattle.std.proofs.Math.Nat.{mul-le-mul_left, mul-le-mul_right}
use Rattle.std.proofs.lemmas.Nat.{mod_low, shr_high}
use Rattle.pos_bits.specs.Bits.{bits, number}
use Rattle.pos_bits.specs.Blocks.{length-bits}
use Rattle.pos_bits.proofs.BitsLemmas.{number-append, number-bits, number-lt}
use Rattle.pos_bits.proofs.PiecesLemmas.{bits-part, length-part}
use Rattle.pos_tuple.specs.Node.{metadata_units}
use Rattle.pos_record.specs.Fields.{IsRecordSize, part_at, field_at}
use Rattle.pos_record.specs.Kinds.{first_width, first_code, first_read, FirstFits, value_code, value_read, ValueFits, middle_width, entry_code, left_at, right_at, middle_code, middle_read, MiddleFits, metadata_number, row_code, row_read, RowFits, last_width, last_code, last_read, LastFits, pair_width, pair_code, pair_read, PairFits, number_width, number_code, number_read, NumberFits}
use Rattle.pos_record.specs.declared.kinds.First.{First}
use Rattle.pos_record.specs.declared.kinds.Value.{Value}
use Rattle.pos_record.specs.declared.kinds.Middle.{Middle}
use Rattle.pos_record.specs.declared.kinds.Row.{Row}
use Rattle.pos_record.specs.declared.kinds.Last.{Last}
use Rattle.pos_record.specs.declared.kinds.Pair.{Pair}
use Rattle.pos_record.specs.declared.kinds.Number.{Number}

-- ---- one part of a string

-- a part that stands between two others
part-between : (p x q : List Bool) (at w : ℕ) → length p ≡ at → length x ≡ w → part_at at w (p ++ x ++ q) ≡ x
part-between p x q at w a b =
    ap (λ t. take w (drop at t)) (append_assoc p x q) ∙ ap (take w) (drop_at p (x ++ q) at a) ∙ take_at x q w b

part-last : (p x : List Bool) (at w : ℕ) → length p ≡ at → length x ≡ w → part_at at w (p ++ x) ≡ x
part-last p x at w a b = ap (λ t. part_at at w t) (sym (append-nil (p ++ x))) ∙ part-between p x [] at w a b

-- a field that stands between two parts, and one that stands last
field-between : (p q : List Bool) (v at w : ℕ) → length p ≡ at → v < 2 ^ w → field_at at w (p ++ bits v w ++ q) ≡ v
field-between p q v at w a h = ap number (part-between p (bits v w) q at w a (length-bits v w)) ∙ number-bits v w h

field-last : (p : List Bool) (v at w : ℕ) → length p ≡ at → v < 2 ^ w → field_at at w (p ++ bits v w) ≡ v
field-last p v at w a h = ap number (part-last p (bits v w) at w a (length-bits v w)) ∙ number-bits v w h

field-lt : (s : List Bool) (at w : ℕ) → at + w ≤ length s → field_at at w s < 2 ^ w
field-lt s at w h = subst (λ n. field_at at w s < 2 ^ n) (length-part s at w h) (number-lt (part_at at w s))

-- one more field behind those before it
field-more : (s : List Bool) (at w : ℕ) → at + w ≤ length s → take at s ++ bits (field_at at w s) w ≡ take (at + w) s
field-more s at w h = ap (λ t. take at s ++ t) (bits-part s at w h) ∙ sym (take-add at w s)

part-more : (s : List Bool) (at w : ℕ) → take at s ++ part_at at w s ≡ take (at + w) s
part-more s at w = sym (take-add at w s)

-- a whole string of so many bits
all-taken : (s : List Bool) (n : ℕ) → length s ≡ n → take n s ≡ s
all-taken s n l = take_all n s (omega arith)

-- a field of two parts, from the first bit of its first
pub field-split : (s : List Bool) (at a b : ℕ) → at + a + b ≤ length s
    → (field_at at (a + b) s / 2 ^ b ≡ field_at at a s) × (field_at at (a + b) s % 2 ^ b ≡ field_at (at + a) b s)
field-split s at a b h =
    let x : List Bool = part_at at a s in
    let y : List Bool = part_at (at + a) b s in
    let long : length y ≡ b = length-part s (at + a) b h in
    let below : number y < 2 ^ b = subst (λ n. number y < 2 ^ n) long (number-lt y) in
    let parts : part_at at (a + b) s ≡ x ++ y = take-add a b (drop at s) ∙ ap (λ t. x ++ take b t) (drop-drop a at s) in
    let is : field_at at (a + b) s ≡ number x * 2 ^ b + number y =
    ap number parts ∙ number-append x y ∙ ap (λ n. number x * 2 ^ n + number y) long in
    (ap (λ n. n / 2 ^ b) is ∙ shr_high (number x) b (number y) below, ap (λ n. n % 2 ^ b) is ∙ mod_low (number x) b (number y) below)

-- ---- how many units of metadata a table has

units_le : (t : ℕ) → metadata_units t ≤ 4
units_le zero = omega arith
units_le (suc zero) = omega arith
units_le (suc (suc zero)) = omega arith
units_le (suc (suc (suc zero))) = omega arith
units_le (suc (suc (suc (suc zero)))) = omega arith
units_le (suc (suc (suc (suc (suc zero))))) = omega arith
units_le (suc (suc (suc (suc (suc (suc zero)))))) = omega arith
units_le (suc (suc (suc (suc (suc (suc (suc zero))))))) = omega arith
units_le (suc (suc (suc (suc (suc (suc (suc (suc t)))))))) = omega arith

pub metadata_le : (k t : ℕ) → k ≤ 50 → k * metadata_units t ≤ 200
metadata_le k t h = le_trans (mul-le-mul k 50 (metadata_units t) 4 h (units_le t)) (omega arith)
  where
    mul-le-mul : (a b c d : ℕ) → a ≤ b → c ≤ d → a * c ≤ b * d
    mul-le-mul a b c d p q = le_trans (mul-le-mul_left a q) (mul-le-mul_right d p)

-- ---- First

pub first_width_in_range : (k : ℕ) → IsRecordSize k → (1 ≤ first_width k) × (first_width k ≤ 512)
first_width_in_range k h = (omega arith, omega arith)

pub first_code_length : (k : ℕ) (r : First) → IsRecordSize k → FirstFits k r → length (first_code k r) ≡ first_width k
first_code_length k r h f = rw (length-append (bits r.y (k + 6)) (bits r.x k), length-bits r.y (k + 6), length-bits r.x k) refl

pub first_read_fits : (k : ℕ) (s : List Bool) → IsRecordSize k → length s ≡ first_width k → FirstFits k (first_read k s)
first_read_fits k s h l = (field-lt s 0 (k + 6) (omega arith), field-lt s (k + 6) k (omega arith))

pub first_read_code : (k : ℕ) (r : First) → IsRecordSize k → FirstFits k r → first_read k (first_code k r) ≡ r
first_read_code k r h f =
    let make : ℕ → ℕ → First = λ a b. record { y = a; x = b } in
    ap₂ make (field-between [] (bits r.x k) r.y 0 (k + 6) refl f.0) (field-last (bits r.y (k + 6)) r.x (k + 6) k (length-bits r.y (k + 6)) f.1)

pub first_code_read : (k : ℕ) (s : List Bool) → IsRecordSize k → length s ≡ first_width k → first_code k (first_read k s) ≡ s
first_code_read k s h l =
    ap (λ t. t ++ bits (field_at (k + 6) k s) k) (bits-part s 0 (k + 6) (omega arith))
    ∙ field-more s (k + 6) k (omega arith)
    ∙ all-taken s (first_width k) l

-- ---- Value

pub value_width_in_range : (k : ℕ) → IsRecordSize k → (1 ≤ k) × (k ≤ 512)
value_width_in_range k h = (omega arith, omega arith)

pub value_code_length : (k : ℕ) (r : Value) → IsRecordSize k → ValueFits k r → length (value_code k r) ≡ k
value_code_length k r h f = length-bits r.x k

pub value_read_fits : (k : ℕ) (s : List Bool) → IsRecordSize k → length s ≡ k → ValueFits k (value_read k s)
value_read_fits k s h l = field-lt s 0 k (omega arith)

pub value_read_code : (k : ℕ) (r : Value) → IsRecordSize k → ValueFits k r → value_read k (value_code k r) ≡ r
value_read_code k r h f = let make : ℕ → Value = λ a. record { x = a } in ap make (field-last [] r.x 0 k refl f)

pub value_code_read : (k : ℕ) (s : List Bool) → IsRecordSize k → length s ≡ k → value_code k (value_read k s) ≡ s
value_code_read k s h l = bits-part s 0 k (omega arith) ∙ all-taken s k l

-- ---- an entry of a table from 2 to 6

four : (a b c d : List Bool) → a ++ b ++ c ++ d ≡ a ++ (b ++ (c ++ d))
four a b c d = append_assoc (a ++ b) c d ∙ append_assoc a b (c ++ d)

length-entry : (k y left right m : ℕ) (meta : List Bool) → length meta ≡ m → length (entry_code k y meta left right) ≡ k + 6 + m + (k + 1) + (k + 1)
length-entry k y left right m meta l =
    rw (length-append (bits y (k + 6) ++ meta ++ bits left (k + 1)) (bits right (k + 1)), length-append (bits y (k + 6) ++ meta) (bits left (k + 1)), length-append (bits y (k + 6)) meta, length-bits y (k + 6), length-bits left (k + 1), length-bits right (k + 1), l) refl

y-back : (k y left right : ℕ) (meta : List Bool) → y < 2 ^ (k + 6) → field_at 0 (k + 6) (entry_code k y meta left right) ≡ y
y-back k y left right meta h =
    ap (field_at 0 (k + 6)) (four (bits y (k + 6)) meta (bits left (k + 1)) (bits right (k + 1)))
    ∙ field-between [] (meta ++ (bits left (k + 1) ++ bits right (k + 1))) y 0 (k + 6) refl h

meta-back : (k y left right m : ℕ) (meta : List Bool) → length meta ≡ m → part_at (k + 6) m (entry_code k y meta left right) ≡ meta
meta-back k y left right m meta l =
    ap (part_at (k + 6) m) (append_assoc (bits y (k + 6) ++ meta) (bits left (k + 1)) (bits right (k + 1)))
    ∙ part-between (bits y (k + 6)) meta (bits left (k + 1) ++ bits right (k + 1)) (k + 6) m (length-bits y (k + 6)) l

left-back : (k y left right m : ℕ) (meta : List Bool) → length meta ≡ m → left < 2 ^ (k + 1) → left_at k m (entry_code k y meta left right) ≡ left
left-back k y left right m meta l h =
    field-between (bits y (k + 6) ++ meta) (bits right (k + 1)) left (k + 6 + m) (k + 1)
    (rw (length-append (bits y (k + 6)) meta, length-bits y (k + 6), l) refl) h

right-back : (k y left right m : ℕ) (meta : List Bool) → length meta ≡ m → right < 2 ^ (k + 1) → right_at k m (entry_code k y meta left right) ≡ right
right-back k y left right m meta l h =
    field-last (bits y (k + 6) ++ meta ++ bits left (k + 1)) right (k + 6 + m + (k + 1)) (k + 1)
    (rw (length-append (bits y (k + 6) ++ meta) (bits left (k + 1)), length-append (bits y (k + 6)) meta, length-bits y (k + 6), length-bits left (k + 1), l) refl) h

entry-again : (k m : ℕ) (s : List Bool) → length s ≡ k + 6 + m + (k + 1) + (k + 1) →
    entry_code k (field_at 0 (k + 6) s) (part_at (k + 6) m s) (left_at k m s) (right_at k m s) ≡ s
entry-again k m s l =
    ap (λ t. t ++ part_at (k + 6) m s ++ bits (left_at k m s) (k + 1) ++ bits (right_at k m s) (k + 1)) (bits-part s 0 (k + 6) (omega arith))
    ∙ ap (λ t. t ++ bits (left_at k m s) (k + 1) ++ bits (right_at k m s) (k + 1)) (part-more s (k + 6) m)
    ∙ ap (λ t. t ++ bits (right_at k m s) (k + 1)) (field-more s (k + 6 + m) (k + 1) (omega arith))
    ∙ field-more s (k + 6 + m + (k + 1)) (k + 1) (omega arith)
    ∙ all-taken s (k + 6 + m + (k + 1) + (k + 1)) l

pub middle_width_in_range : (k t : ℕ) → IsRecordSize k → (1 ≤ middle_width k t) × (middle_width k t ≤ 512)
middle_width_in_range k t h = (omega arith, omega (arith, metadata_le k t h.1))

pub middle_code_length : {T : ℕ} (k t : ℕ) (r : Middle T) → IsRecordSize k → MiddleFits k t r → length (middle_code k t r) ≡ middle_width k t
middle_code_length k t r h f = length-entry k r.y r.left r.right (k * metadata_units t) r.meta f.1

pub middle_read_fits : (T k t : ℕ) (s : List Bool) → IsRecordSize k → length s ≡ middle_width k t → MiddleFits k t (middle_read {T = T} k t s)
middle_read_fits T k t s h l =
    let m : ℕ = k * metadata_units t in
    (field-lt s 0 (k + 6) (omega arith), length-part s (k + 6) m (omega arith), field-lt s (k + 6 + m) (k + 1) (omega arith), field-lt s (k + 6 + m + (k + 1)) (k + 1) (omega arith))

pub middle_read_code : {T : ℕ} (k t : ℕ) (r : Middle T) → IsRecordSize k → MiddleFits k t r → middle_read k t (middle_code k t r) ≡ r
middle_read_code {T} k t r h f =
    let m : ℕ = k * metadata_units t in
    let make : ℕ → List Bool → ℕ → ℕ → Middle T = λ a b c d. record { y = a; meta = b; left = c; right = d } in
    ap₂ (λ a b. make a b (left_at k m (middle_code k t r)) (right_at k m (middle_code k t r))) (y-back k r.y r.left r.right r.meta f.0) (meta-back k r.y r.left r.right m r.meta f.1)
    ∙ ap₂ (λ c d. make r.y r.meta c d) (left-back k r.y r.left r.right m r.meta f.1 f.2) (right-back k r.y r.left r.right m r.meta f.1 f.3)

pub middle_code_read : (T k t : ℕ) (s : List Bool) → IsRecordSize k → length s ≡ middle_width k t → middle_code k t (middle_read {T = T} k t s) ≡ s
middle_code_read T k t s h l = entry-again k (k * metadata_units t) s l

-- ---- Row

pub row_code_length : {T : ℕ} (k t : ℕ) (r : Row T) → IsRecordSize k → RowFits k t r → length (row_code k t r) ≡ middle_width k t
row_code_length k t r h f =
    let m : ℕ = k * metadata_units t in
    length-entry k r.y r.left r.right m (bits (metadata_number r) m) (length-bits (metadata_number r) m)

number-again : (n : ℕ) → n / 2 ^ 128 * 2 ^ 128 + n % 2 ^ 128 ≡ n
number-again n = omega arith

pub row_read_fits : (T k t : ℕ) (s : List Bool) → IsRecordSize k → length s ≡ middle_width k t → RowFits k t (row_read {T = T} k t s)
row_read_fits T k t s h l =
    let m : ℕ = k * metadata_units t in
    let n : ℕ = field_at (k + 6) m s in
    let fits : n < 2 ^ m = field-lt s (k + 6) m (omega arith) in
    (field-lt s 0 (k + 6) (omega arith), omega arith, subst (λ (x : ℕ). x < 2 ^ m) (sym (number-again n)) fits, field-lt s (k + 6 + m) (k + 1) (omega arith), field-lt s (k + 6 + m + (k + 1)) (k + 1) (omega arith))

pub row_read_code : {T : ℕ} (k t : ℕ) (r : Row T) → IsRecordSize k → RowFits k t r → row_read k t (row_code k t r) ≡ r
row_read_code {T} k t r h f =
    let m : ℕ = k * metadata_units t in
    let n : ℕ = metadata_number r in
    let meta : List Bool = bits n m in
    let l : length meta ≡ m = length-bits n m in
    let s : List Bool = row_code k t r in
    let make : ℕ → ℕ → ℕ → ℕ → ℕ → Row T = λ a b c d e. record { y = a; high = b; low = c; left = d; right = e } in
    let is : field_at (k + 6) m s ≡ n = ap number (meta-back k r.y r.left r.right m meta l) ∙ number-bits n m f.2 in
    let high : field_at (k + 6) m s / 2 ^ 128 ≡ r.high = ap (λ x. x / 2 ^ 128) is ∙ shr_high r.high 128 r.low f.1 in
    let low : field_at (k + 6) m s % 2 ^ 128 ≡ r.low = ap (λ x. x % 2 ^ 128) is ∙ mod_low r.high 128 r.low f.1 in
    ap₂ (λ a b. make a b (field_at (k + 6) m s % 2 ^ 128) (left_at k m s) (right_at k m s)) (y-back k r.y r.left r.right meta f.0) high
    ∙ ap (λ c. make r.y r.high c (left_at k m s) (right_at k m s)) low
    ∙ ap₂ (λ d e. make r.y r.high r.low d e) (left-back k r.y r.left r.right m meta l f.3) (right-back k r.y r.left r.right m meta l f.4)

pub row_code_read : (T k t : ℕ) (s : List Bool) → IsRecordSize k → length s ≡ middle_width k t → row_code k t (row_read {T = T} k t s) ≡ s
row_code_read T k t s h l =
    let m : ℕ = k * metadata_units t in
    let meta : bits (field_at (k + 6) m s / 2 ^ 128 * 2 ^ 128 + field_at (k + 6) m s % 2 ^ 128) m ≡ part_at (k + 6) m s =
    ap (λ x. bits x m) (number-again (field_at (k + 6) m s)) ∙ bits-part s (k + 6) m (omega arith) in
    ap (λ t. entry_code k (field_at 0 (k + 6) s) t (left_at k m s) (right_at k m s)) meta ∙ entry-again k m s l

-- ---- Last

pub last_width_in_range : (k : ℕ) → IsRecordSize k → (1 ≤ last_width k) × (last_width k ≤ 512)
last_width_in_range k h = (omega arith, omega arith)

pub last_code_length : (k : ℕ) (r : Last) → IsRecordSize k → LastFits k r → length (last_code k r) ≡ last_width k
last_code_length k r h f =
    rw (length-append (bits r.y (k + 6) ++ bits r.left (k + 1)) (bits r.right (k + 1)), length-append (bits r.y (k + 6)) (bits r.left (k + 1)), length-bits r.y (k + 6), length-bits r.left (k + 1), length-bits r.right (k + 1)) refl

pub last_read_fits : (k : ℕ) (s : List Bool) → IsRecordSize k → length s ≡ last_width k → LastFits k (last_read k s)
last_read_fits k s h l = (field-lt s 0 (k + 6) (omega arith), field-lt s (k + 6) (k + 1) (omega arith), field-lt s (k + 6 + (k + 1)) (k + 1) (omega arith))

pub last_read_code : (k : ℕ) (r : Last) → IsRecordSize k → LastFits k r → last_read k (last_code k r) ≡ r
last_read_code k r h f =
    let y : List Bool = bits r.y (k + 6) in
    let left : List Bool = bits r.left (k + 1) in
    let right : List Bool = bits r.right (k + 1) in
    let s : List Bool = last_code k r in
    let make : ℕ → ℕ → ℕ → Last = λ a b c. record { y = a; left = b; right = c } in
    ap₂ (λ a b. make a b (field_at (k + 6 + (k + 1)) (k + 1) s))
    (ap (field_at 0 (k + 6)) (append_assoc y left right) ∙ field-between [] (left ++ right) r.y 0 (k + 6) refl f.0)
    (field-between y right r.left (k + 6) (k + 1) (length-bits r.y (k + 6)) f.1)
    ∙ ap (λ c. make r.y r.left c)
    (field-last (y ++ left) r.right (k + 6 + (k + 1)) (k + 1) (rw (length-append y left, length-bits r.y (k + 6), length-bits r.left (k + 1)) refl) f.2)

pub last_code_read : (k : ℕ) (s : List Bool) → IsRecordSize k → length s ≡ last_width k → last_code k (last_read k s) ≡ s
last_code_read k s h l =
    ap (λ t. t ++ bits (field_at (k + 6) (k + 1) s) (k + 1) ++ bits (field_at (k + 6 + (k + 1)) (k + 1) s) (k + 1)) (bits-part s 0 (k + 6) (omega arith))
    ∙ ap (λ t. t ++ bits (field_at (k + 6 + (k + 1)) (k + 1) s) (k + 1)) (field-more s (k + 6) (k + 1) (omega arith))
    ∙ field-more s (k + 6 + (k + 1)) (k + 1) (omega arith)
    ∙ all-taken s (last_width k) l

-- ---- Pair

pub pair_width_in_range : (k : ℕ) → IsRecordSize k → (1 ≤ pair_width k) × (pair_width k ≤ 512)
pair_width_in_range k h = (omega arith, omega arith)

pub pair_code_length : (k : ℕ) (r : Pair) → IsRecordSize k → PairFits k r → length (pair_code k r) ≡ pair_width k
pair_code_length k r h f = rw (length-append (bits r.left (k + 1)) (bits r.right (k + 1)), length-bits r.left (k + 1), length-bits r.right (k + 1)) refl

pub pair_read_fits : (k : ℕ) (s : List Bool) → IsRecordSize k → length s ≡ pair_width k → PairFits k (pair_read k s)
pair_read_fits k s h l = (field-lt s 0 (k + 1) (omega arith), field-lt s (k + 1) (k + 1) (omega arith))

pub pair_read_code : (k : ℕ) (r : Pair) → IsRecordSize k → PairFits k r → pair_read k (pair_code k r) ≡ r
pair_read_code k r h f =
    let make : ℕ → ℕ → Pair = λ a b. record { left = a; right = b } in
    ap₂ make (field-between [] (bits r.right (k + 1)) r.left 0 (k + 1) refl f.0) (field-last (bits r.left (k + 1)) r.right (k + 1) (k + 1) (length-bits r.left (k + 1)) f.1)

pub pair_code_read : (k : ℕ) (s : List Bool) → IsRecordSize k → length s ≡ pair_width k → pair_code k (pair_read k s) ≡ s
pair_code_read k s h l =
    ap (λ t. t ++ bits (field_at (k + 1) (k + 1) s) (k + 1)) (bits-part s 0 (k + 1) (omega arith))
    ∙ field-more s (k + 1) (k + 1) (omega arith)
    ∙ all-taken s (pair_width k) l

-- ---- Number

pub number_width_in_range : (k : ℕ) → IsRecordSize k → (1 ≤ number_width k) × (number_width k ≤ 512)
number_width_in_range k h = (omega arith, omega arith)

pub number_code_length : (k : ℕ) (r : Number) → IsRecordSize k → NumberFits k r → length (number_code k r) ≡ number_width k
number_code_length k r h f = length-bits r.number (number_width k)

pub number_read_fits : (k : ℕ) (s : List Bool) → IsRecordSize k → length s ≡ number_width k → NumberFits k (number_read k s)
number_read_fits k s h l = field-lt s 0 (number_width k) (omega arith)

pub number_read_code : (k : ℕ) (r : Number) → IsRecordSize k → NumberFits k r → number_read k (number_code k r) ≡ r
number_read_code k r h f = let make : ℕ → Number = λ a. record { number = a } in ap make (field-last [] r.number 0 (number_width k) refl f)

pub number_code_read : (k : ℕ) (s : List Bool) → IsRecordSize k → length s ≡ number_width k → number_code k (number_read k s) ≡ s
number_code_read k s h l = bits-part s 0 (number_width k) (omega arith) ∙ all-taken s (number_width k) l
