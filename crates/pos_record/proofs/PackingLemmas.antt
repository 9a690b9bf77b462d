-- Records one after another in a string.
use Rattle.std.proofs.Common.{◌≡◌, ℕ, zero, suc, ◌+◌, ◌*◌, ◌/◌, ◌<◌, ◌≤◌, Bool, List, ◌∷◌, ◌++◌, length, take, drop, refl, sym, ap, ap₂, ◌∙◌, arith, append_assoc, drop-drop, take-add, take_at, drop_at, length-take, length-drop}
use Rattle.std.proofs.Math.Nat.{mul-le-mul_right}
use Rattle.std.specs.Prelude.{Some, slice_get, slice_set}
use Rattle.pos_record.specs.Packing.{records_in}

pub length-records_in : {R : Type 0} (read : List Bool → R) (w n : ℕ) (s : List Bool) → length (records_in read w n s) ≡ n
unfolding records_in
length-records_in read w zero s = refl
length-records_in read w (suc n) s = ap suc (length-records_in read w n (drop w s))

-- record i begins behind i records
pub get-records_in : {R : Type 0} (read : List Bool → R) (w n i : ℕ) (s : List Bool) → i < n → slice_get (records_in read w n s) i ≡ Some (read (take w (drop (i * w) s)))
unfolding records_in
get-records_in read w zero i s h = absurd (omega arith)
get-records_in read w (suc n) zero s h =
    let none : 0 ≡ 0 * w = omega arith in
    ap (λ k. Some (read (take w (drop k s)))) none
get-records_in read w (suc n) (suc i) s h =
    let place : w + i * w ≡ suc i * w = omega arith in
    get-records_in read w n i (drop w s) (omega arith)
    ∙ ap (λ t. Some (read (take w t))) (drop-drop (i * w) w s ∙ ap (λ k. drop k s) place)

-- there is room for a record at each place
pub record-fits : (i n w : ℕ) → i < n / w → i * w + w ≤ n
record-fits i n zero h = omega arith
record-fits i n (suc w) h =
    let next : (i + 1) * suc w ≤ n / suc w * suc w = mul-le-mul_right (suc w) (let le : i + 1 ≤ n / suc w = omega arith in le) in
    let room : n / suc w * suc w ≤ n = omega arith in
    omega arith

-- the records where one of them was written anew
pub set-records_in : {R : Type 0} (read : List Bool → R) (w n i : ℕ) (s x : List Bool) → i < n → length x ≡ w → n * w ≤ length s →
    records_in read w n (take (i * w) s ++ x ++ drop (i * w + w) s) ≡ slice_set (records_in read w n s) i (read x)
unfolding records_in
set-records_in read w zero i s x h l r = absurd (omega arith)
set-records_in read w (suc n) zero s x h l r =
    let none : 0 * w ≡ 0 = omega arith in
    let whole : take (0 * w) s ++ x ++ drop (0 * w + w) s ≡ x ++ drop w s = ap (λ k. take k s ++ x ++ drop (k + w) s) none ∙ ap (λ k. x ++ drop k s) (omega arith) in
    ap (records_in read w (suc n)) whole
    ∙ ap₂ (λ a b. read a ∷ records_in read w n b) (take_at x (drop w s) w l) (drop_at x (drop w s) w l)
set-records_in read w (suc n) (suc i) s x h l r =
    let place : suc i * w ≡ w + i * w = omega arith in
    let behind : suc i * w + w ≡ w + (i * w + w) = omega arith in
    let first : List Bool = take w s in
    let others : List Bool = take (i * w) (drop w s) ++ x ++ drop (i * w + w) (drop w s) in
    let room : suc n * w ≡ w + n * w = omega arith in
    let long : length first ≡ w = rw (length-take w s) (omega arith) in
    let whole : take (suc i * w) s ++ x ++ drop (suc i * w + w) s ≡ first ++ others =
    ap₂ (λ a b. a ++ x ++ b) (ap (λ k. take k s) place ∙ take-add w (i * w) s) (ap (λ k. drop k s) behind ∙ sym (drop-drop (i * w + w) w s))
    ∙ ap (λ t. t ++ drop (i * w + w) (drop w s)) (append_assoc first (take (i * w) (drop w s)) x)
    ∙ append_assoc first (take (i * w) (drop w s) ++ x) (drop (i * w + w) (drop w s)) in
    ap (records_in read w (suc n)) whole
    ∙ ap₂ (λ a b. read a ∷ records_in read w n b) (take_at first others w long) (drop_at first others w long)
    ∙ ap (λ t. read first ∷ t) (set-records_in read w n i (drop w s) x (omega arith) l (rw (length-drop w s) (omega arith)))

-- so many records are no longer than the string
pub count-fits : (n w : ℕ) → n / w * w ≤ n
count-fits n zero = omega arith
count-fits n (suc w) = omega arith
