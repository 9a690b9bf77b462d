-- Reading a number in decimal by the library's parser.
use Rattle.std.proofs.Common.{◌≡◌, ℕ, ◌<◌, ◌≤◌, ◌^◌, ◌==◌, ◌||◌, not, true, false, List, length, refl, sym, ap, ◌∙◌, subst, ⊎_elim, lt-ltb, ltb-true, eq-eqb, eqb-true}
use Rattle.std.specs.Prelude.{Some, None, Result, Ok, Err, IfSome, IfNone, slice_index}
use Rattle.std.specs.Result.{OkIff, result_ok}
use Rattle.std.specs.Str.{all_ascii_digits}
use Rattle.std.specs.Str.Parse.{digits_value, ParsesUnsigned}
use Rattle.std.proofs.lemmas.Bool.{cases_Bool, cases_lt, and_from, and_parts}
use Rattle.std.proofs.Math.Bool.{or-true}
use Rattle.std.proofs.lemmas.Str.Parse.{IsNumeralModel, numerals_by_value, tells_all_ascii_digits, parse_plain}
use Rattle.pos_app.specs.Words.{is_decimal, decimal_word}
use Rattle.pos_app.specs.Read.{IsPlain}

own : IsNumeralModel (λ ds. all_ascii_digits ds ≡ true) (digits_value 10)
own = numerals_by_value (λ ds. all_ascii_digits ds ≡ true) tells_all_ascii_digits

-- a plain word has no leading zero
no_leading_zero : (bs : List ℕ) → IsPlain bs → (length bs == 1 || not (slice_index bs 0 == 48)) ≡ true
no_leading_zero bs plain =
    ⊎_elim
    (λ (zero : (slice_index bs 0 == 48) ≡ true).
    let one : (length bs == 1) ≡ true = eq-eqb _ _ (plain.1 (eqb-true _ _ zero)) in rw one refl)
    (λ (other : (slice_index bs 0 == 48) ≡ false). rw other (or-true (length bs == 1)))
    (cases_Bool (slice_index bs 0 == 48))

decimal_from : (bs : List ℕ) → IsPlain bs → all_ascii_digits bs ≡ true → 0 < length bs → is_decimal bs ≡ true
decimal_from bs plain digits some =
    and_from _ _ (and_from _ _ (lt-ltb _ _ some) digits) (no_leading_zero bs plain)

-- what the parser asks of a word without a sign
abbrev IsRead : List ℕ → Type 0
IsRead bs = (all_ascii_digits bs ≡ true) × (0 < length bs) × (digits_value 10 bs < 2 ^ 64)

decimal_word-of : (bs : List ℕ) → is_decimal bs ≡ true → decimal_word bs ≡ Some (digits_value 10 bs)
decimal_word-of bs e = rw e refl

decimal_word-none : (bs : List ℕ) → is_decimal bs ≡ false → decimal_word bs ≡ None
decimal_word-none bs e = rw e refl

read_by : {E : Type 0} (bs : List ℕ) (r : Result ℕ E) → IsPlain bs → OkIff r (IsRead bs) (digits_value 10 bs)
    → IfSome (result_ok r) (λ n. decimal_word bs ≡ Some n)
read_by bs (Ok n) plain h =
    decimal_word-of bs (decimal_from bs plain h.0.0 h.0.1) ∙ ap Some (sym h.1)
read_by bs (Err e) plain h = tt

none_by : {E : Type 0} (bs : List ℕ) (r : Result ℕ E) → OkIff r (IsRead bs) (digits_value 10 bs)
    → IfNone (result_ok r) (IfSome (decimal_word bs) (λ n. 2 ^ 64 ≤ n))
none_by bs (Ok n) h = tt
none_by bs (Err e) h =
    ⊎_elim
    (λ (yes : is_decimal bs ≡ true).
    let parts = and_parts _ _ yes in
    let digits = and_parts _ _ parts.0 in
    let large : 2 ^ 64 ≤ digits_value 10 bs =
    ⊎_elim
    (λ (small : digits_value 10 bs < 2 ^ 64). absurd (h (digits.1, ltb-true _ _ digits.0, small)))
    (λ (big : 2 ^ 64 ≤ digits_value 10 bs). big)
    (cases_lt (digits_value 10 bs) (2 ^ 64))
    in subst (λ o. IfSome o (λ n. 2 ^ 64 ≤ n)) (sym (decimal_word-of bs yes)) large)
    (λ (no : is_decimal bs ≡ false).
    subst (λ o. IfSome o (λ n. 2 ^ 64 ≤ n)) (sym (decimal_word-none bs no)) tt)
    (cases_Bool (is_decimal bs))

pub decimal-read :
    {E : Type 0} (bs : List ℕ) (r : Result ℕ E) → IsPlain bs → ParsesUnsigned 64 10 bs r
    → IfSome (result_ok r) (λ n. decimal_word bs ≡ Some n)
decimal-read bs r plain h = read_by bs r plain (parse_plain own 64 bs r h plain.0)

pub decimal-none :
    {E : Type 0} (bs : List ℕ) (r : Result ℕ E) → IsPlain bs → ParsesUnsigned 64 10 bs r
    → IfNone (result_ok r) (IfSome (decimal_word bs) (λ n. 2 ^ 64 ≤ n))
decimal-none bs r plain h = none_by bs r (parse_plain own 64 bs r h plain.0)
