-- What opening found right where it finds nothing, and that it needs no more than a file's first bytes.
use Rattle.std.proofs.Common.{◌≡◌, ℕ, zero, suc, ◌+◌, ◌-◌, ◌*◌, ◌<◌, ◌≤◌, ◌==◌, not, ◌||◌, min, refl, sym, ◌∙◌, ap, ap₂, arith, true, Option, Some, None, List, [], ◌∷◌, ◌++◌, length, replicate, take, drop, inl, inr, append-nil}
use Rattle.std.specs.Option.{option_map}
use Rattle.std.proofs.lemmas.Bool.{cases_lt}
use Rattle.std.proofs.lemmas.Bool.Decides.{nat_tests}
use Rattle.std.proofs.lemmas.List.{drop-take, drop_all, get_or-take, length-replicate, length-take-le, take_all}
use Rattle.pos_layout.specs.declared.header.Header.{Header}
use Rattle.pos_layout.specs.declared.damage.Damage.TheVariants.{NotOpen, Header as WrongHeader, Length}
use Rattle.pos_layout.specs.Bytes.{part, two_at, eight_at}
use Rattle.pos_layout.specs.declared.layout.Layout.{Layout}
use Rattle.pos_layout.specs.Layouts.{zeros_of}
use Rattle.pos_layout.specs.Fields.{column_in, gate_in, header_in, layout_in}
use Rattle.pos_layout.specs.Damages.{first_found, header_fault, is_placed, directory_fault, opening}
use Rattle.pos_layout.specs.Rules.{IsPlaced, IsLaidOut}
use Rattle.pos_layout.proofs.LayoutLemmas.{zeros_few}
use Rattle.pos_reader.proofs.HeaderLemmas.{IsRight, both_left, both_right, eq_means, le_means, first_none, header_right, is_gated, short_gate, opening-gate, places_none}

-- ---- what the tests mean

none_first : {D : Type 0} (x : Option D) (tests : List (Option D)) → first_found (x ∷ tests) ≡ None → (x ≡ None) × (first_found tests ≡ None)
none_first None tests e = (refl, e)
none_first (Some d) tests e = cc

none_under : {A B : Type 0} (f : A → B) (x : Option A) → option_map f x ≡ None → x ≡ None
none_under f None e = refl
none_under f (Some a) e = cc

either_means : (count directory before : ℕ) → (not (count == 0) || (directory == before)) ≡ true → count ≡ 0 → directory ≡ before
either_means count directory before e none = grind (arith, nat_tests)

placed_means : (h : Header) (t : ℕ) → is_placed h.layout h t ≡ true → IsPlaced h.layout h t
placed_means h t e = record {
  after = le_means _ _ (both_left _ _ (both_left _ _ e));
  inside = le_means _ _ (both_right _ _ (both_left _ _ e));
  empty = either_means _ _ _ (both_right _ _ e);
}

-- what opening found right, whatever the length of the bytes
pub record IsGood (b : List ℕ) (n : ℕ) : Type 0 where
  pub long : 176 ≤ n
  pub gate : gate_in b ≡ 1
  pub right : IsRight b
  pub said : (header_in b).file_length ≡ n
  pub laid_out : IsLaidOut (header_in b).layout (header_in b)

pub good-from_opening : (b : List ℕ) (n : ℕ) → opening (layout_in b) b n ≡ None → IsGood b n
unfolding opening header_in
good-from_opening b n none =
    let h = header_in b in
    let gate = first_none (is_gated b n) (NotOpen n (gate_in b)) _ none in
    let header = none_first (option_map (λ field. WrongHeader field) (header_fault (layout_in b) b)) _ gate.1 in
    let said = first_none (h.file_length == n) (Length h.file_length n) _ header.1 in
    let directory = none_first (directory_fault h.layout h) [] said.1 in
    let right = header_right b (none_under _ (header_fault (layout_in b) b) header.0) in
    let places = places_none h directory.0 in
    record {
      long = le_means _ _ (both_left _ _ gate.0);
      gate = eq_means _ _ (both_right _ _ gate.0);
      right = right;
      said = eq_means _ _ said.0;
      laid_out = record {
        least = right.least;
        greatest = right.counts.size;
        memo = right.memo;
        counts = right.counts.counts;
        placed = λ t first last. placed_means h t (places.0 t first last);
        whole = eq_means _ _ places.1;
      };
    }

-- ---- the first bytes of a file

take_take : {X : Type 0} (n d : ℕ) (xs : List X) → n ≤ d → take n (take d xs) ≡ take n xs
take_take zero d xs less = refl
take_take (suc n) zero xs less = absurd (omega arith)
take_take (suc n) (suc d) [] less = refl
take_take (suc n) (suc d) (x ∷ xs) less = ap (λ ys. x ∷ ys) (take_take n d xs (omega arith))

part_front : (b : List ℕ) (m at n : ℕ) → at + n ≤ m → part (take m b) at n ≡ part b at n
unfolding part
part_front b m at n within =
    let e : m ≡ at + (m - at) = omega arith in
    let dropped : drop at (take m b) ≡ take (m - at) (drop at b) = ap (λ k. drop at (take k b)) e ∙ drop-take at (m - at) b in
    ap (λ xs. take n xs) dropped ∙ take_take n (m - at) (drop at b) (omega arith)

eight_front : (b : List ℕ) (at : ℕ) → at + 8 ≤ 176 → eight_at (take 176 b) at ≡ eight_at b at
unfolding eight_at
eight_front b at within = rw (part_front b 176 at 8 within) refl

column_front : (b : List ℕ) (t : ℕ) → t ≤ 7 → column_in (take 176 b) t ≡ column_in b t
unfolding column_in
column_front b t last = rw (eight_front b (40 + 16 * t) (omega arith), eight_front b (48 + 16 * t) (omega arith)) refl

gate_front : (b : List ℕ) → gate_in (take 176 b) ≡ gate_in b
gate_front b = get_or-take 176 b 0 0 (omega arith)

two_front : (b : List ℕ) (at : ℕ) → at + 2 ≤ 176 → two_at (take 176 b) at ≡ two_at b at
unfolding two_at
two_front b at within = rw (part_front b 176 at 2 within) refl

layout_front : (b : List ℕ) → layout_in (take 176 b) ≡ layout_in b
unfolding layout_in
layout_front b = rw (part_front b 176 1 15 (omega arith)) refl

pub header_front : (b : List ℕ) → header_in (take 176 b) ≡ header_in b
unfolding header_in
header_front b =
    let size = get_or-take 176 b 48 0 (omega arith) in
    rw (layout_front b, part_front b 176 16 32 (omega arith), size, two_front b 49 (omega arith), column_front b 1 (omega arith), column_front b 2 (omega arith), column_front b 3 (omega arith), column_front b 4 (omega arith), column_front b 5 (omega arith), column_front b 6 (omega arith), column_front b 7 (omega arith), eight_front b 168 (omega arith)) refl

front_found : (l : Layout) (b : List ℕ) (n : ℕ) → opening l (take 176 b) n ≡ opening l b n
unfolding opening header_fault
front_found l b n =
    let few = zeros_few l in
    rw (gate_front b, part_front b 176 1 15 (omega arith), part_front b 176 (56 - zeros_of l) (zeros_of l) (omega arith), header_front b) refl

pub opening_front : (b : List ℕ) (n : ℕ) → opening (layout_in (take 176 b)) (take 176 b) n ≡ opening (layout_in b) b n
opening_front b n = ap (λ l. opening l (take 176 b) n) (layout_front b) ∙ front_found (layout_in b) b n

-- ---- the first bytes as they are read

-- a buffer with the first bytes of a file at its front
pub front_is : (b old got : List ℕ) (n : ℕ) → n ≡ min (length b) (length old) → got ≡ part b 0 (length (take n old)) → got ++ drop n old ≡ take (length old) b ++ drop (length b) old
unfolding part
front_is b old got n front are =
    let len : length (take n old) ≡ n = length-take-le n old (omega arith) in
    let got_is : got ≡ take n b = are ∙ ap (λ k. take k b) len in
    elim (cases_lt (length b) (length old)) [
      | inl short ↦ let e : n ≡ length b = omega arith in
          ap (λ xs. xs ++ drop n old) (got_is ∙ take_all n b (omega arith) ∙ sym (take_all (length old) b (omega arith))) ∙ ap (λ k. take (length old) b ++ drop k old) e
      | inr long ↦ let e : n ≡ length old = omega arith in
          ap₂ (λ xs ys. xs ++ ys) (got_is ∙ ap (λ k. take k b) e) (drop_all n old (omega arith) ∙ sym (drop_all (length b) old long))
    ]

whole_padded : (b padded : List ℕ) (n : ℕ) → n ≡ length b → padded ≡ take 176 b ++ drop n (replicate 176 0) → 176 ≤ n → padded ≡ take 176 b
whole_padded b padded n len are long =
    are ∙ ap (λ ys. take 176 b ++ ys) (drop_all n (replicate 176 0) (rw length-replicate long)) ∙ append-nil (take 176 b)

gate_padded : (b padded : List ℕ) (n : ℕ) → n ≡ length b → padded ≡ take 176 b ++ drop n (replicate 176 0) → n < 176 → gate_in padded ≡ gate_in b
gate_padded [] padded n len are short = rw (are, len) refl
gate_padded (x ∷ b) padded n len are short = rw are refl

-- opening finds in that buffer what it finds in the file
pub opening_padded : (b padded : List ℕ) (n : ℕ) → n ≡ length b → padded ≡ take 176 b ++ drop n (replicate 176 0) → opening (layout_in padded) padded n ≡ opening (layout_in b) b n
opening_padded b padded n len are = elim (cases_lt n 176) [
  | inl short ↦ let e : gate_in padded ≡ gate_in b = gate_padded b padded n len are short in
      opening-gate padded n (short_gate padded n short) ∙ ap (λ gate. Some (NotOpen n gate)) e ∙ sym (opening-gate b n (short_gate b n short))
  | inr long ↦ rw (whole_padded b padded n len are long) (opening_front b n)
]

pub header_padded : (b padded : List ℕ) (n : ℕ) → n ≡ length b → padded ≡ take 176 b ++ drop n (replicate 176 0) → 176 ≤ n → header_in padded ≡ header_in b
header_padded b padded n len are long = rw (whole_padded b padded n len are long) (header_front b)
