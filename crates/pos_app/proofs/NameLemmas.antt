-- Names that begin as those of scratch files do.
use Rattle.std.proofs.Common.{◌≡◌, ℕ, true, false, List, [], ◌∷◌, ◌++◌, Bool, refl, sym, ap, ◌∙◌, inl, inr, append_assoc, arith}
use Rattle.std.specs.Prelude.{◌↔◌, slice_index, IsTrue}
use Rattle.std.specs.Bool.{IsFalse}
use Rattle.std.proofs.lemmas.Bool.{true≢false, cases_Bool}
use Rattle.std.proofs.lemmas.List.{append_cancel_left}
use Rattle.std.proofs.lemmas.Bool.Decides.{Decides-eqb}
use Rattle.std.proofs.lemmas.Slice.Eq.{starts_is}
use Rattle.pos_edge.specs.ScratchNames.{IsScratchName}
use Rattle.pos_app.specs.Words.{begins_as_scratch}

-- what such a name is
pub begins_so : (base name : List ℕ) → begins_as_scratch base name ≡ true → (more : List ℕ) × (name ≡ base ++ 46 ∷ more)
begins_so base name is =
    let e = (starts_is Decides-eqb name (base ++ 46 ∷ []) (begins_as_scratch base name) refl).0 is in (_, e ∙ append_assoc base (46 ∷ []) _)

-- and which names are such
pub so_begins : (base name more : List ℕ) → name ≡ base ++ 46 ∷ more → begins_as_scratch base name ≡ true
so_begins base name more is =
    (starts_is Decides-eqb name (base ++ 46 ∷ []) (begins_as_scratch base name) refl).1 more (is ∙ sym (append_assoc base (46 ∷ []) more))

-- a name that does not is no scratch name
pub is_no_scratch_name : (base name : List ℕ) → IsFalse (begins_as_scratch base name) → IsScratchName base name → ⊥
is_no_scratch_name base name apart (n, is) = let begins = so_begins base name _ is in true≢false (sym begins ∙ apart)

-- what comes behind the base decides it
pub without_base : (base name : List ℕ) → ((rest : List ℕ) → name ≡ base ++ rest → ⊥) → false ≡ begins_as_scratch base name
without_base base name none = elim (cases_Bool (begins_as_scratch base name)) [
  | inl begins ↦ let so = begins_so base name begins in absurd (none (46 ∷ so.0) so.1)
  | inr not_so ↦ sym not_so
]

pub behind_base : (base name rest : List ℕ) (stop : Bool) → name ≡ base ++ rest → (IsTrue stop ↔ (slice_index rest 0 ≡ 46)) → stop ≡ begins_as_scratch base name
behind_base base name rest stop is decides = elim (cases_Bool stop) [
  | inl so ↦ let more = first_is rest (decides.0 so) in so ∙ sym (so_begins base name more.0 (is ∙ ap (λ r. base ++ r) more.1))
  | inr none ↦ elim (cases_Bool (begins_as_scratch base name)) [
    | inl begins ↦ let so = begins_so base name begins in
        let same : rest ≡ 46 ∷ so.0 = append_cancel_left base rest (46 ∷ so.0) (sym is ∙ so.1) in
        absurd (true≢false (sym (decides.1 (ap (λ r. slice_index r 0) same)) ∙ none))
    | inr not_so ↦ none ∙ sym not_so
  ]
] where
  first_is : (r : List ℕ) → slice_index r 0 ≡ 46 → (more : List ℕ) × (r ≡ 46 ∷ more)
  first_is [] e = absurd (omega arith)
  first_is (x ∷ more) e = (more, ap (λ y. y ∷ more) e)
