-- The lines of a list, one more at a time.
use Rattle.std.proofs.Common.{◌≡◌, ℕ, zero, suc, ◌+◌, ◌<◌, List, [], ◌∷◌, ◌++◌, length, take, arith, sym, ap, ◌∙◌, append_assoc, append-nil}
use Rattle.std.specs.Prelude.{map, slice_index_or}
use Rattle.pos_text.specs.Texts.{line, lines_of}

-- the lines of some words, and the line of one more
lines_of-push : (digits : List ℕ → List ℕ) (i : ℕ) (xs : List (List ℕ)) → i < length xs
    → lines_of (map digits (take (suc i) xs)) ≡ lines_of (map digits (take i xs)) ++ line (digits (slice_index_or xs i []) ∷ [])
lines_of-push digits i [] below = absurd (omega arith)
lines_of-push digits zero (x ∷ xs) below = append-nil (line (digits x ∷ []))
lines_of-push digits (suc i) (x ∷ xs) below =
    ap (λ more. line (digits x ∷ []) ++ more) (lines_of-push digits i xs (omega arith))
    ∙ sym (append_assoc (line (digits x ∷ [])) (lines_of (map digits (take i xs))) (line (digits (slice_index_or xs i []) ∷ [])))

-- a text that is the lines of some words, and the line of one more
pub lines-push : (digits : List ℕ → List ℕ) (old new x : List ℕ) (i : ℕ) (xs : List (List ℕ)) → i < length xs → x ≡ slice_index_or xs i []
    → old ≡ lines_of (map digits (take i xs)) → new ≡ old ++ line (digits x ∷ []) → new ≡ lines_of (map digits (take (i + 1) xs))
lines-push digits old new x i xs below is was e =
    e ∙ (ap (λ s. s ++ line (digits x ∷ [])) was
    ∙ (ap (λ y. lines_of (map digits (take i xs)) ++ line (digits y ∷ [])) is
    ∙ (sym (lines_of-push digits i xs below) ∙ let same : suc i ≡ i + 1 = omega arith in ap (λ m. lines_of (map digits (take m xs))) same)))
