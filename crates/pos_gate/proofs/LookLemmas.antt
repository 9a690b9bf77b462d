-- A file that was not finished, by its first bytes.
use Rattle.std.proofs.Common.{◌≡◌, ◌↔◌, ℕ, suc, ◌+◌, ◌-◌, ◌<◌, min, List, [], ◌∷◌, length, take, drop, get_or, Bool, true, sym, ap, ◌∙◌, subst, inl, inr, arith}
use Rattle.std.specs.Str.{bytes_eq}
use Rattle.std.proofs.lemmas.Bool.{cases_lt}
use Rattle.std.proofs.lemmas.List.{take_all, length-drop, length-take}
use Rattle.std.proofs.lemmas.Slice.Eq.{bytes_eq-Decides}
use Rattle.pos_gate.specs.Gates.{IsUnfinished}

-- so many bytes, or as many as there are
take_min : (n : ℕ) (xs : List ℕ) → take (min (length xs) n) xs ≡ take n xs
take_min n xs = elim (cases_lt (length xs) n) [
  | inl shorter ↦
      let m : min (length xs) n ≡ length xs = omega arith in
      ap (λ k. take k xs) m ∙ take_all (length xs) xs (omega arith) ∙ sym (take_all n xs (omega arith))
  | inr longer ↦ let m : min (length xs) n ≡ n = omega arith in ap (λ k. take k xs) m
]

-- the first bytes of at least one, so many and one
front_cons : (n x : ℕ) (bs : List ℕ) → take (min (suc (length bs)) (n + 1)) (x ∷ bs) ≡ x ∷ take n bs
front_cons n x bs =
    let m : min (suc (length bs)) (n + 1) ≡ suc (min (length bs) n) = omega arith in
    ap (λ k. take k (x ∷ bs)) m ∙ ap (λ ys. x ∷ ys) (take_min n bs)

-- where they are more than one, and the gate is not closed, the mark decides
pub front_unfinished : (b front mark : List ℕ) (r : Bool) → front ≡ take (min (length b) (length mark + 1)) b → 1 < length front → (get_or front 0 0 ≡ 0 → ⊥)
    → r ≡ bytes_eq (take (length front - 1) (drop 1 front)) mark → (r ≡ true) ↔ IsUnfinished mark b
front_unfinished [] front mark r e long gate is = absurd (let n = ap (λ (xs : List ℕ). length xs) e ∙ length-take (min 0 (length mark + 1)) [] in omega (arith, n))
front_unfinished (x ∷ bs) front mark r e long gate is =
    let f : front ≡ x ∷ take (length mark) bs = e ∙ front_cons (length mark) x bs in
    let some : 1 < suc (length (take (length mark) bs)) = subst (λ (xs : List ℕ). 1 < length xs) f long in
    let rest : take (length front - 1) (drop 1 front) ≡ drop 1 front = take_all (length front - 1) (drop 1 front) (let n = length-drop 1 front in omega arith) in
    let same : r ≡ bytes_eq (take (length mark) bs) mark = is ∙ ap (λ xs. bytes_eq xs mark) (rest ∙ ap (λ xs. drop 1 xs) f) in (
      λ yes. inr (inr ((bytes_eq-Decides (take (length mark) bs) mark).0 (sym same ∙ yes))),
      λ un. elim un [
        | inl short ↦ absurd (let n = length-take (length mark) bs in omega arith)
        | inr (inl shut) ↦ absurd (gate (ap (λ xs. get_or xs 0 0) f ∙ shut))
        | inr (inr marked) ↦ same ∙ (bytes_eq-Decides (take (length mark) bs) mark).1 marked
      ],
    )
