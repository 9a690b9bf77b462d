-- Sets of open files while one of them is written, or others change.
use Rattle.std.proofs.Common.{ℕ, ◌≡◌, true, List, refl, sym, ap, subst, ◌∙◌, inl, inr, arith, get_or}
use Rattle.std.proofs.lemmas.Bool.{cases_order}
use Rattle.std.proofs.lemmas.List.{get_or_default}
use Rattle.pos_edge.specs.declared.scratch.ScratchFile.{ScratchFile}
use Rattle.pos_edge.specs.View.{View, IsDisk}
use Rattle.pos_edge.specs.Frame.{NameOf}
use Rattle.pos_edge.specs.FileSets.{AreTogether}
use Rattle.pos_edge.specs.ScratchNames.{ScratchState, scratch_name, IsNameIn, IsLeft, StandsOn}
use Rattle.pos_edge.proofs.ScratchFiles.{named_by, same_number, apart_at}

-- the name of a scratch file that is left is that of its number
pub left_name : (s : ScratchState) (file : ℕ) (n : List ℕ) (v : View) → IsDisk v → StandsOn s v → IsLeft s file → NameOf file v n → IsNameIn s.base s.left n
left_name s file n v disk stands (k, x, h, e, p) named = (
  k,
  x,
  h,
  e,
  subst (λ (y : ScratchFile). n ≡ scratch_name s.base y.number) e
      (named_by s.base s.made s.left v disk stands k x h n (subst (λ f. NameOf f v n) (sym (subst (λ (y : ScratchFile). y.file.0 ≡ file) (sym e) p)) named)),
)

-- no two scratch files that are left are of one file
pub left_together : (s : ScratchState) (v : View) → IsDisk v → StandsOn s v → AreTogether (IsLeft s) v
left_together s v disk stands = record { live = live; one = one } where
  live : (f : ℕ) → IsLeft s f → v.is_live f ≡ true
  live f (k, x, h, e, p) = subst (λ i. v.is_live i ≡ true) p (subst (λ (y : ScratchFile). v.is_live y.file.0 ≡ true) e (stands.live k x h))

  one : (f g : ℕ) (n : List ℕ) → IsLeft s f → IsLeft s g → NameOf f v n → NameOf g v n → f ≡ g
  one f g n (i, x, hi, ei, pi) (j, y, hj, ej, pj) nf ng =
      let fx = subst (λ (z : ScratchFile). z.file.0 ≡ f) (sym ei) pi in
      let gy = subst (λ (z : ScratchFile). z.file.0 ≡ g) (sym ej) pj in
      let named_x = named_by s.base s.made s.left v disk stands i x hi n (subst (λ k. NameOf k v n) (sym fx) nf) in
      let named_y = named_by s.base s.made s.left v disk stands j y hj n (subst (λ k. NameOf k v n) (sym gy) ng) in
      let same = same_number s.base s.made _ _ stands.few (stands.below i x hi) (stands.below j y hj) (sym named_x ∙ named_y) in
      elim (cases_order i j) [
        | inl at ↦ sym fx ∙ (subst (λ k. (get_or s.left i x).file.0 ≡ (get_or s.left k x).file.0) at refl ∙ (ap (λ (z : ScratchFile). z.file.0) (get_or_default s.left j x y hj) ∙ gy))
        | inr (inl less) ↦ absurd (let a = (apart_at s.left stands.apart i j x less hj).earlier in let d = ap (λ (z : ScratchFile). z.number) (get_or_default s.left j x y hj) in omega arith)
        | inr (inr more) ↦ absurd (let a = (apart_at s.left stands.apart j i x more hi).earlier in let d = ap (λ (z : ScratchFile). z.number) (get_or_default s.left j x y hj) in omega arith)
      ]
