-- Pieces of a list of bytes by their places.
use Rattle.std.proofs.Common.{◌≡◌, ℕ, ◌+◌, ◌<◌, ◌≤◌, List, [], ◌++◌, length, take, drop, get_or, refl, sym, ap, ◌∙◌, subst, arith, length-append}
use Rattle.std.proofs.Math.Seq.{take-add, take-append_seam, drop-append_seam}
use Rattle.std.proofs.lemmas.List.{take_all, drop-take, drop-drop, take-take}
use Rattle.pos_layout.specs.Bytes.{part}
use Rattle.pos_layout.proofs.CodecLemmas.{part-get, length-part}

-- b has x from this place on
pub record Has (b : List ℕ) (at : ℕ) (x : List ℕ) : Type 0 where
  pub is : part b at (length x) ≡ x

pub has_all : (x : List ℕ) → Has x 0 x
unfolding part
has_all x = record { is = take_all (length x) x (omega arith) }

pub has_front : (b : List ℕ) (at : ℕ) (x y : List ℕ) → Has b at (x ++ y) → Has b at x
unfolding part
has_front b at x y h =
    let n : length (x ++ y) ≡ length x + length y = length-append x y in
    let e : take (length x + length y) (drop at b) ≡ x ++ y = ap (λ j. take j (drop at b)) (sym n) ∙ h.is in
    let s : take (length x) (take (length x + length y) (drop at b)) ≡ take (length x) (drop at b) = take-take (length x) (length x + length y) (drop at b) (omega arith) in
    record { is = sym s ∙ (ap (take (length x)) e ∙ take-append_seam x y) }

pub has_back : (b : List ℕ) (at : ℕ) (x y : List ℕ) → Has b at (x ++ y) → Has b (at + length x) y
unfolding part
has_back b at x y h =
    let n : length (x ++ y) ≡ length x + length y = length-append x y in
    let e : take (length x + length y) (drop at b) ≡ x ++ y = ap (λ j. take j (drop at b)) (sym n) ∙ h.is in
    record { is = ap (take (length y)) (sym (drop-drop (length x) at b)) ∙ (sym (drop-take (length x) (length y) (drop at b)) ∙ (ap (drop (length x)) e ∙ drop-append_seam x y)) }

pub join : (b : List ℕ) (at : ℕ) (x y : List ℕ) → Has b at x → Has b (at + length x) y → Has b at (x ++ y)
unfolding part
join b at x y f g =
    let n : length (x ++ y) ≡ length x + length y = length-append x y in
    let d : take (length y) (drop (length x) (drop at b)) ≡ y = ap (take (length y)) (drop-drop (length x) at b) ∙ g.is in
    record { is = ap (λ j. take j (drop at b)) n ∙ (take-add (length x) (length y) (drop at b) ∙ (ap (λ z. z ++ take (length y) (drop (length x) (drop at b))) f.is ∙ ap (λ z. x ++ z) d)) }

-- at an equal place, an equal piece
pub has_at : (b : List ℕ) (at to : ℕ) (x : List ℕ) → at ≡ to → Has b at x → Has b to x
has_at b at to x e h = subst (λ j. Has b j x) e h

pub has_same : (b : List ℕ) (at : ℕ) (x y : List ℕ) → x ≡ y → Has b at x → Has b at y
has_same b at x y e h = subst (λ z. Has b at z) e h

pub has_none : (b : List ℕ) (at : ℕ) → Has b at []
unfolding part
has_none b at = record { is = refl }

pub has-get : (b : List ℕ) (at : ℕ) (x : List ℕ) (i : ℕ) → Has b at x → i < length x → get_or b (at + i) 0 ≡ get_or x i 0
has-get b at x i h l = sym (part-get b at (length x) i 0 l) ∙ ap (λ z. get_or z i 0) h.is

pub has_part : (b : List ℕ) (at n : ℕ) → at + n ≤ length b → Has b at (part b at n)
has_part b at n h = record { is = ap (λ j. part b at j) (length-part b at n h) }

-- by the length of the piece
pub has-is : (b : List ℕ) (at n : ℕ) (x : List ℕ) → length x ≡ n → Has b at x → part b at n ≡ x
has-is b at n x e h = ap (λ j. part b at j) (sym e) ∙ h.is

pub has_of : (b : List ℕ) (at n : ℕ) (x : List ℕ) → length x ≡ n → part b at n ≡ x → Has b at x
has_of b at n x e h = record { is = ap (λ j. part b at j) e ∙ h }

pub has-whole : (b x : List ℕ) → length b ≡ length x → Has b 0 x → b ≡ x
unfolding part
has-whole b x e h = sym (take_all (length x) b (omega arith)) ∙ h.is
