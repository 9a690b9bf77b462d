-- A list that is built by pushes from a function of the index.
use Rattle.std.proofs.Common.{◌≡◌, ℕ, ◌+◌, ◌*◌, ◌/◌, ◌%◌, ◌<◌, ◌≤◌, List, [], ◌∷◌, ◌++◌, length, get_or, arith, ◌∙◌, ap, subst, sym, length-append, below_more}
use Rattle.std.proofs.lemmas.List.{get_or_append_left, get_or_push}
use Rattle.pos_buckets.specs.Targets.{AreHighs, AreLows}

-- xs has the first n values of f
pub record IsBuilt (f : ℕ → ℕ) (n : ℕ) (xs : List ℕ) : Type 0 where
  pub count : length xs ≡ n
  pub at : (j : ℕ) → j < n → get_or xs j 0 ≡ f j

pub built-none : (f : ℕ → ℕ) (xs : List ℕ) → xs ≡ [] → IsBuilt f 0 xs
built-none f xs e = record { count = ap length e; at = λ j h. absurd (omega arith) }

pub built-more :
    (f : ℕ → ℕ) (n v : ℕ) (xs ys : List ℕ) → IsBuilt f n xs → ys ≡ xs ++ v ∷ [] → v ≡ f n → IsBuilt f (n + 1) ys
built-more f n v xs ys h e same =
    subst (λ zs. IsBuilt f (n + 1) zs) (sym e)
    (record {
      count = length-append xs (v ∷ []) ∙ ap (λ m. m + 1) h.count;
      at = below_more (λ j. get_or (xs ++ v ∷ []) j 0 ≡ f j) n
          (λ j lt. let inside : j < length xs = omega (arith, h.count) in get_or_append_left xs (v ∷ []) 0 j inside ∙ h.at j lt)
          (get_or_push xs v 0 n h.count ∙ same);
    })

-- the two tables by index
abbrev pub high_at : ℕ → ℕ
high_at i = i % 119 * 127

abbrev pub low_at : ℕ → ℕ
low_at i = ((2 * (i % 64) + i / 64 / 127) * (2 * (i % 64) + i / 64 / 127) + i / 64 % 127) % 127

pub highs-built : (n : ℕ) (xs : List ℕ) → IsBuilt high_at n xs → n ≡ 182 → AreHighs xs
highs-built n xs h e = record { count = h.count ∙ e; at = λ i lt. h.at i (omega arith) }

pub lows-built : (n : ℕ) (xs : List ℕ) → IsBuilt low_at n xs → n ≡ 16256 → AreLows xs
lows-built n xs h e = record { count = h.count ∙ e; at = λ i lt. h.at i (omega arith) }

pub root-small : (i : ℕ) → i < 16256 → (2 * (i % 64) + i / 64 / 127) * (2 * (i % 64) + i / 64 / 127) ≤ 128 * 128
root-small i h =
    let small : 2 * (i % 64) + i / 64 / 127 ≤ 128 = omega arith in grind arith
