-- A string appended to another one by whole words: what is left of each word is carried to the next place.
use Rattle.std.proofs.Common.{◌≡◌, ℕ, zero, suc, ◌+◌, ◌-◌, ◌*◌, ◌/◌, ◌%◌, ◌^◌, ◌<◌, ◌≤◌, Bool, false, List, [], ◌∷◌, ◌++◌, length, take, drop, replicate, set, get_or, All, refl, sym, ap, ap₂, ◌∙◌, subst, arith, length-append, length-drop, length-take, append_assoc, pow-add, pow_pos, mod-lt, append-nil, get_or-set_same, inl, inr}
use Rattle.std.proofs.Math.Nat.{div-add-mod, mul_assoc, mul_comm}
use Rattle.std.proofs.Math.ListN.{get_or-eq_default}
use Rattle.std.proofs.Math.Seq.{drop-append-add, take-suc}
use Rattle.std.proofs.lemmas.Bool.{cases_lt}
use Rattle.std.proofs.lemmas.Nat.{mod-mul-add, mul-mod_first, shl_below, shr_below}
use Rattle.std.proofs.lemmas.List.Elements.{All-get_or}
use Rattle.std.proofs.lemmas.List.{length-replicate, length-set, set-get_or, set-set, set_past, take-append-le, drop-append-le, drop_all, drop-replicate, replicate-append-replicate}
use Rattle.pos_bits.specs.Bits.{bits, number}
use Rattle.pos_bits.specs.Blocks.{bits_of_blocks, blocks, length-bits, length-bits_of_blocks, length-blocks}
use Rattle.pos_bits.proofs.BitsLemmas.{bits-mod, bits-split}
use Rattle.pos_bits.proofs.BlocksLemmas.{bits_of_blocks-append, bits_of_blocks-blocks, bits_of_blocks-one, blocks-lt, first_block, first_block_long, number-first_block, set-blocks}

-- ---- blocks past the end of a string, and strings past the last block

pub blocks-past : (z n : ℕ) (s t : List Bool) → z * n ≤ length s → blocks z n (s ++ t) ≡ blocks z n s
unfolding blocks
blocks-past z zero s t h = refl
blocks-past z (suc n) s t h =
    let size : z * suc n ≡ z + z * n = omega arith in
    let long : z ≤ length s = omega arith in
    let same : first_block z (s ++ t) ≡ first_block z s =
    first_block_long z (s ++ t) (rw (length-append s t) (omega arith)) ∙ take-append-le z s t long ∙ sym (first_block_long z s long) in
    ap₂ (λ x xs. x ∷ xs) (ap number same)
    (ap (blocks z n) (drop-append-le z s t long) ∙ blocks-past z n (drop z s) t (rw (length-drop z s) (omega arith)))

-- 0 bits behind a string change no block
pub blocks-zeros : (z n : ℕ) (s : List Bool) (m : ℕ) → blocks z n (s ++ replicate m false) ≡ blocks z n s
unfolding blocks
blocks-zeros z zero s m = refl
blocks-zeros z (suc n) s m =
    let zs : List Bool = replicate z false in
    let ms : List Bool = replicate m false in
    let sum : m + z ≡ z + m = omega arith in
    let turned : (s ++ ms) ++ zs ≡ (s ++ zs) ++ ms =
    append_assoc s ms zs
    ∙ ap (λ t. s ++ t) (replicate-append-replicate m z false ∙ ap (λ k. replicate k false) sum ∙ sym (replicate-append-replicate z m false))
    ∙ sym (append_assoc s zs ms) in
    let first : first_block z (s ++ ms) ≡ first_block z s =
    ap (take z) turned ∙ take-append-le z (s ++ zs) ms (rw (length-append, length-replicate) (omega arith)) in
    let rest : blocks z n (drop z (s ++ ms)) ≡ blocks z n (drop z s) =
    elim (cases_lt (length s) z) [
      | inl short ↦
          let place : length s + (z - length s) ≡ z = omega arith in
          let none : drop z s ≡ [] = drop_all z s (omega arith) in
          let left : drop z (s ++ ms) ≡ [] ++ replicate (m - (z - length s)) false =
          subst (λ k. drop k (s ++ ms) ≡ drop (z - length s) ms) place (drop-append-add s ms (z - length s)) ∙ drop-replicate (z - length s) m false in
          ap (blocks z n) left ∙ blocks-zeros z n [] (m - (z - length s)) ∙ ap (blocks z n) (sym none)
      | inr long ↦ ap (blocks z n) (drop-append-le z s ms long) ∙ blocks-zeros z n (drop z s) m
    ] in
    ap₂ (λ x xs. x ∷ xs) (ap number first) rest

pub get-blocks_past : (z n q : ℕ) (s : List Bool) → length s ≤ z * q → get_or (blocks z n s) q 0 ≡ 0
unfolding blocks number
get-blocks_past z zero q s h = get_or-eq_default [] 0 {n = q} (omega arith)
get-blocks_past z (suc n) zero [] h = let none : 0 * 2 ^ (z - 0) ≡ 0 = omega arith in number-first_block z [] (omega arith) ∙ none
get-blocks_past z (suc n) zero (b ∷ s) h = absurd (omega arith)
get-blocks_past z (suc n) (suc q) s h = get-blocks_past z n q (drop z s) (rw (length-drop z s) (omega arith))

pub take-blocks : (z m n : ℕ) (s : List Bool) → m ≤ n → take m (blocks z n s) ≡ blocks z m s
unfolding blocks
take-blocks z zero n s h = refl
take-blocks z (suc m) zero s h = absurd (omega arith)
take-blocks z (suc m) (suc n) s h = ap (λ xs. number (first_block z s) ∷ xs) (take-blocks z m n (drop z s) (omega arith))

-- ---- one word more

-- what is left of a word after its top bits, at the top of the next one
pub left_of : (w r : ℕ) → r < 64 → (w * 2 % 2 ^ 64) * 2 ^ (63 - r) % 2 ^ 64 ≡ (w % 2 ^ r) * 2 ^ (64 - r)
left_of w r h =
    let n : ℕ = 64 - r in
    let up : 2 * 2 ^ (63 - r) ≡ 2 ^ n =
    let e : n ≡ 63 - r + 1 = omega arith in sym (ap (λ k. 2 ^ k) e ∙ pow-add 2 (63 - r) 1 ∙ mul_comm (2 ^ (63 - r)) (2 ^ 1)) in
    let size : r + n ≡ 64 = omega arith in
    let whole : 2 ^ r * 2 ^ n ≡ 2 ^ 64 = sym (pow-add 2 r n) ∙ ap (λ k. 2 ^ k) size in
    let below : (w % 2 ^ r) * 2 ^ n < 2 ^ 64 = subst (λ k. (w % 2 ^ r) * 2 ^ n < 2 ^ k) size (shl_below (w % 2 ^ r) r n (mod-lt w (pow_pos r))) in
    let cut : w * 2 ^ n ≡ (w / 2 ^ r) * 2 ^ 64 + (w % 2 ^ r) * 2 ^ n =
    ap (λ x. x * 2 ^ n) (sym (div-add-mod w (2 ^ r))) ∙ rw (← whole) (omega arith) in
    mul-mod_first (w * 2) (2 ^ (63 - r)) (2 ^ 64)
    ∙ ap (λ x. x % 2 ^ 64) (mul_assoc w 2 (2 ^ (63 - r)) ∙ ap (λ x. w * x) up ∙ cut)
    ∙ mod-mul-add (w / 2 ^ r) (2 ^ 64) ((w % 2 ^ r) * 2 ^ n) below

-- the first words of a string and the number at the next place are those of the string so far
pub record JoinedWords (s : List Bool) (other words : List ℕ) (first carry i : ℕ) : Type 0 where
  pub eight : length words ≡ 8
  pub carried : set words (first + i) carry ≡ blocks 64 8 (s ++ bits_of_blocks 64 (take i other))

pub joined-none : (s : List Bool) (other words : List ℕ) (first : ℕ) → words ≡ blocks 64 8 s → JoinedWords s other words first (get_or words first 0) 0
unfolding bits_of_blocks
joined-none s other words first is = record {
  eight = ap length is ∙ length-blocks 64 8 s;
  carried =
      let place : first + 0 ≡ first = omega arith in
      ap (λ k. set words k (get_or words first 0)) place
      ∙ set-get_or words first 0
      ∙ is
      ∙ ap (blocks 64 8) (sym (append-nil s));
}

module _ (s : List Bool) (other words : List ℕ) (first r carry i : ℕ) (size : length s ≡ 64 * first + r) (below : r < 64)
    (all : All (λ x. x < 2 ^ 64) other) (j : JoinedWords s other words first carry i) (there : i < length other) (room : first + i < 8) where
  abbrev pub place : ℕ
  place = first + i

  abbrev pub word : ℕ
  word = get_or other i 0

  abbrev pub so_far : List Bool
  so_far = s ++ bits_of_blocks 64 (take i other)

  abbrev pub top : ℕ
  top = word / 2 ^ r

  abbrev pub low : ℕ
  low = word % 2 ^ r

  inside : place < length words
  inside = rw j.eight room

  so_long : length so_far ≡ 64 * place + r
  so_long = rw (length-append, length-bits_of_blocks 64, length-take) (omega (arith, size, there))

  top-below : top < 2 ^ (64 - r)
  top-below =
      let e : 64 ≡ (64 - r) + r = omega arith in
      shr_below word (64 - r) r (subst (λ k. word < 2 ^ k) e (All-get_or (λ x. x < 2 ^ 64) other i 0 there all))

  joined-top : set words place (carry + top) ≡ blocks 64 8 (so_far ++ bits top (64 - r))
  joined-top =
      let none : 64 - r - (64 - r) ≡ 0 = omega arith in
      let one : top * 2 ^ (64 - r - (64 - r)) ≡ top = rw none (omega arith) in
      let written : set (set words place carry) place (get_or (set words place carry) place 0 + top * 2 ^ (64 - r - (64 - r))) ≡ blocks 64 8 (so_far ++ bits top (64 - r)) =
      rw j.carried (set-blocks 64 8 place r so_far top (64 - r) so_long (omega arith) room top-below) in
      ap (set words place) (ap₂ (λ a b. a + b) (sym (get_or-set_same words place carry 0 inside)) (sym one))
      ∙ sym (set-set words place carry _)
      ∙ written

  pub joined-fits : carry + top < 2 ^ 64
  joined-fits =
      let x : ℕ = carry + top in
      let written : All (λ y. y < 2 ^ 64) (set words place x) =
      subst (λ (xs : List ℕ). All (λ y. y < 2 ^ 64) xs) (sym joined-top) (blocks-lt 64 8 (so_far ++ bits top (64 - r))) in
      subst (λ y. y < 2 ^ 64) (get_or-set_same words place x 0 inside)
      (All-get_or (λ y. y < 2 ^ 64) (set words place x) place 0 (rw length-set inside) written)

  -- the string so far with one word more
  with_word : s ++ bits_of_blocks 64 (take (i + 1) other) ≡ (so_far ++ bits top (64 - r)) ++ bits low r
  with_word =
      let same : i + 1 ≡ suc i = omega arith in
      let e : (64 - r) + r ≡ 64 = omega arith in
      let split : bits word 64 ≡ bits top (64 - r) ++ bits low r =
      subst (λ k. bits word k ≡ bits top (64 - r) ++ bits word r) e (bits-split word (64 - r) r)
      ∙ ap (λ t. bits top (64 - r) ++ t) (sym (bits-mod word r)) in
      let more : bits_of_blocks 64 (take (i + 1) other) ≡ bits_of_blocks 64 (take i other) ++ (bits top (64 - r) ++ bits low r) =
      ap (λ k. bits_of_blocks 64 (take k other)) same
      ∙ ap (bits_of_blocks 64) (take-suc other i 0 there)
      ∙ bits_of_blocks-append 64 (take i other) (word ∷ [])
      ∙ ap (λ t. bits_of_blocks 64 (take i other) ++ t) (bits_of_blocks-one 64 word ∙ split) in
      ap (λ t. s ++ t) more
      ∙ sym (append_assoc s (bits_of_blocks 64 (take i other)) (bits top (64 - r) ++ bits low r))
      ∙ sym (append_assoc so_far (bits top (64 - r)) (bits low r))

  top_long : length (so_far ++ bits top (64 - r)) ≡ 64 * (place + 1) + 0
  top_long = rw (length-append so_far (bits top (64 - r)), so_long, length-bits top (64 - r)) (omega (arith, below))

  joined-low : set (set words place (carry + top)) (place + 1) ((word * 2 % 2 ^ 64) * 2 ^ (63 - r) % 2 ^ 64) ≡ blocks 64 8 ((so_far ++ bits top (64 - r)) ++ bits low r)
  joined-low =
      let whole : List Bool = so_far ++ bits top (64 - r) in
      elim (cases_lt (place + 1) 8) [
        | inl more ↦
            let none : get_or (blocks 64 8 whole) (place + 1) 0 ≡ 0 = get-blocks_past 64 8 (place + 1) whole (omega (arith, top_long)) in
            let e : 64 - r ≡ 64 - 0 - r = omega arith in
            let carried : (word * 2 % 2 ^ 64) * 2 ^ (63 - r) % 2 ^ 64 ≡ get_or (blocks 64 8 whole) (place + 1) 0 + low * 2 ^ (64 - 0 - r) =
            left_of word r below ∙ rw (none, ← e) (omega arith) in
            ap₂ (λ xs x. set xs (place + 1) x) joined-top carried
            ∙ set-blocks 64 8 (place + 1) 0 whole low r top_long (omega arith) more (mod-lt word (pow_pos r))
        | inr last ↦
            set_past (set words place (carry + top)) (place + 1) _ (rw (length-set, j.eight) last)
            ∙ joined-top
            ∙ sym (blocks-past 64 8 whole (bits low r) (omega (arith, top_long)))
      ]

  pub joined-more : JoinedWords s other (set words place (carry + top)) first ((word * 2 % 2 ^ 64) * 2 ^ (63 - r) % 2 ^ 64) (i + 1)
  joined-more = record {
    eight = rw length-set j.eight;
    carried =
        let next : first + (i + 1) ≡ place + 1 = omega arith in
        ap (λ k. set (set words place (carry + top)) k ((word * 2 % 2 ^ 64) * 2 ^ (63 - r) % 2 ^ 64)) next
        ∙ joined-low
        ∙ ap (blocks 64 8) (sym with_word);
  }

pub joined-all :
    (s t : List Bool) (other words : List ℕ) (first carry count : ℕ) → other ≡ blocks 64 8 t → length t ≤ 64 * count → count ≤ 8 →
    JoinedWords s other words first carry count → set words (first + count) carry ≡ blocks 64 8 (s ++ t)
joined-all s t other words first carry count is most few j =
    let n : ℕ = 64 * count - length t in
    let bits_are : bits_of_blocks 64 (take count other) ≡ t ++ replicate n false =
    ap (λ xs. bits_of_blocks 64 (take count xs)) is ∙ ap (bits_of_blocks 64) (take-blocks 64 count 8 t few) ∙ bits_of_blocks-blocks 64 count t most in
    j.carried
    ∙ ap (λ u. blocks 64 8 (s ++ u)) bits_are
    ∙ ap (blocks 64 8) (sym (append_assoc s t (replicate n false)))
    ∙ blocks-zeros 64 8 (s ++ t) n
