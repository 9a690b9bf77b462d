-- What eight words that hold a string say, and what a write or a read of one word does to the string.
use Rattle.std.proofs.Common.{◌≡◌, ℕ, ◌+◌, ◌-◌, ◌*◌, ◌/◌, ◌%◌, ◌^◌, ◌<◌, ◌≤◌, Bool, List, ◌++◌, length, set, get_or, All, sym, ap, ◌∙◌, subst, arith, get_or-set_same}
use Rattle.std.proofs.lemmas.Nat.{shl_whole}
use Rattle.std.proofs.lemmas.List.{length-set}
use Rattle.std.proofs.lemmas.List.Elements.{All-get_or}
use Rattle.pos_bits.specs.Bits.{bits}
use Rattle.pos_bits.specs.Blocks.{HoldsBits, blocks, held_bits, length-blocks, length-held_bits}
use Rattle.pos_bits.proofs.BlocksLemmas.{blocks-lt, set-blocks, take-bits_of_blocks}

-- the words of a string hold it
pub held_bits-of_blocks : (words : List ℕ) (len : ℕ) (s : List Bool) → words ≡ blocks 64 8 s → length s ≡ len → len ≤ 512 → held_bits words len ≡ s
held_bits-of_blocks words len s w l h = rw (w, ← l) (take-bits_of_blocks 64 8 s (omega arith))

pub HoldsBits-of_blocks : (words : List ℕ) (len : ℕ) (s : List Bool) → words ≡ blocks 64 8 s → length s ≡ len → len ≤ 512 → HoldsBits words len
HoldsBits-of_blocks words len s w l h =
    record { at_most = h; words_are = w ∙ ap (blocks 64 8) (sym (held_bits-of_blocks words len s w l h)) }

module _ (words : List ℕ) (len : ℕ) (old : List Bool) (h : HoldsBits words len) (is : held_bits words len ≡ old) where
  pub held-len : length old ≡ len
  held-len = ap length (sym is) ∙ length-held_bits words len h

  pub held-words : words ≡ blocks 64 8 old
  held-words = h.words_are ∙ ap (blocks 64 8) is

  pub held-eight : length words ≡ 8
  held-eight = ap length held-words ∙ length-blocks 64 8 old

  -- the words after `width` bits of a value are added to the word that the string ends in
  pub held-push :
      (value width : ℕ) → 0 < width → value < 2 ^ width → len + width ≤ 512 → len % 64 + width ≤ 64 →
      set words (len / 64) (get_or words (len / 64) 0 + value * 2 ^ (64 - len % 64 - width) % 2 ^ 64) ≡ blocks 64 8 (old ++ bits value width)
  held-push value width some fits room within =
      let q : ℕ = len / 64 in
      let r : ℕ = len % 64 in
      let shift : value * 2 ^ (64 - r - width) % 2 ^ 64 ≡ value * 2 ^ (64 - r - width) =
      shl_whole value width (64 - r - width) 64 fits (omega arith) in
      rw (shift, held-words)
      (set-blocks 64 8 q r old value width (rw held-len (omega arith)) within (omega arith) fits)

  pub held-push_fits :
      (value width : ℕ) → 0 < width → value < 2 ^ width → len + width ≤ 512 → len % 64 + width ≤ 64 →
      get_or words (len / 64) 0 + value * 2 ^ (64 - len % 64 - width) % 2 ^ 64 < 2 ^ 64
  held-push_fits value width some fits room within =
      let q : ℕ = len / 64 in
      let x : ℕ = get_or words q 0 + value * 2 ^ (64 - len % 64 - width) % 2 ^ 64 in
      let inside : q < length words = rw held-eight (omega arith) in
      let after : blocks 64 8 (old ++ bits value width) ≡ set words q x = sym (held-push value width some fits room within) in
      let all : All (λ y. y < 2 ^ 64) (set words q x) =
      subst (λ (xs : List ℕ). All (λ y. y < 2 ^ 64) xs) after (blocks-lt 64 8 (old ++ bits value width)) in
      subst (λ y. y < 2 ^ 64) (get_or-set_same words q x 0 inside)
      (All-get_or (λ y. y < 2 ^ 64) (set words q x) q 0 (rw length-set inside) all)

-- equal words and lengths hold equal strings, and the other way round
pub held-same :
    (v w : List ℕ) (m n : ℕ) (s t : List Bool) → HoldsBits v m → HoldsBits w n → held_bits v m ≡ s → held_bits w n ≡ t →
    s ≡ t → v ≡ w
held-same v w m n s t h k a b e = held-words v m s h a ∙ ap (blocks 64 8) e ∙ sym (held-words w n t k b)
