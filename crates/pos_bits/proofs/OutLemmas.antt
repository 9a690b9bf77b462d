-- Words written one after another into 64 bytes.
use Rattle.std.proofs.Common.{◌≡◌, ℕ, ◌+◌, ◌-◌, ◌*◌, ◌<◌, ◌≤◌, Bool, List, [], ◌∷◌, ◌++◌, length, take, replicate, get_or, refl, sym, ap, ap₂, ◌∙◌, subst, arith, rules, w64, take_all}
use Rattle.std.specs.Int.{to_be_bytes}
use borrow.Rule.Slice.PartMut.{put_mid}
use Rattle.std.proofs.lemmas.List.{take_more}
use Rattle.std.proofs.lemmas.List.Elements.{All-append, All-nil}
use Rattle.std.proofs.lemmas.Slice.{overwrites, take-put_mid}
use Rattle.pos_bits.specs.Bits.{AreBytes, bits_of, byte_count, bytes}
use Rattle.pos_bits.specs.Blocks.{HoldsBits, bits_of_blocks, held_bits}
use Rattle.pos_bits.proofs.BlocksLemmas.{bits_of_blocks-append, bits_of_blocks-blocks, bits_of_blocks-one}
use Rattle.pos_bits.proofs.BytesLemmas.{bits_of-append, bits_of-to_be_bytes, bytes-padded, bytes_high_first-are_bytes}
use Rattle.pos_bits.proofs.HeldLemmas.{held-eight, held-len, held-words}

-- the bytes written so far have the bits of as many words
pub record WroteWords (words out : List ℕ) (i : ℕ) : Type 0 where
  pub same_bits : bits_of (take (8 * i) out) ≡ bits_of_blocks 64 (take i words)
  pub are_bytes : AreBytes (take (8 * i) out)
  pub len : length out ≡ 64

pub WroteWords-none : (words out : List ℕ) → length out ≡ 64 → WroteWords words out 0
unfolding bits_of bits_of_blocks
WroteWords-none words out l = record { same_bits = refl; are_bytes = All-nil (λ b. b < 256); len = l }

pub WroteWords-more :
    (words out ys : List ℕ) (i : ℕ) → WroteWords words out i → i < 8 → length words ≡ 8 →
    ys ≡ to_be_bytes w64 (get_or words i 0) →
    WroteWords words (put_mid (8 * i) (8 * i + 8 - 8 * i) out ys) (i + 1)
WroteWords-more words out ys i w h l e =
    let x : ℕ = get_or words i 0 in
    let eight : length ys ≡ 8 = ap length e in
    let front : take (8 * (i + 1)) (put_mid (8 * i) (8 * i + 8 - 8 * i) out ys) ≡ take (8 * i) out ++ ys =
    take-put_mid (8 * i) (8 * i + 8 - 8 * i) out ys (8 * (i + 1)) (omega arith) (omega (arith, w.len)) in
    let all : AreBytes ys = subst (λ (bs : List ℕ). AreBytes bs) (sym e) (bytes_high_first-are_bytes 8 x) in
    record {
      same_bits =
          ap bits_of front
          ∙ bits_of-append (take (8 * i) out) ys
          ∙ ap₂ (λ a b. a ++ b) w.same_bits (ap bits_of e ∙ bits_of-to_be_bytes x ∙ sym (bits_of_blocks-one 64 x))
          ∙ sym (bits_of_blocks-append 64 (take i words) (x ∷ []))
          ∙ ap (bits_of_blocks 64) (sym (take_more words i 0 (omega arith)));
      are_bytes =
          subst (λ (bs : List ℕ). AreBytes bs) (sym front) (All-append (λ b. b < 256) (take (8 * i) out) ys w.are_bytes all);
      len = let r : length out ≡ 64 = w.len in search (rules, overwrites);
    }

pub WroteWords-all :
    (words out : List ℕ) (i len : ℕ) (old : List Bool) → HoldsBits words len → held_bits words len ≡ old → 8 ≤ i → i ≤ 8 → WroteWords words out i →
    out ≡ bytes old ++ replicate (64 - byte_count (length old)) 0
WroteWords-all words out i len old h is low high w =
    let n : i ≡ 8 = omega arith in
    let whole_out : take (8 * i) out ≡ out = take_all (8 * i) out (omega (arith, w.len)) in
    let whole_words : take i words ≡ words = take_all i words (omega (arith, held-eight words len old h is)) in
    let short : length old ≤ 512 = omega (arith, held-len words len old h is, h.at_most) in
    bytes-padded 64 old out short
    (subst (λ (bs : List ℕ). AreBytes bs) whole_out w.are_bytes)
    (ap bits_of (sym whole_out) ∙ w.same_bits ∙ ap (bits_of_blocks 64) (whole_words ∙ held-words words len old h is) ∙ bits_of_blocks-blocks 64 8 old short)
