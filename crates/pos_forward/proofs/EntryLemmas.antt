-- A draft and the entry that it is of.
use Rattle.std.proofs.Common.{◌≡◌, ℕ, ◌+◌, ◌*◌, ◌/◌, ◌%◌, ◌^◌, ◌<◌, Bool, List, length, arith, sym, ap, subst, ◌∙◌}
use Rattle.pos_bits.specs.Bits.{bits, number}
use Rattle.pos_bits.proofs.BitsLemmas.{number-lt, bits-number}
use Rattle.pos_tuple.specs.declared.entry.Entry.{Entry}
use Rattle.pos_tuple.specs.Node.{metadata_units, IsEntry}
use Rattle.pos_forward.specs.Drafts.{draft_of, draft_entry, HasDraftBits}

number-again : (n : ℕ) → n / 2 ^ 128 * 2 ^ 128 + n % 2 ^ 128 ≡ n
number-again n = omega arith

pub number-fits : (s : List Bool) (w : ℕ) → length s ≡ w → number s < 2 ^ w
number-fits s w e = subst (λ (n : ℕ). number s < 2 ^ n) e (number-lt s)

-- the draft of an entry stands for it
pub draft-again : (k t : ℕ) (e : Entry) (p : ℕ × ℕ) → length e.meta ≡ k * metadata_units t → draft_entry k t (draft_of e p) ≡ e
draft-again k t e p len =
    let meta : bits (number e.meta / 2 ^ 128 * 2 ^ 128 + number e.meta % 2 ^ 128) (k * metadata_units t) ≡ e.meta =
    ap (λ n. bits n (k * metadata_units t)) (number-again (number e.meta))
    ∙ ap (λ w. bits (number e.meta) w) (sym len) ∙ bits-number e.meta in
    ap (λ (m : List Bool). let x : Entry = record { y = e.y; meta = m } in x) meta

pub draft-bits : (k t : ℕ) (e : Entry) (p : ℕ × ℕ) → IsEntry k t e → HasDraftBits k t (draft_of e p)
draft-bits k t e p h = record {
  y = h.y;
  low = omega arith;
  meta = subst (λ (n : ℕ). n < 2 ^ (k * metadata_units t)) (sym (number-again (number e.meta))) (number-fits e.meta (k * metadata_units t) h.meta);
}
