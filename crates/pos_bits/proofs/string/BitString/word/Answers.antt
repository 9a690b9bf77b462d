use Rattle.std.proofs.Common.{◌≡◌, ◌+◌, ◌-◌, ◌/◌, ◌^◌, ◌<◌, ◌∙◌, length, slice_index_or, ap, sym, subst, arith}
use Rattle.std.proofs.lemmas.Nat.{shr_below}
use Rattle.pos_bits.specs.Bits.{number}
use Rattle.pos_bits.proofs.BitsLemmas.{number-bits}
use Rattle.pos_bits.proofs.HeldLemmas.{held-eight, held-len}
use Rattle.pos_bits.proofs.TwoLemmas.{held-two}
use Rattle.pos_bits.proofs.string.BitString.word.Goals as goal
use Rattle.pos_bits.proofs.string.BitString.word.Goals.{then-word-lt7, else-word-lt7}

pub returns-clause-below : goal.returns-clause-below
returns-clause-below c =
    let size : 64 ≡ c.args.width + (64 - c.args.width) = omega arith in
    shr_below c.two_words.result c.args.width (64 - c.args.width) (subst (λ k. c.two_words.result < 2 ^ k) size (omega arith))

pub returns-clause-value : goal.returns-clause-value
returns-clause-value c =
    let l : length c.args.self.now ≡ c.self.inside.len = held-len c.self.inside.words c.self.inside.len c.args.self.now c.self.invariant c.self.view_is in
    let eight : length c.self.inside.words ≡ 8 = held-eight c.self.inside.words c.self.inside.len c.args.self.now c.self.invariant c.self.view_is in
    let next_is : c.args.start / 64 < 7 → c.if-word-lt7.next ≡ slice_index_or c.self.inside.words (c.args.start / 64 + 1) 0 =
    λ more. elim c.if-word-lt7.branch [
      | then-word-lt7 w ↦ w.next-is
      | else-word-lt7 w ↦ absurd (omega arith)
    ] in
    sym (number-bits _ c.args.width (returns-clause-below c))
    ∙ ap number (sym (held-two c.self.inside.words c.self.inside.len c.args.self.now eight c.self.invariant.at_most c.self.view_is c.args.start c.args.width c.two_words.result
    c.if-word-lt7.next (omega arith) (omega arith) c.requires.not_none c.two_words.ensures next_is))
