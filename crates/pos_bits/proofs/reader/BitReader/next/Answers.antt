use Rattle.std.proofs.Common.{◌≡◌, ◌+◌, ◌-◌, ◌<◌, ◌^◌, sym, ◌∙◌, subst, arith}
use Rattle.std.proofs.lemmas.Nat.{shr_below}
use Rattle.pos_bits.proofs.ReaderLemmas.{length-left, next-bits}
use Rattle.pos_bits.proofs.reader.BitReader.next.Goals as goal

pub invariant_of-self : goal.invariant_of-self
invariant_of-self c =
    (c.self.invariant.0, omega (arith, length-left c.self.inside.bytes.now c.self.inside.at c.args.self.now c.self.view_is))

pub returns-clause-value : goal.returns-clause-value
returns-clause-value c =
    sym c.self.view_is
    ∙ next-bits c.self.inside.bytes.now c.self.inside.at c.window_at.result c.args.width c.requires.width_fits (invariant_of-self c).1 c.window_at.ensures

pub returns-clause-below : goal.returns-clause-below
returns-clause-below c =
    let size : 64 ≡ c.args.width + (64 - c.args.width) = omega arith in
    shr_below c.window_at.result c.args.width (64 - c.args.width) (subst (λ k. c.window_at.result < 2 ^ k) size c.window_at.type_inv)
