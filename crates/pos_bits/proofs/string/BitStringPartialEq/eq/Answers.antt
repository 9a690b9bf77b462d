use Rattle.std.proofs.Common.{◌≡◌, Bool, true, false, List, length, refl, ap, ap₂, sym, ◌∙◌, eqb-true, nat_eq}
use lib.Pointwise.{bytes_decides}
use Rattle.pos_bits.specs.Blocks.{held_bits}
use Rattle.pos_bits.specs.SameBits.{same_bits, same_bits_decides}
use Rattle.pos_bits.proofs.HeldLemmas.{held-len, held-same}
use Rattle.pos_bits.proofs.string.BitStringPartialEq.eq.Goals as goal

one_answer : (r q : Bool) → (r ≡ true → q ≡ true) → (q ≡ true → r ≡ true) → r ≡ q
one_answer true q f g = sym (f refl)
one_answer false true f g = g refl
one_answer false false f g = refl

answer : (r : Bool) (s t : List Bool) → (r ≡ true → s ≡ t) → (s ≡ t → r ≡ true) → r ≡ same_bits s t
answer r s t f g = one_answer r (same_bits s t) (λ h. (same_bits_decides s t).1 (f h)) (λ h. g ((same_bits_decides s t).0 h))

pub returns-then-self-other-clause-same : goal.returns-then-self-other-clause-same
returns-then-self-other-clause-same c = (
  (λ h. sym c.self.view_is ∙ ap₂ held_bits ((bytes_decides c.self.inside.words c.other.inside.words).0 (sym c.eq.ensures ∙ h)) c.if-self-other.true ∙ c.other.view_is),
  (λ e. c.eq.ensures ∙ (bytes_decides c.self.inside.words c.other.inside.words).1
      (held-same c.self.inside.words c.other.inside.words c.self.inside.len c.other.inside.len c.args.self.now c.args.other.now c.self.invariant c.other.invariant c.self.view_is c.other.view_is e)),
)

pub returns-then-self-other-clause-answer : goal.returns-then-self-other-clause-answer
returns-then-self-other-clause-answer c =
    answer c.eq.result c.args.self.now c.args.other.now (returns-then-self-other-clause-same c).0 (returns-then-self-other-clause-same c).1

pub returns-else-self-other-clause-same : goal.returns-else-self-other-clause-same
returns-else-self-other-clause-same c =
    let l : length c.args.self.now ≡ c.self.inside.len = held-len c.self.inside.words c.self.inside.len c.args.self.now c.self.invariant c.self.view_is in
    let m : length c.args.other.now ≡ c.other.inside.len = held-len c.other.inside.words c.other.inside.len c.args.other.now c.other.invariant c.other.view_is in
    ((λ h. absurd (c.if-self-other.false (eqb-true _ _ h))), (λ e. absurd (c.if-self-other.false (sym l ∙ ap length e ∙ m))))

pub returns-else-self-other-clause-answer : goal.returns-else-self-other-clause-answer
returns-else-self-other-clause-answer c =
    answer (nat_eq c.self.inside.len c.other.inside.len) c.args.self.now c.args.other.now (returns-else-self-other-clause-same c).0 (returns-else-self-other-clause-same c).1
