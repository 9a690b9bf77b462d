use Rattle.std.proofs.Common.{◌≡◌, ◌++◌, ◌∙◌, length, ap, ap₂, arith, length-append, refl}
use Rattle.pos_bits.specs.Blocks.{blocks}
use Rattle.pos_bits.proofs.HeldLemmas.{HoldsBits-of_blocks, held-len, held_bits-of_blocks}
use Rattle.pos_bits.proofs.string.BitString.join.Goals as goal

pub join_words-requires-clause-room : goal.join_words-requires-clause-room
join_words-requires-clause-room c =
    let l : length c.args.self.now ≡ c.self.inside.len = held-len c.self.inside.words c.self.inside.len c.args.self.now c.self.invariant c.self.view_is in
    let m : length c.args.other.now ≡ c.other.inside.len = held-len c.other.inside.words c.other.inside.len c.args.other.now c.other.invariant c.other.view_is in
    omega (arith, c.requires)

pub invariant_of-self : goal.invariant_of-self
invariant_of-self c =
    let l : length c.args.self.now ≡ c.self.inside.len = held-len c.self.inside.words c.self.inside.len c.args.self.now c.self.invariant c.self.view_is in
    let m : length c.args.other.now ≡ c.other.inside.len = held-len c.other.inside.words c.other.inside.len c.args.other.now c.other.invariant c.other.view_is in
    let words : c.join_words.new.words ≡ blocks 64 8 (c.args.self.now ++ c.args.other.now) =
    c.join_words.ensures ∙ ap₂ (λ a b. blocks 64 8 (a ++ b)) c.self.view_is c.other.view_is in
    HoldsBits-of_blocks _ _ (c.args.self.now ++ c.args.other.now) words (rw (length-append, l, m) refl) (omega (arith, c.requires))

pub returns-clause-bits : goal.returns-clause-bits
returns-clause-bits c =
    let l : length c.args.self.now ≡ c.self.inside.len = held-len c.self.inside.words c.self.inside.len c.args.self.now c.self.invariant c.self.view_is in
    let m : length c.args.other.now ≡ c.other.inside.len = held-len c.other.inside.words c.other.inside.len c.args.other.now c.other.invariant c.other.view_is in
    let words : c.join_words.new.words ≡ blocks 64 8 (c.args.self.now ++ c.args.other.now) =
    c.join_words.ensures ∙ ap₂ (λ a b. blocks 64 8 (a ++ b)) c.self.view_is c.other.view_is in
    held_bits-of_blocks _ _ (c.args.self.now ++ c.args.other.now) words (rw (length-append, l, m) refl) (omega (arith, c.requires))

pub returns-clause-len : goal.returns-clause-len
returns-clause-len c = ap length (returns-clause-bits c) ∙ length-append c.args.self.now c.args.other.now
