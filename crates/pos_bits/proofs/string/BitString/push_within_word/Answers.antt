use Rattle.std.proofs.Common.{◌≡◌, ◌+◌, ◌%◌, ◌<◌, length, ap, ◌∙◌, arith, length-append, ◌++◌, refl, rules, slice_index_or, ◌/◌, ◌*◌, ◌-◌, ◌^◌}
use Rattle.pos_bits.specs.Bits.{bits}
use Rattle.pos_bits.specs.Blocks.{length-bits}
use Rattle.pos_bits.proofs.HeldLemmas.{HoldsBits-of_blocks, held-len, held-push, held-push_fits, held_bits-of_blocks}
use Rattle.pos_bits.proofs.string.BitString.push_within_word.Goals as goal

pub overflow_sub-self-2 : goal.overflow_sub-self-2
overflow_sub-self-2 c =
    let l : length c.args.self.now ≡ c.self.inside.len = held-len c.self.inside.words c.self.inside.len c.args.self.now c.self.invariant c.self.view_is in
    omega arith

pub bounds-self-inside-word : goal.bounds-self-inside-word
bounds-self-inside-word c =
    let l : length c.args.self.now ≡ c.self.inside.len = held-len c.self.inside.words c.self.inside.len c.args.self.now c.self.invariant c.self.view_is in
    omega arith

pub overflow_add-self : goal.overflow_add-self
overflow_add-self c =
    let l : length c.args.self.now ≡ c.self.inside.len = held-len c.self.inside.words c.self.inside.len c.args.self.now c.self.invariant c.self.view_is in
    let fits : slice_index_or c.self.inside.words (c.self.inside.len / 64) 0 + c.args.value * 2 ^ (64 - c.self.inside.len % 64 - c.args.width) % 2 ^ 64 < 2 ^ 64 = held-push_fits c.self.inside.words c.self.inside.len c.args.self.now c.self.invariant c.self.view_is c.args.value c.args.width c.requires.not_none c.requires.value_fits (omega arith) (omega arith) in
    search rules

pub bounds-self-inside-word-2 : goal.bounds-self-inside-word-2
bounds-self-inside-word-2 c =
    let l : length c.args.self.now ≡ c.self.inside.len = held-len c.self.inside.words c.self.inside.len c.args.self.now c.self.invariant c.self.view_is in
    omega arith

pub invariant_of-self : goal.invariant_of-self
invariant_of-self c =
    let l : length c.args.self.now ≡ c.self.inside.len = held-len c.self.inside.words c.self.inside.len c.args.self.now c.self.invariant c.self.view_is in
    HoldsBits-of_blocks _ _ (c.args.self.now ++ bits c.args.value c.args.width)
    (held-push c.self.inside.words c.self.inside.len c.args.self.now c.self.invariant c.self.view_is c.args.value c.args.width c.requires.not_none c.requires.value_fits (omega arith) (omega arith))
    (rw (length-append, length-bits) (omega arith))
    (omega arith)

pub returns-clause-bits : goal.returns-clause-bits
returns-clause-bits c =
    let l : length c.args.self.now ≡ c.self.inside.len = held-len c.self.inside.words c.self.inside.len c.args.self.now c.self.invariant c.self.view_is in
    held_bits-of_blocks _ _ (c.args.self.now ++ bits c.args.value c.args.width)
    (held-push c.self.inside.words c.self.inside.len c.args.self.now c.self.invariant c.self.view_is c.args.value c.args.width c.requires.not_none c.requires.value_fits (omega arith) (omega arith))
    (rw (length-append, length-bits) (omega arith))
    (omega arith)

pub returns-clause-len : goal.returns-clause-len
returns-clause-len c = ap length (returns-clause-bits c) ∙ rw (length-append, length-bits) refl
