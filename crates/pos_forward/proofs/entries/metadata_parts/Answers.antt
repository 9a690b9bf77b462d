use Rattle.std.proofs.Common.{◌≡◌, ℕ, ◌+◌, ◌-◌, ◌/◌, ◌%◌, ◌^◌, List, Bool, length, take, drop, sym, ap, ◌∙◌, arith}
use Rattle.std.proofs.lemmas.List.{take_all}
use Rattle.pos_bits.specs.Bits.{number}
use Rattle.pos_record.specs.KindLaws.{field-split}
use Rattle.pos_record.proofs.FieldsLemmas.{whole-field, short-high, short-low}
use Rattle.pos_forward.proofs.EntryLemmas.{number-fits}
use Rattle.pos_forward.proofs.entries.metadata_parts.Goals as goal

all : (s : List Bool) (w : ℕ) → length s ≡ w → number (take w s) ≡ number s
all s w e = ap number (take_all w s (omega arith))

pub returns-then-width-gt128-clause-high : goal.returns-then-width-gt128-clause-high
returns-then-width-gt128-clause-high c =
    c.number.ensures.value
    ∙ sym (field-split c.args.meta.now 0 (c.args.width - 128) 128 (omega arith)).0
    ∙ ap (λ n. n / 2 ^ 128) (whole-field c.args.meta.now 0 c.args.width (c.args.width - 128 + 128) (omega arith) (omega arith) ∙ all c.args.meta.now c.args.width c.requires.width_is)

pub returns-then-width-gt128-clause-low : goal.returns-then-width-gt128-clause-low
returns-then-width-gt128-clause-low c =
    let place : 0 + (c.args.width - 128) ≡ c.args.width - 128 = omega arith in
    c.number-then-width-gt128.ensures.value
    ∙ ap (λ i. number (take 128 (drop i c.args.meta.now))) (sym place)
    ∙ sym (field-split c.args.meta.now 0 (c.args.width - 128) 128 (omega arith)).1
    ∙ ap (λ n. n % 2 ^ 128) (whole-field c.args.meta.now 0 c.args.width (c.args.width - 128 + 128) (omega arith) (omega arith) ∙ all c.args.meta.now c.args.width c.requires.width_is)

pub returns-else-width-gt128-clause-high : goal.returns-else-width-gt128-clause-high
returns-else-width-gt128-clause-high c =
    short-high (number c.args.meta.now) c.args.width (omega arith) (number-fits c.args.meta.now c.args.width c.requires.width_is)

pub returns-else-width-gt128-clause-low : goal.returns-else-width-gt128-clause-low
returns-else-width-gt128-clause-low c =
    c.number-else-width-gt128.ensures.value ∙ all c.args.meta.now c.args.width c.requires.width_is
    ∙ short-low (number c.args.meta.now) c.args.width (omega arith) (number-fits c.args.meta.now c.args.width c.requires.width_is)
