use Rattle.std.proofs.Common.{ℕ, ◌+◌, ◌*◌, ◌^◌, ◌++◌, Bool, List, ap, ap₂, ◌∙◌}
use Rattle.pos_bits.specs.Bits.{bits}
use Rattle.pos_tuple.specs.declared.entry.Entry.{Entry}
use Rattle.pos_forward.proofs.entries.entry_of_parts.Goals as goal

pub returns-clause-entry : goal.returns-clause-entry
returns-clause-entry c =
    let make : List Bool → Entry = λ s. record { y = c.args.y; meta = s } in
    let width = ap₂ (λ (a b : ℕ). a * b) c.k.ensures.value c.units_of.ensures.value in
    ap make
    (c.push_number.ensures.bits
    ∙ ap₂ (λ (s : List Bool) (w : ℕ). s ++ bits (c.args.high * 2 ^ 128 + c.args.low) w) c.empty-meta.ensures width)
