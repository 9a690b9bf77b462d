use Rattle.std.proofs.Common.{ℕ, ◌+◌, refl, ap, ap₂, ◌∙◌, arith}
use Rattle.pos_bits.specs.Bits.{bits_of}
use Rattle.pos_record.specs.Kinds.{last_width}
use Rattle.pos_record.specs.declared.kinds.Last.{Last}
use Rattle.pos_record.proofs.FieldsLemmas.{field-inside}
use Rattle.pos_record.proofs.kinds.LastRecord.take_at.Goals as goal

pub returns : goal.returns
returns g c =
    let k : ℕ = g.row.K in
    let make : ℕ → ℕ → ℕ → Last = λ a b d. record { y = a; left = b; right = d } in
    ap₂ (λ a b. make a b c.two_at-left.result.1)
    (c.number_at.ensures.value ∙ field-inside (bits_of c.args.bytes.now) c.args.at (last_width k) 0 (k + 6) c.args.at (k + 6) (omega arith) refl (omega arith))
    (c.two_at-left.ensures.first ∙ field-inside (bits_of c.args.bytes.now) c.args.at (last_width k) (k + 6) (k + 1) (c.args.at + (k + 6)) (k + 1) refl refl (omega arith))
    ∙ ap (make _ _)
    (c.two_at-left.ensures.second ∙ field-inside (bits_of c.args.bytes.now) c.args.at (last_width k) (k + 6 + (k + 1)) (k + 1) (c.args.at + (k + 6) + (k + 1)) (k + 1) (omega arith) refl (omega arith))
