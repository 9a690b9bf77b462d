use Rattle.std.proofs.Common.{ℕ, ◌+◌, refl, ap₂, ◌∙◌, arith}
use Rattle.pos_bits.specs.Bits.{bits_of}
use Rattle.pos_record.specs.Kinds.{first_width}
use Rattle.pos_record.specs.declared.kinds.First.{First}
use Rattle.pos_record.proofs.FieldsLemmas.{field-inside}
use Rattle.pos_record.proofs.kinds.FirstRecord.take_at.Goals as goal

pub returns : goal.returns
returns g c =
    let k : ℕ = g.row.K in
    let make : ℕ → ℕ → First = λ a b. record { y = a; x = b } in
    ap₂ make
    (c.two_at-y.ensures.first ∙ field-inside (bits_of c.args.bytes.now) c.args.at (first_width k) 0 (k + 6) c.args.at (k + 6) (omega arith) refl (omega arith))
    (c.two_at-y.ensures.second ∙ field-inside (bits_of c.args.bytes.now) c.args.at (first_width k) (k + 6) k (c.args.at + (k + 6)) k refl refl (omega arith))
