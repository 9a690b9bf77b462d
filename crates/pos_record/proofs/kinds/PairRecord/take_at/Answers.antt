use Rattle.std.proofs.Common.{ℕ, ◌+◌, refl, ap₂, ◌∙◌, arith}
use Rattle.pos_bits.specs.Bits.{bits_of}
use Rattle.pos_record.specs.Kinds.{pair_width}
use Rattle.pos_record.specs.declared.kinds.Pair.{Pair}
use Rattle.pos_record.proofs.FieldsLemmas.{field-inside}
use Rattle.pos_record.proofs.kinds.PairRecord.take_at.Goals as goal

pub returns : goal.returns
returns g c =
    let k : ℕ = g.row.K in
    let make : ℕ → ℕ → Pair = λ a b. record { left = a; right = b } in
    ap₂ make
    (c.two_at-left.ensures.first ∙ field-inside (bits_of c.args.bytes.now) c.args.at (pair_width k) 0 (k + 1) c.args.at (k + 1) (omega arith) refl (omega arith))
    (c.two_at-left.ensures.second ∙ field-inside (bits_of c.args.bytes.now) c.args.at (pair_width k) (k + 1) (k + 1) (c.args.at + (k + 1)) (k + 1) refl refl (omega arith))
