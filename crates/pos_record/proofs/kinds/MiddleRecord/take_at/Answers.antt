use Rattle.std.proofs.Common.{◌≡◌, ℕ, ◌+◌, ◌*◌, Bool, List, refl, ap, ap₂, ◌∙◌, arith}
use Rattle.pos_bits.specs.Bits.{bits_of}
use Rattle.pos_tuple.specs.Node.{metadata_units}
use Rattle.pos_record.specs.Kinds.{middle_width}
use Rattle.pos_record.specs.declared.kinds.Middle.{Middle}
use Rattle.pos_record.proofs.FieldsLemmas.{field-inside, part-inside}
use Rattle.pos_record.proofs.kinds.MiddleRecord.take_at.Goals as goal

pub returns : goal.returns
returns g c =
    let k : ℕ = g.row.K in
    let m : ℕ = k * metadata_units g.row.T in
    let s : List Bool = bits_of c.args.bytes.now in
    let n : ℕ = middle_width k g.row.T in
    let units : k * c.units_of-meta.result ≡ m = ap (λ u. k * u) c.units_of-meta.ensures.value in
    let make : ℕ → List Bool → ℕ → ℕ → Middle g.row.T = λ a b d e. record { y = a; meta = b; left = d; right = e } in
    ap₂ (λ a b. make a b c.two_at-left.result.0 c.two_at-left.result.1)
    (c.number_at.ensures.value ∙ field-inside s c.args.at n 0 (k + 6) c.args.at (k + 6) (omega arith) refl (omega arith))
    (c.read_bits.ensures.value ∙ part-inside s c.args.at n (k + 6) m (c.args.at + (k + 6)) (k * c.units_of-meta.result) refl units (omega arith))
    ∙ ap₂ (make _ _)
    (c.two_at-left.ensures.first ∙ field-inside s c.args.at n (k + 6 + m) (k + 1) (c.args.at + (k + 6 + k * c.units_of-meta.result)) (k + 1) (omega arith) refl (omega arith))
    (c.two_at-left.ensures.second ∙ field-inside s c.args.at n (k + 6 + m + (k + 1)) (k + 1) (c.args.at + (k + 6 + k * c.units_of-meta.result) + (k + 1)) (k + 1) (omega arith) refl (omega arith))
