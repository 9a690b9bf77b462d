use Rattle.std.proofs.Common.{◌≡◌, ℕ, ◌+◌, ◌*◌, ◌/◌, ◌%◌, ◌^◌, Bool, List, refl, ap, ap₂, ◌∙◌, arith}
use Rattle.pos_bits.specs.Bits.{bits_of}
use Rattle.pos_tuple.specs.Node.{metadata_units}
use Rattle.pos_record.specs.Fields.{field_at, part_at}
use Rattle.pos_record.specs.Kinds.{middle_width}
use Rattle.pos_record.specs.declared.kinds.Row.{Row}
use Rattle.pos_record.proofs.FieldsLemmas.{field-inside}
use Rattle.pos_record.proofs.kinds.RowRecord.take_at.Goals as goal

pub returns : goal.returns
returns g c =
    let k : ℕ = g.row.K in
    let m : ℕ = k * metadata_units g.row.T in
    let s : List Bool = bits_of c.args.bytes.now in
    let n : ℕ = middle_width k g.row.T in
    let u : ℕ = k * c.units_of-meta.result in
    let units : u ≡ m = ap (λ x. k * x) c.units_of-meta.ensures.value in
    let meta : field_at (c.args.at + (k + 6)) u s ≡ field_at (k + 6) m (part_at c.args.at n s) =
    field-inside s c.args.at n (k + 6) m (c.args.at + (k + 6)) u refl units (omega arith) in
    let y : ℕ = field_at 0 (k + 6) (part_at c.args.at n s) in
    let number : ℕ = field_at (k + 6) m (part_at c.args.at n s) in
    let make : ℕ → ℕ → ℕ → ℕ → ℕ → Row g.row.T = λ a b d e f. record { y = a; high = b; low = d; left = e; right = f } in
    ap (λ a. make a c.metadata_at-high.result.0 c.metadata_at-high.result.1 c.two_at-left.result.0 c.two_at-left.result.1)
    (c.number_at.ensures.value ∙ field-inside s c.args.at n 0 (k + 6) c.args.at (k + 6) (omega arith) refl (omega arith))
    ∙ ap₂ (λ b d. make y b d c.two_at-left.result.0 c.two_at-left.result.1)
    (c.metadata_at-high.ensures.high ∙ ap (λ x. x / 2 ^ 128) meta)
    (c.metadata_at-high.ensures.low ∙ ap (λ x. x % 2 ^ 128) meta)
    ∙ ap₂ (make y (number / 2 ^ 128) (number % 2 ^ 128))
    (c.two_at-left.ensures.first ∙ field-inside s c.args.at n (k + 6 + m) (k + 1) (c.args.at + (k + 6 + u)) (k + 1) (omega arith) refl (omega arith))
    (c.two_at-left.ensures.second ∙ field-inside s c.args.at n (k + 6 + m + (k + 1)) (k + 1) (c.args.at + (k + 6 + u) + (k + 1)) (k + 1) (omega arith) refl (omega arith))
