use Rattle.std.proofs.Common.{◌++◌, ap, ◌∙◌, arith, take}
use Rattle.pos_bits.specs.Bits.{byte_count}
use Rattle.pos_bits.proofs.AppendLemmas.{last-appended, none-appended}
use Rattle.pos_bits.proofs.BytesLemmas.{AreBytes-from_reads}
use Rattle.pos_bits.proofs.writer.append_last.Goals as goal

pub returns-then-fill-eq0 : goal.returns-then-fill-eq0
returns-then-fill-eq0 c =
    none-appended c.args.bytes.now.items c.args.rest c.args.fill c.if-fill-eq0.true (AreBytes-from_reads c.args.bytes.now.items (λ i h. omega (arith, c.type_inv.bytes i 0 h)))

pub returns : goal.returns
returns c =
    last-appended c.args.bytes.now.items c.extend_from_slice.new.self.items c.args.rest c.args.fill (omega arith)
    (AreBytes-from_reads c.extend_from_slice.new.self.items (λ i h. omega (arith, c.type_inv.bytes i 0 h)))
    (c.in-Ok.ensures.items ∙ ap (λ bs. c.args.bytes.now.items ++ take (byte_count c.args.fill) bs) c.to_be_bytes-last.ensures)
