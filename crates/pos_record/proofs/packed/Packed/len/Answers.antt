use Rattle.std.proofs.Common.{◌*◌, ◌/◌, length, sym, ap, ◌∙◌}
use Rattle.pos_bits.specs.Bits.{bits_of}
use Rattle.pos_record.proofs.PackingLemmas.{length-records_in}
use Rattle.pos_record.proofs.packed.Packed.len.Goals as goal

pub returns : goal.returns
returns g c =
    ap (λ w. 8 * length c.args.bytes.now / w) c.width.ensures
    ∙ sym (length-records_in g.R.Record.read g.R.Record.bit_count (8 * length c.args.bytes.now / g.R.Record.bit_count) (bits_of c.args.bytes.now))
