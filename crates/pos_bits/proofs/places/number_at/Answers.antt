use Rattle.std.proofs.Common.{◌*◌, ◌%◌, ◌^◌, arith}
use Rattle.pos_bits.proofs.PlacesLemmas.{window-number, window-number_lt}
use Rattle.pos_bits.proofs.places.number_at.Goals as goal

pub returns-clause-value : goal.returns-clause-value
returns-clause-value c =
    window-number c.args.bytes.now c.args.at c.bits_at_byte.result c.args.width c.requires.width_fits c.requires.there c.bits_at_byte.ensures

pub returns-clause-below : goal.returns-clause-below
returns-clause-below c =
    window-number_lt (c.bits_at_byte.result * 2 ^ (c.args.at % 8) % 2 ^ 64) c.args.width c.requires.width_fits (omega arith)
