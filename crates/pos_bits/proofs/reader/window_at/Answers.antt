use Rattle.pos_bits.proofs.ReaderLemmas.{window-shifted}
use Rattle.pos_bits.proofs.reader.window_at.Goals as goal

pub returns : goal.returns
returns c = window-shifted c.args.bytes.now c.args.at c.bits_at_byte.result c.requires.within c.bits_at_byte.ensures
