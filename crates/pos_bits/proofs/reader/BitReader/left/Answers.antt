use Rattle.std.proofs.Common.{sym}
use Rattle.pos_bits.proofs.ReaderLemmas.{length-left}
use Rattle.pos_bits.proofs.reader.BitReader.left.Goals as goal

pub returns-clause-value : goal.returns-clause-value
returns-clause-value c = sym (length-left c.self.inside.bytes.now c.self.inside.at c.args.self.now c.self.view_is)
