use Rattle.pos_bits.proofs.BytesLemmas.{length-bits_of}
use Rattle.pos_bits.proofs.reader.BitReader.new.Goals as goal

pub returns-clause-len : goal.returns-clause-len
returns-clause-len c = length-bits_of c.args.bytes.now
