use Rattle.pos_bits.proofs.BytesLemmas.{bytes-injective}
use Rattle.pos_bits.proofs.laws.bytes_are_of_one_string.Goals as goal

pub returns : goal.returns
returns c = bytes-injective
