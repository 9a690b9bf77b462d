use Rattle.pos_bits.proofs.BytesLemmas.{bytes-are_bytes}
use Rattle.pos_bits.proofs.SpellingLemmas.{fewer_than_eight, one_spelling}
use Rattle.pos_bits.proofs.laws.bytes_are_the_one_spelling.Goals as goal

pub returns-clause-bytes : goal.returns-clause-bytes
returns-clause-bytes c = bytes-are_bytes

pub returns-clause-filled : goal.returns-clause-filled
returns-clause-filled c = fewer_than_eight

pub returns-clause-one : goal.returns-clause-one
returns-clause-one c = one_spelling
