use Rattle.std.proofs.Common.{arith}
use Rattle.pos_rice.proofs.ParkLemmas.{Park-short, Park-short_at}
use Rattle.pos_rice.proofs.laws.parks_are_short.Goals as goal

pub returns-clause-by_count : goal.returns-clause-by_count
returns-clause-by_count c = Park-short

pub returns-clause-to_size_32 : goal.returns-clause-to_size_32
returns-clause-to_size_32 c = λ k ns s h p. Park-short_at 32 _ k ns s h (omega arith) p

pub returns-clause-to_size_50 : goal.returns-clause-to_size_50
returns-clause-to_size_50 c = λ k ns s h p. Park-short_at 50 _ k ns s h (omega arith) p
