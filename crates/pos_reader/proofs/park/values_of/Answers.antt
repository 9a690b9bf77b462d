use Rattle.std.proofs.Common.{arith}
use Rattle.std.proofs.Math.Pow.{pow_mono}
use Rattle.pos_reader.proofs.park.values_of.Goals as goal

pub returns-clause-small : goal.returns-clause-small
returns-clause-small c = let most = pow_mono {i = c.k.result} {j = 50} c.k.ensures.at_most in omega arith
