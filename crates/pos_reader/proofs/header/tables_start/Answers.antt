use Rattle.std.proofs.Common.{arith}
use Rattle.pos_reader.proofs.HeaderLemmas.{end_of-zero}
use Rattle.pos_reader.proofs.header.tables_start.Goals as goal

pub returns : goal.returns
returns c = let start = end_of-zero c.args.header.now in let memo = c.from.ensures in omega arith
