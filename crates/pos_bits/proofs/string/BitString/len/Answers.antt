use Rattle.std.proofs.Common.{sym}
use Rattle.pos_bits.proofs.HeldLemmas.{held-len}
use Rattle.pos_bits.proofs.string.BitString.len.Goals as goal

pub returns-clause-value : goal.returns-clause-value
returns-clause-value c = sym (held-len c.self.inside.words c.self.inside.len c.args.self.now c.self.invariant c.self.view_is)
