use Rattle.std.proofs.Common.{sym, ◌∙◌, arith}
use Rattle.pos_bits.proofs.ReaderLemmas.{length-left, run-taken}
use Rattle.pos_bits.proofs.reader.BitReader.take_run.Goals as goal

pub invariant_of-self : goal.invariant_of-self
invariant_of-self c =
    (c.self.invariant.0, omega (arith, length-left c.self.inside.bytes.now c.self.inside.at c.args.self.now c.self.view_is))

pub returns-clause-some : goal.returns-clause-some
returns-clause-some c =
    sym c.self.view_is
    ∙ run-taken c.self.inside.bytes.now c.self.inside.at c.ones_from-ones.result c.ones_from-ones.ensures.ones
    (c.ones_from-ones.ensures.next (omega (arith, (invariant_of-self c).1)))
