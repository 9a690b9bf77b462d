use Rattle.std.proofs.Common.{◌++◌}
use Rattle.std.proofs.lemmas.Nat.{one_shl}
use Rattle.pos_bits.specs.Bits.{bits, bits_of}
use Rattle.pos_bits.proofs.AppendLemmas.{code-appended}
use Rattle.pos_bits.proofs.writer.BitWriter.put_long.Goals as goal

pub returns-clause-ok : goal.returns-clause-ok
returns-clause-ok c =
    code-appended c.args.self.now (bits_of c.self.inside.bytes.items ++ bits c.self.inside.rest c.self.inside.fill)
    (bits_of c.append_run.new.bytes.items ++ bits c.append_run.result.0 c.append_run.result.1)
    (bits_of c.append_wide.new.bytes.items ++ bits c.append_wide.result.0 c.append_wide.result.1) c.args.low c.args.number
    c.self.view_is (rw c.reserve.ensures.items at c.append_run.ensures.bits)
    (rw (one_shl c.args.low 128 c.requires.low_fits) at c.append_wide.ensures.bits)
