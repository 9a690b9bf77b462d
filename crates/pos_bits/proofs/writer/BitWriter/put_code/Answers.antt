use Rattle.std.proofs.Common.{◌≡◌, ◌++◌, rules, subst}
use Rattle.std.specs.Prelude.{OnOk}
use Rattle.pos_bits.specs.Codes.{code_bits}
use Rattle.pos_bits.proofs.AppendLemmas.{short_number}
use Rattle.pos_bits.proofs.writer.BitWriter.put_code.Goals as goal

pub overflow_cast-run : goal.overflow_cast-run
overflow_cast-run c =
    let f = short_number c.args.number c.args.low c.from.result c.if-low-lt63.true c.from.ensures c.if-number-from.true in
    search rules

pub overflow_cast-number : goal.overflow_cast-number
overflow_cast-number c =
    let f = short_number c.args.number c.args.low c.from.result c.if-low-lt63.true c.from.ensures c.if-number-from.true in
    search rules

pub returns-then-number-from-clause-ok : goal.returns-then-number-from-clause-ok
unfolding code_bits
returns-then-number-from-clause-ok c =
    subst (λ t. OnOk c.put_short.result (c.put_short.new.self ≡ c.args.self.now ++ t)) c.run_and_low.ensures.bits c.put_short.ensures.ok
