use Rattle.std.proofs.Common.{subst}
use Rattle.pos_app.specs.Read.{IsPlain}
use Rattle.pos_app.proofs.DecimalLemmas.{decimal-read, decimal-none}
use Rattle.pos_app.proofs.command.read_decimal.Goals as goal

pub returns-clause-read : goal.returns-clause-read
returns-clause-read c =
    rw c.ok.ensures.value (decimal-read c.args.word.now c.parse.result (subst IsPlain c.as_bytes.ensures.value (c.is_plain.ensures.0 c.if-not-is_plain.false)) c.parse.ensures.value.0)

pub returns-clause-none : goal.returns-clause-none
returns-clause-none c =
    rw c.ok.ensures.value (decimal-none c.args.word.now c.parse.result (subst IsPlain c.as_bytes.ensures.value (c.is_plain.ensures.0 c.if-not-is_plain.false)) c.parse.ensures.value.0)
