-- What stands before the first newline is a name, or nothing is.
use Rattle.std.proofs.Common.{sym, subst, arith}
use Rattle.pos_farm.specs.Steps.{BeginsWith}
use Rattle.pos_farm.proofs.NameLemmas.{front_empty, front_named, front_no_text}
use Rattle.pos_farm.proofs.list.name_before.Goals as goal

pub returns-then-end-eq0 : goal.returns-then-end-eq0
returns-then-end-eq0 c = front_empty c.args.bytes.now c.args.end c.requires.newline c.requires.before c.if-end-eq0.true

pub returns-in-Ok : goal.returns-in-Ok
returns-in-Ok c =
    subst (λ name. BeginsWith name c.args.bytes.now) (sym c.in-Ok.ensures.cases.0)
    (front_named c.args.bytes.now c.args.end c.requires.inside c.requires.short c.requires.newline c.requires.before (omega (arith, c.if-end-eq0.false)) c.in-Ok.ensures.cases.1)

pub returns-in-Err : goal.returns-in-Err
returns-in-Err c = front_no_text c.args.bytes.now c.args.end c.requires.newline c.requires.before c.in-Err.ensures.cases.0
