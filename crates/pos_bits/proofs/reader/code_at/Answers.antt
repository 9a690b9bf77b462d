use Rattle.std.proofs.Common.{◌^◌, ◌/◌, ◌≤◌, arith}
use Rattle.pos_bits.proofs.CodeLemmas.{code_found, no_code_end, no_code_run, number-below, run_whole}
use Rattle.pos_bits.proofs.reader.code_at.Goals as goal

pub returns-then-end-from-clause-none : goal.returns-then-end-from-clause-none
returns-then-end-from-clause-none c =
    λ n s small. no_code_end c.args.bytes.now c.args.at c.ones_from-ones.result c.args.low c.ones_from-ones.ensures.ones
    c.ones_from-ones.ensures.next c.ones_from-ones.ensures.within (omega (arith, c.if-end-from.true, c.from.ensures)) n s

pub returns-then-from-limit-clause-none : goal.returns-then-from-limit-clause-none
returns-then-from-limit-clause-none c =
    no_code_run c.args.bytes.now c.args.at c.ones_from-ones.result c.args.low c.ones_from-ones.ensures.ones
    (c.ones_from-ones.ensures.next (omega (arith, c.if-end-from.false, c.from.ensures))) c.args.limit (omega (arith, c.if-from-limit.true, c.from-2.ensures))

pub returns-clause-some : goal.returns-clause-some
returns-clause-some c =
    let few : c.ones_from-ones.result ≤ c.args.limit / 2 ^ c.args.low = omega (arith, c.if-from-limit.false, c.from-2.ensures) in
    let whole = run_whole c.args.limit c.ones_from-ones.result c.args.low c.requires.limit_fits few in
    rw (c.from-3.ensures, c.from-4.ensures, whole.1)
    (code_found c.args.bytes.now c.args.at c.ones_from-ones.result c.args.low c.ones_from-ones.ensures.ones c.wide_number_at-value.result
    (c.ones_from-ones.ensures.next (omega (arith, c.if-end-from.false, c.from.ensures))) (omega (arith, c.if-end-from.false, c.from.ensures))
    c.wide_number_at-value.ensures.value c.wide_number_at-value.ensures.below)

pub returns-clause-below : goal.returns-clause-below
returns-clause-below c =
    let few : c.ones_from-ones.result ≤ c.args.limit / 2 ^ c.args.low = omega (arith, c.if-from-limit.false, c.from-2.ensures) in
    let whole = run_whole c.args.limit c.ones_from-ones.result c.args.low c.requires.limit_fits few in
    rw (c.from-3.ensures, whole.1)
    (number-below c.args.limit c.ones_from-ones.result c.args.low c.wide_number_at-value.result c.requires.limit_fits c.requires.low_fits whole.0 c.wide_number_at-value.ensures.below)
