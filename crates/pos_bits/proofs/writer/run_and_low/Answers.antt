use Rattle.std.proofs.Common.{◌^◌, rules, pow_pos}
use Rattle.std.proofs.lemmas.Nat.{mod_below}
use Rattle.pos_bits.proofs.AppendLemmas.{run-low_bits, run-low_fits, run-low_lt, run-low_some}
use Rattle.pos_bits.proofs.writer.run_and_low.Goals as goal

pub overflow_sub-result : goal.overflow_sub-result
overflow_sub-result c = run-low_some c.args.run c.args.low 0 c.requires.short (pow_pos c.args.low)

pub overflow_add-result : goal.overflow_add-result
overflow_add-result c =
    let f = run-low_fits c.args.run c.args.low _ c.requires.short (mod_below c.args.number (2 ^ c.args.low) (pow_pos c.args.low)) in
    rw c.low_bits.ensures (search rules)

pub returns-clause-fits : goal.returns-clause-fits
returns-clause-fits c =
    rw c.low_bits.ensures (run-low_lt c.args.run c.args.low _ c.requires.short (mod_below c.args.number (2 ^ c.args.low) (pow_pos c.args.low)))

pub returns-clause-bits : goal.returns-clause-bits
returns-clause-bits c =
    rw c.low_bits.ensures (run-low_bits c.args.run c.args.low _ c.requires.short (mod_below c.args.number (2 ^ c.args.low) (pow_pos c.args.low)))
