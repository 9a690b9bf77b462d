use Rattle.std.proofs.Common.{◌+◌, ◌-◌, ◌*◌, ◌/◌, ◌%◌, ◌^◌, ◌<◌, rules, arith}
use Rattle.pos_bits.proofs.TwoLemmas.{two-bits, two-fits}
use Rattle.pos_bits.proofs.string.two_words.Goals as goal

pub overflow_add-result : goal.overflow_add-result
overflow_add-result c =
    let fits : c.args.word * 2 ^ c.args.skip % 2 ^ 64 + c.args.next / 2 ^ 1 / 2 ^ (63 - c.args.skip) < 2 ^ 64 =
    two-fits c.args.word c.args.next c.args.skip c.requires (omega arith) in
    search rules

pub returns : goal.returns
returns c = two-bits c.args.word c.args.next c.args.skip c.requires (omega arith)
