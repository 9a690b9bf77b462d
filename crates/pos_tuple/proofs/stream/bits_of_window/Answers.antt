use Rattle.std.proofs.Common.{◌≡◌, ◌<◌, ◌≤◌, ◌*◌, ◌%◌, ◌^◌, ◌/◌, ◌-◌, ◌+◌, arith}
use Rattle.std.proofs.Math.Nat.{mod-lt}
use Rattle.std.proofs.lemmas.Nat.{and_mask, one_shl, pow_pos}
use Rattle.pos_tuple.proofs.StreamLemmas.{pow_mono}
use Rattle.pos_tuple.proofs.stream.bits_of_window.Goals as goal

masked : goal.returns-clause-value
masked c =
    let mask : 1 * 2 ^ c.args.width % 2 ^ 128 ≡ 2 ^ c.args.width = one_shl c.args.width 128 (omega arith) in
    rw mask (and_mask _ _)

pub returns-clause-value : goal.returns-clause-value
returns-clause-value c = masked c

pub overflow_cast-result-2 : goal.overflow_cast-result-2
overflow_cast-result-2 c =
    let low = c.args.window / 2 ^ (96 - (c.args.start + c.args.width)) % 2 ^ c.args.width in
    let small : low < 2 ^ c.args.width = mod-lt _ (pow_pos c.args.width) in
    let most : 2 ^ c.args.width ≤ 2 ^ 64 = pow_mono c.args.width 64 c.requires.width in
    rw (masked c) (omega arith)
