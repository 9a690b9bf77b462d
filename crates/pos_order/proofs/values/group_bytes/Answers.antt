use Rattle.std.proofs.Common.{◌+◌, ◌∙◌, ◌++◌, sym, ap, subst, slice_index, arith}
use Rattle.pos_bits.specs.Bits.{bits}
use Rattle.pos_order.proofs.ValuesLemmas.{JoinedSoFar, joined-none, joined-next, joined-all}
use Rattle.pos_order.proofs.values.group_bytes.Goals as goal

pub loop-value-init : goal.loop-value-init
loop-value-init c =
    subst (JoinedSoFar c.args.size c.args.group.now 0) (sym c.empty-joined.ensures) (joined-none c.args.size c.args.group.now)

pub loop-value-preserved : goal.loop-value-preserved
loop-value-preserved c =
    subst (JoinedSoFar c.args.size c.args.group.now (c.loop-value.value-index + 1))
    (sym (c.push.ensures.bits ∙ ap (λ w. c.loop-value.joined ++ bits (slice_index c.args.group.now c.loop-value.value-index) w) c.k.ensures.value))
    (joined-next c.args.size c.args.group.now c.loop-value.value-index c.loop-value.joined c.loop-value-test.true c.loop-value.invariant)

pub returns-clause-bytes : goal.returns-clause-bytes
returns-clause-bytes c =
    joined-all c.args.size c.args.group.now c.loop-value.value-index c.loop-value.joined c.to_block.new.out (omega arith) c.requires.count
    c.loop-value.invariant c.to_block.ensures.bytes
