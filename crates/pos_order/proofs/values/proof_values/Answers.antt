use Rattle.std.proofs.Common.{refl, arith}
use Rattle.pos_bits.specs.Bits.{AreBytes}
use Rattle.pos_bits.proofs.BytesLemmas.{AreBytes-from_reads}
use Rattle.pos_order.proofs.ValuesLemmas.{read-none, read-next, read-all}
use Rattle.pos_order.proofs.values.proof_values.Goals as goal

pub loop-i-init : goal.loop-i-init
loop-i-init c =
    read-none c.args.size c.args.bytes.now _ c.new-reader.result refl c.new-reader.ensures.value c.new-reader.ensures.len
    c.requires

pub loop-i-preserved : goal.loop-i-preserved
loop-i-preserved c =
    read-next c.args.size c.args.bytes.now c.loop-i.values c.loop-i.i c.in-Some.read c.loop-i.reader c.take.new.self
    c.loop-i-test.true (rw c.k.ensures.value at c.in-Some.ensures.below) (rw c.k.ensures.value at c.in-Some.ensures.some)
    c.loop-i.invariant

pub returns : goal.returns
returns c =
    let are : AreBytes c.args.bytes.now = AreBytes-from_reads c.args.bytes.now (λ i _. omega (arith, c.type_inv.bytes i)) in
    read-all c.args.size c.args.bytes.now c.loop-i.values c.loop-i.i c.loop-i.reader (omega arith) are c.loop-i.invariant
