use Rattle.std.proofs.Common.{◌≡◌, ◌+◌, ◌-◌, ℕ, take, drop, ap, ◌∙◌, arith}
use Rattle.pos_bits.specs.Bits.{AreBytes, bits}
use Rattle.pos_bits.proofs.BytesLemmas.{AreBytes-from_reads, AreBytes-part}
use Rattle.pos_bits.proofs.WindowLemmas.{bits-eight}
use Rattle.pos_bits.proofs.window.bits_at_byte.Goals as goal

pub returns-then-bytes-at-ge8 : goal.returns-then-bytes-at-ge8
returns-then-bytes-at-ge8 c =
    let n : ℕ = c.args.at + 8 - c.args.at in
    let size : n ≡ 8 = omega arith in
    let all : AreBytes c.args.bytes.now = AreBytes-from_reads c.args.bytes.now (λ i _. omega (arith, c.type_inv.bytes i)) in
    ap (λ x. bits x 64) c.from_be_bytes.ensures
    ∙ bits-eight c.args.bytes.now (take n (drop c.args.at c.args.bytes.now)) c.args.at (omega arith)
    (AreBytes-part c.args.bytes.now c.args.at n all) (ap (λ k. take k (drop c.args.at c.args.bytes.now)) size)
