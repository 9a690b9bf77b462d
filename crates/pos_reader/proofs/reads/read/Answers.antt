-- What was read is a part of the file.
use Rattle.std.proofs.Common.{◌≡◌, ◌+◌, ◌-◌, length, take, drop, ◌∙◌, ap, arith}
use Rattle.pos_layout.specs.Bytes.{part}
use Rattle.pos_reader.proofs.reads.read.Goals as goal

pub returns-in-Ok-clause-ok : goal.returns-in-Ok-clause-ok
unfolding part
returns-in-Ok-clause-ok g c = λ name b named holds.
    let same : length c.read_at.new.buf ≡ length c.args.buf.now = c.read_at.auto.buf in
    let n : (c.args.at + length c.read_at.new.buf) - c.args.at ≡ length c.args.buf.now = omega (arith, same) in
    c.in-Ok.ensures.ok name b named holds ∙ ap (λ n. take n (drop c.args.at b)) n
