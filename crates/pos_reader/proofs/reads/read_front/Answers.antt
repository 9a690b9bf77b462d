-- What was read is the file's first bytes, and the rest of the buffer is as it was.
use Rattle.std.proofs.Common.{◌∙◌, min, length, ap}
use Rattle.pos_reader.proofs.OpeningLemmas.{front_is}
use Rattle.pos_reader.proofs.reads.read_front.Goals as goal

pub returns-in-Ok-clause-ok : goal.returns-in-Ok-clause-ok
returns-in-Ok-clause-ok g c = λ name b named holds len.
    front_is b c.args.buf.now c.read.new.buf c.min-front.result (c.min-front.ensures ∙ ap (λ n. min n (length c.args.buf.now)) len) (c.in-Ok.ensures.ok name b named holds)
