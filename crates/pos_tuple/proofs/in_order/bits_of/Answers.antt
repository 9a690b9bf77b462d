use Rattle.std.proofs.Common.{arith}
use Rattle.pos_tuple.proofs.WindowLemmas.{are_words-bits}
use Rattle.pos_tuple.proofs.in_order.bits_of.Goals as goal

pub returns-clause-bits : goal.returns-clause-bits
returns-clause-bits c = λ id h.
    are_words-bits id c.args.window.now _ _ _ (omega arith) (omega arith) h
    c.swap_bytes.ensures c.swap_bytes-2.ensures c.swap_bytes-3.ensures (omega arith)
