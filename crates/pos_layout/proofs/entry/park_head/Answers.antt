use Rattle.std.proofs.Common.{◌+◌, ◌/◌, ◌^◌, ◌<◌, get_or, subst, sym, arith}
use Rattle.pos_layout.proofs.NumberLemmas.{head_fits}
use Rattle.pos_layout.proofs.entry.park_head.Goals as goal

pub overflow_cast-result-then-t-eq7 : goal.overflow_cast-result-then-t-eq7
overflow_cast-result-then-t-eq7 c =
    let most = c.k-k.ensures.at_most in
    let value = c.k-k.ensures.value in
    let h : get_or c.args.numbers.now 0 0 / 2 ^ (c.args.size + 1) < 2 ^ 51 = head_fits c.args.size c.args.numbers.now (omega arith) c.requires in
    let at : get_or c.args.numbers.now 0 0 / 2 ^ (c.k-k.result + 1) < 2 ^ 51 = subst (λ k. get_or c.args.numbers.now 0 0 / 2 ^ (k + 1) < 2 ^ 51) (sym value) h in
    omega arith
