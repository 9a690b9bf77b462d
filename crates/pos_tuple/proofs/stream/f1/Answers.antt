use Rattle.std.proofs.Common.{◌<◌, ◌≤◌, ◌*◌, ◌^◌, ◌+◌, ◌∙◌, arith, ap}
use Rattle.std.proofs.Math.Nat.{mul-le-mul_left}
use Rattle.pos_tuple.specs.Stream.{f1_of}
use Rattle.pos_tuple.proofs.StreamLemmas.{pow_mono, f1-computed, f1-lt}
use Rattle.pos_tuple.proofs.stream.f1.Goals as goal

product-lt : (c : goal.After-k-k) → c.args.x * c.k-k.result < 2 ^ 56
product-lt c =
    let most : 2 ^ c.args.size ≤ 2 ^ 50 = pow_mono c.args.size 50 (omega arith) in
    let rows : c.args.x * c.k-k.result ≤ c.args.x * 50 = mul-le-mul_left c.args.x c.k-k.ensures.at_most in
    omega arith

pub overflow_mul-start : goal.overflow_mul-start
overflow_mul-start c = let small = product-lt c in omega (arith, small)

pub stream_window-window-requires : goal.stream_window-window-requires
stream_window-window-requires c = let small = product-lt c in omega (arith, small)

computed : goal.returns-clause-value
computed c =
    let below : c.args.x < 2 ^ c.k-k.result = rw c.k-k.ensures.value c.requires in
    f1-computed c.args.id.now.0 c.k-k.result c.args.x c.stream_window-window.result c.bits_of_window-stream.result
    c.k-k.ensures.at_least c.k-k.ensures.at_most below c.stream_window-window.ensures.below
    c.stream_window-window.ensures.bits c.bits_of_window-stream.ensures.value
    ∙ ap (λ k. f1_of c.args.id.now.0 k c.args.x) c.k-k.ensures.value

pub overflow_add-result : goal.overflow_add-result
overflow_add-result c =
    let most : 2 ^ (c.args.size + 6) ≤ 2 ^ 56 = pow_mono (c.args.size + 6) 56 (omega arith) in
    let below = f1-lt c.args.id.now.0 c.args.size c.args.x in
    rw (computed c) (omega (arith, below, most))

pub returns-clause-value : goal.returns-clause-value
returns-clause-value c = computed c

pub returns-clause-below : goal.returns-clause-below
returns-clause-below c = rw (computed c) (f1-lt _ _ _)
