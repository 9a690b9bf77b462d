use Rattle.std.proofs.Common.{◌≡◌, ◌<◌, ◌≤◌, ◌*◌, ◌/◌, ◌^◌, ◌+◌, ◌∙◌, arith, ap, ℕ}
use Rattle.std.proofs.Math.Nat.{mul-le-mul_left}
use Rattle.pos_bits.specs.Bits.{bits}
use Rattle.pos_tuple.specs.Stream.{f1_of, stream_bits}
use Rattle.pos_tuple.proofs.StreamLemmas.{pow_mono, f1-computed, f1-lt}
use Rattle.pos_tuple.proofs.in_order.f1_in_order.Goals as goal

product-lt : (size k x : ℕ) → size ≤ 50 → k ≡ size → x < 2 ^ size → x * k < 2 ^ 56
product-lt size k x size_most same below =
    let most : 2 ^ size ≤ 2 ^ 50 = pow_mono size 50 size_most in
    let rows : x * k ≤ x * 50 = mul-le-mul_left x (omega arith) in
    omega arith

pub overflow_mul-start : goal.overflow_mul-start
overflow_mul-start c =
    let small = product-lt c.args.size c.k-k.result c.args.x (omega arith) c.k-k.ensures.value c.requires in omega (arith, small)

pub move_to-requires : goal.move_to-requires
move_to-requires c =
    let small = product-lt c.args.size c.k-k.result c.args.x (omega arith) c.k-k.ensures.value c.requires in omega (arith, small)

computed : goal.returns-clause-value
computed c =
    let id = c.words.inside.id.0 in
    let below : c.args.x < 2 ^ c.k-k.result = rw c.k-k.ensures.value c.requires in
    let words = c.move_to.ensures.words id c.words.invariant in
    let window : bits c.bits_of-window.result 96 ≡ stream_bits id (32 * (c.args.x * c.k-k.result / 32)) 96 =
    c.bits_of-window.ensures.bits id words ∙ ap (λ w. stream_bits id (32 * w) 96) c.move_to.ensures.word
    in
    f1-computed id c.k-k.result c.args.x c.bits_of-window.result c.bits_of_window-stream.result
    c.k-k.ensures.at_least c.k-k.ensures.at_most below c.bits_of-window.ensures.below
    window c.bits_of_window-stream.ensures.value
    ∙ ap (λ k. f1_of id k c.args.x) c.k-k.ensures.value
    ∙ ap (λ i. f1_of i c.args.size c.args.x) c.words.view_is

pub overflow_add-result : goal.overflow_add-result
overflow_add-result c =
    let most : 2 ^ (c.args.size + 6) ≤ 2 ^ 56 = pow_mono (c.args.size + 6) 56 (omega arith) in
    let below = f1-lt c.args.words.now c.args.size c.args.x in
    rw (computed c) (omega (arith, below, most))

pub returns-clause-value : goal.returns-clause-value
returns-clause-value c = computed c

pub returns-clause-below : goal.returns-clause-below
returns-clause-below c = rw (computed c) (f1-lt _ _ _)
