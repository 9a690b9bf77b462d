use Rattle.std.proofs.Common.{◌≡◌, ◌∙◌, ◌-◌, ◌*◌, ◌+◌, ◌++◌, length, take, drop, sym, ap, arith}
use Rattle.std.proofs.lemmas.List.{length-take-le}
use Rattle.pos_order.specs.Values.{value_bytes}
use Rattle.pos_order.proofs.ValuesLemmas.{written-none, written-next}
use Rattle.pos_order.proofs.values.proof_bytes.Goals as goal

pub loop-group-init : goal.loop-group-init
loop-group-init c = written-none c.args.size c.args.values.now c.args.out.now

pub loop-group-preserved : goal.loop-group-preserved
loop-group-preserved c =
    let k : c.k-k.result ≡ c.args.size = c.k-k.ensures.value in
    let count : length c.args.values.now ≡ 64 = omega arith in
    let len : length (take c.k-k.result c.group_bytes-block.result) ≡ c.args.size =
    length-take-le c.k-k.result c.group_bytes-block.result (let most = c.k-k.ensures.at_most in let len = c.group_bytes-block.ensures.len in omega arith) ∙ k in
    let eight : 8 * c.loop-group.group + 8 - 8 * c.loop-group.group ≡ 8 = omega arith in
    let piece = take c.k-k.result c.group_bytes-block.result in
    let place : c.k-k.result * c.loop-group.group + length piece ≡ c.args.size * c.loop-group.group + length piece = ap (λ n. n * c.loop-group.group + length piece) k in
    written-next c.args.size c.args.values.now c.args.out.now c.loop-group.out c.put.new.bytes piece c.loop-group.group
    c.loop-group-test.true count len
    (ap (λ n. take n c.group_bytes-block.result) k ∙ c.group_bytes-block.ensures.bytes ∙ ap (λ n. value_bytes c.args.size (take n (drop (8 * c.loop-group.group) c.args.values.now))) eight)
    (ap (λ n. take n c.put.new.bytes) (sym place) ∙ c.put.ensures.front ∙ ap (λ n. take n c.loop-group.out ++ piece) (ap (λ n. n * c.loop-group.group) k))
    (ap (λ n. drop n c.put.new.bytes) (sym place) ∙ c.put.ensures.rest ∙ ap (λ n. drop n c.loop-group.out) place)
    c.loop-group.invariant
