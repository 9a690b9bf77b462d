use Rattle.std.proofs.Common.{◌≡◌, ◌∙◌, ◌*◌, ◌/◌, ◌%◌, ◌^◌, ◌+◌, arith, ap}
use Rattle.std.specs.Int.{w32, swap_bytes}
use Rattle.pos_bits.specs.Bits.{bits}
use Rattle.pos_tuple.specs.Stream.{stream_word}
use Rattle.pos_tuple.proofs.BlockLemmas.{word-between}
use Rattle.pos_tuple.proofs.StreamLemmas.{stream_bits-window}
use Rattle.pos_tuple.proofs.stream.window_within.Goals as goal

pub returns-clause-bits : goal.returns-clause-bits
returns-clause-bits c =
    let id = c.args.id.now.0 in
    let w = c.args.word in
    let b = c.state_before-before.result in
    let a = c.state_after-after.result in
    let one : c.word_between-first.result ≡ stream_word id w =
    word-between id w (w / 16) (w % 16) _ b a (omega arith) (omega arith) c.state_before-before.ensures c.state_after-after.ensures c.word_between-first.ensures
    in
    let two : c.word_between-second.result ≡ stream_word id (w + 1) =
    word-between id (w + 1) (w / 16) (w % 16 + 1) _ b a (omega arith) (omega arith) c.state_before-before.ensures c.state_after-after.ensures c.word_between-second.ensures
    in
    let three : c.word_between-third.result ≡ stream_word id (w + 2) =
    word-between id (w + 2) (w / 16) (w % 16 + 2) _ b a (omega arith) (omega arith) c.state_before-before.ensures c.state_after-after.ensures c.word_between-third.ensures
    in
    let whole :
    c.swap_bytes.result * 2 ^ 64 % 2 ^ 128 + c.swap_bytes-2.result * 2 ^ 32 % 2 ^ 128 + c.swap_bytes-3.result
    ≡ (c.swap_bytes.result * 2 ^ 32 + c.swap_bytes-2.result) * 2 ^ 32 + c.swap_bytes-3.result =
    omega arith
    in
    ap (λ v. bits v 96) whole
    ∙ stream_bits-window id w c.swap_bytes.result c.swap_bytes-2.result c.swap_bytes-3.result (omega arith) (omega arith)
    (c.swap_bytes.ensures ∙ ap (swap_bytes w32) one) (c.swap_bytes-2.ensures ∙ ap (swap_bytes w32) two) (c.swap_bytes-3.ensures ∙ ap (swap_bytes w32) three)
