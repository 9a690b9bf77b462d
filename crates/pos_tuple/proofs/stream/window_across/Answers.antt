use Rattle.std.proofs.Common.{◌≡◌, ◌∙◌, ◌*◌, ◌%◌, ◌^◌, ◌+◌, arith, ap}
use Rattle.std.specs.Int.{w32, swap_bytes}
use Rattle.rand_chacha.specs.ChaCha.{of_seed}
use Rattle.pos_bits.specs.Bits.{bits}
use Rattle.pos_tuple.specs.Stream.{ReadsFrom, stream_word}
use Rattle.pos_tuple.proofs.StreamLemmas.{reads_from-set, reads_from-word, reads_from-next, stream_bits-window}
use Rattle.pos_tuple.proofs.stream.window_across.Goals as goal

pub returns-clause-bits : goal.returns-clause-bits
returns-clause-bits c =
    let id = c.args.id.now.0 in
    let w = c.args.word in
    let at_first : ReadsFrom id w c.set_word_pos.new.self =
    reads_from-set id w c.from_seed-rng.result c.set_word_pos.new.self c.requires
    (c.from_seed-rng.ensures ∙ ap of_seed c.key_of.ensures) c.set_word_pos.ensures
    in
    let at_second : ReadsFrom id (w + 1) c.next_word-first.new.self =
    reads_from-next id w c.next_word-first.result _ _ (omega arith) at_first c.next_word-first.ensures
    in
    let at_third : ReadsFrom id (w + 1 + 1) c.next_word-second.new.self =
    reads_from-next id (w + 1) c.next_word-second.result _ _ (omega arith) at_second c.next_word-second.ensures
    in
    let first : c.swap_bytes.result ≡ swap_bytes w32 (stream_word id w) =
    c.swap_bytes.ensures ∙ ap (swap_bytes w32) (reads_from-word id w _ _ _ at_first c.next_word-first.ensures)
    in
    let second : c.swap_bytes-2.result ≡ swap_bytes w32 (stream_word id (w + 1)) =
    c.swap_bytes-2.ensures ∙ ap (swap_bytes w32) (reads_from-word id (w + 1) _ _ _ at_second c.next_word-second.ensures)
    in
    let on : w + 1 + 1 ≡ w + 2 = omega arith in
    let third : c.swap_bytes-3.result ≡ swap_bytes w32 (stream_word id (w + 2)) =
    c.swap_bytes-3.ensures
    ∙ ap (swap_bytes w32) (reads_from-word id (w + 1 + 1) _ _ _ at_third c.next_word-third.ensures ∙ ap (stream_word id) on)
    in
    let whole :
    c.swap_bytes.result * 2 ^ 64 % 2 ^ 128 + c.swap_bytes-2.result * 2 ^ 32 % 2 ^ 128 + c.swap_bytes-3.result
    ≡ (c.swap_bytes.result * 2 ^ 32 + c.swap_bytes-2.result) * 2 ^ 32 + c.swap_bytes-3.result =
    omega arith
    in
    ap (λ v. bits v 96) whole
    ∙ stream_bits-window id w c.swap_bytes.result c.swap_bytes-2.result c.swap_bytes-3.result (omega arith) (omega arith) first second third
