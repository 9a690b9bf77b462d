use Rattle.std.proofs.Common.{◌∙◌, arith, ap}
use Rattle.rand_chacha.specs.ChaCha.{of_seed}
use Rattle.pos_tuple.proofs.StreamLemmas.{reads_from-set}
use Rattle.pos_tuple.proofs.in_order.stream_words.Goals as goal

pub invariant_of-result : goal.invariant_of-result
invariant_of-result c =
    c.window_at.ensures.words c.args.id.now.0
    (reads_from-set c.args.id.now.0 0 c.from_seed-rng.result _ (omega arith)
    (c.from_seed-rng.ensures ∙ ap of_seed c.key_of.ensures) c.set_word_pos.ensures)
