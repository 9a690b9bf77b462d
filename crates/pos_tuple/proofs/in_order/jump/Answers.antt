use Rattle.std.proofs.Common.{◌+◌}
use Rattle.pos_tuple.proofs.WindowLemmas.{are_words-read}
use Rattle.pos_tuple.proofs.StreamLemmas.{reads_from-moved}
use Rattle.pos_tuple.proofs.in_order.jump.Goals as goal

pub returns-clause-words : goal.returns-clause-words
returns-clause-words c = λ id h.
    are_words-read id c.args.word _ _ _ c.set_word_pos.new.self c.next_word-window.new.self c.next_word-window-2.new.self _
    c.requires
    (reads_from-moved id (c.args.window.now.word + 3) c.args.word c.args.window.now.rng c.set_word_pos.new.self c.requires h.reads c.set_word_pos.ensures)
    c.next_word-window.ensures c.next_word-window-2.ensures c.next_word-window-3.ensures
