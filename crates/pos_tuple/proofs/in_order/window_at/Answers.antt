use Rattle.pos_tuple.proofs.WindowLemmas.{are_words-read}
use Rattle.pos_tuple.proofs.in_order.window_at.Goals as goal

pub returns-clause-words : goal.returns-clause-words
returns-clause-words c = λ id h.
    are_words-read id c.args.word _ _ _ c.args.rng c.next_word-first.new.self c.next_word-second.new.self _ c.requires h
    c.next_word-first.ensures c.next_word-second.ensures c.next_word-third.ensures
