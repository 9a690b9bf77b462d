use Rattle.pos_tuple.proofs.WindowLemmas.{are_words-step}
use Rattle.pos_tuple.proofs.in_order.step.Goals as goal

pub returns-clause-words : goal.returns-clause-words
returns-clause-words c = λ id h.
    are_words-step id c.args.window.now _ _ c.requires h c.next_word-window.ensures
