-- Each law is a lemma on answers.
use Rattle.pos_farm.proofs.FarmLemmas.{best_is_of_all_offers}
use Rattle.pos_farm.proofs.WholeAnswers.{one_answer}
use Rattle.pos_farm.proofs.laws.answers_are_of_their_plots.Goals as goal

pub returns-clause-one : goal.returns-clause-one
returns-clause-one c = one_answer

pub returns-clause-best : goal.returns-clause-best
returns-clause-best c = best_is_of_all_offers
