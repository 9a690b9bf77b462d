use Rattle.pos_c.specs.Answers.{AreArguments}
use Rattle.pos_c.specs.Requests.{IsRequest, proof_of_request}
use Rattle.pos_c.proofs.AnswerLemmas.{tells-one}
use Rattle.pos_c.proofs.calls.at_most_one_answer_is_right.Goals as goal

pub returns-clause-alone : goal.returns-clause-alone
returns-clause-alone c = λ id k ch proof old a b. tells-one (AreArguments id k ch) id k ch proof old a b

pub returns-clause-requested : goal.returns-clause-requested
returns-clause-requested c =
    λ r proofs old a b. tells-one (IsRequest r proofs) r.id r.size r.challenge (proof_of_request r proofs) old a b
