use Rattle.pos_c.specs.Answers.{AreArguments}
use Rattle.pos_c.proofs.AnswerLemmas.{tells-answer}
use Rattle.pos_c.proofs.calls.pos_explain_proof.Goals as goal

pub returns-clause-answer : goal.returns-clause-answer
returns-clause-answer c =
    tells-answer (AreArguments c.args.id.now c.args.size c.args.challenge.now) c.args.id.now c.args.size c.args.challenge.now
    c.args.proof.now c.args.answer.now c.explained.result c.explained.ensures
