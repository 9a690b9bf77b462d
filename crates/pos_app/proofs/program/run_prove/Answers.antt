use Rattle.pos_app.specs.ListAnswers.{IsProveDamage}
use Rattle.pos_app.proofs.FileLemmas.{refusal_says}
use Rattle.pos_app.proofs.program.run_prove.Goals as goal

pub returns-in-Err-clause-proofs : goal.returns-in-Err-clause-proofs
returns-in-Err-clause-proofs g c =
    refusal_says _ (IsProveDamage c.args.question.now.challenge.0) c.args.question.now.file.now _ _ c.in-Err.refusal c.say_refusal.result _ _ c.in-Err.ensures.refused c.say_refusal.ensures.said
