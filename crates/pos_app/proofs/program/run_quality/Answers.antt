use Rattle.pos_app.specs.ListAnswers.{IsQualityDamage}
use Rattle.pos_app.proofs.FileLemmas.{refusal_says}
use Rattle.pos_app.proofs.program.run_quality.Goals as goal

pub returns-in-Err-clause-qualities : goal.returns-in-Err-clause-qualities
returns-in-Err-clause-qualities g c =
    refusal_says _ (IsQualityDamage c.args.question.now.challenge.0) c.args.question.now.file.now _ _ c.in-Err.refusal c.say_refusal.result _ _ c.in-Err.ensures.refused c.say_refusal.ensures.said
