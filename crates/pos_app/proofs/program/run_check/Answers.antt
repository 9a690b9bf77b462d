use Rattle.pos_app.specs.CheckAnswers.{IsCheckDamage}
use Rattle.pos_app.proofs.FileLemmas.{refusal_says}
use Rattle.pos_app.proofs.program.run_check.Goals as goal

pub returns-in-Err-clause-summary : goal.returns-in-Err-clause-summary
returns-in-Err-clause-summary g c =
    refusal_says _ (IsCheckDamage c.args.test.now.challenges) c.args.test.now.file.now _ _ c.in-Err.refusal c.say_refusal.result _ _ c.in-Err.ensures.refused c.say_refusal.ensures.said
