use Rattle.pos_app.specs.FileAnswers.{IsOpeningDamage}
use Rattle.pos_app.proofs.FileLemmas.{refusal_says}
use Rattle.pos_app.proofs.program.run_inspect.Goals as goal

pub returns-in-Err-clause-inspection : goal.returns-in-Err-clause-inspection
returns-in-Err-clause-inspection g c =
    refusal_says _ IsOpeningDamage c.args.file.now _ _ c.in-Err.refusal c.say_refusal.result _ _ c.in-Err.ensures.refused c.say_refusal.ensures.said
