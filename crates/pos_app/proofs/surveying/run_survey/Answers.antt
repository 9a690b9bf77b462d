use Rattle.pos_app.proofs.NameLemmas.{is_no_scratch_name}
use Rattle.pos_app.proofs.surveying.run_survey.Goals as goal

pub survey-answer-requires-clause-apart : goal.survey-answer-requires-clause-apart
survey-answer-requires-clause-apart g c = is_no_scratch_name c.args.made.now.names.base.now c.args.made.now.names.file.now c.requires.apart
