use Rattle.pos_app.proofs.NameLemmas.{is_no_scratch_name}
use Rattle.pos_app.proofs.plotting.run_plot.Goals as goal

pub plot_sized-answer-requires-clause-apart : goal.plot_sized-answer-requires-clause-apart
plot_sized-answer-requires-clause-apart g c = is_no_scratch_name c.args.making.now.names.base.now c.args.making.now.names.file.now c.requires
