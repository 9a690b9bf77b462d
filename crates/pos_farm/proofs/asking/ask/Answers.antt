-- What an open plot answers is the answer for the file of its name.
use Rattle.pos_farm.proofs.AskLemmas.{opened_answer}
use Rattle.pos_farm.proofs.asking.ask.Goals as goal

pub returns-in-Ok-clause-answer : goal.returns-in-Ok-clause-answer
returns-in-Ok-clause-answer g c =
    opened_answer c.args.name.now c.args.challenge.now.0 c.in-Ok.plot (g.D.Disk.view c.args.disk.now) (g.D.Disk.view c.open.new.disk) c.ask_plot.result
    c.in-Ok.ensures.ok c.ask_plot.ensures.answer
