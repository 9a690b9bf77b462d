use Rattle.std.proofs.Common.{sym, subst}
use Rattle.pos_app.specs.Statuses.{full_status}
use Rattle.pos_app.specs.Texts.{full_line}
use Rattle.pos_app.specs.PlottingAnswers.{SaysPlotFault}
use Rattle.pos_app.proofs.AnswerLemmas.{text_said}
use Rattle.pos_app.proofs.plotting.say_fault.Goals as goal

pub returns-in-TableFull-clause-said : goal.returns-in-TableFull-clause-said
returns-in-TableFull-clause-said g c =
    subst (λ f. SaysPlotFault c.args.names.now.file.now c.args.names.now.base.now f c.say_text-in-TableFull.result
    (g.S.Sink.heard c.args.out.now) (g.S.Sink.heard c.say_text-in-TableFull.new.out)) (sym c.in-TableFull.is)
    (text_said full_status (full_line c.in-TableFull.table) c.full_line.result c.say_text-in-TableFull.result _ _
    c.full_line.ensures c.say_text-in-TableFull.ensures.said c.say_text-in-TableFull.ensures.unsaid)
