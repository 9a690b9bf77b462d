use Rattle.std.proofs.Common.{sym, subst}
use Rattle.pos_app.specs.Statuses.{list_status}
use Rattle.pos_app.specs.FarmAnswers.{SaysListFault}
use Rattle.pos_app.specs.FarmTexts.{bad_line}
use Rattle.pos_app.proofs.AnswerLemmas.{text_said}
use Rattle.pos_app.proofs.farming.say_list_fault.Goals as goal

pub returns-in-Line-clause-said : goal.returns-in-Line-clause-said
returns-in-Line-clause-said g c =
    subst (λ f. SaysListFault c.args.list.now f c.say_text-in-Line.result
    (g.S.Sink.heard c.args.out.now) (g.S.Sink.heard c.say_text-in-Line.new.out)) (sym c.in-Line.is)
    (text_said list_status (bad_line c.in-Line.line) c.bad_line.result c.say_text-in-Line.result _ _
    c.bad_line.ensures c.say_text-in-Line.ensures.said c.say_text-in-Line.ensures.unsaid)
