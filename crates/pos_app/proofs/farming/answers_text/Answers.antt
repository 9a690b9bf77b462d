-- The names were asked, and the lines of their answers and of the best of these are the text.
use Rattle.std.proofs.Common.{All, List, map, string_bytes, Global, sym, subst}
use Rattle.pos_farm.specs.declared.offer.Answer.{Answer}
use Rattle.pos_farm.specs.PlotAnswers.{OffersTruly}
use Rattle.pos_app.proofs.FarmLemmas.{answers_said, best_is_small, best_is_true}
use Rattle.pos_app.proofs.farming.answers_text.Goals as goal

pub farm_text-requires : goal.farm_text-requires
farm_text-requires g c =
    let asked = c.args.challenge.now.0 in
    best_is_small asked c.best-first.result
    (best_is_true asked c.as_slice.result.now c.best-first.result
    (subst (λ (answers : List Answer). All (OffersTruly asked) answers) (sym c.as_slice.ensures.value) c.in_ok-answers.ensures.truly) c.best-first.ensures)

pub returns-in-Ok-clause-text : goal.returns-in-Ok-clause-text
returns-in-Ok-clause-text g c =
    let told = c.in_ok-answers.ensures in
    answers_said (map (string_bytes {Z = Global}) c.args.names.now) c.args.challenge.now.0 (g.D.Disk.view c.args.disk.now) (g.D.Disk.view c.farm.new.disk) _
    c.in_ok-answers.answers.items c.as_slice.result.now c.as_slice-2.result.now c.best-first.result c.in-Ok.ensures c.as_slice-2.ensures.value
    c.best-first.ensures c.as_slice.ensures.value told.answers told.truly told.failed told.quiet
