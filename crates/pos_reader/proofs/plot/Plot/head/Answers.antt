-- The head is that of the entry.
use Rattle.std.proofs.Common.{◌∙◌, Err, sym, ap, subst}
use Rattle.std.proofs.lemmas.Result.{err_from_is_err_and}
use Rattle.pos_layout.specs.Fields.{layout_in}
use Rattle.pos_layout.specs.Reading.{head}
use Rattle.pos_reader.specs.Plots.{IsPlotFile}
use Rattle.pos_reader.proofs.AnswerLemmas.{answers_refused, damage_of, head_found, head_refused}
use Rattle.pos_reader.proofs.plot.Plot.head.Goals as goal

pub returns-in_err-entry-clause-head : goal.returns-in_err-entry-clause-head
returns-in_err-entry-clause-head g c = λ b holds.
    let p = err_from_is_err_and c.from_residual.result c.from_residual.ensures.1 in
    let inside = subst (λ p. IsPlotFile p b (g.D.Disk.view c.args.disk.now)) (sym c.self.view_is) holds in
    answers_refused c.from_residual.result c.in_err-entry.field-0.0 (head (layout_in b) b c.args.park) (p.1 ∙ ap (λ e. Err e) p.2)
    (λ d same. head_refused b c.args.park d (damage_of c.in_err-entry.field-0.0 d _ same (c.in_err-entry.ensures.entry _ b inside)))

pub returns-clause-head : goal.returns-clause-head
returns-clause-head g c = λ b holds.
    let inside = subst (λ p. IsPlotFile p b (g.D.Disk.view c.args.disk.now)) (sym c.self.view_is) holds in
    head_found b c.args.park c.in_ok-entry.entry (c.in_ok-entry.ensures.entry _ b inside)
