-- The numbers are those of the park.
use Rattle.std.proofs.Common.{◌∙◌, Err, sym, ap, subst}
use Rattle.std.proofs.lemmas.Result.{err_from_is_err_and}
use Rattle.pos_reader.specs.Plots.{IsPlotFile}
use Rattle.pos_reader.proofs.AnswerLemmas.{handed_on}
use Rattle.pos_reader.proofs.plot.Plot.park.Goals as goal

pub returns-in_err-count-clause-damage : goal.returns-in_err-count-clause-damage
returns-in_err-count-clause-damage g c = λ d is b holds.
    let p = err_from_is_err_and c.from_residual.result c.from_residual.ensures.1 in
    let inside = subst (λ p. IsPlotFile p b (g.D.Disk.view c.args.disk.now)) (sym c.self.view_is) holds in
    let same = handed_on c.in_err-count.field-0.0 d c.from_residual.result (p.1 ∙ ap (λ e. Err e) p.2) is in
    c.in_err-count.ensures.damage d (ap (λ e. Err e) same) _ b inside

pub returns-clause-numbers : goal.returns-clause-numbers
returns-clause-numbers g c = λ b holds.
    let inside = subst (λ p. IsPlotFile p b (g.D.Disk.view c.args.disk.now)) (sym c.self.view_is) holds in
    c.in_ok-count.ensures.ok _ b inside
