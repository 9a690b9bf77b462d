-- The count is that of the park's numbers.
use Rattle.std.proofs.Common.{◌∙◌, Ok, Err, sym, ap, subst, take, count_by, nat_lt, arith}
use Rattle.std.proofs.lemmas.Result.{err_from_is_err_and}
use Rattle.pos_layout.specs.Fields.{count_of, layout_in}
use Rattle.pos_layout.specs.Reading.{under}
use Rattle.pos_reader.specs.Plots.{IsPlotFile}
use Rattle.pos_reader.proofs.AnswerLemmas.{answers_refused, under_found, under_refused}
use Rattle.pos_reader.specs.declared.refusal.ReadRefusal.TheVariants.{DiskFailed}
use Rattle.pos_reader.proofs.EntryLemmas.{park_few}
use Rattle.pos_reader.proofs.ReadLemmas.{faults_none, faults_refused, leaves_plot}
use Rattle.pos_reader.proofs.plot.Plot.under.Goals as goal

pub returns-in_err-count-clause-reading : goal.returns-in_err-count-clause-reading
returns-in_err-count-clause-reading g c =
    let p = err_from_is_err_and c.from_residual.result c.from_residual.ensures.1 in
    record {
      left = leaves_plot 2 c.args.self.now _ _ _ c.self.view_is c.in_err-count.ensures.reads c.requires.is_open;
      faults = faults_refused DiskFailed c.in_err-count.field-0.0 c.from_residual.result _ _ (p.1 ∙ ap (λ e. Err e) p.2) c.in_err-count.ensures.faults;
    }

pub returns-in_err-count-clause-under : goal.returns-in_err-count-clause-under
returns-in_err-count-clause-under g c = λ b holds.
    let p = err_from_is_err_and c.from_residual.result c.from_residual.ensures.1 in
    let inside = subst (λ p. IsPlotFile p b (g.D.Disk.view c.args.disk.now)) (sym c.self.view_is) holds in
    answers_refused c.from_residual.result c.in_err-count.field-0.0 (under (layout_in b) b c.args.park c.args.f7) (p.1 ∙ ap (λ e. Err e) p.2)
    (λ d same. under_refused b c.args.park c.args.f7 d (c.in_err-count.ensures.damage d (ap (λ e. Err e) same) _ b inside))

pub count_below-requires : goal.count_below-requires
count_below-requires g c =
    let count = c.in_ok-count.ensures.count in
    let few = park_few c.self.inside.header.layout (count_of c.self.inside.header 7) c.args.park in
    let kept = c.read_park.auto.numbers in
    let len = c.as_mut_slice-numbers.ensures.len in
    let room = c.self.invariant.3 in
    omega arith

pub returns-clause-reading : goal.returns-clause-reading
returns-clause-reading g c = record {
  left = leaves_plot 2 c.args.self.now _ _ _ c.self.view_is c.in_ok-count.ensures.reads c.requires.is_open;
  faults = faults_none DiskFailed (Ok c.count_below.result) _ _ c.in_ok-count.ensures.faults.quiet (λ e. cc);
}

pub returns-clause-under : goal.returns-clause-under
returns-clause-under g c = λ b holds.
    let inside = subst (λ p. IsPlotFile p b (g.D.Disk.view c.args.disk.now)) (sym c.self.view_is) holds in
    let h = c.self.inside.header in
    under_found b _ h c.args.park c.args.f7 inside.header (c.in_ok-count.ensures.ok _ b inside)
    ∙ ap (λ limit. Ok (count_by (λ n. nat_lt n limit) (take c.in_ok-count.count c.read_park.new.numbers))) (sym c.least_with-limit.ensures)
    ∙ ap (λ n. Ok n) (sym c.count_below.ensures)
