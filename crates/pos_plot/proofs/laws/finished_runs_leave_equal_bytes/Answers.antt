use Rattle.std.proofs.Common.{Some, ap, sym, ◌∙◌}
use Rattle.pos_plot.proofs.PlotLemmas.{one_plot_file}
use Rattle.pos_plot.proofs.laws.finished_runs_leave_equal_bytes.Goals as goal

pub returns : goal.returns
returns g c = λ l memo id k capacity other_capacity name other_name base other_base counts other_counts told other_told run other_run.
    let one = run.plotted told in
    let other = other_run.plotted other_told in
    one.contents ∙ (ap (λ b. Some b) (one_plot_file one.file other.file id k one.of_plot.of_plot other.of_plot.of_plot (one.of_plot.layout ∙ sym other.of_plot.layout) (one.of_plot.memo_is ∙ sym other.of_plot.memo_is)) ∙ sym other.contents)
