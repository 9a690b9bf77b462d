use Rattle.std.proofs.Common.{◌<◌, ◌+◌, ◌*◌, ◌%◌, ◌^◌, slice_index, ◌∙◌, sym, subst, refl, arith}
use Rattle.std.specs.Prelude.{All}
use Rattle.pos_order.specs.Quality.{quality_of}
use Rattle.pos_order.proofs.PlotOrderLemmas.{All-plot_order}
use Rattle.pos_order.proofs.quality_string.quality.Goals as goal

pub pair_quality-requires-clause-lesser_fits : goal.pair_quality-requires-clause-lesser_fits
pair_quality-requires-clause-lesser_fits c =
    let small : All (λ x. x < 2 ^ c.args.size) c.to_plot_order.new.values =
    subst (All (λ x. x < 2 ^ c.args.size)) (sym c.to_plot_order.ensures) (All-plot_order (λ x. x < 2 ^ c.args.size) 6 c.args.values.now c.requires)
    in small (2 * (slice_index c.args.challenge.now.0 31 % 32)) 0 (omega arith)

pub pair_quality-requires-clause-greater_fits : goal.pair_quality-requires-clause-greater_fits
pair_quality-requires-clause-greater_fits c =
    let small : All (λ x. x < 2 ^ c.args.size) c.to_plot_order.new.values =
    subst (All (λ x. x < 2 ^ c.args.size)) (sym c.to_plot_order.ensures) (All-plot_order (λ x. x < 2 ^ c.args.size) 6 c.args.values.now c.requires)
    in small (2 * (slice_index c.args.challenge.now.0 31 % 32) + 1) 0 (omega arith)

pub returns-clause-value : goal.returns-clause-value
unfolding quality_of
returns-clause-value c = c.pair_quality.ensures.value ∙ rw c.to_plot_order.ensures refl
