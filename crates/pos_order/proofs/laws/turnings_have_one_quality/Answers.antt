use Rattle.std.proofs.Common.{refl}
use Rattle.pos_order.specs.Quality.{quality_of}
use Rattle.pos_order.proofs.PlotOrderLemmas.{plot_order-turning}
use Rattle.pos_order.proofs.laws.turnings_have_one_quality.Goals as goal

pub returns : goal.returns
unfolding quality_of
returns c k challenge zs xs len turned = rw (plot_order-turning 6 zs xs len turned) refl
