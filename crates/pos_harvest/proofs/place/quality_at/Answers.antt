-- The quality of a place of a source, which the plot is.
use Rattle.pos_harvest.proofs.SourceLemmas.{plot_answers, plot_read}
use Rattle.pos_harvest.proofs.place.quality_at.Goals as goal

pub returns-clause-reading : goal.returns-clause-reading
returns-clause-reading g c = plot_read 14 c.quality_of_place.result _ _ _ _ c.quality_of_place.ensures.reading

pub returns-clause-quality : goal.returns-clause-quality
returns-clause-quality g c = λ b holds. plot_answers c.quality_of_place.result _ (c.quality_of_place.ensures.quality b holds)
