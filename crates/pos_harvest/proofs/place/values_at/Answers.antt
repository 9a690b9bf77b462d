-- The values of a place of a source, which the plot is.
use Rattle.pos_harvest.proofs.SourceLemmas.{plot_answers, plot_read}
use Rattle.pos_harvest.proofs.place.values_at.Goals as goal

pub returns-clause-reading : goal.returns-clause-reading
returns-clause-reading g c = plot_read 128 c.values_of_place.result _ _ _ _ c.values_of_place.ensures.reading

pub returns-clause-values : goal.returns-clause-values
returns-clause-values g c = λ b holds. plot_answers c.values_of_place.result _ (c.values_of_place.ensures.values b holds)
