-- The proof of a place of a source, which the plot is.
use Rattle.pos_harvest.proofs.SourceLemmas.{plot_answers_proof, plot_read}
use Rattle.pos_harvest.proofs.place.proof_at.Goals as goal
use Rattle.pos_layout.specs.Fields.{layout_in}

pub returns-clause-reading : goal.returns-clause-reading
returns-clause-reading g c = plot_read 128 c.proof_of_place.result _ _ _ _ c.proof_of_place.ensures.reading

pub returns-clause-answer : goal.returns-clause-answer
returns-clause-answer g c = λ b holds. plot_answers_proof (layout_in b) b c.args.challenge.now.0 c.args.place c.proof_of_place.result (c.proof_of_place.ensures.answer b holds)
