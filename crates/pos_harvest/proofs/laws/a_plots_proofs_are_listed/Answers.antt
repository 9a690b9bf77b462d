use Rattle.pos_harvest.proofs.WholeLists.{listed_are_the_proofs, listed_are_the_qualities, each_place_has_a_proof}
use Rattle.pos_harvest.proofs.laws.a_plots_proofs_are_listed.Goals as goal

pub returns : goal.returns
returns c = record { proofs = listed_are_the_proofs; qualities = listed_are_the_qualities; no_damage = each_place_has_a_proof }
