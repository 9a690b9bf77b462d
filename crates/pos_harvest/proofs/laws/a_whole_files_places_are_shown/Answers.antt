use Rattle.pos_harvest.proofs.WholeLists.{tuple_is_the_tree, quality_is_of_the_branch, quality_is_of_the_proof, each_place_has_a_quality, only_a_place_without_proof}
use Rattle.pos_harvest.proofs.laws.a_whole_files_places_are_shown.Goals as goal

pub returns : goal.returns
returns c = record {
  tuple = tuple_is_the_tree;
  branch = quality_is_of_the_branch;
  quality = quality_is_of_the_proof;
  no_damage = each_place_has_a_quality;
  without_proof = only_a_place_without_proof;
}
