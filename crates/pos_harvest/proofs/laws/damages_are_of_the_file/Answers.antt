use Rattle.pos_harvest.proofs.DamageLemmas.{span_damage_is_of_a_number, tuple_damage_is_of_a_number, branch_damage_is_of_a_number, proof_list_damage_is_of_the_file, quality_list_damage_is_of_a_number}
use Rattle.pos_harvest.proofs.laws.damages_are_of_the_file.Goals as goal

pub returns : goal.returns
returns c = record {
  span = span_damage_is_of_a_number;
  tuple = tuple_damage_is_of_a_number;
  branch = branch_damage_is_of_a_number;
  proofs = proof_list_damage_is_of_the_file;
  qualities = quality_list_damage_is_of_a_number;
}
