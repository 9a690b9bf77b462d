use Rattle.pos_check.proofs.WholeSummaries.{one_summary, only_a_place_stops_a_check}
use Rattle.pos_check.proofs.laws.a_whole_files_summary_is_one.Goals as goal

pub returns : goal.returns
returns c = record { one = one_summary; without_proof = only_a_place_stops_a_check }
