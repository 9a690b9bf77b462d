use Rattle.pos_check.proofs.WholeSummaries.{each_challenge_is_checked, summary_is_of_the_proofs}
use Rattle.pos_check.proofs.laws.a_plots_summary_is_of_its_proofs.Goals as goal

pub returns : goal.returns
returns c = record { summary = summary_is_of_the_proofs; no_damage = each_challenge_is_checked }
