use Rattle.pos_harvest.proofs.WholeSpans.{bound_is_of_the_list, span_is_of_the_list, one_span, no_last_damage}
use Rattle.pos_harvest.proofs.laws.a_plots_span_is_shown.Goals as goal

pub returns : goal.returns
returns c = record { bound = bound_is_of_the_list; span = span_is_of_the_list; one = one_span; no_damage = no_last_damage }
