use Rattle.pos_verify.proofs.OneVerdictLemmas.{one_verdict}
use Rattle.pos_verify.proofs.at_most_one_verdict_is_right.Goals as goal

pub returns : goal.returns
returns c = one_verdict
