use Rattle.pos_audit.proofs.LawLemmas.{can_audit_is_audited}
use Rattle.pos_audit.proofs.laws.what_can_be_audited_is.Goals as goal

pub returns : goal.returns
returns g c = can_audit_is_audited _ _
