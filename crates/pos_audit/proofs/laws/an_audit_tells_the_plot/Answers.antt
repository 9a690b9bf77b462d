use Rattle.pos_audit.proofs.LawLemmas.{audit_tells}
use Rattle.pos_audit.proofs.laws.an_audit_tells_the_plot.Goals as goal

pub returns : goal.returns
returns g c = audit_tells _ _
