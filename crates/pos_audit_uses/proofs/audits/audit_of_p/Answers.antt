-- The name `p` does not begin with `s`.
use Rattle.std.proofs.Common.{◌≡◌, get_or, ap, arith}
use Rattle.pos_audit_uses.proofs.audits.audit_of_p.Goals as goal

pub audit-requires : goal.audit-requires
audit-requires g c = record { apart = λ rest e. let first : 112 ≡ 115 = ap (λ xs. get_or xs 0 0) e in absurd (omega arith) }
