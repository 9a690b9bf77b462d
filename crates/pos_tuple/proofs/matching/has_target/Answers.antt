use Rattle.std.proofs.lemmas.Bool.Decides.{Decides-eqb, Decides-like}
use Rattle.pos_tuple.proofs.MatchLemmas.{only_target-decides}
use Rattle.pos_tuple.proofs.matching.has_target.Goals as goal

pub returns-then-target-lt-TARGETS : goal.returns-then-target-lt-TARGETS
returns-then-target-lt-TARGETS c =
    only_target-decides c.args.yl c.args.yr _
    (Decides-like _ (λ same. (c.if-target-lt-TARGETS.true, same)) (λ h. h.1) (Decides-eqb _ _))
