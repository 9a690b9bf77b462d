use Rattle.std.proofs.Common.{◌≡◌, true, false}
use Rattle.std.proofs.lemmas.Bool.Decides.{same_from_decides}
use Rattle.pos_tuple.specs.Match.{Match, is_match}
use Rattle.pos_tuple.proofs.MatchLemmas.{is_match-decides}
use Rattle.pos_tuple.proofs.matching.matches.Goals as goal

pub returns-then-yr-bucket-clause-tested : goal.returns-then-yr-bucket-clause-tested
returns-then-yr-bucket-clause-tested c =
    same_from_decides false (is_match c.args.yl c.args.yr)
    (λ (e : false ≡ true). cc, λ (m : Match c.args.yl c.args.yr). absurd (c.if-yr-bucket.true m.next_bucket))
    (is_match-decides c.args.yl c.args.yr)

pub returns-clause-tested : goal.returns-clause-tested
returns-clause-tested c =
    same_from_decides c.has_target.result (is_match c.args.yl c.args.yr) (
      λ e. record { next_bucket = c.if-yr-bucket.false; target = c.has_target.ensures.0 e },
      λ m. c.has_target.ensures.1 m.target,
    )
    (is_match-decides c.args.yl c.args.yr)
