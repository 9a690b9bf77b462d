use Rattle.std.proofs.Common.{◌≡◌, ◌-◌, ◌*◌, ◌/◌, nat_lt, ap, ◌∙◌, rules}
use Rattle.pos_reader.proofs.ParkLemmas.{point_below}
use Rattle.pos_reader.proofs.park.is_point_below.Goals as goal

pub returns : goal.returns
returns c =
    let less : c.saturating_sub.result ≡ c.args.limit - 1 = search rules in
    ap (λ n. nat_lt c.args.point (c.args.limit * n / 2)) less ∙ point_below c.args.point c.args.limit
