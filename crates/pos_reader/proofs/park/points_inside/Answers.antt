-- Where a number points, table by table.
use Rattle.std.proofs.Common.{◌≡◌, ◌-◌, ◌*◌, ◌/◌, ◌%◌, nat_lt, ap, sym, ◌∙◌}
use Rattle.pos_lists.specs.Pairs.{greater}
use Rattle.pos_layout.specs.Fields.{count_of}
use Rattle.pos_reader.proofs.ParkLemmas.{pointed_first, pointed_middle, pointed_last, and_first, and_fails, lt_true, lt_false}
use Rattle.pos_reader.proofs.park.points_inside.Goals as goal
use Rattle.pos_reader.proofs.park.points_inside.Goals.{Then-t-eq7}

before : (c : Then-t-eq7) → c.from-before.result ≡ count_of c.args.header.now (c.args.t - 1)
before c = cc

pub returns-then-t-eq1 : goal.returns-then-t-eq1
returns-then-t-eq1 c =
    c.is_point_below.ensures ∙ ap (λ limit. nat_lt (greater c.args.number) limit) c.values_of-values.ensures.values
    ∙ sym (pointed_first c.args.header.now.size c.args.t (count_of c.args.header.now (c.args.t - 1)) c.args.number c.if-t-eq1.true)

pub returns-then-number-places : goal.returns-then-number-places
returns-then-number-places c =
    let h = c.args.header.now in
    ap (λ n. nat_lt (c.args.number % (2 * c.values_of-values.result)) n) (before (goal.at.returns-then-number-places c).Then-t-eq7)
    ∙ sym (pointed_last h.size c.args.t (count_of h (c.args.t - 1)) c.args.number c.values_of-values.result c.if-t-eq7.true c.values_of-values.ensures.values
    ∙ and_first (nat_lt (c.args.number / (2 * c.values_of-values.result)) c.values_of-values.result) _ (lt_true _ _ c.if-number-places.true))

pub returns-else-number-places : goal.returns-else-number-places
returns-else-number-places c =
    let h = c.args.header.now in
    sym (pointed_last h.size c.args.t (count_of h (c.args.t - 1)) c.args.number c.values_of-values.result c.if-t-eq7.true c.values_of-values.ensures.values
    ∙ and_fails (nat_lt (c.args.number / (2 * c.values_of-values.result)) c.values_of-values.result) _ (lt_false _ _ c.if-number-places.false))

pub returns : goal.returns
returns c =
    let h = c.args.header.now in
    let same : c.from-before.result ≡ count_of h (c.args.t - 1) = cc in
    c.is_point_below-2.ensures ∙ ap (λ limit. nat_lt (greater c.args.number) limit) same
    ∙ sym (pointed_middle h.size c.args.t (count_of h (c.args.t - 1)) c.args.number c.if-t-eq1.false c.if-t-eq7.false)
