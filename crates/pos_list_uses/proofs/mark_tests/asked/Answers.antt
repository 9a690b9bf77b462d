use Rattle.pos_list_uses.proofs.mark_tests.asked.Goals as goal

pub rank-requires-clause-stands : goal.rank-requires-clause-stands
rank-requires-clause-stands g c =
    let p = c.requires.stands in
    (p.0, c.in_ok-is_marked.ensures.marked p.0 p.1)

pub returns-clause-stands : goal.returns-clause-stands
returns-clause-stands g c =
    let p = c.requires.stands in
    (p.0, c.in_ok-up_to.ensures.marked p.0 (c.in_ok-is_marked.ensures.marked p.0 p.1))
