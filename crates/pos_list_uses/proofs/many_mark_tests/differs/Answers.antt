use Rattle.pos_list_uses.proofs.many_mark_tests.differs.Goals as goal

pub rank-requires-clause-stands : goal.rank-requires-clause-stands
rank-requires-clause-stands g c =
    let p = c.requires.stands in
    (p.0, c.in_ok-is_marked.ensures.marked p.0 p.1)

pub returns-then-is_marked-is_noted-clause-stands : goal.returns-then-is_marked-is_noted-clause-stands
returns-then-is_marked-is_noted-clause-stands g c =
    let p = c.requires.stands in
    (p.0, c.in_ok-counted.ensures.marked p.0 (c.in_ok-is_marked.ensures.marked p.0 p.1))

pub returns-else-is_marked-is_noted-clause-stands : goal.returns-else-is_marked-is_noted-clause-stands
returns-else-is_marked-is_noted-clause-stands g c =
    let p = c.requires.stands in
    (p.0, c.in_ok-counted.ensures.marked p.0 (c.in_ok-is_marked.ensures.marked p.0 p.1))
