use Rattle.std.proofs.Common.{◌≡◌, ℕ, ◌+◌, ◌≤◌, length, get_or, arith, ap, subst}
use Rattle.pos_tuple.specs.declared.entry.Entry.{Entry}
use Rattle.pos_table_uses.proofs.TakingLemmas.{HasTaken, may_finish, may_take, meta_fits, taken_more, taken_none, y_fits}
use Rattle.pos_table_uses.proofs.matcher_tests.matching.Goals as goal

pub loop-i-init : goal.loop-i-init
loop-i-init c = taken_none c.of-size.result c.in_ok-matcher.matcher c.new-drafts.result c.new-drafts.ensures c.in_ok-matcher.ensures

pub entry_of_parts-entry-requires-clause-y : goal.entry_of_parts-entry-requires-clause-y
entry_of_parts-entry-requires-clause-y c = y_fits c.of-size.result (get_or c.args.ys.now c.loop-i.i 0) c.of-size.ensures (omega arith)

pub entry_of_parts-entry-requires-clause-meta : goal.entry_of_parts-entry-requires-clause-meta
entry_of_parts-entry-requires-clause-meta c = meta_fits c.of-size.result c.of-size.ensures

pub take-requires-clause-next : goal.take-requires-clause-next
take-requires-clause-next c =
    let e = c.entry_of_parts-entry.result in
    let same : e.y ≡ get_or c.args.ys.now c.loop-i.i 0 = ap (λ (x : Entry). x.y) c.entry_of_parts-entry.ensures.entry in
    let above : c.loop-i.least ≤ e.y = (let low = c.if-y-least.false in omega arith) in
    may_take c.of-size.result c.loop-i.i c.loop-i.least (length c.args.ys.now) e c.loop-i.matcher c.loop-i.drafts c.loop-i-test.true c.requires above c.entry_of_parts-entry.ensures.each c.loop-i.invariant

pub loop-i-preserved : goal.loop-i-preserved
loop-i-preserved c =
    let e = c.entry_of_parts-entry.result in
    let same : e.y ≡ get_or c.args.ys.now c.loop-i.i 0 = ap (λ (x : Entry). x.y) c.entry_of_parts-entry.ensures.entry in
    let above : c.loop-i.least ≤ e.y = (let low = c.if-y-least.false in omega arith) in
    subst (λ (y : ℕ). HasTaken c.of-size.result (c.loop-i.i + 1) y c.take.new.self c.take.new.drafts) same
    (taken_more c.of-size.result c.loop-i.i c.loop-i.least e c.loop-i.matcher c.take.new.self c.loop-i.drafts c.take.new.drafts above c.in_ok-take.ensures.taken c.loop-i.invariant)

pub finish-requires-clause-taken : goal.finish-requires-clause-taken
finish-requires-clause-taken c =
    may_finish c.of-size.result c.loop-i.i c.loop-i.least (length c.args.ys.now) c.loop-i.matcher c.loop-i.drafts c.loop-i.auto.i-end c.requires c.loop-i.invariant
