use Rattle.std.proofs.Common.{◌≡◌, ◌-◌, true, false, arith}
use Rattle.std.proofs.lemmas.Bool.Decides.{same_from_decides}
use Rattle.pos_order.specs.Order.{Below, is_below}
use Rattle.pos_order.proofs.OrderLemmas.{is_below-decides, decided_at, decided_nowhere}
use Rattle.pos_order.proofs.order.below.Goals as goal

pub returns-then-a-i-clause-tested : goal.returns-then-a-i-clause-tested
returns-then-a-i-clause-tested c =
    same_from_decides _ _
    (decided_at c.args.a.now c.args.b.now (c.loop-i.i - 1) c.requires (omega arith)
    (λ j l m. c.loop-i.invariant.1 j (omega arith) m) c.if-a-i.true)
    (is_below-decides c.args.a.now c.args.b.now)

pub returns-clause-tested : goal.returns-clause-tested
returns-clause-tested c =
    same_from_decides false (is_below c.args.a.now c.args.b.now) (
      λ (e : false ≡ true). cc,
      λ (h : Below c.args.a.now c.args.b.now).
          absurd (decided_nowhere c.args.a.now c.args.b.now c.requires (λ j m. c.loop-i.invariant.1 j (omega arith) m) h),
    )
    (is_below-decides c.args.a.now c.args.b.now)
