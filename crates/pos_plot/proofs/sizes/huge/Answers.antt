-- One size after another.
use Rattle.std.proofs.Common.{◌≡◌, ◌≤◌, arith}
use Rattle.pos_plot.proofs.SizeLemmas.{plan_at, run_at}
use Rattle.pos_plot.proofs.sizes.huge.Goals as goal

pub plot-requires-clause-least : goal.plot-requires-clause-least
plot-requires-clause-least g c = let e : 10 ≤ 41 = omega arith in e

pub plot-requires-clause-greatest : goal.plot-requires-clause-greatest
plot-requires-clause-greatest g c = let e : 41 ≤ 50 = omega arith in e

pub plot-requires-clause-plan : goal.plot-requires-clause-plan
plot-requires-clause-plan g c = plan_at c.args.size c.k.result 41 c.args.plan.now c.k.ensures.value c.in-41.is c.requires.plan

pub plot-requires-clause-memo : goal.plot-requires-clause-memo
plot-requires-clause-memo g c = c.requires.memo

pub plot-requires-clause-apart : goal.plot-requires-clause-apart
plot-requires-clause-apart g c = c.requires.apart

pub returns-in-41 : goal.returns-in-41
returns-in-41 g c = run_at c.args.layout c.args.memo.now c.args.size c.k.result 41 c.args.id.now.0 c.args.plan.now c.args.name.now c.args.scratch.now c.plot.result _ _
    c.k.ensures.value c.in-41.is c.plot.ensures

pub plot-requires-in-42-clause-least : goal.plot-requires-in-42-clause-least
plot-requires-in-42-clause-least g c = let e : 10 ≤ 42 = omega arith in e

pub plot-requires-in-42-clause-greatest : goal.plot-requires-in-42-clause-greatest
plot-requires-in-42-clause-greatest g c = let e : 42 ≤ 50 = omega arith in e

pub plot-requires-in-42-clause-plan : goal.plot-requires-in-42-clause-plan
plot-requires-in-42-clause-plan g c = plan_at c.args.size c.k.result 42 c.args.plan.now c.k.ensures.value c.in-42.is c.requires.plan

pub plot-requires-in-42-clause-memo : goal.plot-requires-in-42-clause-memo
plot-requires-in-42-clause-memo g c = c.requires.memo

pub plot-requires-in-42-clause-apart : goal.plot-requires-in-42-clause-apart
plot-requires-in-42-clause-apart g c = c.requires.apart

pub returns-in-42 : goal.returns-in-42
returns-in-42 g c = run_at c.args.layout c.args.memo.now c.args.size c.k.result 42 c.args.id.now.0 c.args.plan.now c.args.name.now c.args.scratch.now c.plot-in-42.result _ _
    c.k.ensures.value c.in-42.is c.plot-in-42.ensures

pub plot-requires-in-43-clause-least : goal.plot-requires-in-43-clause-least
plot-requires-in-43-clause-least g c = let e : 10 ≤ 43 = omega arith in e

pub plot-requires-in-43-clause-greatest : goal.plot-requires-in-43-clause-greatest
plot-requires-in-43-clause-greatest g c = let e : 43 ≤ 50 = omega arith in e

pub plot-requires-in-43-clause-plan : goal.plot-requires-in-43-clause-plan
plot-requires-in-43-clause-plan g c = plan_at c.args.size c.k.result 43 c.args.plan.now c.k.ensures.value c.in-43.is c.requires.plan

pub plot-requires-in-43-clause-memo : goal.plot-requires-in-43-clause-memo
plot-requires-in-43-clause-memo g c = c.requires.memo

pub plot-requires-in-43-clause-apart : goal.plot-requires-in-43-clause-apart
plot-requires-in-43-clause-apart g c = c.requires.apart

pub returns-in-43 : goal.returns-in-43
returns-in-43 g c = run_at c.args.layout c.args.memo.now c.args.size c.k.result 43 c.args.id.now.0 c.args.plan.now c.args.name.now c.args.scratch.now c.plot-in-43.result _ _
    c.k.ensures.value c.in-43.is c.plot-in-43.ensures

pub plot-requires-in-44-clause-least : goal.plot-requires-in-44-clause-least
plot-requires-in-44-clause-least g c = let e : 10 ≤ 44 = omega arith in e

pub plot-requires-in-44-clause-greatest : goal.plot-requires-in-44-clause-greatest
plot-requires-in-44-clause-greatest g c = let e : 44 ≤ 50 = omega arith in e

pub plot-requires-in-44-clause-plan : goal.plot-requires-in-44-clause-plan
plot-requires-in-44-clause-plan g c = plan_at c.args.size c.k.result 44 c.args.plan.now c.k.ensures.value c.in-44.is c.requires.plan

pub plot-requires-in-44-clause-memo : goal.plot-requires-in-44-clause-memo
plot-requires-in-44-clause-memo g c = c.requires.memo

pub plot-requires-in-44-clause-apart : goal.plot-requires-in-44-clause-apart
plot-requires-in-44-clause-apart g c = c.requires.apart

pub returns-in-44 : goal.returns-in-44
returns-in-44 g c = run_at c.args.layout c.args.memo.now c.args.size c.k.result 44 c.args.id.now.0 c.args.plan.now c.args.name.now c.args.scratch.now c.plot-in-44.result _ _
    c.k.ensures.value c.in-44.is c.plot-in-44.ensures

pub plot-requires-in-45-clause-least : goal.plot-requires-in-45-clause-least
plot-requires-in-45-clause-least g c = let e : 10 ≤ 45 = omega arith in e

pub plot-requires-in-45-clause-greatest : goal.plot-requires-in-45-clause-greatest
plot-requires-in-45-clause-greatest g c = let e : 45 ≤ 50 = omega arith in e

pub plot-requires-in-45-clause-plan : goal.plot-requires-in-45-clause-plan
plot-requires-in-45-clause-plan g c = plan_at c.args.size c.k.result 45 c.args.plan.now c.k.ensures.value c.in-45.is c.requires.plan

pub plot-requires-in-45-clause-memo : goal.plot-requires-in-45-clause-memo
plot-requires-in-45-clause-memo g c = c.requires.memo

pub plot-requires-in-45-clause-apart : goal.plot-requires-in-45-clause-apart
plot-requires-in-45-clause-apart g c = c.requires.apart

pub returns-in-45 : goal.returns-in-45
returns-in-45 g c = run_at c.args.layout c.args.memo.now c.args.size c.k.result 45 c.args.id.now.0 c.args.plan.now c.args.name.now c.args.scratch.now c.plot-in-45.result _ _
    c.k.ensures.value c.in-45.is c.plot-in-45.ensures

pub plot-requires-in-46-clause-least : goal.plot-requires-in-46-clause-least
plot-requires-in-46-clause-least g c = let e : 10 ≤ 46 = omega arith in e

pub plot-requires-in-46-clause-greatest : goal.plot-requires-in-46-clause-greatest
plot-requires-in-46-clause-greatest g c = let e : 46 ≤ 50 = omega arith in e

pub plot-requires-in-46-clause-plan : goal.plot-requires-in-46-clause-plan
plot-requires-in-46-clause-plan g c = plan_at c.args.size c.k.result 46 c.args.plan.now c.k.ensures.value c.in-46.is c.requires.plan

pub plot-requires-in-46-clause-memo : goal.plot-requires-in-46-clause-memo
plot-requires-in-46-clause-memo g c = c.requires.memo

pub plot-requires-in-46-clause-apart : goal.plot-requires-in-46-clause-apart
plot-requires-in-46-clause-apart g c = c.requires.apart

pub returns-in-46 : goal.returns-in-46
returns-in-46 g c = run_at c.args.layout c.args.memo.now c.args.size c.k.result 46 c.args.id.now.0 c.args.plan.now c.args.name.now c.args.scratch.now c.plot-in-46.result _ _
    c.k.ensures.value c.in-46.is c.plot-in-46.ensures

pub plot-requires-in-47-clause-least : goal.plot-requires-in-47-clause-least
plot-requires-in-47-clause-least g c = let e : 10 ≤ 47 = omega arith in e

pub plot-requires-in-47-clause-greatest : goal.plot-requires-in-47-clause-greatest
plot-requires-in-47-clause-greatest g c = let e : 47 ≤ 50 = omega arith in e

pub plot-requires-in-47-clause-plan : goal.plot-requires-in-47-clause-plan
plot-requires-in-47-clause-plan g c = plan_at c.args.size c.k.result 47 c.args.plan.now c.k.ensures.value c.in-47.is c.requires.plan

pub plot-requires-in-47-clause-memo : goal.plot-requires-in-47-clause-memo
plot-requires-in-47-clause-memo g c = c.requires.memo

pub plot-requires-in-47-clause-apart : goal.plot-requires-in-47-clause-apart
plot-requires-in-47-clause-apart g c = c.requires.apart

pub returns-in-47 : goal.returns-in-47
returns-in-47 g c = run_at c.args.layout c.args.memo.now c.args.size c.k.result 47 c.args.id.now.0 c.args.plan.now c.args.name.now c.args.scratch.now c.plot-in-47.result _ _
    c.k.ensures.value c.in-47.is c.plot-in-47.ensures

pub plot-requires-in_default-clause-least : goal.plot-requires-in_default-clause-least
plot-requires-in_default-clause-least g c = let e : 10 ≤ 48 = omega arith in e

pub plot-requires-in_default-clause-greatest : goal.plot-requires-in_default-clause-greatest
plot-requires-in_default-clause-greatest g c = let e : 48 ≤ 50 = omega arith in e

pub plot-requires-in_default-clause-plan : goal.plot-requires-in_default-clause-plan
plot-requires-in_default-clause-plan g c = let last : c.k.result ≡ 48 = omega (arith, c.in_default, c.requires.most, c.k.ensures.value, c.requires.least) in plan_at c.args.size c.k.result 48 c.args.plan.now c.k.ensures.value last c.requires.plan

pub plot-requires-in_default-clause-memo : goal.plot-requires-in_default-clause-memo
plot-requires-in_default-clause-memo g c = c.requires.memo

pub plot-requires-in_default-clause-apart : goal.plot-requires-in_default-clause-apart
plot-requires-in_default-clause-apart g c = c.requires.apart

pub returns-in_default : goal.returns-in_default
returns-in_default g c = let last : c.k.result ≡ 48 = omega (arith, c.in_default, c.requires.most, c.k.ensures.value, c.requires.least) in run_at c.args.layout c.args.memo.now c.args.size c.k.result 48 c.args.id.now.0 c.args.plan.now c.args.name.now c.args.scratch.now c.plot-in_default.result _ _
    c.k.ensures.value last c.plot-in_default.ensures
