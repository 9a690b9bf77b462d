-- One size after another.
use Rattle.std.proofs.Common.{◌≡◌, ◌≤◌, arith}
use Rattle.pos_plot.proofs.SizeLemmas.{plan_at, run_at}
use Rattle.pos_plot.proofs.sizes.middling.Goals as goal

pub plot-requires-clause-least : goal.plot-requires-clause-least
plot-requires-clause-least g c = let e : 10 ≤ 18 = omega arith in e

pub plot-requires-clause-greatest : goal.plot-requires-clause-greatest
plot-requires-clause-greatest g c = let e : 18 ≤ 50 = omega arith in e

pub plot-requires-clause-plan : goal.plot-requires-clause-plan
plot-requires-clause-plan g c = plan_at c.args.size c.k.result 18 c.args.plan.now c.k.ensures.value c.in-18.is c.requires.plan

pub plot-requires-clause-memo : goal.plot-requires-clause-memo
plot-requires-clause-memo g c = c.requires.memo

pub plot-requires-clause-apart : goal.plot-requires-clause-apart
plot-requires-clause-apart g c = c.requires.apart

pub returns-in-18 : goal.returns-in-18
returns-in-18 g c = run_at c.args.layout c.args.memo.now c.args.size c.k.result 18 c.args.id.now.0 c.args.plan.now c.args.name.now c.args.scratch.now c.plot.result _ _
    c.k.ensures.value c.in-18.is c.plot.ensures

pub plot-requires-in-19-clause-least : goal.plot-requires-in-19-clause-least
plot-requires-in-19-clause-least g c = let e : 10 ≤ 19 = omega arith in e

pub plot-requires-in-19-clause-greatest : goal.plot-requires-in-19-clause-greatest
plot-requires-in-19-clause-greatest g c = let e : 19 ≤ 50 = omega arith in e

pub plot-requires-in-19-clause-plan : goal.plot-requires-in-19-clause-plan
plot-requires-in-19-clause-plan g c = plan_at c.args.size c.k.result 19 c.args.plan.now c.k.ensures.value c.in-19.is c.requires.plan

pub plot-requires-in-19-clause-memo : goal.plot-requires-in-19-clause-memo
plot-requires-in-19-clause-memo g c = c.requires.memo

pub plot-requires-in-19-clause-apart : goal.plot-requires-in-19-clause-apart
plot-requires-in-19-clause-apart g c = c.requires.apart

pub returns-in-19 : goal.returns-in-19
returns-in-19 g c = run_at c.args.layout c.args.memo.now c.args.size c.k.result 19 c.args.id.now.0 c.args.plan.now c.args.name.now c.args.scratch.now c.plot-in-19.result _ _
    c.k.ensures.value c.in-19.is c.plot-in-19.ensures

pub plot-requires-in-20-clause-least : goal.plot-requires-in-20-clause-least
plot-requires-in-20-clause-least g c = let e : 10 ≤ 20 = omega arith in e

pub plot-requires-in-20-clause-greatest : goal.plot-requires-in-20-clause-greatest
plot-requires-in-20-clause-greatest g c = let e : 20 ≤ 50 = omega arith in e

pub plot-requires-in-20-clause-plan : goal.plot-requires-in-20-clause-plan
plot-requires-in-20-clause-plan g c = plan_at c.args.size c.k.result 20 c.args.plan.now c.k.ensures.value c.in-20.is c.requires.plan

pub plot-requires-in-20-clause-memo : goal.plot-requires-in-20-clause-memo
plot-requires-in-20-clause-memo g c = c.requires.memo

pub plot-requires-in-20-clause-apart : goal.plot-requires-in-20-clause-apart
plot-requires-in-20-clause-apart g c = c.requires.apart

pub returns-in-20 : goal.returns-in-20
returns-in-20 g c = run_at c.args.layout c.args.memo.now c.args.size c.k.result 20 c.args.id.now.0 c.args.plan.now c.args.name.now c.args.scratch.now c.plot-in-20.result _ _
    c.k.ensures.value c.in-20.is c.plot-in-20.ensures

pub plot-requires-in-21-clause-least : goal.plot-requires-in-21-clause-least
plot-requires-in-21-clause-least g c = let e : 10 ≤ 21 = omega arith in e

pub plot-requires-in-21-clause-greatest : goal.plot-requires-in-21-clause-greatest
plot-requires-in-21-clause-greatest g c = let e : 21 ≤ 50 = omega arith in e

pub plot-requires-in-21-clause-plan : goal.plot-requires-in-21-clause-plan
plot-requires-in-21-clause-plan g c = plan_at c.args.size c.k.result 21 c.args.plan.now c.k.ensures.value c.in-21.is c.requires.plan

pub plot-requires-in-21-clause-memo : goal.plot-requires-in-21-clause-memo
plot-requires-in-21-clause-memo g c = c.requires.memo

pub plot-requires-in-21-clause-apart : goal.plot-requires-in-21-clause-apart
plot-requires-in-21-clause-apart g c = c.requires.apart

pub returns-in-21 : goal.returns-in-21
returns-in-21 g c = run_at c.args.layout c.args.memo.now c.args.size c.k.result 21 c.args.id.now.0 c.args.plan.now c.args.name.now c.args.scratch.now c.plot-in-21.result _ _
    c.k.ensures.value c.in-21.is c.plot-in-21.ensures

pub plot-requires-in-22-clause-least : goal.plot-requires-in-22-clause-least
plot-requires-in-22-clause-least g c = let e : 10 ≤ 22 = omega arith in e

pub plot-requires-in-22-clause-greatest : goal.plot-requires-in-22-clause-greatest
plot-requires-in-22-clause-greatest g c = let e : 22 ≤ 50 = omega arith in e

pub plot-requires-in-22-clause-plan : goal.plot-requires-in-22-clause-plan
plot-requires-in-22-clause-plan g c = plan_at c.args.size c.k.result 22 c.args.plan.now c.k.ensures.value c.in-22.is c.requires.plan

pub plot-requires-in-22-clause-memo : goal.plot-requires-in-22-clause-memo
plot-requires-in-22-clause-memo g c = c.requires.memo

pub plot-requires-in-22-clause-apart : goal.plot-requires-in-22-clause-apart
plot-requires-in-22-clause-apart g c = c.requires.apart

pub returns-in-22 : goal.returns-in-22
returns-in-22 g c = run_at c.args.layout c.args.memo.now c.args.size c.k.result 22 c.args.id.now.0 c.args.plan.now c.args.name.now c.args.scratch.now c.plot-in-22.result _ _
    c.k.ensures.value c.in-22.is c.plot-in-22.ensures

pub plot-requires-in-23-clause-least : goal.plot-requires-in-23-clause-least
plot-requires-in-23-clause-least g c = let e : 10 ≤ 23 = omega arith in e

pub plot-requires-in-23-clause-greatest : goal.plot-requires-in-23-clause-greatest
plot-requires-in-23-clause-greatest g c = let e : 23 ≤ 50 = omega arith in e

pub plot-requires-in-23-clause-plan : goal.plot-requires-in-23-clause-plan
plot-requires-in-23-clause-plan g c = plan_at c.args.size c.k.result 23 c.args.plan.now c.k.ensures.value c.in-23.is c.requires.plan

pub plot-requires-in-23-clause-memo : goal.plot-requires-in-23-clause-memo
plot-requires-in-23-clause-memo g c = c.requires.memo

pub plot-requires-in-23-clause-apart : goal.plot-requires-in-23-clause-apart
plot-requires-in-23-clause-apart g c = c.requires.apart

pub returns-in-23 : goal.returns-in-23
returns-in-23 g c = run_at c.args.layout c.args.memo.now c.args.size c.k.result 23 c.args.id.now.0 c.args.plan.now c.args.name.now c.args.scratch.now c.plot-in-23.result _ _
    c.k.ensures.value c.in-23.is c.plot-in-23.ensures

pub plot-requires-in-24-clause-least : goal.plot-requires-in-24-clause-least
plot-requires-in-24-clause-least g c = let e : 10 ≤ 24 = omega arith in e

pub plot-requires-in-24-clause-greatest : goal.plot-requires-in-24-clause-greatest
plot-requires-in-24-clause-greatest g c = let e : 24 ≤ 50 = omega arith in e

pub plot-requires-in-24-clause-plan : goal.plot-requires-in-24-clause-plan
plot-requires-in-24-clause-plan g c = plan_at c.args.size c.k.result 24 c.args.plan.now c.k.ensures.value c.in-24.is c.requires.plan

pub plot-requires-in-24-clause-memo : goal.plot-requires-in-24-clause-memo
plot-requires-in-24-clause-memo g c = c.requires.memo

pub plot-requires-in-24-clause-apart : goal.plot-requires-in-24-clause-apart
plot-requires-in-24-clause-apart g c = c.requires.apart

pub returns-in-24 : goal.returns-in-24
returns-in-24 g c = run_at c.args.layout c.args.memo.now c.args.size c.k.result 24 c.args.id.now.0 c.args.plan.now c.args.name.now c.args.scratch.now c.plot-in-24.result _ _
    c.k.ensures.value c.in-24.is c.plot-in-24.ensures

pub plot-requires-in_default-clause-least : goal.plot-requires-in_default-clause-least
plot-requires-in_default-clause-least g c = let e : 10 ≤ 25 = omega arith in e

pub plot-requires-in_default-clause-greatest : goal.plot-requires-in_default-clause-greatest
plot-requires-in_default-clause-greatest g c = let e : 25 ≤ 50 = omega arith in e

pub plot-requires-in_default-clause-plan : goal.plot-requires-in_default-clause-plan
plot-requires-in_default-clause-plan g c = let last : c.k.result ≡ 25 = omega (arith, c.in_default, c.requires.most, c.k.ensures.value, c.requires.least) in plan_at c.args.size c.k.result 25 c.args.plan.now c.k.ensures.value last c.requires.plan

pub plot-requires-in_default-clause-memo : goal.plot-requires-in_default-clause-memo
plot-requires-in_default-clause-memo g c = c.requires.memo

pub plot-requires-in_default-clause-apart : goal.plot-requires-in_default-clause-apart
plot-requires-in_default-clause-apart g c = c.requires.apart

pub returns-in_default : goal.returns-in_default
returns-in_default g c = let last : c.k.result ≡ 25 = omega (arith, c.in_default, c.requires.most, c.k.ensures.value, c.requires.least) in run_at c.args.layout c.args.memo.now c.args.size c.k.result 25 c.args.id.now.0 c.args.plan.now c.args.name.now c.args.scratch.now c.plot-in_default.result _ _
    c.k.ensures.value last c.plot-in_default.ensures
