-- One size after another.
use Rattle.std.proofs.Common.{◌≡◌, ◌≤◌, arith}
use Rattle.pos_plot.proofs.SizeLemmas.{plan_at, run_at}
use Rattle.pos_plot.proofs.sizes.small.Goals as goal

pub plot-requires-clause-least : goal.plot-requires-clause-least
plot-requires-clause-least g c = let e : 10 ≤ 10 = omega arith in e

pub plot-requires-clause-greatest : goal.plot-requires-clause-greatest
plot-requires-clause-greatest g c = let e : 10 ≤ 50 = omega arith in e

pub plot-requires-clause-plan : goal.plot-requires-clause-plan
plot-requires-clause-plan g c = plan_at c.args.size c.k.result 10 c.args.plan.now c.k.ensures.value c.in-10.is c.requires.plan

pub plot-requires-clause-memo : goal.plot-requires-clause-memo
plot-requires-clause-memo g c = c.requires.memo

pub plot-requires-clause-apart : goal.plot-requires-clause-apart
plot-requires-clause-apart g c = c.requires.apart

pub returns-in-10 : goal.returns-in-10
returns-in-10 g c = run_at c.args.layout c.args.memo.now c.args.size c.k.result 10 c.args.id.now.0 c.args.plan.now c.args.name.now c.args.scratch.now c.plot.result _ _
    c.k.ensures.value c.in-10.is c.plot.ensures

pub plot-requires-in-11-clause-least : goal.plot-requires-in-11-clause-least
plot-requires-in-11-clause-least g c = let e : 10 ≤ 11 = omega arith in e

pub plot-requires-in-11-clause-greatest : goal.plot-requires-in-11-clause-greatest
plot-requires-in-11-clause-greatest g c = let e : 11 ≤ 50 = omega arith in e

pub plot-requires-in-11-clause-plan : goal.plot-requires-in-11-clause-plan
plot-requires-in-11-clause-plan g c = plan_at c.args.size c.k.result 11 c.args.plan.now c.k.ensures.value c.in-11.is c.requires.plan

pub plot-requires-in-11-clause-memo : goal.plot-requires-in-11-clause-memo
plot-requires-in-11-clause-memo g c = c.requires.memo

pub plot-requires-in-11-clause-apart : goal.plot-requires-in-11-clause-apart
plot-requires-in-11-clause-apart g c = c.requires.apart

pub returns-in-11 : goal.returns-in-11
returns-in-11 g c = run_at c.args.layout c.args.memo.now c.args.size c.k.result 11 c.args.id.now.0 c.args.plan.now c.args.name.now c.args.scratch.now c.plot-in-11.result _ _
    c.k.ensures.value c.in-11.is c.plot-in-11.ensures

pub plot-requires-in-12-clause-least : goal.plot-requires-in-12-clause-least
plot-requires-in-12-clause-least g c = let e : 10 ≤ 12 = omega arith in e

pub plot-requires-in-12-clause-greatest : goal.plot-requires-in-12-clause-greatest
plot-requires-in-12-clause-greatest g c = let e : 12 ≤ 50 = omega arith in e

pub plot-requires-in-12-clause-plan : goal.plot-requires-in-12-clause-plan
plot-requires-in-12-clause-plan g c = plan_at c.args.size c.k.result 12 c.args.plan.now c.k.ensures.value c.in-12.is c.requires.plan

pub plot-requires-in-12-clause-memo : goal.plot-requires-in-12-clause-memo
plot-requires-in-12-clause-memo g c = c.requires.memo

pub plot-requires-in-12-clause-apart : goal.plot-requires-in-12-clause-apart
plot-requires-in-12-clause-apart g c = c.requires.apart

pub returns-in-12 : goal.returns-in-12
returns-in-12 g c = run_at c.args.layout c.args.memo.now c.args.size c.k.result 12 c.args.id.now.0 c.args.plan.now c.args.name.now c.args.scratch.now c.plot-in-12.result _ _
    c.k.ensures.value c.in-12.is c.plot-in-12.ensures

pub plot-requires-in-13-clause-least : goal.plot-requires-in-13-clause-least
plot-requires-in-13-clause-least g c = let e : 10 ≤ 13 = omega arith in e

pub plot-requires-in-13-clause-greatest : goal.plot-requires-in-13-clause-greatest
plot-requires-in-13-clause-greatest g c = let e : 13 ≤ 50 = omega arith in e

pub plot-requires-in-13-clause-plan : goal.plot-requires-in-13-clause-plan
plot-requires-in-13-clause-plan g c = plan_at c.args.size c.k.result 13 c.args.plan.now c.k.ensures.value c.in-13.is c.requires.plan

pub plot-requires-in-13-clause-memo : goal.plot-requires-in-13-clause-memo
plot-requires-in-13-clause-memo g c = c.requires.memo

pub plot-requires-in-13-clause-apart : goal.plot-requires-in-13-clause-apart
plot-requires-in-13-clause-apart g c = c.requires.apart

pub returns-in-13 : goal.returns-in-13
returns-in-13 g c = run_at c.args.layout c.args.memo.now c.args.size c.k.result 13 c.args.id.now.0 c.args.plan.now c.args.name.now c.args.scratch.now c.plot-in-13.result _ _
    c.k.ensures.value c.in-13.is c.plot-in-13.ensures

pub plot-requires-in-14-clause-least : goal.plot-requires-in-14-clause-least
plot-requires-in-14-clause-least g c = let e : 10 ≤ 14 = omega arith in e

pub plot-requires-in-14-clause-greatest : goal.plot-requires-in-14-clause-greatest
plot-requires-in-14-clause-greatest g c = let e : 14 ≤ 50 = omega arith in e

pub plot-requires-in-14-clause-plan : goal.plot-requires-in-14-clause-plan
plot-requires-in-14-clause-plan g c = plan_at c.args.size c.k.result 14 c.args.plan.now c.k.ensures.value c.in-14.is c.requires.plan

pub plot-requires-in-14-clause-memo : goal.plot-requires-in-14-clause-memo
plot-requires-in-14-clause-memo g c = c.requires.memo

pub plot-requires-in-14-clause-apart : goal.plot-requires-in-14-clause-apart
plot-requires-in-14-clause-apart g c = c.requires.apart

pub returns-in-14 : goal.returns-in-14
returns-in-14 g c = run_at c.args.layout c.args.memo.now c.args.size c.k.result 14 c.args.id.now.0 c.args.plan.now c.args.name.now c.args.scratch.now c.plot-in-14.result _ _
    c.k.ensures.value c.in-14.is c.plot-in-14.ensures

pub plot-requires-in-15-clause-least : goal.plot-requires-in-15-clause-least
plot-requires-in-15-clause-least g c = let e : 10 ≤ 15 = omega arith in e

pub plot-requires-in-15-clause-greatest : goal.plot-requires-in-15-clause-greatest
plot-requires-in-15-clause-greatest g c = let e : 15 ≤ 50 = omega arith in e

pub plot-requires-in-15-clause-plan : goal.plot-requires-in-15-clause-plan
plot-requires-in-15-clause-plan g c = plan_at c.args.size c.k.result 15 c.args.plan.now c.k.ensures.value c.in-15.is c.requires.plan

pub plot-requires-in-15-clause-memo : goal.plot-requires-in-15-clause-memo
plot-requires-in-15-clause-memo g c = c.requires.memo

pub plot-requires-in-15-clause-apart : goal.plot-requires-in-15-clause-apart
plot-requires-in-15-clause-apart g c = c.requires.apart

pub returns-in-15 : goal.returns-in-15
returns-in-15 g c = run_at c.args.layout c.args.memo.now c.args.size c.k.result 15 c.args.id.now.0 c.args.plan.now c.args.name.now c.args.scratch.now c.plot-in-15.result _ _
    c.k.ensures.value c.in-15.is c.plot-in-15.ensures

pub plot-requires-in-16-clause-least : goal.plot-requires-in-16-clause-least
plot-requires-in-16-clause-least g c = let e : 10 ≤ 16 = omega arith in e

pub plot-requires-in-16-clause-greatest : goal.plot-requires-in-16-clause-greatest
plot-requires-in-16-clause-greatest g c = let e : 16 ≤ 50 = omega arith in e

pub plot-requires-in-16-clause-plan : goal.plot-requires-in-16-clause-plan
plot-requires-in-16-clause-plan g c = plan_at c.args.size c.k.result 16 c.args.plan.now c.k.ensures.value c.in-16.is c.requires.plan

pub plot-requires-in-16-clause-memo : goal.plot-requires-in-16-clause-memo
plot-requires-in-16-clause-memo g c = c.requires.memo

pub plot-requires-in-16-clause-apart : goal.plot-requires-in-16-clause-apart
plot-requires-in-16-clause-apart g c = c.requires.apart

pub returns-in-16 : goal.returns-in-16
returns-in-16 g c = run_at c.args.layout c.args.memo.now c.args.size c.k.result 16 c.args.id.now.0 c.args.plan.now c.args.name.now c.args.scratch.now c.plot-in-16.result _ _
    c.k.ensures.value c.in-16.is c.plot-in-16.ensures

pub plot-requires-in_default-clause-least : goal.plot-requires-in_default-clause-least
plot-requires-in_default-clause-least g c = let e : 10 ≤ 17 = omega arith in e

pub plot-requires-in_default-clause-greatest : goal.plot-requires-in_default-clause-greatest
plot-requires-in_default-clause-greatest g c = let e : 17 ≤ 50 = omega arith in e

pub plot-requires-in_default-clause-plan : goal.plot-requires-in_default-clause-plan
plot-requires-in_default-clause-plan g c = let last : c.k.result ≡ 17 = omega (arith, c.in_default, c.requires.most, c.k.ensures.value, c.k.ensures.at_least) in plan_at c.args.size c.k.result 17 c.args.plan.now c.k.ensures.value last c.requires.plan

pub plot-requires-in_default-clause-memo : goal.plot-requires-in_default-clause-memo
plot-requires-in_default-clause-memo g c = c.requires.memo

pub plot-requires-in_default-clause-apart : goal.plot-requires-in_default-clause-apart
plot-requires-in_default-clause-apart g c = c.requires.apart

pub returns-in_default : goal.returns-in_default
returns-in_default g c = let last : c.k.result ≡ 17 = omega (arith, c.in_default, c.requires.most, c.k.ensures.value, c.k.ensures.at_least) in run_at c.args.layout c.args.memo.now c.args.size c.k.result 17 c.args.id.now.0 c.args.plan.now c.args.name.now c.args.scratch.now c.plot-in_default.result _ _
    c.k.ensures.value last c.plot-in_default.ensures
