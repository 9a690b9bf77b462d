-- One size after another.
use Rattle.std.proofs.Common.{◌≡◌, ◌≤◌, arith}
use Rattle.pos_plot.proofs.SizeLemmas.{plan_at, run_at}
use Rattle.pos_plot.proofs.sizes.larger.Goals as goal

pub plot-requires-clause-least : goal.plot-requires-clause-least
plot-requires-clause-least g c = let e : 10 ≤ 33 = omega arith in e

pub plot-requires-clause-greatest : goal.plot-requires-clause-greatest
plot-requires-clause-greatest g c = let e : 33 ≤ 50 = omega arith in e

pub plot-requires-clause-plan : goal.plot-requires-clause-plan
plot-requires-clause-plan g c = plan_at c.args.size c.k.result 33 c.args.plan.now c.k.ensures.value c.in-33.is c.requires.plan

pub plot-requires-clause-memo : goal.plot-requires-clause-memo
plot-requires-clause-memo g c = c.requires.memo

pub plot-requires-clause-apart : goal.plot-requires-clause-apart
plot-requires-clause-apart g c = c.requires.apart

pub returns-in-33 : goal.returns-in-33
returns-in-33 g c = run_at c.args.layout c.args.memo.now c.args.size c.k.result 33 c.args.id.now.0 c.args.plan.now c.args.name.now c.args.scratch.now c.plot.result _ _
    c.k.ensures.value c.in-33.is c.plot.ensures

pub plot-requires-in-34-clause-least : goal.plot-requires-in-34-clause-least
plot-requires-in-34-clause-least g c = let e : 10 ≤ 34 = omega arith in e

pub plot-requires-in-34-clause-greatest : goal.plot-requires-in-34-clause-greatest
plot-requires-in-34-clause-greatest g c = let e : 34 ≤ 50 = omega arith in e

pub plot-requires-in-34-clause-plan : goal.plot-requires-in-34-clause-plan
plot-requires-in-34-clause-plan g c = plan_at c.args.size c.k.result 34 c.args.plan.now c.k.ensures.value c.in-34.is c.requires.plan

pub plot-requires-in-34-clause-memo : goal.plot-requires-in-34-clause-memo
plot-requires-in-34-clause-memo g c = c.requires.memo

pub plot-requires-in-34-clause-apart : goal.plot-requires-in-34-clause-apart
plot-requires-in-34-clause-apart g c = c.requires.apart

pub returns-in-34 : goal.returns-in-34
returns-in-34 g c = run_at c.args.layout c.args.memo.now c.args.size c.k.result 34 c.args.id.now.0 c.args.plan.now c.args.name.now c.args.scratch.now c.plot-in-34.result _ _
    c.k.ensures.value c.in-34.is c.plot-in-34.ensures

pub plot-requires-in-35-clause-least : goal.plot-requires-in-35-clause-least
plot-requires-in-35-clause-least g c = let e : 10 ≤ 35 = omega arith in e

pub plot-requires-in-35-clause-greatest : goal.plot-requires-in-35-clause-greatest
plot-requires-in-35-clause-greatest g c = let e : 35 ≤ 50 = omega arith in e

pub plot-requires-in-35-clause-plan : goal.plot-requires-in-35-clause-plan
plot-requires-in-35-clause-plan g c = plan_at c.args.size c.k.result 35 c.args.plan.now c.k.ensures.value c.in-35.is c.requires.plan

pub plot-requires-in-35-clause-memo : goal.plot-requires-in-35-clause-memo
plot-requires-in-35-clause-memo g c = c.requires.memo

pub plot-requires-in-35-clause-apart : goal.plot-requires-in-35-clause-apart
plot-requires-in-35-clause-apart g c = c.requires.apart

pub returns-in-35 : goal.returns-in-35
returns-in-35 g c = run_at c.args.layout c.args.memo.now c.args.size c.k.result 35 c.args.id.now.0 c.args.plan.now c.args.name.now c.args.scratch.now c.plot-in-35.result _ _
    c.k.ensures.value c.in-35.is c.plot-in-35.ensures

pub plot-requires-in-36-clause-least : goal.plot-requires-in-36-clause-least
plot-requires-in-36-clause-least g c = let e : 10 ≤ 36 = omega arith in e

pub plot-requires-in-36-clause-greatest : goal.plot-requires-in-36-clause-greatest
plot-requires-in-36-clause-greatest g c = let e : 36 ≤ 50 = omega arith in e

pub plot-requires-in-36-clause-plan : goal.plot-requires-in-36-clause-plan
plot-requires-in-36-clause-plan g c = plan_at c.args.size c.k.result 36 c.args.plan.now c.k.ensures.value c.in-36.is c.requires.plan

pub plot-requires-in-36-clause-memo : goal.plot-requires-in-36-clause-memo
plot-requires-in-36-clause-memo g c = c.requires.memo

pub plot-requires-in-36-clause-apart : goal.plot-requires-in-36-clause-apart
plot-requires-in-36-clause-apart g c = c.requires.apart

pub returns-in-36 : goal.returns-in-36
returns-in-36 g c = run_at c.args.layout c.args.memo.now c.args.size c.k.result 36 c.args.id.now.0 c.args.plan.now c.args.name.now c.args.scratch.now c.plot-in-36.result _ _
    c.k.ensures.value c.in-36.is c.plot-in-36.ensures

pub plot-requires-in-37-clause-least : goal.plot-requires-in-37-clause-least
plot-requires-in-37-clause-least g c = let e : 10 ≤ 37 = omega arith in e

pub plot-requires-in-37-clause-greatest : goal.plot-requires-in-37-clause-greatest
plot-requires-in-37-clause-greatest g c = let e : 37 ≤ 50 = omega arith in e

pub plot-requires-in-37-clause-plan : goal.plot-requires-in-37-clause-plan
plot-requires-in-37-clause-plan g c = plan_at c.args.size c.k.result 37 c.args.plan.now c.k.ensures.value c.in-37.is c.requires.plan

pub plot-requires-in-37-clause-memo : goal.plot-requires-in-37-clause-memo
plot-requires-in-37-clause-memo g c = c.requires.memo

pub plot-requires-in-37-clause-apart : goal.plot-requires-in-37-clause-apart
plot-requires-in-37-clause-apart g c = c.requires.apart

pub returns-in-37 : goal.returns-in-37
returns-in-37 g c = run_at c.args.layout c.args.memo.now c.args.size c.k.result 37 c.args.id.now.0 c.args.plan.now c.args.name.now c.args.scratch.now c.plot-in-37.result _ _
    c.k.ensures.value c.in-37.is c.plot-in-37.ensures

pub plot-requires-in-38-clause-least : goal.plot-requires-in-38-clause-least
plot-requires-in-38-clause-least g c = let e : 10 ≤ 38 = omega arith in e

pub plot-requires-in-38-clause-greatest : goal.plot-requires-in-38-clause-greatest
plot-requires-in-38-clause-greatest g c = let e : 38 ≤ 50 = omega arith in e

pub plot-requires-in-38-clause-plan : goal.plot-requires-in-38-clause-plan
plot-requires-in-38-clause-plan g c = plan_at c.args.size c.k.result 38 c.args.plan.now c.k.ensures.value c.in-38.is c.requires.plan

pub plot-requires-in-38-clause-memo : goal.plot-requires-in-38-clause-memo
plot-requires-in-38-clause-memo g c = c.requires.memo

pub plot-requires-in-38-clause-apart : goal.plot-requires-in-38-clause-apart
plot-requires-in-38-clause-apart g c = c.requires.apart

pub returns-in-38 : goal.returns-in-38
returns-in-38 g c = run_at c.args.layout c.args.memo.now c.args.size c.k.result 38 c.args.id.now.0 c.args.plan.now c.args.name.now c.args.scratch.now c.plot-in-38.result _ _
    c.k.ensures.value c.in-38.is c.plot-in-38.ensures

pub plot-requires-in-39-clause-least : goal.plot-requires-in-39-clause-least
plot-requires-in-39-clause-least g c = let e : 10 ≤ 39 = omega arith in e

pub plot-requires-in-39-clause-greatest : goal.plot-requires-in-39-clause-greatest
plot-requires-in-39-clause-greatest g c = let e : 39 ≤ 50 = omega arith in e

pub plot-requires-in-39-clause-plan : goal.plot-requires-in-39-clause-plan
plot-requires-in-39-clause-plan g c = plan_at c.args.size c.k.result 39 c.args.plan.now c.k.ensures.value c.in-39.is c.requires.plan

pub plot-requires-in-39-clause-memo : goal.plot-requires-in-39-clause-memo
plot-requires-in-39-clause-memo g c = c.requires.memo

pub plot-requires-in-39-clause-apart : goal.plot-requires-in-39-clause-apart
plot-requires-in-39-clause-apart g c = c.requires.apart

pub returns-in-39 : goal.returns-in-39
returns-in-39 g c = run_at c.args.layout c.args.memo.now c.args.size c.k.result 39 c.args.id.now.0 c.args.plan.now c.args.name.now c.args.scratch.now c.plot-in-39.result _ _
    c.k.ensures.value c.in-39.is c.plot-in-39.ensures

pub plot-requires-in_default-clause-least : goal.plot-requires-in_default-clause-least
plot-requires-in_default-clause-least g c = let e : 10 ≤ 40 = omega arith in e

pub plot-requires-in_default-clause-greatest : goal.plot-requires-in_default-clause-greatest
plot-requires-in_default-clause-greatest g c = let e : 40 ≤ 50 = omega arith in e

pub plot-requires-in_default-clause-plan : goal.plot-requires-in_default-clause-plan
plot-requires-in_default-clause-plan g c = let last : c.k.result ≡ 40 = omega (arith, c.in_default, c.requires.most, c.k.ensures.value, c.requires.least) in plan_at c.args.size c.k.result 40 c.args.plan.now c.k.ensures.value last c.requires.plan

pub plot-requires-in_default-clause-memo : goal.plot-requires-in_default-clause-memo
plot-requires-in_default-clause-memo g c = c.requires.memo

pub plot-requires-in_default-clause-apart : goal.plot-requires-in_default-clause-apart
plot-requires-in_default-clause-apart g c = c.requires.apart

pub returns-in_default : goal.returns-in_default
returns-in_default g c = let last : c.k.result ≡ 40 = omega (arith, c.in_default, c.requires.most, c.k.ensures.value, c.requires.least) in run_at c.args.layout c.args.memo.now c.args.size c.k.result 40 c.args.id.now.0 c.args.plan.now c.args.name.now c.args.scratch.now c.plot-in_default.result _ _
    c.k.ensures.value last c.plot-in_default.ensures
