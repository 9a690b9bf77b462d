-- One size after another.
use Rattle.std.proofs.Common.{◌≡◌, ◌≤◌, arith}
use Rattle.pos_plot.proofs.SizeLemmas.{plan_at, run_at}
use Rattle.pos_plot.proofs.sizes.large.Goals as goal

pub plot-requires-clause-least : goal.plot-requires-clause-least
plot-requires-clause-least g c = let e : 10 ≤ 26 = omega arith in e

pub plot-requires-clause-greatest : goal.plot-requires-clause-greatest
plot-requires-clause-greatest g c = let e : 26 ≤ 50 = omega arith in e

pub plot-requires-clause-plan : goal.plot-requires-clause-plan
plot-requires-clause-plan g c = plan_at c.args.size c.k.result 26 c.args.plan.now c.k.ensures.value c.in-26.is c.requires.plan

pub plot-requires-clause-memo : goal.plot-requires-clause-memo
plot-requires-clause-memo g c = c.requires.memo

pub plot-requires-clause-apart : goal.plot-requires-clause-apart
plot-requires-clause-apart g c = c.requires.apart

pub returns-in-26 : goal.returns-in-26
returns-in-26 g c = run_at c.args.layout c.args.memo.now c.args.size c.k.result 26 c.args.id.now.0 c.args.plan.now c.args.name.now c.args.scratch.now c.plot.result _ _
    c.k.ensures.value c.in-26.is c.plot.ensures

pub plot-requires-in-27-clause-least : goal.plot-requires-in-27-clause-least
plot-requires-in-27-clause-least g c = let e : 10 ≤ 27 = omega arith in e

pub plot-requires-in-27-clause-greatest : goal.plot-requires-in-27-clause-greatest
plot-requires-in-27-clause-greatest g c = let e : 27 ≤ 50 = omega arith in e

pub plot-requires-in-27-clause-plan : goal.plot-requires-in-27-clause-plan
plot-requires-in-27-clause-plan g c = plan_at c.args.size c.k.result 27 c.args.plan.now c.k.ensures.value c.in-27.is c.requires.plan

pub plot-requires-in-27-clause-memo : goal.plot-requires-in-27-clause-memo
plot-requires-in-27-clause-memo g c = c.requires.memo

pub plot-requires-in-27-clause-apart : goal.plot-requires-in-27-clause-apart
plot-requires-in-27-clause-apart g c = c.requires.apart

pub returns-in-27 : goal.returns-in-27
returns-in-27 g c = run_at c.args.layout c.args.memo.now c.args.size c.k.result 27 c.args.id.now.0 c.args.plan.now c.args.name.now c.args.scratch.now c.plot-in-27.result _ _
    c.k.ensures.value c.in-27.is c.plot-in-27.ensures

pub plot-requires-in-28-clause-least : goal.plot-requires-in-28-clause-least
plot-requires-in-28-clause-least g c = let e : 10 ≤ 28 = omega arith in e

pub plot-requires-in-28-clause-greatest : goal.plot-requires-in-28-clause-greatest
plot-requires-in-28-clause-greatest g c = let e : 28 ≤ 50 = omega arith in e

pub plot-requires-in-28-clause-plan : goal.plot-requires-in-28-clause-plan
plot-requires-in-28-clause-plan g c = plan_at c.args.size c.k.result 28 c.args.plan.now c.k.ensures.value c.in-28.is c.requires.plan

pub plot-requires-in-28-clause-memo : goal.plot-requires-in-28-clause-memo
plot-requires-in-28-clause-memo g c = c.requires.memo

pub plot-requires-in-28-clause-apart : goal.plot-requires-in-28-clause-apart
plot-requires-in-28-clause-apart g c = c.requires.apart

pub returns-in-28 : goal.returns-in-28
returns-in-28 g c = run_at c.args.layout c.args.memo.now c.args.size c.k.result 28 c.args.id.now.0 c.args.plan.now c.args.name.now c.args.scratch.now c.plot-in-28.result _ _
    c.k.ensures.value c.in-28.is c.plot-in-28.ensures

pub plot-requires-in-29-clause-least : goal.plot-requires-in-29-clause-least
plot-requires-in-29-clause-least g c = let e : 10 ≤ 29 = omega arith in e

pub plot-requires-in-29-clause-greatest : goal.plot-requires-in-29-clause-greatest
plot-requires-in-29-clause-greatest g c = let e : 29 ≤ 50 = omega arith in e

pub plot-requires-in-29-clause-plan : goal.plot-requires-in-29-clause-plan
plot-requires-in-29-clause-plan g c = plan_at c.args.size c.k.result 29 c.args.plan.now c.k.ensures.value c.in-29.is c.requires.plan

pub plot-requires-in-29-clause-memo : goal.plot-requires-in-29-clause-memo
plot-requires-in-29-clause-memo g c = c.requires.memo

pub plot-requires-in-29-clause-apart : goal.plot-requires-in-29-clause-apart
plot-requires-in-29-clause-apart g c = c.requires.apart

pub returns-in-29 : goal.returns-in-29
returns-in-29 g c = run_at c.args.layout c.args.memo.now c.args.size c.k.result 29 c.args.id.now.0 c.args.plan.now c.args.name.now c.args.scratch.now c.plot-in-29.result _ _
    c.k.ensures.value c.in-29.is c.plot-in-29.ensures

pub plot-requires-in-30-clause-least : goal.plot-requires-in-30-clause-least
plot-requires-in-30-clause-least g c = let e : 10 ≤ 30 = omega arith in e

pub plot-requires-in-30-clause-greatest : goal.plot-requires-in-30-clause-greatest
plot-requires-in-30-clause-greatest g c = let e : 30 ≤ 50 = omega arith in e

pub plot-requires-in-30-clause-plan : goal.plot-requires-in-30-clause-plan
plot-requires-in-30-clause-plan g c = plan_at c.args.size c.k.result 30 c.args.plan.now c.k.ensures.value c.in-30.is c.requires.plan

pub plot-requires-in-30-clause-memo : goal.plot-requires-in-30-clause-memo
plot-requires-in-30-clause-memo g c = c.requires.memo

pub plot-requires-in-30-clause-apart : goal.plot-requires-in-30-clause-apart
plot-requires-in-30-clause-apart g c = c.requires.apart

pub returns-in-30 : goal.returns-in-30
returns-in-30 g c = run_at c.args.layout c.args.memo.now c.args.size c.k.result 30 c.args.id.now.0 c.args.plan.now c.args.name.now c.args.scratch.now c.plot-in-30.result _ _
    c.k.ensures.value c.in-30.is c.plot-in-30.ensures

pub plot-requires-in-31-clause-least : goal.plot-requires-in-31-clause-least
plot-requires-in-31-clause-least g c = let e : 10 ≤ 31 = omega arith in e

pub plot-requires-in-31-clause-greatest : goal.plot-requires-in-31-clause-greatest
plot-requires-in-31-clause-greatest g c = let e : 31 ≤ 50 = omega arith in e

pub plot-requires-in-31-clause-plan : goal.plot-requires-in-31-clause-plan
plot-requires-in-31-clause-plan g c = plan_at c.args.size c.k.result 31 c.args.plan.now c.k.ensures.value c.in-31.is c.requires.plan

pub plot-requires-in-31-clause-memo : goal.plot-requires-in-31-clause-memo
plot-requires-in-31-clause-memo g c = c.requires.memo

pub plot-requires-in-31-clause-apart : goal.plot-requires-in-31-clause-apart
plot-requires-in-31-clause-apart g c = c.requires.apart

pub returns-in-31 : goal.returns-in-31
returns-in-31 g c = run_at c.args.layout c.args.memo.now c.args.size c.k.result 31 c.args.id.now.0 c.args.plan.now c.args.name.now c.args.scratch.now c.plot-in-31.result _ _
    c.k.ensures.value c.in-31.is c.plot-in-31.ensures

pub plot-requires-in_default-clause-least : goal.plot-requires-in_default-clause-least
plot-requires-in_default-clause-least g c = let e : 10 ≤ 32 = omega arith in e

pub plot-requires-in_default-clause-greatest : goal.plot-requires-in_default-clause-greatest
plot-requires-in_default-clause-greatest g c = let e : 32 ≤ 50 = omega arith in e

pub plot-requires-in_default-clause-plan : goal.plot-requires-in_default-clause-plan
plot-requires-in_default-clause-plan g c = let last : c.k.result ≡ 32 = omega (arith, c.in_default, c.requires.most, c.k.ensures.value, c.requires.least) in plan_at c.args.size c.k.result 32 c.args.plan.now c.k.ensures.value last c.requires.plan

pub plot-requires-in_default-clause-memo : goal.plot-requires-in_default-clause-memo
plot-requires-in_default-clause-memo g c = c.requires.memo

pub plot-requires-in_default-clause-apart : goal.plot-requires-in_default-clause-apart
plot-requires-in_default-clause-apart g c = c.requires.apart

pub returns-in_default : goal.returns-in_default
returns-in_default g c = let last : c.k.result ≡ 32 = omega (arith, c.in_default, c.requires.most, c.k.ensures.value, c.requires.least) in run_at c.args.layout c.args.memo.now c.args.size c.k.result 32 c.args.id.now.0 c.args.plan.now c.args.name.now c.args.scratch.now c.plot-in_default.result _ _
    c.k.ensures.value last c.plot-in_default.ensures
