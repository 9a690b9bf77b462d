use Rattle.std.proofs.Common.{◌*◌, ◌+◌, ◌≤◌, ◌^◌, refl, arith}
use Rattle.std.proofs.Math.Nat.{mul-le-mul}
use Rattle.pos_points.proofs.RootLemmas.{step_quotient_le, step_square_le, step_base_le, step_exact, step_one_less, step_below, step_pos}
use Rattle.pos_points.proofs.root.refine.Goals as goal

pub overflow_mul-square : goal.overflow_mul-square
overflow_mul-square c =
    let h = step_quotient_le c.args.high.root c.args.high.rest c.args.base c.args.digits c.requires.root c.requires.base c.requires.wide c.requires.digits in
    let g = mul-le-mul h h in
    let k : c.args.base * c.args.base ≤ 2 ^ 31 * 2 ^ 31 = mul-le-mul c.requires.base_in_range c.requires.base_in_range in
    omega arith

pub overflow_add-result : goal.overflow_add-result
overflow_add-result c =
    let h = step_quotient_le c.args.high.root c.args.high.rest c.args.base c.args.digits c.requires.root c.requires.base c.requires.wide c.requires.digits in
    let one_more : c.args.high.root + 1 ≤ 2 ^ 32 = omega arith in
    let g : (c.args.high.root + 1) * c.args.base ≤ 2 ^ 32 * 2 ^ 31 = mul-le-mul one_more c.requires.base_in_range in
    omega arith

pub overflow_sub-result-else-square-left-4 : goal.overflow_sub-result-else-square-left-4
overflow_sub-result-else-square-left-4 c =
    let pos = step_pos c.args.high.root c.args.high.rest c.args.base c.args.digits c.requires.root c.requires.base c.requires.wide c.requires.digits _ _ refl refl c.if-square-left.false in
    omega (arith, pos, step_square_le c.args.high.root c.args.high.rest c.args.base c.args.digits c.requires.root c.requires.base c.requires.wide c.requires.digits, step_base_le c.args.high.root c.args.high.rest c.args.base c.args.digits c.requires.root c.requires.base c.requires.wide c.requires.digits)

pub returns-then-square-left-clause-root : goal.returns-then-square-left-clause-root
returns-then-square-left-clause-root c =
    step_exact c.args.high.root c.args.high.rest c.args.base c.args.digits c.requires.root c.requires.base c.requires.wide c.requires.digits _ _ refl refl c.if-square-left.true

pub returns-then-square-left-clause-high : goal.returns-then-square-left-clause-high
returns-then-square-left-clause-high c =
    step_below c.args.high.root c.args.high.rest c.args.base c.args.digits c.requires.root c.requires.base c.requires.wide c.requires.digits _ _ (step_exact c.args.high.root c.args.high.rest c.args.base c.args.digits c.requires.root c.requires.base c.requires.wide c.requires.digits _ _ refl refl c.if-square-left.true)

pub returns-else-square-left-clause-root : goal.returns-else-square-left-clause-root
returns-else-square-left-clause-root c =
    step_one_less c.args.high.root c.args.high.rest c.args.base c.args.digits c.requires.root c.requires.base c.requires.wide c.requires.digits _ _ refl refl c.if-square-left.false

pub returns-else-square-left-clause-high : goal.returns-else-square-left-clause-high
returns-else-square-left-clause-high c =
    step_below c.args.high.root c.args.high.rest c.args.base c.args.digits c.requires.root c.requires.base c.requires.wide c.requires.digits _ _ (step_one_less c.args.high.root c.args.high.rest c.args.base c.args.digits c.requires.root c.requires.base c.requires.wide c.requires.digits _ _ refl refl c.if-square-left.false)
