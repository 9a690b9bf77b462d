-- An f7 and a place fit side by side.
use Rattle.std.proofs.Common.{◌*◌, ◌^◌, ◌≤◌, ◌∙◌, ap, ap₂, arith}
use Rattle.std.proofs.lemmas.Grind.{common_steps}
use Rattle.std.proofs.Math.Nat.{mul-le-mul}
use Rattle.pos_reader.proofs.ParkLemmas.{twice_values}
use Rattle.pos_reader.proofs.park.least_with.Goals as goal

pub overflow_mul-result : goal.overflow_mul-result
overflow_mul-result c = let small = c.values_of.ensures.small in grind (arith, common_steps)

pub overflow_mul-result-2 : goal.overflow_mul-result-2
overflow_mul-result-2 c =
    let f7 : c.from.result ≤ 2 ^ 50 = let small = c.values_of.ensures.small in let v = c.values_of.ensures.values in let f = c.from.ensures in let r = c.requires in omega arith in
    let values : 2 * c.values_of.result ≤ 2 ^ 51 = let small = c.values_of.ensures.small in omega arith in
    let product = mul-le-mul f7 values in
    grind (arith, common_steps)

pub returns : goal.returns
returns c = ap₂ (λ f n. f * n) c.from.ensures (ap (λ n. 2 * n) c.values_of.ensures.values ∙ twice_values c.args.size)
