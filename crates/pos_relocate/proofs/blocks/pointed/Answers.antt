use Rattle.std.proofs.Common.{◌≡◌, ℕ, ◌+◌, ◌*◌, ◌^◌, ◌<◌, slice_index, sym, ap, ◌∙◌, subst, arith}
use Rattle.pos_relocate.specs.Numbers.{numbers_of}
use Rattle.pos_relocate.proofs.BlockLemmas.{small_number}
use Rattle.pos_relocate.proofs.PointingLemmas.{point_small, same_point}
use Rattle.pos_relocate.proofs.blocks.pointed.Goals as goal

pub to_point-requires-clause-first_in_range : goal.to_point-requires-clause-first_in_range
to_point-requires-clause-first_in_range g c = small_number c.args.limit c.at-first.result (slice_index (numbers_of c.args.below.now) c.args.pair.left) c.requires.small c.at-first.ensures (c.requires.numbers.below c.args.pair.left c.requires.left)

pub to_point-requires-clause-second_in_range : goal.to_point-requires-clause-second_in_range
to_point-requires-clause-second_in_range g c = small_number c.args.limit c.at-second.result (slice_index (numbers_of c.args.below.now) c.args.pair.right) c.requires.small c.at-second.ensures (c.requires.numbers.below c.args.pair.right c.requires.right)

pub new-requires : goal.new-requires
new-requires g c =
    let below = c.requires.numbers.below in
    let left = slice_index (numbers_of c.args.below.now) c.args.pair.left in
    let right = slice_index (numbers_of c.args.below.now) c.args.pair.right in
    let small = point_small left right c.args.limit (λ e. c.if-first-second.false (c.at-first.ensures ∙ (e ∙ sym c.at-second.ensures))) (below c.args.pair.left c.requires.left) (below c.args.pair.right c.requires.right) in
    let is = same_point _ _ _ _ _ c.to_point.ensures.point c.at-first.ensures c.at-second.ensures in
    let exact = c.requires.exact in
    let first = small.0 in
    omega arith

pub returns-clause-ok : goal.returns-clause-ok
returns-clause-ok g c =
    c.new.ensures ∙ ap (λ (n : ℕ). let z : ℕ × ℕ = (n, c.args.pair.old) in z) (same_point _ _ _ _ _ c.to_point.ensures.point c.at-first.ensures c.at-second.ensures)
