use Rattle.std.proofs.Common.{◌≡◌, ◌+◌, ◌*◌, [], ◌∷◌, ◌++◌, sym, subst, arith, rules}
use Rattle.pos_lists.proofs.RankLemmas.{ranks_are_below}
use Rattle.pos_marks.specs.Bits.{has_bit}
use Rattle.pos_marks.proofs.BitLemmas.{CountedTo, counted_none, counted_sum, counted_more, counted_all}
use Rattle.pos_marks.proofs.counts.counts_of.Goals as goal

pub loop-block-init : goal.loop-block-init
loop-block-init c = counted_none c.args.bytes.now c.push.new.self.items (search rules)

pub overflow_add-ones : goal.overflow_add-ones
overflow_add-ones c =
    let sum = counted_sum c.args.bytes.now c.loop-block.block c.loop-block.ones c.ones_in-ones.result c.loop-block.counts.items (omega arith) c.loop-block.invariant c.ones_in-ones.ensures in
    let below = ranks_are_below (has_bit c.args.bytes.now) (4096 * (c.loop-block.block + 1)) in
    omega arith

pub loop-block-preserved : goal.loop-block-preserved
loop-block-preserved c =
    let more = counted_more c.args.bytes.now c.loop-block.block c.loop-block.ones c.ones_in-ones.result c.loop-block.counts.items (omega arith) c.loop-block.invariant c.ones_in-ones.ensures in
    let pushed : c.push-in-loop-block.new.self.items ≡ c.loop-block.counts.items ++ (c.loop-block.ones + c.ones_in-ones.result) ∷ [] = search rules in
    subst (CountedTo c.args.bytes.now (c.loop-block.block + 1) (c.loop-block.ones + c.ones_in-ones.result)) (sym pushed) more

pub returns-clause-ok : goal.returns-clause-ok
returns-clause-ok c = counted_all c.args.bytes.now c.loop-block.counts.items c.loop-block.block c.loop-block.ones (omega arith) c.loop-block.invariant
