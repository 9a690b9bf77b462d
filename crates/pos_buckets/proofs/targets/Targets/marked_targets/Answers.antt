use Rattle.std.proofs.Common.{◌≡◌, ◌-◌, ◌<◌, ◌≤◌, length, get_or, ◌∙◌, ap, arith}
use Rattle.std.proofs.lemmas.List.{get_or_read}
use Rattle.pos_buckets.specs.Targets.{target_place}
use Rattle.pos_buckets.proofs.HitLemmas.{high-none, high-more, high-all, power_fits}
use Rattle.pos_buckets.proofs.targets.Targets.marked_targets.Goals as goal

pub loop-n-init : goal.loop-n-init
loop-n-init c = high-none c.args.parity c.args.place c.args.places.now.marks.items

pub overflow_mul-hits : goal.overflow_mul-hits
overflow_mul-hits c =
    let fits = power_fits c.loop-n.n (omega arith) in let below = c.loop-n.invariant.below in omega (arith, fits, below)

pub overflow_add-hits : goal.overflow_add-hits
overflow_add-hits c =
    let marks = c.args.places.now.marks.items in
    let inside : c.target-target.result < length marks = omega (arith, c.requires.flags.count) in
    let read : c.from.result ≡ get_or marks c.target-target.result 0 =
    c.from.ensures ∙ get_or_read marks c.target-target.result c.index.result.now inside c.index.ensures 0 in
    let flag = c.requires.flags.at c.target-target.result (omega arith) in
    let fits = power_fits c.loop-n.n (omega arith) in
    let below = c.loop-n.invariant.below in omega (arith, fits, below, read, flag)

pub loop-n-preserved : goal.loop-n-preserved
loop-n-preserved c =
    let marks = c.args.places.now.marks.items in
    let inside : c.target-target.result < length marks = omega (arith, c.requires.flags.count) in
    let read : c.from.result ≡ get_or marks c.target-target.result 0 =
    c.from.ensures ∙ get_or_read marks c.target-target.result c.index.result.now inside c.index.ensures 0 in
    let flag = c.requires.flags.at c.target-target.result (omega arith) in
    let small : c.from.result ≤ 1 = omega (arith, read, flag) in
    let is : c.from.result ≡ get_or marks (target_place c.args.parity c.args.place (63 - c.loop-n.n)) 0 =
    read ∙ ap (λ t. get_or marks t 0) c.target-target.ensures.value in
    high-more c.args.parity c.args.place marks c.loop-n.n c.loop-n.hits c.from.result (omega arith) small is c.loop-n.invariant

pub returns : goal.returns
returns c = high-all c.args.parity c.args.place c.args.places.now.marks.items c.loop-n.n c.loop-n.hits (omega arith) c.loop-n.invariant
