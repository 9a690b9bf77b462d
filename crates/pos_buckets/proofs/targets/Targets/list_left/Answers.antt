use Rattle.std.proofs.Common.{◌≡◌, ◌+◌, ◌%◌, get_or, subst, arith, rules, ℕ, Fits, w64}
use Rattle.std.proofs.lemmas.List.{get_or_read}
use Rattle.std.proofs.lemmas.Nat.Bits.{bit_at-trailing_zeros}
use Rattle.std.specs.Int.{trailing_zeros}
use Rattle.pos_tuple.specs.Match.{bucket}
use Rattle.pos_buckets.specs.Targets.{target_place}
use Rattle.pos_buckets.proofs.RunLemmas.{target-run}
use Rattle.pos_buckets.proofs.HitLemmas.{left-start, left-marked, left-until, left-more, left-end, cleared-smaller}
use Rattle.pos_buckets.proofs.targets.Targets.list_left.Goals as goal

pub loop-hits-init : goal.loop-hits-init
loop-hits-init c =
    left-start c.args.left.now c.args.right.now c.args.places.now.marks.items c.args.i c.marked_targets-hits.result _
    c.marked_targets-hits.ensures c.requires.before

pub loop-hits-smaller : goal.loop-hits-smaller
loop-hits-smaller c =
    let lowest = bit_at-trailing_zeros w64 c.loop-hits.hits (omega arith) (search rules) in
    cleared-smaller c.loop-hits.hits (trailing_zeros w64 c.loop-hits.hits) lowest.0 lowest.1

pub loop-hits-preserved : goal.loop-hits-preserved
loop-hits-preserved c =
    let lowest = bit_at-trailing_zeros w64 c.loop-hits.hits (omega arith) (search rules) in
    left-more c.args.left.now c.args.right.now c.args.places.now.marks.items c.args.places.now.firsts.items c.args.base c.args.i
    (omega arith) c.requires.inside c.requires.beside c.requires.marked
    c.loop-hits.hits (trailing_zeros w64 c.loop-hits.hits) c.loop-hits.pairs.items _ lowest.0 lowest.2 lowest.1 c.loop-hits.invariant
    c.in_ok-push_run.ensures

pub push_run-requires-clause-m : goal.push_run-requires-clause-m
push_run-requires-clause-m c =
    let lowest = bit_at-trailing_zeros w64 c.loop-hits.hits (omega arith) (search rules) in lowest.0

pub push_run-requires-clause-before : goal.push_run-requires-clause-before
push_run-requires-clause-before c =
    let lowest = bit_at-trailing_zeros w64 c.loop-hits.hits (omega arith) (search rules) in
    left-until c.args.left.now c.args.right.now c.args.places.now.marks.items c.args.places.now.firsts.items c.args.base c.args.i
    (omega arith) c.requires.inside c.requires.beside c.requires.marked
    c.loop-hits.hits (trailing_zeros w64 c.loop-hits.hits) c.loop-hits.pairs.items (omega (arith, lowest.0)) lowest.2 (λ lt. lowest.1)
    c.loop-hits.invariant

pub push_run-requires-clause-run : goal.push_run-requires-clause-run
push_run-requires-clause-run c =
    let marks = c.args.places.now.marks.items in
    let firsts = c.args.places.now.firsts.items in
    let lowest = bit_at-trailing_zeros w64 c.loop-hits.hits (omega arith) (search rules) in
    let first : c.index.result.now ≡ get_or firsts c.target-target.result 0 =
    get_or_read firsts c.target-target.result c.index.result.now (omega (arith, c.requires.marked.room.firsts_count)) c.index.ensures 0 in
    let there =
    left-marked c.args.left.now c.args.right.now marks c.args.i c.loop-hits.hits (trailing_zeros w64 c.loop-hits.hits) c.loop-hits.pairs.items
    lowest.0 lowest.1 c.loop-hits.invariant
    in
    let run =
    target-run c.args.left.now c.args.right.now marks firsts c.args.base c.args.i (trailing_zeros w64 c.loop-hits.hits)
    c.requires.inside c.requires.beside c.requires.marked there
    in rw (first, c.target-target.ensures.value) run

pub returns : goal.returns
returns c =
    left-end c.args.left.now c.args.right.now c.args.places.now.marks.items c.args.places.now.firsts.items c.args.base c.args.i
    (omega arith) c.requires.inside c.requires.beside c.requires.marked c.loop-hits.hits _ (omega arith) c.loop-hits.invariant

pub target-target-requires-clause-m : goal.target-target-requires-clause-m
target-target-requires-clause-m c =
    let lowest = bit_at-trailing_zeros w64 c.loop-hits.hits (omega arith) (search rules) in lowest.0

pub marked_targets-hits-requires-clause-flags : goal.marked_targets-hits-requires-clause-flags
marked_targets-hits-requires-clause-flags c = c.requires.marked.flags

pub overflow_add-base : goal.overflow_add-base
overflow_add-base c =
    let marks = c.args.places.now.marks.items in
    let firsts = c.args.places.now.firsts.items in
    let lowest = bit_at-trailing_zeros w64 c.loop-hits.hits (omega arith) (search rules) in
    let there =
    left-marked c.args.left.now c.args.right.now marks c.args.i c.loop-hits.hits (trailing_zeros w64 c.loop-hits.hits) c.loop-hits.pairs.items
    lowest.0 lowest.1 c.loop-hits.invariant
    in
    let run =
    target-run c.args.left.now c.args.right.now marks firsts c.args.base c.args.i (trailing_zeros w64 c.loop-hits.hits)
    c.requires.inside c.requires.beside c.requires.marked there
    in
    let place : ℕ =
    target_place (bucket (get_or c.args.left.now c.args.i 0) % 2) (get_or c.args.left.now c.args.i 0 % 15113) (trailing_zeros w64 c.loop-hits.hits) in
    let first_is : get_or c.args.right.now (get_or firsts place 0) 0 ≡ c.args.base + place = run.first_is in
    let fits : Fits w64 (c.args.base + place) = subst (λ x. Fits w64 x) first_is (c.type_inv.right (get_or firsts place 0)) in
    rw c.target-target.ensures.value fits
