use Rattle.std.proofs.Common.{◌+◌, ◌<◌, length, arith, sym, subst, List, ℕ}
use Rattle.pos_buckets.specs.PairsBelow.{point, ArePairsBelow}
use Rattle.pos_buckets.proofs.RunLemmas.{run-start, run-more, run-end}
use Rattle.pos_buckets.proofs.pairs.push_run.Goals as goal

pub loop-j-init : goal.loop-j-init
loop-j-init c = run-start c.args.left.now c.args.right.now c.args.i c.args.m c.args.target c.args.first _ (omega arith) c.requires.m c.requires.run c.requires.before

pub loop-j-preserved : goal.loop-j-preserved
loop-j-preserved c =
    subst (λ (ps : List (ℕ × ℕ)). ArePairsBelow c.args.left.now c.args.right.now (point c.args.i c.args.m (c.loop-j.j + 1)) ps) (sym c.in_ok-push.ensures)
    (run-more c.args.left.now c.args.right.now c.args.i c.args.m c.args.target c.args.first c.loop-j.j c.loop-j.pairs.items
    (omega arith) c.requires.m c.requires.inside c.loop-j-test.true c.requires.run (omega (arith, c.if-right-j.false)) c.loop-j.invariant)

pub returns : goal.returns
returns c =
    let within : c.args.first < length c.args.right.now = c.requires.run.inside in
    run-end c.args.left.now c.args.right.now c.args.i c.args.m c.args.target c.args.first c.loop-j.j _
    (omega arith) c.requires.m (omega arith) (omega arith) c.requires.run (λ lt. absurd (omega arith)) c.loop-j.invariant

pub returns-then-right-j : goal.returns-then-right-j
returns-then-right-j c =
    run-end c.args.left.now c.args.right.now c.args.i c.args.m c.args.target c.args.first c.loop-j.j _
    (omega arith) c.requires.m (omega arith) (omega arith) c.requires.run (λ lt. c.if-right-j.true) c.loop-j.invariant
