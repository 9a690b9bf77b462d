use Rattle.std.proofs.Common.{◌≡◌, ◌+◌, ◌-◌, ◌<◌, ℕ, suc, sym, ap, ◌∙◌, subst, arith}
use Rattle.std.proofs.lemmas.Bool.{true≢false}
use Rattle.pos_runs.specs.Runs.{pages_at}
use Rattle.pos_marks.proofs.MarkLemmas.{marked_reads}
use Rattle.pos_prune.proofs.PassLemmas.{pair_marked, pair_outside}
use Rattle.pos_prune.proofs.pairs.mark_pair.Goals as goal

pub returns-in-Some-clause-fault : goal.returns-in-Some-clause-fault
returns-in-Some-clause-fault g c =
    let got = c.in_ok-pair.ensures in
    let damage = c.in-Some.ensures in
    let up : suc c.args.level ≡ c.args.level + 2 - 1 = omega arith in
    let same : c.args.level + 1 - 1 ≡ c.args.level = omega arith in
    pair_outside g.row.K c.args.level c.args.i (c.args.level + 2 - 1) c.args.tables.now c.pair.new.self c.in_ok-pair.pair c.in-Some.damage c.count-limit.result (g.D.Disk.view c.args.disk.now) (g.D.Disk.view c.pair.new.disk)
    c.requires.level (sym up) (subst (λ (x : ℕ). c.args.i < (pages_at c.args.tables.now x).count) up c.requires.there) got.others got.read got.quiet got.value
    (c.count-limit.ensures ∙ ap (λ (x : ℕ). (pages_at c.pair.new.self x).count) same) (damage.record_at.0 ∙ c.file.ensures) damage.record_at.1 damage.range.0 damage.range.1 damage.range.2
    (λ both. true≢false (damage.none.1 both))

pub set-requires-clause-stands : goal.set-requires-clause-stands
set-requires-clause-stands g c =
    let p = c.requires.marks in
    (p.0, marked_reads c.args.below.now p.0 (g.D.Disk.view c.args.disk.now) (g.D.Disk.view c.pair.new.disk) c.in_ok-pair.ensures.read.only p.1)

pub set-requires-2-clause-stands : goal.set-requires-2-clause-stands
set-requires-2-clause-stands g c =
    let p = c.requires.marks in
    (_, c.set.ensures.marked p.0 (marked_reads c.args.below.now p.0 (g.D.Disk.view c.args.disk.now) (g.D.Disk.view c.pair.new.disk) c.in_ok-pair.ensures.read.only p.1))

pub returns-clause-ok : goal.returns-clause-ok
returns-clause-ok g c =
    let got = c.in_ok-pair.ensures in
    pair_marked g.row.K c.args.level c.args.i (c.args.level + 2 - 1) c.args.tables.now c.pair.new.self c.in_ok-pair.pair c.args.below.now c.set.new.self c.set-2.new.self
    (g.D.Disk.view c.args.disk.now) (g.D.Disk.view c.pair.new.disk) (g.D.Disk.view c.set.new.disk) (g.D.Disk.view c.set-2.new.disk)
    (omega arith) (ap g.D.Disk.view c.set.ensures.untouched) (ap g.D.Disk.view c.set-2.ensures.untouched) got.others got.read got.quiet got.stands got.value
    c.set.ensures.same c.set-2.ensures.same c.set-2.ensures.unsealed c.set.ensures.marked c.set-2.ensures.marked
