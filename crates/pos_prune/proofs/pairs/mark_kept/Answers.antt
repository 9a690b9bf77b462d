use Rattle.std.proofs.Common.{◌≡◌, ◌+◌, ◌-◌, ℕ, suc, sym, ap, ◌∙◌, subst, arith}
use Rattle.pos_edge.specs.declared.scratch.WorkFault.{WorkFault}
use Rattle.pos_runs.specs.Runs.{pages_at}
use Rattle.pos_prune.specs.Passes.{HasMarked, IsPassFault, is_marked}
use Rattle.pos_prune.proofs.PassLemmas.{asked_then, fault_then, if_err, marked_then}
use Rattle.pos_prune.proofs.pairs.mark_kept.Goals as goal

pub mark_where_kept-requires : goal.mark_where_kept-requires
mark_where_kept-requires g c =
    let now = c.loop-i.invariant.pairs in
    let asked = c.loop-i.invariant.asked in
    let ts = c.requires.stands in
    let p = c.requires.marks in
    let u = c.requires.above in
    let marks = now.pairs ts.0 p.0 ts.1 p.1 in
    let up : c.args.level + 2 - 1 ≡ suc c.args.level = omega arith in
    let all : c.count-i-end.result ≡ (pages_at c.args.tables.now (suc c.args.level)).count = c.count-i-end.ensures ∙ ap (λ (x : ℕ). (pages_at c.args.tables.now x).count) up in
    let count = now.lists.count (suc c.args.level) in (
      omega arith,
      (
        c.requires.size,
        (
          c.requires.level,
          (
            (ts.0, now.stands ts.0 ts.1),
            (
              (marks.0, marks.1),
              (
                now.unsealed,
                (
                  now.same.places ∙ c.requires.places ∙ sym (now.lists.count c.args.level),
                  (
                    omega arith,
                    ((u.0, asked.marked u.0 u.1), (asked.sealed, asked.same.places ∙ c.requires.above_places ∙ sym count)),
                  ),
                ),
              ),
            ),
          ),
        ),
      ),
    )

pub loop-i-preserved : goal.loop-i-preserved
loop-i-preserved g c =
    let i = c.loop-i.i in
    let a = g.D.Disk.view c.args.disk.now in
    let b = g.D.Disk.view c.loop-i.disk in
    let d = g.D.Disk.view c.mark_where_kept.new.disk in
    let asked = c.loop-i.invariant.asked in
    let now = c.in_ok-mark_where_kept.ensures in
    record {
      pairs = marked_then g.row.K c.args.level 0 i (i + 1) (is_marked c.args.above.now a) (is_marked c.loop-i.above b) c.args.tables.now c.loop-i.tables c.mark_where_kept.new.tables c.args.below.now c.loop-i.below c.mark_where_kept.new.below
          a b d (λ ts x h. asked.marked x h) c.loop-i.invariant.pairs now.ok;
      asked = asked_then c.args.above.now c.loop-i.above c.mark_where_kept.new.above a b d asked now.asked;
    }

pub returns-in_err-mark_where_kept-clause-fault : goal.returns-in_err-mark_where_kept-clause-fault
returns-in_err-mark_where_kept-clause-fault g c =
    let now = c.loop-i.invariant.pairs in
    let a = g.D.Disk.view c.args.disk.now in
    let b = g.D.Disk.view c.mark_where_kept.new.disk in
    let fault = c.in_err-mark_where_kept.field-0.0 in
    if_err (λ (x : WorkFault). IsPassFault g.row.K c.args.level c.args.tables.now x a b) c.from_residual.result fault c.from_residual.ensures.1
    (fault_then g.row.K c.args.level c.args.tables.now c.loop-i.tables fault a (g.D.Disk.view c.loop-i.disk) b now.only now.quiet now.lists now.stands c.in_err-mark_where_kept.ensures.fault)

pub returns-clause-ok : goal.returns-clause-ok
returns-clause-ok g c =
    let a = g.D.Disk.view c.args.disk.now in
    let up : c.args.level + 2 - 1 ≡ suc c.args.level = omega arith in
    let all : c.count-i-end.result ≡ (pages_at c.args.tables.now (suc c.args.level)).count = c.count-i-end.ensures ∙ ap (λ (x : ℕ). (pages_at c.args.tables.now x).count) up in
    let done : c.loop-i.i ≡ (pages_at c.args.tables.now (suc c.args.level)).count = omega arith in
    subst (λ (x : ℕ). HasMarked g.row.K c.args.level 0 x (is_marked c.args.above.now a) c.args.tables.now c.loop-i.tables c.args.below.now c.loop-i.below a (g.D.Disk.view c.loop-i.disk)) done c.loop-i.invariant.pairs
