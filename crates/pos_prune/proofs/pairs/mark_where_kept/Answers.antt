use Rattle.std.proofs.Common.{sym, ◌∙◌, arith}
use Rattle.pos_marks.proofs.MarkLemmas.{marked_reads}
use Rattle.pos_runs.proofs.TablesLemmas.{tables-read}
use Rattle.pos_edge.specs.declared.scratch.WorkFault.{WorkFault}
use Rattle.pos_prune.specs.Passes.{IsPassFault}
use Rattle.pos_prune.proofs.PassLemmas.{asked_read, fault_then, if_err, lists_none, passed_on, passed_over}
use Rattle.pos_prune.proofs.pairs.mark_where_kept.Goals as goal

pub returns-then-not-branch-clause-ok : goal.returns-then-not-branch-clause-ok
returns-then-not-branch-clause-ok g c =
    let had = c.in_ok-has.ensures in
    passed_over g.row.K c.args.level c.args.i c.args.tables.now c.args.above.now c.args.below.now (g.D.Disk.view c.args.disk.now) (g.D.Disk.view c.has.new.disk)
    had.only_reads had.quiet c.requires.unsealed (λ u h tells. sym (had.value u h tells) ∙ c.if-not-branch.true)

pub mark_pair-requires : goal.mark_pair-requires
mark_pair-requires g c =
    let a = g.D.Disk.view c.args.disk.now in
    let b = g.D.Disk.view c.has.new.disk in
    let had = c.in_ok-has.ensures in
    let ts = c.requires.stands in
    let p = c.requires.marks in (
      omega arith,
      (
        c.requires.size,
        (
          c.requires.level,
          (
            (ts.0, tables-read g.row.K c.args.tables.now ts.0 a b had.only_reads ts.1),
            ((p.0, marked_reads c.args.below.now p.0 a b had.only_reads p.1), (c.requires.unsealed, (c.requires.places, c.requires.there))),
          ),
        ),
      ),
    )

pub returns-in_err-mark_pair-clause-fault : goal.returns-in_err-mark_pair-clause-fault
returns-in_err-mark_pair-clause-fault g c =
    let had = c.in_ok-has.ensures in
    let a = g.D.Disk.view c.args.disk.now in
    let b = g.D.Disk.view c.has.new.disk in
    let fault = c.in_err-mark_pair.field-0.0 in
    if_err (λ (x : WorkFault). IsPassFault g.row.K c.args.level c.args.tables.now x a (g.D.Disk.view c.mark_pair.new.disk)) c.from_residual-in_err-mark_pair.result fault c.from_residual-in_err-mark_pair.ensures.1
    (fault_then g.row.K c.args.level c.args.tables.now c.args.tables.now fault a b (g.D.Disk.view c.mark_pair.new.disk)
    had.only_reads had.quiet (lists_none c.args.tables.now) (λ ts h. tables-read g.row.K c.args.tables.now ts a b had.only_reads h) c.in_err-mark_pair.ensures.fault)

pub returns-clause-ok : goal.returns-clause-ok
returns-clause-ok g c =
    let had = c.in_ok-has.ensures in
    passed_on g.row.K c.args.level c.args.i c.args.tables.now c.mark_pair.new.tables c.args.above.now c.args.below.now c.mark_pair.new.below (g.D.Disk.view c.args.disk.now) (g.D.Disk.view c.has.new.disk) (g.D.Disk.view c.mark_pair.new.disk)
    had.only_reads had.quiet (λ u h tells. sym (had.value u h tells) ∙ c.if-not-branch.false) c.in_ok-mark_pair.ensures.ok

pub returns-clause-asked : goal.returns-clause-asked
returns-clause-asked g c =
    let had = c.in_ok-has.ensures in
    asked_read c.args.above.now c.has.new.self (g.D.Disk.view c.args.disk.now) (g.D.Disk.view c.has.new.disk) (g.D.Disk.view c.mark_pair.new.disk)
    (record { same = had.same; sealed = had.sealed; marked = had.marked }) c.in_ok-mark_pair.ensures.ok.only
