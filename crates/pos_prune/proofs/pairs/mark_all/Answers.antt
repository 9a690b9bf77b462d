use Rattle.std.proofs.Common.{◌≡◌, ◌+◌, ◌<◌, ℕ, sym, ◌∙◌, subst, arith}
use Rattle.pos_edge.specs.declared.scratch.WorkFault.{WorkFault}
use Rattle.pos_marks.proofs.MarkLemmas.{reads_none}
use Rattle.pos_runs.specs.Runs.{pages_at}
use Rattle.pos_prune.specs.Passes.{HasMarked, IsPassFault, gives, gives_below}
use Rattle.pos_prune.proofs.PassLemmas.{fault_then, if_err, marked_none, marked_then}
use Rattle.pos_prune.proofs.pairs.mark_all.Goals as goal

pub loop-i-init : goal.loop-i-init
loop-i-init g c =
    let v = g.D.Disk.view c.args.disk.now in
    marked_none g.row.K 5 0 (gives_below (pages_at c.args.tables.now 6).count) c.args.tables.now c.args.below.now v (reads_none v) c.requires.unsealed

pub mark_pair-requires : goal.mark_pair-requires
mark_pair-requires g c =
    let now = c.loop-i.invariant in
    let ts = c.requires.stands in
    let p = c.requires.marks in
    let marks = now.pairs ts.0 p.0 ts.1 p.1 in
    let count = now.lists.count 6 in
    (omega arith, (c.requires.size, (omega arith, ((ts.0, now.stands ts.0 ts.1), ((marks.0, marks.1), (now.unsealed, (now.same.places ∙ c.requires.places ∙ sym (now.lists.count 5), omega arith)))))))

pub loop-i-preserved : goal.loop-i-preserved
loop-i-preserved g c =
    let all = (pages_at c.args.tables.now 6).count in
    let i = c.loop-i.i in
    let within : i < all = omega arith in
    marked_then g.row.K 5 0 i (i + 1) (gives_below all) (gives i) c.args.tables.now c.loop-i.tables c.mark_pair.new.tables c.args.below.now c.loop-i.below c.mark_pair.new.below
    (g.D.Disk.view c.args.disk.now) (g.D.Disk.view c.loop-i.disk) (g.D.Disk.view c.mark_pair.new.disk) (λ ts x h. h i within) c.loop-i.invariant c.in_ok-mark_pair.ensures.ok

pub returns-in_err-mark_pair-clause-fault : goal.returns-in_err-mark_pair-clause-fault
returns-in_err-mark_pair-clause-fault g c =
    let now = c.loop-i.invariant in
    let a = g.D.Disk.view c.args.disk.now in
    let b = g.D.Disk.view c.mark_pair.new.disk in
    let fault = c.in_err-mark_pair.field-0.0 in
    if_err (λ (x : WorkFault). IsPassFault g.row.K 5 c.args.tables.now x a b) c.from_residual.result fault c.from_residual.ensures.1
    (fault_then g.row.K 5 c.args.tables.now c.loop-i.tables fault a (g.D.Disk.view c.loop-i.disk) b now.only now.quiet now.lists now.stands c.in_err-mark_pair.ensures.fault)

pub returns-clause-ok : goal.returns-clause-ok
returns-clause-ok g c =
    let all = (pages_at c.args.tables.now 6).count in
    let done : c.loop-i.i ≡ all = omega arith in
    subst (λ (x : ℕ). HasMarked g.row.K 5 0 x (gives_below all) c.args.tables.now c.loop-i.tables c.args.below.now c.loop-i.below (g.D.Disk.view c.args.disk.now) (g.D.Disk.view c.loop-i.disk)) done c.loop-i.invariant
