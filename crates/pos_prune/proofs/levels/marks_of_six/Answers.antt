use Rattle.std.proofs.Common.{Err, ap, ◌∙◌, arith}
use Rattle.pos_edge.specs.declared.scratch.WorkFault.{WorkFault}
use Rattle.pos_marks.specs.Marks.{marks_file}
use Rattle.pos_runs.specs.Runs.{pages_at}
use Rattle.pos_prune.specs.Marking.{AreMarksMade}
use Rattle.pos_prune.specs.Passes.{gives_below}
use Rattle.pos_prune.proofs.MarkingLemmas.{answer_new, answer_pass, answer_seal, level_made, tables_made}
use Rattle.pos_prune.proofs.SeveralLemmas.{answer_well}
use Rattle.pos_prune.proofs.levels.marks_of_six.Goals as goal
use Rattle.pos_prune.proofs.levels.marks_of_six.Given.{Over}
use Rattle.pos_prune.proofs.levels.marks_of_six.Goals.{In_ok-seal}

pub mark_all-requires : goal.mark_all-requires
mark_all-requires g c =
    let s = c.args.scratch.now in
    let a = g.D.Disk.view c.args.disk.now in
    let b = g.D.Disk.view c.new.new.disk in
    let disk_a = g.met.D.Disk.is_disk c.args.disk.now in
    let disk_b = g.met.D.Disk.is_disk c.new.new.disk in
    let new = c.in_ok-marks.ensures in
    let ts = c.requires.stands in
    (omega arith, (c.requires.size, ((ts.0, tables_made g.row.K c.args.tables.now ts.0 s a b disk_a c.requires.files c.requires.room c.requires.left new.kept ts.1), ((_, new.new.marked), (new.new.unsealed, new.new.places ∙ c.count.ensures)))))

pub returns-in_err-marks-clause-answer : goal.returns-in_err-marks-clause-answer
returns-in_err-marks-clause-answer g c =
    let new = c.in_err-marks.ensures in
    answer_new g.row.K c.args.tables.now c.from_residual.result c.in_err-marks.field-0.0 c.args.scratch.now c.new.new.scratch (g.D.Disk.view c.args.disk.now) (g.D.Disk.view c.new.new.disk) c.from_residual.ensures.1 new.refused
    new.kept new.stands new.exists new.failed new.no_damage new.memory new.quiet

pub returns-in_err-mark_all-clause-answer : goal.returns-in_err-mark_all-clause-answer
returns-in_err-mark_all-clause-answer g c =
    let s = c.args.scratch.now in
    let a = g.D.Disk.view c.args.disk.now in
    let b = g.D.Disk.view c.new.new.disk in
    let new = c.in_ok-marks.ensures in
    answer_pass g.row.K 5 c.args.tables.now c.from_residual-in_err-mark_all.result c.in_err-mark_all.field-0.0 s c.new.new.scratch (marks_file c.in_ok-marks.marks) a b (g.D.Disk.view c.mark_all.new.disk) c.from_residual-in_err-mark_all.ensures.1
    (omega arith) (g.met.D.Disk.is_disk c.new.new.disk) new.made new.kept new.ok new.stands new.quiet
    (λ ts h. tables_made g.row.K c.args.tables.now ts s a b (g.met.D.Disk.is_disk c.args.disk.now) c.requires.files c.requires.room c.requires.left new.kept h) c.in_err-mark_all.ensures.fault

pub seal-requires-clause-stands : goal.seal-requires-clause-stands
seal-requires-clause-stands g c =
    let s = c.args.scratch.now in
    let a = g.D.Disk.view c.args.disk.now in
    let b = g.D.Disk.view c.new.new.disk in
    let disk_a = g.met.D.Disk.is_disk c.args.disk.now in
    let disk_b = g.met.D.Disk.is_disk c.new.new.disk in
    let new = c.in_ok-marks.ensures in
    let ts = c.requires.stands in
    let got = c.in_ok-mark_all.ensures.ok.pairs ts.0 _ (tables_made g.row.K c.args.tables.now ts.0 s a b disk_a c.requires.files c.requires.room c.requires.left new.kept ts.1) new.new.marked in
    (got.0, got.1)

-- the marks were made and sealed
made : (g : Over) (c : In_ok-seal g)
    → AreMarksMade g.row.K 5 (gives_below (pages_at c.args.tables.now 6).count) c.args.tables.now c.mark_all.new.tables c.seal.new.self c.args.scratch.now c.new.new.scratch (g.D.Disk.view c.args.disk.now) (g.D.Disk.view c.seal.new.disk)
made g c =
    let s = c.args.scratch.now in
    let a = g.D.Disk.view c.args.disk.now in
    let b = g.D.Disk.view c.new.new.disk in
    let p = g.D.Disk.view c.mark_all.new.disk in
    let disk_a = g.met.D.Disk.is_disk c.args.disk.now in
    let disk_b = g.met.D.Disk.is_disk c.new.new.disk in
    let d = g.D.Disk.view c.seal.new.disk in
    let new = c.in_ok-marks.ensures in
    let pass = c.in_ok-mark_all.ensures.ok in
    let seal = c.in_ok-seal.ensures in
    level_made g.row.K 5 (gives_below (pages_at c.args.tables.now 6).count) (gives_below (pages_at c.args.tables.now 6).count) c.args.tables.now c.mark_all.new.tables c.in_ok-marks.marks c.mark_all.new.below c.seal.new.self c.count.result s c.new.new.scratch a b p d
    (omega arith) c.requires.room disk_a disk_b c.requires.files c.requires.left c.count.ensures new.kept new.ok new.made new.stands new.new new.quiet
    (λ ts x h. h) pass seal.kept seal.ids seal.same seal.sealed seal.marked seal.quiet

pub returns-in_err-seal-clause-answer : goal.returns-in_err-seal-clause-answer
returns-in_err-seal-clause-answer g c =
    let a = g.D.Disk.view c.args.disk.now in
    let b = g.D.Disk.view c.new.new.disk in
    let new = c.in_ok-marks.ensures in
    let seal = c.in_err-seal.ensures in
    let fault = c.in_err-seal.field-0.0 in
    answer_seal g.row.K 5 (gives_below (pages_at c.args.tables.now 6).count) c.args.tables.now c.mark_all.new.tables c.from_residual-in_err-seal.result fault c.in_ok-marks.marks c.mark_all.new.below c.args.scratch.now c.new.new.scratch a b (g.D.Disk.view c.mark_all.new.disk) (g.D.Disk.view c.seal.new.disk) c.from_residual-in_err-seal.ensures.1
    (g.met.D.Disk.is_disk c.new.new.disk) new.made new.kept new.ok new.stands new.quiet c.in_ok-mark_all.ensures.ok seal.kept seal.ids
    seal.fault (λ e. seal.failed (ap (λ (x : WorkFault). Err x) e)) seal.quiet

pub returns-clause-answer : goal.returns-clause-answer
returns-clause-answer g c =
    answer_well g.row.K 1 c.args.tables.now c.mark_all.new.tables c.seal.new.self c.args.scratch.now c.new.new.scratch (g.D.Disk.view c.args.disk.now) (g.D.Disk.view c.seal.new.disk) (made g c).worked

pub returns-clause-made : goal.returns-clause-made
returns-clause-made g c = made g c
