use Rattle.std.proofs.Common.{◌≡◌, ◌+◌, ◌-◌, ℕ, Err, sym, ap, ◌∙◌, subst, arith}
use Rattle.pos_edge.specs.Calls.{IsCreated}
use Rattle.pos_edge.specs.ScratchNames.{next_name}
use Rattle.pos_edge.specs.declared.scratch.WorkFault.{WorkFault}
use Rattle.pos_marks.specs.Marks.{marks_file}
use Rattle.pos_runs.specs.Runs.{pages_at}
use Rattle.pos_prune.specs.Marking.{AreMarksMade}
use Rattle.pos_prune.specs.Passes.{is_marked}
use Rattle.pos_prune.proofs.MarkingLemmas.{above_asked, answer_new, answer_pass, answer_seal, level_made, marks_made, tables_made}
use Rattle.pos_prune.proofs.SeveralLemmas.{answer_well}
use Rattle.pos_prune.proofs.levels.marks_below.Goals as goal
use Rattle.pos_prune.proofs.levels.marks_below.Given.{Over}
use Rattle.pos_prune.proofs.levels.marks_below.Goals.{In_ok-seal}

pub mark_kept-requires : goal.mark_kept-requires
mark_kept-requires g c =
    let s = c.args.scratch.now in
    let a = g.D.Disk.view c.args.disk.now in
    let b = g.D.Disk.view c.new.new.disk in
    let disk_a = g.met.D.Disk.is_disk c.args.disk.now in
    let disk_b = g.met.D.Disk.is_disk c.new.new.disk in
    let same : c.args.level + 1 - 1 ≡ c.args.level = omega arith in
    let new = c.in_ok-marks.ensures in
    let ts = c.requires.stands in
    let u = c.requires.above in
    (omega arith, (c.requires.size, (c.requires.level, ((ts.0, tables_made g.row.K c.args.tables.now ts.0 s a b disk_a c.requires.files c.requires.room c.requires.left new.kept ts.1), ((_, new.new.marked), (new.new.unsealed, (new.new.places ∙ (c.count.ensures ∙ ap (λ (x : ℕ). (pages_at c.args.tables.now x).count) same), ((u.0, marks_made c.args.above.now u.0 s a b disk_a c.requires.files c.requires.room c.requires.above_left new.kept u.1), (c.requires.sealed, c.requires.above_places)))))))))

pub returns-in_err-marks-clause-answer : goal.returns-in_err-marks-clause-answer
returns-in_err-marks-clause-answer g c =
    let new = c.in_err-marks.ensures in
    answer_new g.row.K c.args.tables.now c.from_residual.result c.in_err-marks.field-0.0 c.args.scratch.now c.new.new.scratch (g.D.Disk.view c.args.disk.now) (g.D.Disk.view c.new.new.disk) c.from_residual.ensures.1 new.refused
    new.kept new.stands new.exists new.failed new.no_damage new.memory new.quiet

pub returns-in_err-mark_kept-clause-answer : goal.returns-in_err-mark_kept-clause-answer
returns-in_err-mark_kept-clause-answer g c =
    let s = c.args.scratch.now in
    let a = g.D.Disk.view c.args.disk.now in
    let b = g.D.Disk.view c.new.new.disk in
    let new = c.in_ok-marks.ensures in
    answer_pass g.row.K c.args.level c.args.tables.now c.from_residual-in_err-mark_kept.result c.in_err-mark_kept.field-0.0 s c.new.new.scratch (marks_file c.in_ok-marks.marks) a b (g.D.Disk.view c.mark_kept.new.disk) c.from_residual-in_err-mark_kept.ensures.1
    c.requires.level (g.met.D.Disk.is_disk c.new.new.disk) new.made new.kept new.ok new.stands new.quiet
    (λ ts h. tables_made g.row.K c.args.tables.now ts s a b (g.met.D.Disk.is_disk c.args.disk.now) c.requires.files c.requires.room c.requires.left new.kept h) c.in_err-mark_kept.ensures.fault

pub seal-requires-clause-stands : goal.seal-requires-clause-stands
seal-requires-clause-stands g c =
    let s = c.args.scratch.now in
    let a = g.D.Disk.view c.args.disk.now in
    let b = g.D.Disk.view c.new.new.disk in
    let disk_a = g.met.D.Disk.is_disk c.args.disk.now in
    let disk_b = g.met.D.Disk.is_disk c.new.new.disk in
    let new = c.in_ok-marks.ensures in
    let ts = c.requires.stands in
    let got = c.in_ok-mark_kept.ensures.ok.pairs ts.0 _ (tables_made g.row.K c.args.tables.now ts.0 s a b disk_a c.requires.files c.requires.room c.requires.left new.kept ts.1) new.new.marked in
    (got.0, got.1)

-- the marks were made and sealed
made : (g : Over) (c : In_ok-seal g)
    → AreMarksMade g.row.K c.args.level (is_marked c.args.above.now (g.D.Disk.view c.args.disk.now)) c.args.tables.now c.mark_kept.new.tables c.seal.new.self c.args.scratch.now c.new.new.scratch (g.D.Disk.view c.args.disk.now) (g.D.Disk.view c.seal.new.disk)
made g c =
    let s = c.args.scratch.now in
    let a = g.D.Disk.view c.args.disk.now in
    let b = g.D.Disk.view c.new.new.disk in
    let p = g.D.Disk.view c.mark_kept.new.disk in
    let disk_a = g.met.D.Disk.is_disk c.args.disk.now in
    let disk_b = g.met.D.Disk.is_disk c.new.new.disk in
    let same : c.args.level + 1 - 1 ≡ c.args.level = omega arith in
    let d = g.D.Disk.view c.seal.new.disk in
    let new = c.in_ok-marks.ensures in
    let pass = c.in_ok-mark_kept.ensures.ok in
    let seal = c.in_ok-seal.ensures in
    level_made g.row.K c.args.level (is_marked c.args.above.now a) (is_marked c.args.above.now b) c.args.tables.now c.mark_kept.new.tables c.in_ok-marks.marks c.mark_kept.new.below c.seal.new.self c.count.result s c.new.new.scratch a b p d
    c.requires.level c.requires.room disk_a disk_b c.requires.files c.requires.left (c.count.ensures ∙ ap (λ (x : ℕ). (pages_at c.args.tables.now x).count) same) new.kept new.ok new.made new.stands new.new new.quiet
    (λ ts x h. marks_made c.args.above.now x s a b disk_a c.requires.files c.requires.room c.requires.above_left new.kept h) pass seal.kept seal.ids seal.same seal.sealed seal.marked seal.quiet

pub returns-in_err-seal-clause-answer : goal.returns-in_err-seal-clause-answer
returns-in_err-seal-clause-answer g c =
    let a = g.D.Disk.view c.args.disk.now in
    let b = g.D.Disk.view c.new.new.disk in
    let new = c.in_ok-marks.ensures in
    let seal = c.in_err-seal.ensures in
    let fault = c.in_err-seal.field-0.0 in
    answer_seal g.row.K c.args.level (is_marked c.args.above.now b) c.args.tables.now c.mark_kept.new.tables c.from_residual-in_err-seal.result fault c.in_ok-marks.marks c.mark_kept.new.below c.args.scratch.now c.new.new.scratch a b (g.D.Disk.view c.mark_kept.new.disk) (g.D.Disk.view c.seal.new.disk) c.from_residual-in_err-seal.ensures.1
    (g.met.D.Disk.is_disk c.new.new.disk) new.made new.kept new.ok new.stands new.quiet c.in_ok-mark_kept.ensures.ok seal.kept seal.ids
    seal.fault (λ e. seal.failed (ap (λ (x : WorkFault). Err x) e)) seal.quiet

pub returns-clause-answer : goal.returns-clause-answer
returns-clause-answer g c =
    answer_well g.row.K 1 c.args.tables.now c.mark_kept.new.tables c.seal.new.self c.args.scratch.now c.new.new.scratch (g.D.Disk.view c.args.disk.now) (g.D.Disk.view c.seal.new.disk) (made g c).worked

pub returns-clause-made : goal.returns-clause-made
returns-clause-made g c = made g c

pub returns-clause-asked : goal.returns-clause-asked
returns-clause-asked g c =
    let s = c.args.scratch.now in
    let a = g.D.Disk.view c.args.disk.now in
    let b = g.D.Disk.view c.new.new.disk in
    let p = g.D.Disk.view c.mark_kept.new.disk in
    let disk_a = g.met.D.Disk.is_disk c.args.disk.now in
    let disk_b = g.met.D.Disk.is_disk c.new.new.disk in
    let d = g.D.Disk.view c.seal.new.disk in
    let new = c.in_ok-marks.ensures in
    let pass = c.in_ok-mark_kept.ensures in
    above_asked c.args.above.now c.mark_kept.new.above (marks_file c.mark_kept.new.below) s a b p d disk_a disk_b c.requires.files c.requires.room c.requires.above_left new.kept
    (subst (λ (f : ℕ). IsCreated (next_name s) f a b) (sym pass.ok.same.file) new.ok) pass.asked pass.ok.only c.in_ok-seal.ensures.kept
