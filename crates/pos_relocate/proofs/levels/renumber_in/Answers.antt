use Rattle.std.proofs.Common.{◌≡◌, ℕ, ◌+◌, ◌-◌, ◌*◌, ◌/◌, ◌^◌, ◌≤◌, map, Err, Ok, sym, ap, ◌∙◌, subst, inl, inr, lit<}
use Rattle.std.proofs.lemmas.Result.{err_from_is_err_and}
use Rattle.pos_edge.specs.declared.scratch.WorkFault.TheVariants.{Scratch}
use Rattle.pos_runs.specs.Runs.{pages_at}
use Rattle.pos_runs.proofs.TablesLemmas.{same_then}
use Rattle.pos_relocate.specs.Passes.{AreBelow, AreListed}
use Rattle.pos_relocate.specs.Numbers.{numbers_of}
use Rattle.pos_relocate.proofs.PassLemmas.{pass_done, pass_exit, pass_then}
use Rattle.pos_relocate.proofs.LastTableLemmas.{gathering_pass, standing_kept, standing_reads}
use Rattle.pos_relocate.proofs.LevelLemmas.{can_wider, level_added, level_count, outside_now, point_twice, same_written}
use Rattle.pos_relocate.proofs.levels.renumber_in.Goals as goal

pub gather-requires : goal.gather-requires
gather-requires g c =
    let can = c.requires.can.can in
    (lit< tt, (can_wider g.row.K c.args.t c.args.limit (c.args.limit * (c.args.limit - 1) / 2) g.P.Pointed.bound (numbers_of c.args.below) c.args.tables.now (g.D.Disk.view c.args.disk.now) c.requires.exact can, c.requires.can.chooses))

pub number_least-requires-clause-listed : goal.number_least-requires-clause-listed
number_least-requires-clause-listed g c =
    let count : c.count-count.result ≡ (pages_at c.args.tables.now (c.args.t - 1)).count = c.count-count.ensures ∙ c.in_ok-entries.ensures.tables.counts (c.args.t - 1) in
    subst (λ (n : ℕ). AreListed n (2 ^ (2 * g.row.K + 2)) (map g.P.Pointed.pair c.in_ok-entries.entries.items)) (sym count) c.in_ok-entries.ensures.listed

pub number_least-requires-clause-few : goal.number_least-requires-clause-few
number_least-requires-clause-few g c =
    let count : c.count-count.result ≡ (pages_at c.args.tables.now (c.args.t - 1)).count = c.count-count.ensures ∙ c.in_ok-entries.ensures.tables.counts (c.args.t - 1) in
    subst (λ (n : ℕ). n ≤ 2 ^ (g.row.K + 1)) (sym count) c.requires.can.few

pub number_least-requires-clause-stands : goal.number_least-requires-clause-stands
number_least-requires-clause-stands g c = standing_reads c.args.writer.now (g.D.Disk.view c.args.disk.now) (g.D.Disk.view c.gather.new.disk) c.in_ok-entries.ensures.reading.only c.requires.can.standing

pub returns-in_err-entries-clause-pass : goal.returns-in_err-entries-clause-pass
returns-in_err-entries-clause-pass g c =
    let e = err_from_is_err_and c.from_residual.result c.from_residual.ensures.1 in
    let k = g.row.K in
    let t = c.args.t in
    let a = g.D.Disk.view c.args.disk.now in
    let b = g.D.Disk.view c.gather.new.disk in
    pass_exit c.args.writer.now.file c.from_residual.result e.0 c.in_err-entries.field-0.0 a b e.1 e.2
    (gathering_pass c.args.writer.now (Err c.in_err-entries.field-0.0) a b c.requires.can.standing c.in_err-entries.ensures.reading)

pub returns-in_err-entries-clause-damage : goal.returns-in_err-entries-clause-damage
returns-in_err-entries-clause-damage g c = λ damage is ts p stands chooses told.
    let e = err_from_is_err_and c.from_residual.result c.from_residual.ensures.1 in
    let same : c.in_err-entries.field-0.0 ≡ Scratch damage = (let x = e.1 in let y = e.2 in cc) in
    let found = c.in_err-entries.ensures.damage damage (ap (λ f. Err f) same) ts p stands chooses told in
    inl found

pub returns-in_err-places-clause-pass : goal.returns-in_err-places-clause-pass
returns-in_err-places-clause-pass g c =
    let e = err_from_is_err_and c.from_residual-in_err-places.result c.from_residual-in_err-places.ensures.1 in
    let k = g.row.K in
    let t = c.args.t in
    let a = g.D.Disk.view c.args.disk.now in
    let b = g.D.Disk.view c.gather.new.disk in
    let d = g.D.Disk.view c.number_least.new.disk in
    let file = c.args.writer.now.file in
    let first = c.in_ok-entries.ensures.reading in
    pass_exit file c.from_residual-in_err-places.result e.0 c.in_err-places.field-0.0 a d e.1 e.2
    (pass_then file (Err c.in_err-places.field-0.0) a b d c.requires.can.standing.1.keeps.file.bytes.live (standing_kept c.args.writer.now a b first.only c.requires.can.standing) first.quiet c.in_err-places.ensures.pass)

pub returns-in_err-places-clause-damage : goal.returns-in_err-places-clause-damage
returns-in_err-places-clause-damage g c = λ damage is ts p stands chooses told.
    let e = err_from_is_err_and c.from_residual-in_err-places.result c.from_residual-in_err-places.ensures.1 in
    let same : c.in_err-places.field-0.0 ≡ Scratch damage = (let x = e.1 in let y = e.2 in cc) in
    let found = c.in_err-places.ensures.damage damage (ap (λ f. Err f) same) in
    let can = c.requires.can.can in
    let k = g.row.K in
    let t = c.args.t in
    let first = c.in_ok-entries.ensures in
    let file : c.file.result ≡ (pages_at c.args.tables.now (t - 1)).number = c.file.ensures ∙ first.tables.numbers (t - 1) in
    inr (point_twice ts k (t - 2) (pages_at c.args.tables.now (t - 1)).count (2 ^ (2 * k + 2)) p (numbers_of c.args.below) (map g.P.Pointed.pair c.in_ok-entries.entries.items) c.file.result _ damage
    (level_count k t c.args.tables.now ts (g.D.Disk.view c.args.disk.now) can.first can.last stands) first.listed (first.gathered ts p stands chooses told) found file)

pub returns-clause-pass : goal.returns-clause-pass
returns-clause-pass g c =
    let k = g.row.K in
    let t = c.args.t in
    let a = g.D.Disk.view c.args.disk.now in
    let b = g.D.Disk.view c.gather.new.disk in
    let d = g.D.Disk.view c.number_least.new.disk in
    let file = c.args.writer.now.file in
    let first = c.in_ok-entries.ensures.reading in
    let whole = pass_then file (Ok c.in_ok-places.places) a b d c.requires.can.standing.1.keeps.file.bytes.live (standing_kept c.args.writer.now a b first.only c.requires.can.standing) first.quiet c.in_ok-places.ensures.pass in
    pass_done file c.in_ok-places.places a d whole.writes whole.quiet

pub returns-clause-tables : goal.returns-clause-tables
returns-clause-tables g c =
    let k = g.row.K in
    let t = c.args.t in
    let a = g.D.Disk.view c.args.disk.now in
    let b = g.D.Disk.view c.gather.new.disk in
    let d = g.D.Disk.view c.number_least.new.disk in
    let file = c.args.writer.now.file in
    let same = c.in_ok-entries.ensures.tables in
    let out = outside_now k file c.args.tables.now c.gather.new.tables a b b same c.in_ok-entries.ensures.reading.only.ids c.requires.can.outside in
    same_then k c.args.tables.now c.gather.new.tables c.gather.new.tables a b d same (same_written k file c.gather.new.tables b d c.in_ok-places.ensures.pass.writes out)

pub returns-clause-places : goal.returns-clause-places
returns-clause-places g c =
    let count : c.count-count.result ≡ (pages_at c.args.tables.now (c.args.t - 1)).count = c.count-count.ensures ∙ c.in_ok-entries.ensures.tables.counts (c.args.t - 1) in
    subst (λ (n : ℕ). AreBelow n n (numbers_of c.in_ok-places.places)) count c.in_ok-places.ensures.places

pub returns-clause-ok : goal.returns-clause-ok
returns-clause-ok g c =
    let k = g.row.K in
    let t = c.args.t in
    let a = g.D.Disk.view c.args.disk.now in
    let b = g.D.Disk.view c.gather.new.disk in
    let d = g.D.Disk.view c.number_least.new.disk in
    let file = c.args.writer.now.file in
    let can = c.requires.can.can in
    level_added k t c.args.limit c.args.chosen (numbers_of c.args.below) (numbers_of c.in_ok-places.places) (map g.P.Pointed.pair c.in_ok-entries.entries.items) c.args.tables.now c.args.writer.now c.number_least.new.writer a b d
    can c.in_ok-entries.ensures.reading.only c.in_ok-places.ensures.ok c.in_ok-entries.ensures.gathered c.in_ok-entries.ensures.points
