use Rattle.std.proofs.Common.{◌≡◌, ℕ, Err, ap, ◌∙◌, subst, lit<}
use Rattle.std.proofs.lemmas.Result.{err_from_is_err_and}
use Rattle.pos_edge.specs.declared.scratch.WorkFault.TheVariants.{Scratch}
use Rattle.pos_laws.proofs.Sound.{described_is_sound}
use Rattle.pos_relocate.specs.Passes.{IsLastAdded, IsPass}
use Rattle.pos_relocate.specs.Relocating.{AreRelocated}
use Rattle.pos_relocate.specs.Numbers.{numbers_of}
use Rattle.pos_relocate.proofs.PassLemmas.{on_ok, pass_exit, pass_then}
use Rattle.pos_relocate.proofs.LevelsLemmas.{added_stands, last_apart, last_can, last_few, never_twice, relocated, same_file_then, six_few}
use Rattle.pos_relocate.proofs.relocating.relocate_tables.Goals as goal

pub renumber_levels-requires : goal.renumber_levels-requires
renumber_levels-requires g c = (lit< tt, c.requires)

pub returns-in_err-places-clause-pass : goal.returns-in_err-places-clause-pass
returns-in_err-places-clause-pass g c =
    let e = err_from_is_err_and c.from_residual.result c.from_residual.ensures.1 in
    pass_exit c.args.writer.now.file c.from_residual.result e.0 c.in_err-places.field-0.0 (g.D.Disk.view c.args.disk.now) (g.D.Disk.view c.renumber_levels.new.disk) e.1 e.2 c.in_err-places.ensures.pass

pub returns-in_err-places-clause-damage : goal.returns-in_err-places-clause-damage
returns-in_err-places-clause-damage g c = λ damage is.
    let e = err_from_is_err_and c.from_residual.result c.from_residual.ensures.1 in
    let same : c.in_err-places.field-0.0 ≡ Scratch damage = (let x = e.1 in let y = e.2 in cc) in
    c.in_err-places.ensures.damage damage (ap (λ f. Err f) same)

pub returns-in_err-places-clause-never : goal.returns-in_err-places-clause-never
returns-in_err-places-clause-never g c = λ damage is ts id stands told described used.
    let e = err_from_is_err_and c.from_residual.result c.from_residual.ensures.1 in
    let same : c.in_err-places.field-0.0 ≡ Scratch damage = (let x = e.1 in let y = e.2 in cc) in
    never_twice ts id g.row.K c.args.tables damage described (c.in_err-places.ensures.damage damage (ap (λ f. Err f) same) ts stands told (described_is_sound ts id g.row.K described) used)

pub last-requires : goal.last-requires
last-requires g c =
    let k = g.row.K in
    let a = g.D.Disk.view c.args.disk.now in
    let b = g.D.Disk.view c.renumber_levels.new.disk in
    let got = c.in_ok-places.ensures in
    let few = six_few k c.args.m2 c.args.m3 c.args.m4 c.args.m5 c.args.m6 c.args.tables c.args.writer.now a c.requires in (
      lit< tt,
      (
        last_can k (numbers_of c.in_ok-places.places) c.args.tables c.renumber_levels.new.tables a b c.requires.size c.requires.stands few got.tables got.places,
        (
          last_few k c.args.tables c.renumber_levels.new.tables a b c.requires.stands few got.tables,
          (
            added_stands got.ok.lists c.args.writer.now c.renumber_levels.new.writer a b c.requires.standing got.ok.added,
            got.ok.empty,
          ),
        ),
      ),
    )

pub returns-clause-pass : goal.returns-clause-pass
returns-clause-pass g c =
    let a = g.D.Disk.view c.args.disk.now in
    let b = g.D.Disk.view c.renumber_levels.new.disk in
    let d = g.D.Disk.view c.last.new.disk in
    let got = c.in_ok-places.ensures in
    pass_then c.args.writer.now.file c.last.result a b d c.requires.standing.1.keeps.file.bytes.live got.pass.writes got.pass.quiet
    (subst (λ (f : ℕ). IsPass f c.last.result b d) got.same.file c.last.ensures.pass)

pub returns-clause-same : goal.returns-clause-same
returns-clause-same g c = same_file_then c.args.writer.now c.renumber_levels.new.writer c.last.new.writer c.in_ok-places.ensures.same c.last.ensures.same

pub returns-clause-ok : goal.returns-clause-ok
returns-clause-ok g c =
    let k = g.row.K in
    let a = g.D.Disk.view c.args.disk.now in
    let b = g.D.Disk.view c.renumber_levels.new.disk in
    let d = g.D.Disk.view c.last.new.disk in
    let got = c.in_ok-places.ensures in
    let places = numbers_of c.in_ok-places.places in
    on_ok (IsLastAdded k (numbers_of c.in_ok-places.places) c.renumber_levels.new.tables c.renumber_levels.new.writer c.last.new.writer b d)
    (AreRelocated k c.args.tables c.args.m2 c.args.m3 c.args.m4 c.args.m5 c.args.m6 c.args.writer.now c.last.new.writer a d) c.last.result
    (λ added. relocated k c.args.m2 c.args.m3 c.args.m4 c.args.m5 c.args.m6 places c.args.tables c.renumber_levels.new.tables c.args.writer.now c.renumber_levels.new.writer c.last.new.writer a b d
    (six_few k c.args.m2 c.args.m3 c.args.m4 c.args.m5 c.args.m6 c.args.tables c.args.writer.now a c.requires)
    c.requires.begun.count got.pass.writes got.tables got.ok
    added) c.last.ensures.ok

pub returns-clause-damage : goal.returns-clause-damage
returns-clause-damage g c = λ damage is ts stands told sound used.
    let got = c.in_ok-places.ensures in
    let numbered = got.ok.numbered ts stands told sound used in
    let apart = last_apart ts (numbers_of c.in_ok-places.places) got.ok.lists numbered in
    absurd (c.last.ensures.never damage is ts (got.tables.stand ts stands) (got.pass.writes.kept.frame.tells ∙ told) sound
    apart)

pub returns-clause-never : goal.returns-clause-never
returns-clause-never g c = λ damage is ts id stands told described used.
    let got = c.in_ok-places.ensures in
    let sound = described_is_sound ts id g.row.K described in
    let numbered = got.ok.numbered ts stands told sound used in
    let apart = last_apart ts (numbers_of c.in_ok-places.places) got.ok.lists numbered in
    c.last.ensures.never damage is ts (got.tables.stand ts stands) (got.pass.writes.kept.frame.tells ∙ told) sound
    apart
