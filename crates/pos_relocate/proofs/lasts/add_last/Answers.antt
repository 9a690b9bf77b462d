use Rattle.std.proofs.Common.{◌≡◌, map, Err, Ok, sym, ap, ◌∙◌, arith, lit<}
use Rattle.std.proofs.lemmas.Result.{err_from_is_err_and}
use Rattle.pos_edge.specs.declared.scratch.WorkFault.TheVariants.{Scratch}
use Rattle.pos_laws.specs.Renumbering.{firsts}
use Rattle.pos_layout.proofs.WorksLemmas.{stands_beside}
use Rattle.pos_edge.specs.Frame.{Nothing}
use Rattle.pos_relocate.specs.Numbers.{numbers_of}
use Rattle.pos_relocate.proofs.PassLemmas.{pass_done, pass_exit, pass_then}
use Rattle.pos_relocate.proofs.LastLemmas.{last_not_above}
use Rattle.pos_relocate.proofs.LastTableLemmas.{gathering_pass, last_count, last_never, last_table, standing_kept, standing_reads}
use Rattle.pos_relocate.proofs.lasts.add_last.Goals as goal

pub gather_last-requires : goal.gather_last-requires
gather_last-requires g c = (lit< tt, c.requires.can)

pub add_sorted-requires-clause-stands : goal.add_sorted-requires-clause-stands
add_sorted-requires-clause-stands g c = standing_reads c.args.writer.now (g.D.Disk.view c.args.disk.now) (g.D.Disk.view c.gather_last.new.disk) c.in_ok-entries.ensures.reading.only c.requires.stands

pub returns-in_err-entries-clause-pass : goal.returns-in_err-entries-clause-pass
returns-in_err-entries-clause-pass g c =
    let e = err_from_is_err_and c.from_residual.result c.from_residual.ensures.1 in
    let a = g.D.Disk.view c.args.disk.now in
    let b = g.D.Disk.view c.gather_last.new.disk in
    pass_exit c.args.writer.now.file c.from_residual.result e.0 c.in_err-entries.field-0.0 a b e.1 e.2
    (gathering_pass c.args.writer.now (Err c.in_err-entries.field-0.0) a b c.requires.stands c.in_err-entries.ensures.reading)

pub returns-in_err-entries-clause-never : goal.returns-in_err-entries-clause-never
returns-in_err-entries-clause-never g c = λ damage is ts stands told sound apart.
    let e = err_from_is_err_and c.from_residual.result c.from_residual.ensures.1 in
    let same : c.in_err-entries.field-0.0 ≡ Scratch damage = (let x = e.1 in let y = e.2 in cc) in
    let found = c.in_err-entries.ensures.damage damage (ap (λ f. Err f) same) ts stands told in
    let count = last_count g.row.K c.args.tables.now ts (g.D.Disk.view c.args.disk.now) stands in
    let long = c.requires.can.places_below.as_long in
    let inside = found.1 in
    last_not_above ts g.row.K found.0 _ damage found.2 (sound.below found.0 (omega arith))

pub returns-in_err-add_sorted-clause-pass : goal.returns-in_err-add_sorted-clause-pass
returns-in_err-add_sorted-clause-pass g c =
    let e = err_from_is_err_and c.from_residual-in_err-add_sorted.result c.from_residual-in_err-add_sorted.ensures.1 in
    let a = g.D.Disk.view c.args.disk.now in
    let b = g.D.Disk.view c.gather_last.new.disk in
    let d = g.D.Disk.view c.add_sorted.new.disk in
    let file = c.args.writer.now.file in
    let first = c.in_ok-entries.ensures.reading in
    pass_exit file c.from_residual-in_err-add_sorted.result e.0 c.in_err-add_sorted.field-0.0 a d e.1 e.2
    (pass_then file (Err c.in_err-add_sorted.field-0.0) a b d c.requires.stands.1.keeps.file.bytes.live (standing_kept c.args.writer.now a b first.only c.requires.stands) first.quiet c.in_err-add_sorted.ensures.pass)

pub returns-in_err-add_sorted-clause-never : goal.returns-in_err-add_sorted-clause-never
returns-in_err-add_sorted-clause-never g c = λ damage is ts stands told sound apart.
    let e = err_from_is_err_and c.from_residual-in_err-add_sorted.result c.from_residual-in_err-add_sorted.ensures.1 in
    let same : c.in_err-add_sorted.field-0.0 ≡ Scratch damage = (let x = e.1 in let y = e.2 in cc) in
    let found = c.in_err-add_sorted.ensures.damage damage (ap (λ f. Err f) same) in
    let count = last_count g.row.K c.args.tables.now ts (g.D.Disk.view c.args.disk.now) stands in
    let long = c.requires.can.places_below.as_long in
    last_never ts g.row.K _ (numbers_of c.args.places.now) (map g.P.Pointed.pair c.in_ok-entries.entries.items) _ _ damage (long ∙ sym count)
    (λ i l. c.requires.can.places_below.below i (omega arith)) apart c.in_ok-entries.ensures.listed (c.in_ok-entries.ensures.gathered ts stands told sound) found

pub returns-clause-pass : goal.returns-clause-pass
returns-clause-pass g c =
    let a = g.D.Disk.view c.args.disk.now in
    let b = g.D.Disk.view c.gather_last.new.disk in
    let d = g.D.Disk.view c.add_sorted.new.disk in
    let file = c.args.writer.now.file in
    let first = c.in_ok-entries.ensures.reading in
    let whole = pass_then file (Ok c.in_ok-add_sorted.field-0) a b d c.requires.stands.1.keeps.file.bytes.live (standing_kept c.args.writer.now a b first.only c.requires.stands) first.quiet c.in_ok-add_sorted.ensures.pass in
    pass_done file tt a d whole.writes whole.quiet

pub returns-clause-ok : goal.returns-clause-ok
returns-clause-ok g c =
    let a = g.D.Disk.view c.args.disk.now in
    let b = g.D.Disk.view c.gather_last.new.disk in
    let first = c.in_ok-entries.ensures in
    let table = c.in_ok-add_sorted.ensures.ok in
    let pointed = map g.P.Pointed.pair c.in_ok-add_sorted.field-0.items in
    record {
      lasts = firsts pointed;
      added = λ p s. table.added p (stands_beside c.args.writer.now p Nothing Nothing a b first.reading.only.kept (λ x. x) (λ n is x. x) s);
      seventh = λ ts stands told sound.
          let count = last_count g.row.K c.args.tables.now ts a stands in
          let long = c.requires.can.places_below.as_long in
          last_table ts g.row.K (numbers_of c.args.places.now) (map g.P.Pointed.pair c.in_ok-entries.entries.items) pointed (long ∙ sym count) (first.gathered ts stands told sound) table.permuted table.rise;
    }
