use Rattle.std.proofs.Common.{◌≡◌, ◌+◌, ◌-◌, ◌*◌, ◌^◌, ◌++◌, length, Err, sym, ap, ◌∙◌, arith, lit<}
use Rattle.std.proofs.lemmas.Result.{err_from_is_err_and}
use Rattle.pos_edge.specs.declared.scratch.WorkFault.TheVariants.{Scratch}
use Rattle.pos_laws.specs.Renumbering.{point_at}
use Rattle.std.specs.Prelude.{slice_index}
use Rattle.pos_runs.specs.Runs.{pages_at}
use Rattle.pos_runs.proofs.TablesLemmas.{same_beside, same_then, tables-read}
use Rattle.pos_relocate.specs.Numbers.{numbers_of}
use Rattle.pos_relocate.specs.Blocks.{pointed_of}
use Rattle.pos_relocate.proofs.BlockLemmas.{gathered_unpacked, inside_unpacked, listed_unpacked, of_unpacked, place_inside, unpack_same}
use Rattle.pos_relocate.proofs.GatheringLemmas.{chooses_beside, gathered_passed, gathering_done, gathering_exit, gathering_spent, gathering_then, listed_passed, reads_then, spent_no_damage}
use Rattle.pos_relocate.proofs.blocks.unpack_place.Goals as goal

pub has-requires : goal.has-requires
has-requires g c = ((pages_at c.args.tables.now (c.args.t - 1)).count, c.requires.chooses.0, c.requires.chooses.1, c.requires.there)

pub returns-in_err-is_chosen-clause-damage : goal.returns-in_err-is_chosen-clause-damage
returns-in_err-is_chosen-clause-damage g c = λ damage is ts p stands chooses told.
    let e = err_from_is_err_and c.from_residual.result c.from_residual.ensures.1 in
    let same : c.in_err-is_chosen.field-0.0 ≡ Scratch damage = (let x = e.1 in let y = e.2 in cc) in
    absurd (c.in_err-is_chosen.ensures.no_damage damage (ap (λ f. Err f) same))

pub returns-then-not-is_chosen-clause-tables : goal.returns-then-not-is_chosen-clause-tables
returns-then-not-is_chosen-clause-tables g c = same_beside g.row.K c.args.tables.now (g.D.Disk.view c.args.disk.now) (g.D.Disk.view c.has.new.disk) c.in_ok-is_chosen.ensures.reading.only

pub returns-then-not-is_chosen-clause-listed : goal.returns-then-not-is_chosen-clause-listed
returns-then-not-is_chosen-clause-listed g c = λ xs h. listed_passed c.args.i (2 ^ (2 * g.row.K + 2)) (xs ++ pointed_of (numbers_of c.args.below.now) c.args.pairs.now.items) h

pub returns-then-not-is_chosen-clause-gathered : goal.returns-then-not-is_chosen-clause-gathered
returns-then-not-is_chosen-clause-gathered g c = λ ts p xs stands chooses told was.
    let value = c.in_ok-is_chosen.ensures.value (pages_at c.args.tables.now (c.args.t - 1)).count p chooses told c.requires.there in
    gathered_passed p (point_at ts (c.args.t - 2) (slice_index (numbers_of c.args.below.now))) c.args.i (xs ++ pointed_of (numbers_of c.args.below.now) c.args.pairs.now.items) (sym value ∙ c.if-not-is_chosen.true) was

pub unpacked_at-requires : goal.unpacked_at-requires
unpacked_at-requires g c = (
  lit< tt,
  (
    unpack_same g.row.K c.args.t (numbers_of c.args.below.now) c.args.tables.now c.args.tables.now (g.D.Disk.view c.args.disk.now) (g.D.Disk.view c.has.new.disk)
        (same_beside g.row.K c.args.tables.now (g.D.Disk.view c.args.disk.now) (g.D.Disk.view c.has.new.disk) c.in_ok-is_chosen.ensures.reading.only) c.requires.can,
    c.requires.there,
  ),
)

pub returns-in_err-pair-clause-reading : goal.returns-in_err-pair-clause-reading
returns-in_err-pair-clause-reading g c =
    let e = err_from_is_err_and c.from_residual-in_err-pair.result c.from_residual-in_err-pair.ensures.1 in
    let a = g.D.Disk.view c.args.disk.now in
    let b = g.D.Disk.view c.has.new.disk in
    let d = g.D.Disk.view c.unpacked_at.new.disk in
    gathering_exit c.from_residual-in_err-pair.result e.0 c.in_err-pair.field-0.0 a d e.1 e.2
    (gathering_then (Err c.in_err-pair.field-0.0) a b d c.in_ok-is_chosen.ensures.reading.only c.in_ok-is_chosen.ensures.reading.quiet c.in_err-pair.ensures.reading)

pub returns-in_err-pair-clause-damage : goal.returns-in_err-pair-clause-damage
returns-in_err-pair-clause-damage g c = λ damage is ts p stands chooses told.
    let e = err_from_is_err_and c.from_residual-in_err-pair.result c.from_residual-in_err-pair.ensures.1 in
    let a = g.D.Disk.view c.args.disk.now in
    let b = g.D.Disk.view c.has.new.disk in
    let only = c.in_ok-is_chosen.ensures.reading.only in
    let same : c.in_err-pair.field-0.0 ≡ Scratch damage = (let x = e.1 in let y = e.2 in cc) in
    let value = c.in_ok-is_chosen.ensures.value (pages_at c.args.tables.now (c.args.t - 1)).count p chooses told c.requires.there in
    (sym value ∙ c.if-not-is_chosen.false, c.in_err-pair.ensures.damage damage (ap (λ f. Err f) same) ts (tables-read g.row.K c.args.tables.now ts a b only stands) (only.kept.tells ∙ told))

pub returns-in_err-push-clause-reading : goal.returns-in_err-push-clause-reading
returns-in_err-push-clause-reading g c =
    let e = err_from_is_err_and c.from_residual-in_err-push.result c.from_residual-in_err-push.ensures.1 in
    let a = g.D.Disk.view c.args.disk.now in
    let b = g.D.Disk.view c.has.new.disk in
    let d = g.D.Disk.view c.unpacked_at.new.disk in
    let first = c.in_ok-is_chosen.ensures.reading in
    let second = c.in_ok-pair.ensures.reading in
    gathering_spent c.from_residual-in_err-push.result e.0 c.in_err-push.field-0.0 a d e.1 e.2 c.in_err-push.ensures.fault (reads_then a b d first.only second.only) (second.quiet ∙ first.quiet)

pub returns-in_err-push-clause-damage : goal.returns-in_err-push-clause-damage
returns-in_err-push-clause-damage g c = λ damage is ts p stands chooses told.
    let e = err_from_is_err_and c.from_residual-in_err-push.result c.from_residual-in_err-push.ensures.1 in
    absurd (spent_no_damage c.from_residual-in_err-push.result e.0 c.in_err-push.field-0.0 damage e.1 e.2 c.in_err-push.ensures.fault is)

pub returns-clause-reading : goal.returns-clause-reading
returns-clause-reading g c =
    let a = g.D.Disk.view c.args.disk.now in
    let b = g.D.Disk.view c.has.new.disk in
    let d = g.D.Disk.view c.unpacked_at.new.disk in
    let first = c.in_ok-is_chosen.ensures.reading in
    let second = c.in_ok-pair.ensures.reading in
    gathering_done tt a d (reads_then a b d first.only second.only) (second.quiet ∙ first.quiet)

pub returns-clause-tables : goal.returns-clause-tables
returns-clause-tables g c =
    let a = g.D.Disk.view c.args.disk.now in
    let b = g.D.Disk.view c.has.new.disk in
    let d = g.D.Disk.view c.unpacked_at.new.disk in
    same_then g.row.K c.args.tables.now c.args.tables.now c.unpacked_at.new.tables a b d (same_beside g.row.K c.args.tables.now a b c.in_ok-is_chosen.ensures.reading.only) c.in_ok-pair.ensures.tables

pub returns-clause-chosen : goal.returns-clause-chosen
returns-clause-chosen g c = λ n p chooses.
    let b = g.D.Disk.view c.has.new.disk in
    let d = g.D.Disk.view c.unpacked_at.new.disk in
    chooses_beside c.has.new.self n p b d c.in_ok-pair.ensures.reading.only (c.in_ok-is_chosen.ensures.kept n p chooses)

pub returns-clause-inside : goal.returns-clause-inside
returns-clause-inside g c = inside_unpacked (length (numbers_of c.args.below.now)) c.args.pairs.now.items c.push.new.items.items c.in_ok-pair.pair c.in_ok-push.ensures.ok c.in_ok-pair.ensures.inside.0 c.in_ok-pair.ensures.inside.1 c.requires.inside

pub returns-clause-listed : goal.returns-clause-listed
returns-clause-listed g c = λ xs h. listed_unpacked g.row.K c.args.i (numbers_of c.args.below.now) xs c.args.pairs.now.items c.push.new.items.items c.in_ok-pair.pair c.in_ok-push.ensures.ok c.in_ok-pair.ensures.place
    c.requires.can.small c.in_ok-pair.ensures.inside.0 c.in_ok-pair.ensures.inside.1 h

pub returns-clause-found : goal.returns-clause-found
returns-clause-found g c = λ ts p stands chooses told was.
    let a = g.D.Disk.view c.args.disk.now in
    let b = g.D.Disk.view c.has.new.disk in
    let only = c.in_ok-is_chosen.ensures.reading.only in
    let value = c.in_ok-is_chosen.ensures.value (pages_at c.args.tables.now (c.args.t - 1)).count p chooses told c.requires.there in
    of_unpacked ts c.args.t p c.args.i c.args.pairs.now.items c.push.new.items.items c.in_ok-pair.pair c.in_ok-push.ensures.ok c.in_ok-pair.ensures.place (sym value ∙ c.if-not-is_chosen.false)
    (place_inside g.row.K c.args.t c.args.i c.args.tables.now ts a c.requires.can.first c.requires.can.last stands c.requires.there)
    (c.in_ok-pair.ensures.pair ts (tables-read g.row.K c.args.tables.now ts a b only stands) (only.kept.tells ∙ told)) was

pub returns-clause-gathered : goal.returns-clause-gathered
returns-clause-gathered g c = λ ts p xs stands chooses told was.
    let a = g.D.Disk.view c.args.disk.now in
    let b = g.D.Disk.view c.has.new.disk in
    let only = c.in_ok-is_chosen.ensures.reading.only in
    let value = c.in_ok-is_chosen.ensures.value (pages_at c.args.tables.now (c.args.t - 1)).count p chooses told c.requires.there in
    gathered_unpacked ts c.args.t p c.args.i (numbers_of c.args.below.now) xs c.args.pairs.now.items c.push.new.items.items c.in_ok-pair.pair c.in_ok-push.ensures.ok c.in_ok-pair.ensures.place (sym value ∙ c.if-not-is_chosen.false)
    c.requires.can.first (c.in_ok-pair.ensures.pair ts (tables-read g.row.K c.args.tables.now ts a b only stands) (only.kept.tells ∙ told)) was
