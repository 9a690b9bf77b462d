use Rattle.std.proofs.Common.{◌≡◌, ℕ, ◌+◌, ◌*◌, ◌^◌, ◌<◌, map, length, List, Err, true, sym, refl, ap, ◌∙◌, subst, arith, lit<}
use Rattle.std.proofs.lemmas.Result.{err_from_is_err_and}
use Rattle.std.specs.Prelude.{slice_index}
use Rattle.pos_edge.specs.declared.scratch.WorkFault.TheVariants.{Scratch}
use Rattle.pos_lists.specs.Numbering.{AreGathered}
use Rattle.pos_laws.specs.Renumbering.{last_at}
use Rattle.pos_relocate.specs.Passes.{AreListed}
use Rattle.pos_relocate.specs.Gathering.{IsLastAbove}
use Rattle.pos_relocate.specs.Numbers.{numbers_of}
use Rattle.pos_relocate.proofs.GatheringLemmas.{gathering_done, gathering_exit, gathering_spent, gathering_then, reads_none, reads_then, spent_no_damage}
use Rattle.pos_relocate.proofs.LastLemmas.{LastsSoFar, lasts_next, lasts_none, lasts_stand, lasts_there}
use Rattle.pos_relocate.proofs.lasts.gather_last.Goals as goal

pub loop-i-init : goal.loop-i-init
loop-i-init g c =
    let v = g.D.Disk.view c.args.disk.now in
    subst (λ (items : List g.row.P.Denot). LastsSoFar g.row.K g.P.Pointed.bound 0 (numbers_of c.args.places.now) (map g.P.Pointed.pair items) c.args.tables.now c.args.tables.now v v)
    (sym c.in_ok-entries.ensures.ok) (lasts_none g.row.K g.P.Pointed.bound (numbers_of c.args.places.now) c.args.tables.now v c.requires)

pub returns-in_err-entries-clause-reading : goal.returns-in_err-entries-clause-reading
returns-in_err-entries-clause-reading g c =
    let e = err_from_is_err_and c.from_residual.result c.from_residual.ensures.1 in
    let v = g.D.Disk.view c.args.disk.now in
    gathering_spent c.from_residual.result e.0 c.in_err-entries.field-0.0 v v e.1 e.2 c.in_err-entries.ensures.fault (reads_none v) refl

pub returns-in_err-entries-clause-damage : goal.returns-in_err-entries-clause-damage
returns-in_err-entries-clause-damage g c = λ damage is ts stands told.
    let e = err_from_is_err_and c.from_residual.result c.from_residual.ensures.1 in
    absurd (spent_no_damage c.from_residual.result e.0 c.in_err-entries.field-0.0 damage e.1 e.2 c.in_err-entries.ensures.fault is)

pub loop-i-preserved : goal.loop-i-preserved
loop-i-preserved g c =
    let k = g.row.K in
    let places = numbers_of c.args.places.now in
    let xs = map g.P.Pointed.pair c.loop-i.entries.items in
    let a = g.D.Disk.view c.args.disk.now in
    let b = g.D.Disk.view c.loop-i.disk in
    let step = c.in_ok-entry.ensures in
    lasts_next k g.P.Pointed.bound c.loop-i.i places xs c.args.tables.now c.loop-i.tables a b c.loop-i.invariant g.P.Pointed.pair c.loop-i.entries.items c.push.new.items.items c.in_ok-entry.entry c.at.result c.numbered_at.new.tables
    (g.D.Disk.view c.numbered_at.new.disk) refl c.in_ok-push.ensures.ok (subst (λ (n : ℕ). c.loop-i.i < n) c.len-i-end.ensures c.loop-i-test.true) c.at.ensures step.reading.only step.reading.quiet step.tables step.place step.small step.number

pub numbered_at-requires : goal.numbered_at-requires
numbered_at-requires g c =
    let k = g.row.K in
    let places = numbers_of c.args.places.now in
    let xs = map g.P.Pointed.pair c.loop-i.entries.items in
    let a = g.D.Disk.view c.args.disk.now in
    let b = g.D.Disk.view c.loop-i.disk in
    let there = lasts_there k g.P.Pointed.bound c.loop-i.i places xs c.args.tables.now c.loop-i.tables a b c.loop-i.invariant (subst (λ (n : ℕ). c.loop-i.i < n) c.len-i-end.ensures c.loop-i-test.true) in
    let n = c.requires.places_below.as_long in
    (lit< tt, (c.requires.size, (lasts_stand k g.P.Pointed.bound c.loop-i.i places xs c.args.tables.now c.loop-i.tables a b c.loop-i.invariant, (there, (subst (λ (m : ℕ). m < 2 ^ (k + 1)) (sym c.at.ensures) (c.requires.places_below.below c.loop-i.i (let l = c.loop-i-test.true in let e = c.len-i-end.ensures in omega arith)), c.requires.exact)))))

pub returns-in_err-entry-clause-reading : goal.returns-in_err-entry-clause-reading
returns-in_err-entry-clause-reading g c =
    let e = err_from_is_err_and c.from_residual-in_err-entry.result c.from_residual-in_err-entry.ensures.1 in
    let a = g.D.Disk.view c.args.disk.now in
    let b = g.D.Disk.view c.loop-i.disk in
    let d = g.D.Disk.view c.numbered_at.new.disk in
    gathering_exit c.from_residual-in_err-entry.result e.0 c.in_err-entry.field-0.0 a d e.1 e.2
    (gathering_then (Err c.in_err-entry.field-0.0) a b d c.loop-i.invariant.only c.loop-i.invariant.faults c.in_err-entry.ensures.reading)

pub returns-in_err-entry-clause-damage : goal.returns-in_err-entry-clause-damage
returns-in_err-entry-clause-damage g c = λ damage is ts stands told.
    let e = err_from_is_err_and c.from_residual-in_err-entry.result c.from_residual-in_err-entry.ensures.1 in
    let same : c.in_err-entry.field-0.0 ≡ Scratch damage = (let x = e.1 in let y = e.2 in cc) in
    let was = c.loop-i.invariant in
    let found = c.in_err-entry.ensures.damage damage (ap (λ f. Err f) same) ts (was.same.stand ts stands) (was.only.kept.tells ∙ told) in
    (c.loop-i.i, (subst (λ (n : ℕ). c.loop-i.i < n) c.len-i-end.ensures c.loop-i-test.true), subst (λ (f : ℕ). IsLastAbove ts g.row.K c.loop-i.i f damage) (was.same.numbers 7) found)

pub returns-in_err-push-clause-reading : goal.returns-in_err-push-clause-reading
returns-in_err-push-clause-reading g c =
    let e = err_from_is_err_and c.from_residual-in_err-push.result c.from_residual-in_err-push.ensures.1 in
    let a = g.D.Disk.view c.args.disk.now in
    let b = g.D.Disk.view c.loop-i.disk in
    let d = g.D.Disk.view c.numbered_at.new.disk in
    let step = c.in_ok-entry.ensures.reading in
    gathering_spent c.from_residual-in_err-push.result e.0 c.in_err-push.field-0.0 a d e.1 e.2 c.in_err-push.ensures.fault (reads_then a b d c.loop-i.invariant.only step.only) (step.quiet ∙ c.loop-i.invariant.faults)

pub returns-in_err-push-clause-damage : goal.returns-in_err-push-clause-damage
returns-in_err-push-clause-damage g c = λ damage is ts stands told.
    let e = err_from_is_err_and c.from_residual-in_err-push.result c.from_residual-in_err-push.ensures.1 in
    absurd (spent_no_damage c.from_residual-in_err-push.result e.0 c.in_err-push.field-0.0 damage e.1 e.2 c.in_err-push.ensures.fault is)

pub returns-clause-reading : goal.returns-clause-reading
returns-clause-reading g c = gathering_done c.loop-i.entries (g.D.Disk.view c.args.disk.now) (g.D.Disk.view c.loop-i.disk) c.loop-i.invariant.only c.loop-i.invariant.faults

pub returns-clause-tables : goal.returns-clause-tables
returns-clause-tables g c = c.loop-i.invariant.same

pub returns-clause-listed : goal.returns-clause-listed
returns-clause-listed g c =
    let l = c.loop-i-test.false in
    let m = c.loop-i.auto.i-end in
    let end : c.loop-i.i ≡ length (numbers_of c.args.places.now) = omega arith in
    subst (λ (n : ℕ). AreListed n (2 ^ (2 * g.row.K + 2)) (map g.P.Pointed.pair c.loop-i.entries.items)) end c.loop-i.invariant.listed

pub returns-clause-gathered : goal.returns-clause-gathered
returns-clause-gathered g c = λ ts stands told sound.
    let l = c.loop-i-test.false in
    let m = c.loop-i.auto.i-end in
    let end : c.loop-i.i ≡ length (numbers_of c.args.places.now) = omega arith in
    subst (λ (n : ℕ). AreGathered (λ j. true) (last_at ts g.row.K (slice_index (numbers_of c.args.places.now))) n (map g.P.Pointed.pair c.loop-i.entries.items)) end (c.loop-i.invariant.gathered ts stands told sound)
