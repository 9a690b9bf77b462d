use Rattle.std.proofs.Common.{◌≡◌, ℕ, refl, ap, ◌∙◌, arith}
use Rattle.pos_runs.specs.Runs.{pages_at}
use Rattle.pos_runs.proofs.TablesLemmas.{same_read}
use Rattle.pos_relocate.proofs.GatheringLemmas.{gathering_damage}
use Rattle.pos_relocate.proofs.LastLemmas.{last_above, last_out, made_fits, made_last, made_number}
use Rattle.pos_relocate.proofs.lasts.numbered_at.Goals as goal

pub returns-then-f7-clause-damage : goal.returns-then-f7-clause-damage
returns-then-f7-clause-damage g c = λ damage is ts stands told.
    let file : c.file.result ≡ (pages_at c.args.tables.now 7).number = c.file.ensures ∙ c.in_ok-y.ensures.read.same.number in
    last_above ts g.row.K c.args.i c.in_ok-y.y c.file.result _ damage c.requires.size.1 (c.in_ok-y.ensures.value ts stands told) c.if-f7.true file (let e = c.outside.ensures in cc)

pub returns-then-f7-clause-reading : goal.returns-then-f7-clause-reading
returns-then-f7-clause-reading g c =
    let read = c.in_ok-y.ensures in
    gathering_damage _ c.outside.result (g.D.Disk.view c.args.disk.now) (g.D.Disk.view c.last.new.disk)
    (last_out g.row.K c.args.i c.in_ok-y.y c.file.result c.outside.result c.requires.size.1 c.if-f7.true c.outside.ensures) read.read.only read.quiet

pub new-requires : goal.new-requires
new-requires g c =
    let made = made_number g.row.K c.in_ok-y.y c.from.result c.from-2.result c.args.place _ c.requires.size.1 c.if-f7.false c.from.ensures c.from-2.ensures c.requires.small refl in
    let below = made.1 in
    let exact = c.requires.exact in
    omega arith

pub returns-clause-tables : goal.returns-clause-tables
returns-clause-tables g c = same_read g.row.K c.args.tables.now c.last.new.self 7 (g.D.Disk.view c.args.disk.now) (g.D.Disk.view c.last.new.disk)
    (let e = c.requires.stands.1.eight in omega arith) c.in_ok-y.ensures.others c.in_ok-y.ensures.read c.in_ok-y.ensures.stands

pub returns-clause-small : goal.returns-clause-small
returns-clause-small g c =
    let made = made_number g.row.K c.in_ok-y.y c.from.result c.from-2.result c.args.place _ c.requires.size.1 c.if-f7.false c.from.ensures c.from-2.ensures c.requires.small (ap (λ (e : ℕ × ℕ). e.0) c.new.ensures) in
    made_fits g.row.K _ made.1

pub returns-clause-number : goal.returns-clause-number
returns-clause-number g c = λ ts stands told small.
    let made = made_number g.row.K c.in_ok-y.y c.from.result c.from-2.result c.args.place _ c.requires.size.1 c.if-f7.false c.from.ensures c.from-2.ensures c.requires.small (ap (λ (e : ℕ × ℕ). e.0) c.new.ensures) in
    made_last ts g.row.K c.args.i c.in_ok-y.y c.args.place _ c.requires.size.1 (c.in_ok-y.ensures.value ts stands told) small made.0
