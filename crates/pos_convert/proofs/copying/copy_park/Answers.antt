-- The park is damaged, or one of its numbers is not sound, or all are copied.
use Rattle.std.proofs.Common.{◌≡◌, ◌∙◌, ◌*◌, Err, inl, inr, ap, take, length, arith}
use Rattle.std.proofs.lemmas.List.{length-take-le}
use Rattle.std.proofs.lemmas.Result.{err_from_is_err_and}
use Rattle.pos_layout.specs.Fields.{count_of}
use Rattle.pos_layout.specs.Layouts.{full_of}
use Rattle.pos_convert.specs.Faults.{of_reading}
use Rattle.pos_convert.proofs.SoundLemmas.{park_has_room}
use Rattle.pos_convert.proofs.CopyingLemmas.{copying_read, damage_handed, reading_damage, standing_read}
use Rattle.pos_convert.proofs.TableLemmas.{park_answered, park_stopped}
use Rattle.pos_convert.proofs.copying.copy_park.Goals as goal

pub returns-in_err-count-clause-damage : goal.returns-in_err-count-clause-damage
returns-in_err-count-clause-damage g c = λ d is b holds.
    let p = err_from_is_err_and c.from_residual.result c.from_residual.ensures.1 in
    let same = reading_damage c.in_err-count.field-0.0 d (damage_handed (of_reading c.in_err-count.field-0.0) c.from_residual.result d (p.1 ∙ ap (λ e. Err e) p.2) is) in
    inl (c.in_err-count.ensures.damage d (ap (λ e. Err e) same) b holds)

pub add_numbers-requires-clause-stands : goal.add_numbers-requires-clause-stands
add_numbers-requires-clause-stands g c = standing_read 2 c.args.writer.now (g.D.Disk.view c.args.disk.now) (g.D.Disk.view c.park.new.disk) c.in_ok-count.ensures.reading.left.reads c.requires.stands

pub returns-clause-copying : goal.returns-clause-copying
returns-clause-copying g c =
    copying_read 2 c.args.plot.now c.park.new.self c.args.writer.now c.add_numbers.new.writer c.in_ok-count.count c.add_numbers.result (g.D.Disk.view c.args.disk.now) (g.D.Disk.view c.park.new.disk) (g.D.Disk.view c.add_numbers.new.disk)
    c.in_ok-count.ensures.reading c.requires.stands c.add_numbers.ensures.copying

pub returns-clause-ok : goal.returns-clause-ok
returns-clause-ok g c =
    let n = c.in_ok-count.count in
    let fits = park_has_room c.args.plot.now.header.layout (count_of c.args.plot.now.header c.args.t) c.args.park n (length c.park.new.out) c.in_ok-count.ensures.count (omega arith) in
    let few = length-take-le n c.park.new.out fits in
    park_answered c.args.plot.now c.park.new.self c.args.t c.args.park 2 (take n c.park.new.out) c.args.writer.now c.add_numbers.new.writer c.add_numbers.result
    (g.D.Disk.view c.args.disk.now) (g.D.Disk.view c.park.new.disk) (g.D.Disk.view c.add_numbers.new.disk) c.in_ok-count.ensures.reading.left.same c.in_ok-count.ensures.reading.left.reads
    (few ∙ c.in_ok-count.ensures.count) c.in_ok-count.ensures.numbers c.add_numbers.ensures.ok

pub returns-clause-damage : goal.returns-clause-damage
returns-clause-damage g c = λ d is b holds.
    let n = c.in_ok-count.count in
    let fits = park_has_room c.args.plot.now.header.layout (count_of c.args.plot.now.header c.args.t) c.args.park n (length c.park.new.out) c.in_ok-count.ensures.count (omega arith) in
    let few = length-take-le n c.park.new.out fits in
    let full : c.full_park.result ≡ full_of c.args.plot.now.header.layout =
    c.full_park.ensures.value ∙ (ap full_of c.layout.ensures ∙ ap (λ p. full_of p.header.layout) c.in_ok-count.ensures.reading.left.same) in
    inr (park_stopped c.args.plot.now c.park.new.self c.args.t c.args.park _ c.args.next (take n c.park.new.out) b d c.in_ok-count.ensures.reading.left.same (ap (λ m. m * c.args.park) full)
    (few ∙ c.in_ok-count.ensures.count) (c.in_ok-count.ensures.numbers b holds) (c.add_numbers.ensures.damage d is))
