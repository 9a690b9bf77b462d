-- The first park that is damaged, or the end of the table.
use Rattle.std.proofs.Common.{◌∙◌, ◌≤◌, ◌<◌, ℕ, Err, refl, ap, subst, arith}
use Rattle.std.proofs.lemmas.Result.{err_from_is_err_and}
use Rattle.pos_layout.specs.Fields.{count_of}
use Rattle.pos_layout.specs.Layouts.{parks_of}
use Rattle.pos_convert.proofs.AddingLemmas.{small_count}
use Rattle.pos_convert.proofs.SoundLemmas.{parks_are}
use Rattle.pos_convert.proofs.CopyingLemmas.{damage_handed}
use Rattle.pos_convert.proofs.TableLemmas.{copied_damage, copied_next, copied_none, copied_refused, copied_standing, table_copied, table_copying, table_refused}
use Rattle.pos_convert.proofs.copying.copy_table.Goals as goal

pub parks_of-parks-requires : goal.parks_of-parks-requires
parks_of-parks-requires g c = small_count c.args.plot.now.header.size c.count.result c.count.ensures.laid_out.greatest c.count.ensures.few

pub loop-park-init : goal.loop-park-init
loop-park-init g c = record {
  far = copied_none c.args.plot.now c.args.t c.args.writer.now (g.D.Disk.view c.args.disk.now) c.requires.stands c.requires.least c.requires.count;
  room = refl;
}

pub copy_park-requires-clause-stands : goal.copy_park-requires-clause-stands
copy_park-requires-clause-stands g c =
    copied_standing c.args.plot.now c.loop-park.plot c.args.t c.loop-park.park c.loop-park.next c.args.writer.now c.loop-park.writer (g.D.Disk.view c.args.disk.now) (g.D.Disk.view c.loop-park.disk)
    c.loop-park.invariant.far c.requires.stands c.requires.is_open c.requires.apart

pub returns-in_err-next-clause-copying : goal.returns-in_err-next-clause-copying
returns-in_err-next-clause-copying g c =
    let p = err_from_is_err_and c.from_residual.result c.from_residual.ensures.1 in
    copied_refused c.args.plot.now c.loop-park.plot c.args.t c.loop-park.park c.loop-park.next c.args.writer.now c.loop-park.writer (g.D.Disk.view c.args.disk.now) (g.D.Disk.view c.loop-park.disk)
    c.loop-park.invariant.far c.requires.stands c.requires.is_open c.requires.apart c.copy_park.new.plot c.copy_park.new.writer c.in_err-next.field-0.0 c.from_residual.result (g.D.Disk.view c.copy_park.new.disk)
    (p.1 ∙ ap (λ e. Err e) p.2) c.in_err-next.ensures.copying

pub returns-in_err-next-clause-damage : goal.returns-in_err-next-clause-damage
returns-in_err-next-clause-damage g c = λ d is.
    let p = err_from_is_err_and c.from_residual.result c.from_residual.ensures.1 in
    let parks = parks_are c.layout.result c.args.plot.now.header.layout c.count.result (count_of c.args.plot.now.header c.args.t) c.parks_of-parks.result c.parks_of-parks.ensures c.layout.ensures c.count.ensures.count in
    let there : c.loop-park.park < parks_of c.args.plot.now.header.layout (count_of c.args.plot.now.header c.args.t) = subst (λ (n : ℕ). c.loop-park.park < n) parks c.loop-park-test.true in
    let same = damage_handed c.in_err-next.field-0.0 c.from_residual.result d (p.1 ∙ ap (λ e. Err e) p.2) is in
    copied_damage c.args.plot.now c.loop-park.plot c.args.t c.loop-park.park c.loop-park.next c.args.writer.now c.loop-park.writer (g.D.Disk.view c.args.disk.now) (g.D.Disk.view c.loop-park.disk)
    c.loop-park.invariant.far c.requires.stands c.requires.is_open c.requires.apart there d (c.in_err-next.ensures.damage d (ap (λ e. Err e) same))

pub loop-park-preserved : goal.loop-park-preserved
loop-park-preserved g c =
    let parks = parks_are c.layout.result c.args.plot.now.header.layout c.count.result (count_of c.args.plot.now.header c.args.t) c.parks_of-parks.result c.parks_of-parks.ensures c.layout.ensures c.count.ensures.count in
    let there : c.loop-park.park < parks_of c.args.plot.now.header.layout (count_of c.args.plot.now.header c.args.t) = subst (λ (n : ℕ). c.loop-park.park < n) parks c.loop-park-test.true in record {
      far = copied_next c.args.plot.now c.loop-park.plot c.args.t c.loop-park.park c.loop-park.next c.args.writer.now c.loop-park.writer (g.D.Disk.view c.args.disk.now) (g.D.Disk.view c.loop-park.disk)
          c.loop-park.invariant.far c.requires.stands c.requires.is_open c.requires.apart there c.copy_park.new.plot c.in_ok-next.next c.copy_park.new.writer (g.D.Disk.view c.copy_park.new.disk)
          c.in_ok-next.ensures.copying c.in_ok-next.ensures.ok;
      room = c.in_ok-next.ensures.room ∙ c.loop-park.invariant.room;
    }

pub end_table-requires-clause-stands : goal.end_table-requires-clause-stands
end_table-requires-clause-stands g c =
    copied_standing c.args.plot.now c.loop-park.plot c.args.t c.loop-park.park c.loop-park.next c.args.writer.now c.loop-park.writer (g.D.Disk.view c.args.disk.now) (g.D.Disk.view c.loop-park.disk)
    c.loop-park.invariant.far c.requires.stands c.requires.is_open c.requires.apart

pub returns-in_err-end_table-clause-copying : goal.returns-in_err-end_table-clause-copying
returns-in_err-end_table-clause-copying g c =
    let p = err_from_is_err_and c.from_residual-in_err-end_table.result c.from_residual-in_err-end_table.ensures.1 in
    table_refused c.args.plot.now c.loop-park.plot c.args.t c.loop-park.park c.loop-park.next c.args.writer.now c.loop-park.writer (g.D.Disk.view c.args.disk.now) (g.D.Disk.view c.loop-park.disk)
    c.loop-park.invariant.far c.requires.stands c.requires.is_open c.requires.apart c.in_err-end_table.field-0.0 c.end_table.new.self c.from_residual-in_err-end_table.result (g.D.Disk.view c.end_table.new.disk)
    (p.1 ∙ ap (λ e. Err e) p.2) c.in_err-end_table.ensures.works c.in_err-end_table.ensures.same

pub returns-clause-copying : goal.returns-clause-copying
returns-clause-copying g c =
    table_copying c.args.plot.now c.loop-park.plot c.args.t c.loop-park.park c.loop-park.next c.args.writer.now c.loop-park.writer (g.D.Disk.view c.args.disk.now) (g.D.Disk.view c.loop-park.disk)
    c.loop-park.invariant.far c.requires.stands c.requires.is_open c.requires.apart c.in_ok-end_table.field-0 _ c.end_table.new.self (g.D.Disk.view c.end_table.new.disk)
    c.in_ok-end_table.ensures.works c.in_ok-end_table.ensures.same

pub returns-clause-ok : goal.returns-clause-ok
returns-clause-ok g c =
    let parks = parks_are c.layout.result c.args.plot.now.header.layout c.count.result (count_of c.args.plot.now.header c.args.t) c.parks_of-parks.result c.parks_of-parks.ensures c.layout.ensures c.count.ensures.count in
    let end : c.parks_of-parks.result ≤ c.loop-park.park = omega arith in
    let past : parks_of c.args.plot.now.header.layout (count_of c.args.plot.now.header c.args.t) ≤ c.loop-park.park = subst (λ (n : ℕ). n ≤ c.loop-park.park) parks end in
    table_copied c.args.plot.now c.loop-park.plot c.args.t c.loop-park.park c.loop-park.next c.args.writer.now c.loop-park.writer (g.D.Disk.view c.args.disk.now) (g.D.Disk.view c.loop-park.disk)
    c.loop-park.invariant.far c.requires.stands c.requires.is_open c.requires.apart c.end_table.new.self (g.D.Disk.view c.end_table.new.disk) past
    c.in_ok-end_table.ensures.next c.in_ok-end_table.ensures.ok
