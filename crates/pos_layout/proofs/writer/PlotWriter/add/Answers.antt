use Rattle.std.proofs.Common.{◌≡◌, ◌<◌, ◌≢◌, ◌+◌, [], ◌∷◌, ◌++◌, length, refl, ap, ◌∙◌, rules, arith}
use Rattle.std.proofs.lemmas.List.{length_push}
use Rattle.pos_layout.specs.Layouts.{full_of}
use Rattle.pos_layout.specs.Drafts.{Keeps, added}
use Rattle.pos_layout.specs.contracts.writer.PlotWriter.{the_view}
use Rattle.pos_layout.proofs.WriterLemmas.{kept_number, full_stands, next_fits}
use Rattle.pos_layout.proofs.writer.PlotWriter.add.Goals as goal

pub overflow_add-self-2 : goal.overflow_add-self-2
overflow_add-self-2 g c =
    let r = c.requires.stands in
    let fits = next_fits c.args.self.now r.0 (g.D.Disk.view c.args.disk.now) c.args.number r.1 c.requires.next.below in
    omega arith

pub write_park-requires-clause-keeps : goal.write_park-requires-clause-keeps
write_park-requires-clause-keeps g c =
    let r = c.requires.stands in
    let w = the_view c.self.inside in
    let h : Keeps w r.0 r.1.parks (g.D.Disk.view c.args.disk.now) = rw (← c.self.view_is) at r.1.keeps in
    let park : c.push.new.self.items ≡ w.park ++ c.args.number ∷ [] = search rules in (
      added c.args.number r.0,
      r.1.parks,
      kept_number w (the_view (record c.self.inside { count = c.self.inside.count + 1; least = c.args.number + 1; park = c.push.new.self })) r.0 r.1.parks c.args.number (g.D.Disk.view c.args.disk.now) h (rw (← c.self.view_is) at c.requires.next.tables) (rw (← c.self.view_is) at c.requires.next.above) (rw (← c.self.view_is) at c.requires.next.below) (rw (← c.self.view_is) at c.requires.next.few)
          refl refl refl refl refl refl refl refl park refl refl,
    )

pub returns-in_ok-write_park-clause-ok : goal.returns-in_ok-write_park-clause-ok
returns-in_ok-write_park-clause-ok g c = λ p s.
    let w = the_view c.self.inside in
    let h : Keeps w p s.parks (g.D.Disk.view c.args.disk.now) = rw (← c.self.view_is) at s.keeps in
    let park : c.push.new.self.items ≡ w.park ++ c.args.number ∷ [] = search rules in
    let full : length c.push.new.self.items ≡ full_of p.layout = (search rules) ∙ (c.full_park.ensures.value ∙ ap full_of h.layout) in
    full_stands (the_view (record c.self.inside { count = c.self.inside.count + 1; least = c.args.number + 1; park = c.push.new.self })) c.write_park.new.self (added c.args.number p) s.parks (g.D.Disk.view c.write_park.new.disk) s.full full c.in_ok-write_park.ensures.park
    (c.in_ok-write_park.ensures.ok (added c.args.number p) s.parks
    (kept_number w (the_view (record c.self.inside { count = c.self.inside.count + 1; least = c.args.number + 1; park = c.push.new.self })) p s.parks c.args.number (g.D.Disk.view c.args.disk.now) h (rw (← c.self.view_is) at c.requires.next.tables) (rw (← c.self.view_is) at c.requires.next.above) (rw (← c.self.view_is) at c.requires.next.below) (rw (← c.self.view_is) at c.requires.next.few)
    refl refl refl refl refl refl refl refl park refl refl))

pub returns-else-len-full_park-clause-ok : goal.returns-else-len-full_park-clause-ok
returns-else-len-full_park-clause-ok g c = λ p s.
    let w = the_view c.self.inside in
    let h : Keeps w p s.parks (g.D.Disk.view c.args.disk.now) = rw (← c.self.view_is) at s.keeps in
    let was : length w.park < full_of p.layout = rw (← c.self.view_is) at s.short in
    let park : c.push.new.self.items ≡ w.park ++ c.args.number ∷ [] = search rules in
    let more : length c.push.new.self.items ≡ length w.park + 1 = ap length park ∙ length_push w.park c.args.number in
    let most : c.full_park.result ≡ full_of p.layout = c.full_park.ensures.value ∙ ap full_of h.layout in
    let other : length c.push.new.self.items ≢ c.full_park.result = search rules in record {
      parks = s.parks;
      keeps = kept_number w (the_view (record c.self.inside { count = c.self.inside.count + 1; least = c.args.number + 1; park = c.push.new.self })) p s.parks c.args.number (g.D.Disk.view c.args.disk.now) h (rw (← c.self.view_is) at c.requires.next.tables) (rw (← c.self.view_is) at c.requires.next.above) (rw (← c.self.view_is) at c.requires.next.below) (rw (← c.self.view_is) at c.requires.next.few)
          refl refl refl refl refl refl refl refl park refl refl;
      full = s.full;
      short = omega arith;
    }
