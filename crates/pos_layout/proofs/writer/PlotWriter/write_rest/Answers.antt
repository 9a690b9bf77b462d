use Rattle.std.proofs.Common.{◌≡◌, ◌≤◌, [], length, sym, subst, rules}
use Rattle.std.proofs.lemmas.List.{nil_from_length}
use Rattle.pos_layout.specs.Drafts.{Keeps}
use Rattle.pos_layout.specs.contracts.writer.PlotWriter.{the_view}
use Rattle.pos_layout.proofs.ShutLemmas.{on_ok}
use Rattle.pos_layout.proofs.WriterLemmas.{parks_whole, parks_last}
use Rattle.pos_layout.proofs.writer.PlotWriter.write_rest.Goals as goal

pub returns-then-is_empty-clause-ok : goal.returns-then-is_empty-clause-ok
returns-then-is_empty-clause-ok g c = λ p s.
    let none : length (the_view c.self.inside).park ≡ 0 = search rules in
    let empty : c.args.self.now.park ≡ [] = rw (← c.self.view_is) (nil_from_length (the_view c.self.inside).park none) in
    subst (λ parks. Keeps c.args.self.now p parks (g.D.Disk.view c.args.disk.now)) (sym (parks_whole c.args.self.now p (g.D.Disk.view c.args.disk.now) s empty)) s.keeps

pub returns-clause-ok : goal.returns-clause-ok
returns-clause-ok g c =
    let some : 1 ≤ length (the_view c.self.inside).park = search rules in
    let more : 1 ≤ length c.args.self.now.park = rw (← c.self.view_is) some in
    on_ok c.write_park.result
    (λ done p s. subst (λ parks. Keeps c.write_park.new.self p parks (g.D.Disk.view c.write_park.new.disk)) (sym (parks_last c.args.self.now p (g.D.Disk.view c.args.disk.now) s more)) (done p s.parks s.keeps))
    c.write_park.ensures.ok
