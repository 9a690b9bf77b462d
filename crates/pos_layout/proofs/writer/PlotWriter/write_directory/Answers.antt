use Rattle.std.proofs.Common.{◌≡◌, ◌<◌, ◌+◌, [], ◌++◌, length, refl, sym, ap, subst, rules, arith}
use Rattle.std.proofs.lemmas.List.{take_more_set}
use Rattle.pos_layout.specs.Files.{parks_in}
use Rattle.pos_layout.specs.Images.{HoldsShut}
use Rattle.pos_layout.specs.Drafts.{Keeps, draft_bytes}
use Rattle.pos_layout.specs.contracts.writer.PlotWriter.{the_view}
use Rattle.pos_layout.proofs.WriterLemmas.{kept_table, keeps_short}
use Rattle.pos_layout.proofs.writer.PlotWriter.write_directory.Goals as goal

pub append-requires-clause-fits : goal.append-requires-clause-fits
append-requires-clause-fits g c =
    let r = c.requires.keeps in
    let w = the_view c.self.inside in
    let h : Keeps w r.0 r.1 (g.D.Disk.view c.args.disk.now) = rw (← c.self.view_is) at r.2 in
    let length_is : length c.deref.result.now ≡ length w.entries = ap length c.deref.ensures.value in
    let fits = keeps_short w r.0 r.1 (g.D.Disk.view c.args.disk.now) h in
    omega arith

pub overflow_add-self-2 : goal.overflow_add-self-2
overflow_add-self-2 g c =
    let r = c.requires.keeps in
    let w = the_view c.self.inside in
    let h : Keeps w r.0 r.1 (g.D.Disk.view c.args.disk.now) = rw (← c.self.view_is) at r.2 in
    let length_is : c.len.result ≡ length w.entries = search rules in
    let fits = keeps_short w r.0 r.1 (g.D.Disk.view c.args.disk.now) h in
    omega arith

pub returns-clause-ok : goal.returns-clause-ok
returns-clause-ok g c = λ p keeps.
    let w = the_view c.self.inside in
    let v = g.D.Disk.view c.args.disk.now in
    let b = draft_bytes p (parks_in p.layout p.numbers) in
    let h : Keeps w p (parks_in p.layout p.numbers) v = rw (← c.self.view_is) at keeps in
    let tables : length w.columns < 7 = rw (← c.self.view_is) at c.requires.tables in
    let piece : c.deref.result.now ≡ w.entries = c.deref.ensures.value in
    let emptied : c.clear.new.self.items ≡ [] = c.clear.ensures.items in
    let park : w.park ≡ [] = rw (← c.self.view_is) at c.requires.written in
    let total : c.self.inside.file_length + c.len.result ≡ w.file_length + length w.entries = search rules in
    let room : c.self.inside.ended < length c.self.inside.columns = search rules in
    let file : HoldsShut w.file (b ++ w.entries) (g.D.Disk.view c.append.new.disk) = subst (λ y. HoldsShut w.file (b ++ y) (g.D.Disk.view c.append.new.disk)) piece (c.in_ok-append.ensures.ok b h.file (sym h.file_length)) in
    kept_table w _ p v (g.D.Disk.view c.append.new.disk) h tables refl refl refl refl (take_more_set c.self.inside.columns c.self.inside.ended _ room) refl refl park emptied total file
