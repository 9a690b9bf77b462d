use Rattle.std.proofs.Common.{◌≡◌, ◌≤◌, ◌+◌, [], ◌++◌, length, take, refl, sym, ap, ◌∙◌, subst, rules, arith}
use Rattle.pos_rice.specs.Park.{Park}
use Rattle.pos_layout.specs.Layouts.{full_of}
use Rattle.pos_layout.specs.Fields.{entry_fields}
use Rattle.pos_layout.specs.Files.{entry_for}
use Rattle.pos_layout.specs.Images.{HoldsShut}
use Rattle.pos_layout.specs.Drafts.{Keeps, draft_bytes}
use Rattle.pos_layout.specs.contracts.writer.PlotWriter.{the_view}
use Rattle.pos_layout.proofs.LayoutLemmas.{full_few}
use Rattle.pos_layout.proofs.WriterLemmas.{kept_park, keeps_numbers, numbers_at, grown_fits}
use Rattle.pos_layout.proofs.writer.PlotWriter.write_park.Goals as goal

pub encode_park-requires-clause-numbers : goal.encode_park-requires-clause-numbers
encode_park-requires-clause-numbers g c =
    let r = c.requires.keeps in
    let w = the_view c.self.inside in
    let h : Keeps w r.0 r.1 (g.D.Disk.view c.args.disk.now) = rw (← c.self.view_is) at r.2 in
    numbers_at _ r.0.k _ w.park (c.k.ensures.value ∙ h.size) c.deref.ensures.value (keeps_numbers w r.0 r.1 (g.D.Disk.view c.args.disk.now) h (search rules) (let few : length w.park ≤ full_of w.layout = rw (← c.self.view_is) at c.requires.few in let most = full_few w.layout in omega arith))

pub append-requires-clause-fits : goal.append-requires-clause-fits
append-requires-clause-fits g c =
    let r = c.requires.keeps in
    let w = the_view c.self.inside in
    let h : Keeps w r.0 r.1 (g.D.Disk.view c.args.disk.now) = rw (← c.self.view_is) at r.2 in
    let park : Park w.size w.park c.in_ok-park.park.items = search rules in
    let length_is : length c.deref-4.result.now ≡ length c.in_ok-park.park.items = ap length c.deref-4.ensures.value in
    let fits = grown_fits w r.0 r.1 (g.D.Disk.view c.args.disk.now) c.in_ok-park.park.items (length c.deref-4.result.now) h park length_is in
    omega arith

pub overflow_add-self : goal.overflow_add-self
overflow_add-self g c =
    let r = c.requires.keeps in
    let w = the_view c.self.inside in
    let h : Keeps w r.0 r.1 (g.D.Disk.view c.args.disk.now) = rw (← c.self.view_is) at r.2 in
    let park : Park w.size w.park c.in_ok-park.park.items = search rules in
    let length_is : c.len.result ≡ length c.in_ok-park.park.items = search rules in
    let fits = grown_fits w r.0 r.1 (g.D.Disk.view c.args.disk.now) c.in_ok-park.park.items c.len.result h park length_is in
    omega arith

pub returns-clause-ok : goal.returns-clause-ok
returns-clause-ok g c = λ p parks keeps.
    let w = the_view c.self.inside in
    let s = c.in_ok-park.park.items in
    let v = g.D.Disk.view c.args.disk.now in
    let h : Keeps w p parks v = rw (← c.self.view_is) at keeps in
    let park : Park w.size w.park s = search rules in
    let table : c.self.inside.ended + 1 ≡ length w.columns + 1 = search rules in
    let piece : c.deref-4.result.now ≡ s = c.deref-4.ensures.value in
    let emptied : c.clear.new.self.items ≡ [] = c.clear.ensures.items in
    let numbers : c.deref-2.result.now ≡ w.park = c.deref-2.ensures.value in
    let entries : c.extend_from_slice.new.self.items ≡ w.entries ++ take c.entry_bytes.result c.park_entry-entry.result = search rules in
    let total : c.self.inside.file_length + c.len.result ≡ w.file_length + length s = search rules in
    let file : HoldsShut c.self.inside.file.0 (draft_bytes p parks ++ s) (g.D.Disk.view c.append.new.disk) = subst (λ y. HoldsShut c.self.inside.file.0 (draft_bytes p parks ++ y) (g.D.Disk.view c.append.new.disk)) piece (c.in_ok-append.ensures.ok (draft_bytes p parks) h.file (sym h.file_length)) in
    rw (← c.self.view_is) (kept_park w _ p parks s w.layout w.size (c.self.inside.ended + 1) w.file_length v (g.D.Disk.view c.append.new.disk) h park refl refl table refl refl refl refl refl refl refl refl emptied
    (entries ∙ ap (λ y. w.entries ++ y) (ap (λ n. take n c.park_entry-entry.result) c.entry_bytes.ensures.value ∙ c.park_entry-entry.ensures.bytes ∙ ap (λ n. entry_fields (entry_for w.layout w.size (c.self.inside.ended + 1) w.file_length n)) numbers)) total file)
