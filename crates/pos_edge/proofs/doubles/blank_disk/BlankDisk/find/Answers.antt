-- The name's file was found, and its length is the FileId's size.
use Rattle.std.proofs.Common.{◌≡◌, refl, ◌∙◌, ap, sym, length, arith, map, subst, Some, ◌++◌, ◌∷◌, []}
use Rattle.std.specs.Prelude.{slice_get}
use Rattle.pos_edge.specs.Quiet.{known_size}
use Rattle.std.proofs.lemmas.List.{length-map}
use Rattle.pos_edge.specs.BlankDisks.{BlankName, BlankState, size_if_live}
use Rattle.pos_edge.specs.BlankFiles.{name_of, IsThereAt}
use Rattle.std.proofs.lemmas.Option.{same_Some}
use Rattle.pos_edge.proofs.Blanks.{no_name, has_length, read_at_place, sizes-push, pushed_size}
use Rattle.pos_edge.proofs.doubles.blank_disk.BlankDisk.find.Goals as goal

pub returns-in_default-clause-exactly : goal.returns-in_default-clause-exactly
returns-in_default-clause-exactly c = (λ e. no_name c.self.inside.files.items c.args.self.now c.args.name.now (ap (λ (d : BlankState). d.names) c.self.view_is) (rw c.deref.ensures.value at c.in_default.ensures.none), λ none. refl)

pub returns-clause-gives : goal.returns-clause-gives
returns-clause-gives c =
    let same = ap (λ (d : BlankState). map size_if_live d.handles) c.self.view_is in
    let pushed = sizes-push c.reserve.new.self.items c.give.new.handles.items c.in-Some.slot c.index.result.now.length c.give.ensures.items in (
      record { faults = omega arith; reads = ap (λ (d : BlankState). d.reads) c.self.view_is },
      c.give.ensures.id ∙ (ap length c.reserve.ensures.items ∙ (sym (length-map c.self.inside.handles.items size_if_live) ∙ ap length same)),
      (c.index.result.now.length, pushed ∙ ap (λ xs. xs ++ Some c.index.result.now.length ∷ []) (ap (map size_if_live) c.reserve.ensures.items ∙ same)),
    )

pub returns-clause-size : goal.returns-clause-size
returns-clause-size c =
    let found = rw c.deref.ensures.value at c.in-Some.ensures.found in
    let at : IsThereAt c.args.self.now.names c.in-Some.slot c.args.name.now = subst (λ (d : BlankState). IsThereAt d.names c.in-Some.slot c.args.name.now) c.self.view_is found.1 in
    let read = subst (λ (d : BlankState). slice_get d.names c.in-Some.slot ≡ Some (name_of c.index.result.now)) c.self.view_is (read_at_place c.self.inside.files.items c.in-Some.slot c.index.result.now found.0 c.index.ensures) in
    let size = pushed_size c.reserve.new.self.items c.give.new.handles.items c.in-Some.slot c.index.result.now.length c.give.ensures.items in
    has_length c.args.self.now c.in-Some.slot c.args.name.now _ at
    (ap (λ (k : BlankName). k.length) (same_Some at.0 (name_of c.index.result.now) (sym at.1 ∙ read))
    ∙ (sym size ∙ ap (λ k. known_size (slice_get (map size_if_live c.give.new.handles.items) k)) (sym c.give.ensures.id)))
