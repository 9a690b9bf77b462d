-- Three events put a synced file at the name's place.
use Rattle.std.proofs.Common.{refl, arith, ap, ◌∙◌}
use Rattle.pos_edge.specs.declared.doubles.history.Deed.TheVariants.{Wrote}
use Rattle.pos_edge.specs.Log.{Writing}
use Rattle.pos_edge.specs.Histories.{placed_file, cache_of}
use Rattle.pos_edge.proofs.KeptCalls.{named_holds, named_same, parts_moved, parts_same, pushed_to, on_err}
use Rattle.pos_edge.proofs.KeptPlaced.{place_holds, place_same}
use Rattle.pos_edge.proofs.doubles.history.History.add.Goals as goal

pub invariant_of-self : goal.invariant_of-self
invariant_of-self c = named_holds _ _ _ _ _ _ _ _ c.slot_of.ensures.kept c.self.invariant

pub returns-in_err-slot-clause-err : goal.returns-in_err-slot-clause-err
returns-in_err-slot-clause-err c = on_err c.from_residual.result _ (named_same _ _ _ _ _ _ _ _ _ c.slot_of.ensures.kept c.self.invariant c.self.view_is)

pub invariant_of-self-in_err-make_room : goal.invariant_of-self-in_err-make_room
invariant_of-self-in_err-make_room c = parts_moved _ _ _ _ _ _ _ _ c.make_room.ensures.items refl c.make_room.ensures.grows (named_holds _ _ _ _ _ _ _ _ c.slot_of.ensures.kept c.self.invariant)

pub returns-in_err-make_room-clause-err : goal.returns-in_err-make_room-clause-err
returns-in_err-make_room-clause-err c = on_err c.from_residual-in_err-make_room.result _ (parts_same _ _ _ _ _ _ c.make_room.ensures.items refl (named_same _ _ _ _ _ _ _ _ _ c.slot_of.ensures.kept c.self.invariant c.self.view_is))

pub invariant_of-self-in_err-kept : goal.invariant_of-self-in_err-kept
invariant_of-self-in_err-kept c = parts_moved _ _ _ _ _ _ _ _ c.make_room.ensures.items refl c.make_room.ensures.grows (named_holds _ _ _ _ _ _ _ _ c.slot_of.ensures.kept c.self.invariant)

pub returns-in_err-kept-clause-err : goal.returns-in_err-kept-clause-err
returns-in_err-kept-clause-err c = on_err c.from_residual-in_err-kept.result _ (parts_same _ _ _ _ _ _ c.make_room.ensures.items refl (named_same _ _ _ _ _ _ _ _ _ c.slot_of.ensures.kept c.self.invariant c.self.view_is))

pub invariant_of-self-in_err-shown : goal.invariant_of-self-in_err-shown
invariant_of-self-in_err-shown c = parts_moved _ _ _ _ _ _ _ _ c.make_room.ensures.items refl c.make_room.ensures.grows (named_holds _ _ _ _ _ _ _ _ c.slot_of.ensures.kept c.self.invariant)

pub returns-in_err-shown-clause-err : goal.returns-in_err-shown-clause-err
returns-in_err-shown-clause-err c = on_err c.from_residual-in_err-shown.result _ (parts_same _ _ _ _ _ _ c.make_room.ensures.items refl (named_same _ _ _ _ _ _ _ _ _ c.slot_of.ensures.kept c.self.invariant c.self.view_is))

pub invariant_of-self-2 : goal.invariant_of-self-2
invariant_of-self-2 c =
    let h = named_holds _ _ _ _ _ _ _ _ c.slot_of.ensures.kept c.self.invariant in
    let is = named_same _ _ _ _ _ _ _ _ _ c.slot_of.ensures.kept c.self.invariant c.self.view_is in
    let found = c.in_ok-slot.ensures.found in
    place_holds _ _ _ _ _ _ h is c.in_ok-slot.slot c.args.name.now c.index_mut.result.now c.place_file.new.file (Wrote 0 c.in_ok-kept.kept) c.args.bytes.now c.note-3.new.log.items c.note-3.new.log.cap
    found.0 found.1 c.index_mut.ensures.value c.requires (ap (Writing 0) c.in_ok-kept.ensures.items) (c.place_file.ensures ∙ ap (λ b. placed_file b (cache_of c.index_mut.result.now)) c.in_ok-shown.ensures.items)
    (pushed_to _ _ _ _ _ c.note-3.ensures.items (pushed_to _ _ _ _ _ c.note-2.ensures.items (pushed_to _ _ _ _ _ c.note.ensures.items c.make_room.ensures.items refl) refl) refl)
    (omega (arith, c.in_ok-make_room.ensures.room, c.note.ensures.room, c.note-2.ensures.room, c.note-3.ensures.room, c.len.ensures, c.len-2.ensures, c.slot_of.new.files.ok.0, c.self.inside.handles.ok.0))

pub returns-clause-ok : goal.returns-clause-ok
returns-clause-ok c =
    let h = named_holds _ _ _ _ _ _ _ _ c.slot_of.ensures.kept c.self.invariant in
    let is = named_same _ _ _ _ _ _ _ _ _ c.slot_of.ensures.kept c.self.invariant c.self.view_is in
    let found = c.in_ok-slot.ensures.found in
    place_same _ _ _ _ _ _ h is c.in_ok-slot.slot c.args.name.now (Wrote 0 c.in_ok-kept.kept) c.args.bytes.now c.note-3.new.log.items found.1 (ap (Writing 0) c.in_ok-kept.ensures.items)
    (pushed_to _ _ _ _ _ c.note-3.ensures.items (pushed_to _ _ _ _ _ c.note-2.ensures.items (pushed_to _ _ _ _ _ c.note.ensures.items c.make_room.ensures.items refl) refl) refl)
