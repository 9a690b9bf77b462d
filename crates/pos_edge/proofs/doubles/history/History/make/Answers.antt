-- The name has a place, and one file is made there if none is.
use Rattle.std.proofs.Common.{refl, arith, ap, is_some, length, ◌∙◌}
use Rattle.pos_edge.specs.declared.doubles.history.MemoryFile.{MemoryFile}
use Rattle.std.proofs.lemmas.Result.{err_from_is_err_and}
use Rattle.pos_edge.proofs.KeptResults.{make_err}
use Rattle.pos_edge.proofs.KeptCalls.{named_holds, named_same, not_found, parts_moved, parts_same, found_there, found_absent, given_place, files_in, make_holds, make_same, same_read, pushed_to, given_handle}
use Rattle.pos_edge.proofs.doubles.history.History.make.Goals as goal

pub invariant_of-self : goal.invariant_of-self
invariant_of-self c = named_holds _ _ _ _ _ _ _ _ c.slot_of.ensures.kept c.self.invariant

pub returns-in_err-slot : goal.returns-in_err-slot
returns-in_err-slot c =
    let p = err_from_is_err_and c.from_residual.result c.from_residual.ensures.1 in
    make_err _ _ _ _ p.0 p.1 (not_found _ _ _ _ _ _ c.self.invariant c.self.view_is c.args.name.now c.in_err-slot.ensures.err) (named_same _ _ _ _ _ _ _ _ _ c.slot_of.ensures.kept c.self.invariant c.self.view_is)

pub invariant_of-self-then-index : goal.invariant_of-self-then-index
invariant_of-self-then-index c = named_holds _ _ _ _ _ _ _ _ c.slot_of.ensures.kept c.self.invariant

pub returns-then-index : goal.returns-then-index
returns-then-index c =
    let h = named_holds _ _ _ _ _ _ _ _ c.slot_of.ensures.kept c.self.invariant in
    let is = named_same _ _ _ _ _ _ _ _ _ c.slot_of.ensures.kept c.self.invariant c.self.view_is in
    let found = c.in_ok-slot.ensures.found in
    (ap is_some (found_there _ _ _ _ _ _ h is c.in_ok-slot.slot c.args.name.now c.index.result.now found.0 found.1 c.index.ensures c.if-index.true), is)

pub invariant_of-self-in_err-make_room : goal.invariant_of-self-in_err-make_room
invariant_of-self-in_err-make_room c =
    parts_moved _ _ _ _ _ _ _ _ c.make_room.ensures.items refl c.make_room.ensures.grows (named_holds _ _ _ _ _ _ _ _ c.slot_of.ensures.kept c.self.invariant)

pub returns-in_err-make_room : goal.returns-in_err-make_room
returns-in_err-make_room c =
    let h = named_holds _ _ _ _ _ _ _ _ c.slot_of.ensures.kept c.self.invariant in
    let is = named_same _ _ _ _ _ _ _ _ _ c.slot_of.ensures.kept c.self.invariant c.self.view_is in
    let found = c.in_ok-slot.ensures.found in
    let none = found_absent _ _ _ _ _ _ h is c.in_ok-slot.slot c.args.name.now c.index.result.now found.0 found.1 c.index.ensures c.if-index.false in
    let p = err_from_is_err_and c.from_residual-in_err-make_room.result c.from_residual-in_err-make_room.ensures.1 in
    make_err _ _ _ _ p.0 p.1 none (parts_same _ _ _ _ _ _ c.make_room.ensures.items refl (named_same _ _ _ _ _ _ _ _ _ c.slot_of.ensures.kept c.self.invariant c.self.view_is))

pub invariant_of-self-in_err-reserve : goal.invariant_of-self-in_err-reserve
invariant_of-self-in_err-reserve c =
    parts_moved _ _ _ _ _ _ _ _ c.make_room.ensures.items c.reserve.ensures.items c.make_room.ensures.grows (named_holds _ _ _ _ _ _ _ _ c.slot_of.ensures.kept c.self.invariant)

pub returns-in_err-reserve : goal.returns-in_err-reserve
returns-in_err-reserve c =
    let h = named_holds _ _ _ _ _ _ _ _ c.slot_of.ensures.kept c.self.invariant in
    let is = named_same _ _ _ _ _ _ _ _ _ c.slot_of.ensures.kept c.self.invariant c.self.view_is in
    let found = c.in_ok-slot.ensures.found in
    let none = found_absent _ _ _ _ _ _ h is c.in_ok-slot.slot c.args.name.now c.index.result.now found.0 found.1 c.index.ensures c.if-index.false in
    let p = err_from_is_err_and c.from_residual-in_err-reserve.result c.from_residual-in_err-reserve.ensures.1 in
    make_err _ _ _ _ p.0 p.1 none (parts_same _ _ _ _ _ _ c.make_room.ensures.items c.reserve.ensures.items (named_same _ _ _ _ _ _ _ _ _ c.slot_of.ensures.kept c.self.invariant c.self.view_is))

pub invariant_of-self-2 : goal.invariant_of-self-2
invariant_of-self-2 c =
    let h = named_holds _ _ _ _ _ _ _ _ c.slot_of.ensures.kept c.self.invariant in
    let is = named_same _ _ _ _ _ _ _ _ _ c.slot_of.ensures.kept c.self.invariant c.self.view_is in
    let found = c.in_ok-slot.ensures.found in
    let file = c.index_mut.result.now in
    let within = files_in _ _ _ _ _ _ h is c.in_ok-slot.slot found.0 in
    let same = same_read c.slot_of.new.files.items c.in_ok-slot.slot file c.index.result.now within c.index_mut.ensures.value c.index.ensures in
    make_holds _ _ _ _ _ _ h is c.in_ok-slot.slot c.args.name.now file c.make_file-removals.new.file c.note.new.log.items c.give.new.handles.items c.note.new.log.cap
    found.0 c.index_mut.ensures.value (ap (λ (x : MemoryFile). x.there) same ∙ c.if-index.false) c.make_file-removals.ensures.file
    (pushed_to _ _ _ _ _ c.note.ensures.items c.make_room.ensures.items refl)
    (pushed_to _ _ _ _ _ c.give.ensures.items c.reserve.ensures.items (given_handle c.in_ok-slot.slot _ _ 0 c.make_file-removals.ensures.removals))
    (omega (arith, c.in_ok-make_room.ensures.room, c.note.ensures.room, c.len.ensures, c.len-2.ensures, c.slot_of.new.files.ok.0, c.self.inside.handles.ok.0))

pub returns : goal.returns
returns c =
    let h = named_holds _ _ _ _ _ _ _ _ c.slot_of.ensures.kept c.self.invariant in
    let is = named_same _ _ _ _ _ _ _ _ _ c.slot_of.ensures.kept c.self.invariant c.self.view_is in
    let found = c.in_ok-slot.ensures.found in
    let file = c.index_mut.result.now in (
      found_absent _ _ _ _ _ _ h is c.in_ok-slot.slot c.args.name.now c.index.result.now found.0 found.1 c.index.ensures c.if-index.false,
      c.give.ensures.id ∙ (ap length c.reserve.ensures.items ∙ given_place _ _ _ _ _ _ h is),
      make_same _ _ _ _ _ _ h is c.in_ok-slot.slot c.args.name.now file c.note.new.log.items c.give.new.handles.items found.0 found.1 c.index_mut.ensures.value
          (pushed_to _ _ _ _ _ c.note.ensures.items c.make_room.ensures.items refl)
          (pushed_to _ _ _ _ _ c.give.ensures.items c.reserve.ensures.items (given_handle c.in_ok-slot.slot _ _ 0 c.make_file-removals.ensures.removals)),
    )
