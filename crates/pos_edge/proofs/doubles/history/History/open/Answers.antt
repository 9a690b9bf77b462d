-- The name has a place where a file is, and a FileId is given for it.
use Rattle.std.proofs.Common.{refl, arith, ap, length, ◌∙◌}
use Rattle.pos_edge.specs.declared.doubles.history.MemoryFile.{MemoryFile}
use Rattle.std.proofs.lemmas.Result.{err_from_is_err_and}
use Rattle.pos_edge.proofs.KeptResults.{find_err}
use Rattle.pos_edge.proofs.KeptCalls.{parts_same, found_there, found_absent, not_found, given_place, files_in, open_holds, open_same, same_read, pushed_to, found_in, opened_handle}
use Rattle.pos_edge.proofs.doubles.history.History.open.Goals as goal

pub returns-in_default : goal.returns-in_default
returns-in_default c =
    (not_found _ _ _ _ _ _ c.self.invariant c.self.view_is c.args.name.now (rw c.deref.ensures.value at c.in_default.ensures.none), refl)

pub returns-then-not-index : goal.returns-then-not-index
returns-then-not-index c =
    let found = found_in _ _ c.in-Some.slot c.args.name.now c.deref.ensures.value c.in-Some.ensures.found in
    (found_absent _ _ _ _ _ _ c.self.invariant c.self.view_is c.in-Some.slot c.args.name.now c.index.result.now found.0 found.1 c.index.ensures c.if-not-index.true, refl)

pub returns-in_err-make_room : goal.returns-in_err-make_room
returns-in_err-make_room c =
    let found = found_in _ _ c.in-Some.slot c.args.name.now c.deref.ensures.value c.in-Some.ensures.found in
    let file = c.index.result.now in
    let there = found_there _ _ _ _ _ _ c.self.invariant c.self.view_is c.in-Some.slot c.args.name.now file found.0 found.1 c.index.ensures c.if-not-index.false in
    let p = err_from_is_err_and c.from_residual.result c.from_residual.ensures.1 in
    find_err _ _ _ _ p.0 p.1 _ there (parts_same _ _ _ _ _ _ c.make_room.ensures.items refl c.self.view_is)

pub returns-in_err-reserve : goal.returns-in_err-reserve
returns-in_err-reserve c =
    let found = found_in _ _ c.in-Some.slot c.args.name.now c.deref.ensures.value c.in-Some.ensures.found in
    let file = c.index.result.now in
    let there = found_there _ _ _ _ _ _ c.self.invariant c.self.view_is c.in-Some.slot c.args.name.now file found.0 found.1 c.index.ensures c.if-not-index.false in
    let p = err_from_is_err_and c.from_residual-in_err-reserve.result c.from_residual-in_err-reserve.ensures.1 in
    find_err _ _ _ _ p.0 p.1 _ there (parts_same _ _ _ _ _ _ c.make_room.ensures.items c.reserve.ensures.items c.self.view_is)

pub invariant_of-self-2 : goal.invariant_of-self-2
invariant_of-self-2 c =
    let found = found_in _ _ c.in-Some.slot c.args.name.now c.deref.ensures.value c.in-Some.ensures.found in
    let file = c.index.result.now in
    let within = files_in _ _ _ _ _ _ c.self.invariant c.self.view_is c.in-Some.slot found.0 in
    let two = same_read c.self.inside.files.items c.in-Some.slot c.index-2.result.now file within c.index-2.ensures c.index.ensures in
    let three = same_read c.self.inside.files.items c.in-Some.slot c.index-3.result.now file within c.index-3.ensures c.index.ensures in
    open_holds _ _ _ _ _ _ c.self.invariant c.self.view_is c.in-Some.slot file c.make_room.new.log.items c.give.new.handles.items c.make_room.new.log.cap found.0 c.index.ensures c.if-not-index.false
    c.make_room.ensures.items (pushed_to _ _ _ _ _ c.give.ensures.items c.reserve.ensures.items (opened_handle c.in-Some.slot _ _ _ _ (ap (λ (x : MemoryFile). x.removals) two) (c.len-size.ensures ∙ (c.index-3.result.now.bytes.ok.0 ∙ ap (λ (x : MemoryFile). length x.bytes.items) three))))
    (omega (arith, c.in_ok-make_room.ensures.room, c.len.ensures, c.len-2.ensures, c.self.inside.files.ok.0, c.self.inside.handles.ok.0))

pub returns : goal.returns
returns c =
    let found = found_in _ _ c.in-Some.slot c.args.name.now c.deref.ensures.value c.in-Some.ensures.found in
    let file = c.index.result.now in
    let within = files_in _ _ _ _ _ _ c.self.invariant c.self.view_is c.in-Some.slot found.0 in
    let two = same_read c.self.inside.files.items c.in-Some.slot c.index-2.result.now file within c.index-2.ensures c.index.ensures in
    let three = same_read c.self.inside.files.items c.in-Some.slot c.index-3.result.now file within c.index-3.ensures c.index.ensures in (
      c.give.ensures.id ∙ (ap length c.reserve.ensures.items ∙ given_place _ _ _ _ _ _ c.self.invariant c.self.view_is),
      (
        file.bytes.items,
        found_there _ _ _ _ _ _ c.self.invariant c.self.view_is c.in-Some.slot c.args.name.now file found.0 found.1 c.index.ensures c.if-not-index.false,
        open_same _ _ _ _ _ _ c.self.invariant c.self.view_is c.in-Some.slot c.args.name.now file c.make_room.new.log.items c.give.new.handles.items found.0 found.1 c.index.ensures
            c.make_room.ensures.items (pushed_to _ _ _ _ _ c.give.ensures.items c.reserve.ensures.items (opened_handle c.in-Some.slot _ _ _ _ (ap (λ (x : MemoryFile). x.removals) two) (c.len-size.ensures ∙ (c.index-3.result.now.bytes.ok.0 ∙ ap (λ (x : MemoryFile). length x.bytes.items) three)))),
      ),
    )
