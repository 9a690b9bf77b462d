-- The file is taken away, the removal is noted in the room that is left for it, and the FileId ends.
use Rattle.std.proofs.Common.{arith}
use Rattle.pos_edge.proofs.KeptCalls.{used_at, used_removals, remove_room, remove_holds, remove_same}
use Rattle.pos_edge.proofs.doubles.history.History.remove.Goals as goal

pub remove_file-requires : goal.remove_file-requires
remove_file-requires c =
    let u = used_at _ _ _ _ _ _ c.self.invariant c.self.view_is c.args.id c.requires.0 c.index-handle.result.now c.requires.1 c.index-handle.ensures in
    omega (arith, used_removals _ _ _ _ _ _ c.self.invariant c.self.view_is c.args.id c.requires.0 c.index-handle.result.now u c.index_mut.result.now c.index_mut.ensures.value, c.self.inside.log.ok.0, c.self.inside.log.ok.1, c.self.inside.log.small)

pub note-requires : goal.note-requires
note-requires c =
    let u = used_at _ _ _ _ _ _ c.self.invariant c.self.view_is c.args.id c.requires.0 c.index-handle.result.now c.requires.1 c.index-handle.ensures in
    omega (arith, remove_room _ _ _ _ _ _ c.self.invariant c.self.view_is c.args.id c.requires.0 c.index-handle.result.now u c.index_mut.result.now c.index_mut.ensures.value c.index-handle.ensures, c.self.inside.log.ok.0)

pub index_mut-requires-2 : goal.index_mut-requires-2
index_mut-requires-2 c =
    let u = used_at _ _ _ _ _ _ c.self.invariant c.self.view_is c.args.id c.requires.0 c.index-handle.result.now c.requires.1 c.index-handle.ensures in
    omega (arith, u.id_in, c.self.inside.handles.ok.0)

pub invariant_of-self : goal.invariant_of-self
invariant_of-self c =
    let u = used_at _ _ _ _ _ _ c.self.invariant c.self.view_is c.args.id c.requires.0 c.index-handle.result.now c.requires.1 c.index-handle.ensures in
    remove_holds _ _ _ _ _ _ c.self.invariant c.self.view_is c.args.id c.requires.0 c.index-handle.result.now u c.index_mut.result.now c.index_mut.ensures.value c.remove_file.new.file c.note.new.log.items c.note.new.log.cap
    c.index-handle.ensures c.remove_file.ensures c.note.ensures.items c.note.ensures.room

pub returns : goal.returns
returns c = λ file can.
    let u = used_at _ _ _ _ _ _ c.self.invariant c.self.view_is c.args.id file c.index-handle.result.now can c.index-handle.ensures in
    remove_same _ _ _ _ _ _ c.self.invariant c.self.view_is c.args.id file c.index-handle.result.now u c.index_mut.result.now c.index_mut.ensures.value c.note.new.log.items c.note.ensures.items
