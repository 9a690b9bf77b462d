-- The file's bytes are written over, and the write is noted.
use Rattle.std.proofs.Common.{◌≤◌, refl, arith, ap}
use Rattle.pos_edge.specs.declared.doubles.history.Deed.TheVariants.{Wrote}
use Rattle.pos_edge.specs.Log.{Writing}
use Rattle.pos_edge.proofs.KeptCalls.{used_at, file_size, unchanged_holds, write_holds, write_same, pushed_to, set_size, set_size_same}
use Rattle.pos_edge.proofs.doubles.history.History.write.Goals as goal

pub invariant_of-self-in_err-write_file : goal.invariant_of-self-in_err-write_file
invariant_of-self-in_err-write_file c =
    unchanged_holds _ _ _ _ _ c.self.invariant c.index-handle.result.now.slot c.index_mut.result.now c.write_file.new.file c.make_room.new.log.items c.make_room.new.log.cap c.index_mut.ensures.value c.in_err-write_file.ensures.err c.make_room.ensures.items c.make_room.ensures.grows

pub index_mut-requires-2 : goal.index_mut-requires-2
index_mut-requires-2 c =
    let u = used_at _ _ _ _ _ _ c.self.invariant c.self.view_is c.args.id c.requires.usable.0 c.index-handle.result.now c.requires.usable.1 c.index-handle.ensures in
    omega (arith, u.id_in, c.self.inside.handles.ok.0)

pub invariant_of-self-2 : goal.invariant_of-self-2
invariant_of-self-2 c =
    let handle = c.index-handle.result.now in
    let u = used_at _ _ _ _ _ _ c.self.invariant c.self.view_is c.args.id c.requires.usable.0 handle c.requires.usable.1 c.index-handle.ensures in
    let within : c.args.at ≤ handle.size = omega (arith, c.requires.usable.2, file_size _ _ _ _ _ _ c.self.invariant c.self.view_is c.args.id c.requires.usable.0 handle u) in
    set_size _ _ _ _ _ _ _ _ _ _ c.max-size.ensures (write_holds _ _ _ _ _ _ c.self.invariant c.self.view_is c.args.id c.requires.usable.0 handle u c.index_mut.result.now c.index_mut.ensures.value
    c.args.at (Wrote c.args.at c.in_ok-kept.kept) c.args.piece.now c.write_file.new.file c.note.new.log.items c.note.new.log.cap c.index-handle.ensures within (ap (Writing c.args.at) c.in_ok-kept.ensures.items)
    c.in_ok-write_file.ensures.ok (pushed_to _ _ _ _ _ c.note.ensures.items c.make_room.ensures.items refl)
    (omega (arith, c.in_ok-make_room.ensures.room, c.note.ensures.room, c.len.ensures, c.len-2.ensures, c.self.inside.files.ok.0, c.self.inside.handles.ok.0)))

pub returns-clause-ok : goal.returns-clause-ok
returns-clause-ok c = λ file can.
    let handle = c.index-handle.result.now in
    let u = used_at _ _ _ _ _ _ c.self.invariant c.self.view_is c.args.id file handle can c.index-handle.ensures in
    set_size_same _ _ _ _ _ _ _ _ _ c.max-size.ensures (write_same _ _ _ _ _ _ c.self.invariant c.self.view_is c.args.id file handle u c.index_mut.result.now c.index_mut.ensures.value
    c.args.at (Wrote c.args.at c.in_ok-kept.kept) c.args.piece.now c.note.new.log.items (ap (Writing c.args.at) c.in_ok-kept.ensures.items) (pushed_to _ _ _ _ _ c.note.ensures.items c.make_room.ensures.items refl))
