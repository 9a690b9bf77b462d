-- A file that needs a sync is marked, and the sync is noted in the room that is left for it.
use Rattle.std.proofs.Common.{arith, ap, ◌∙◌}
use Rattle.pos_edge.specs.declared.doubles.history.MemoryFile.{MemoryFile}
use Rattle.pos_edge.proofs.KeptCalls.{used_at, used_slot, sync_room, sync_holds, sync_same, sync_none, same_read}
use Rattle.pos_edge.proofs.doubles.history.History.sync.Goals as goal

pub note-requires : goal.note-requires
note-requires c =
    let handle = c.index.result.now in
    let u = used_at _ _ _ _ _ _ c.self.invariant c.self.view_is c.args.id c.requires.0 handle c.requires.1 c.index.ensures in
    omega (arith, sync_room _ _ _ _ _ _ c.self.invariant c.self.view_is c.args.id c.requires.0 handle u c.index-2.result.now c.index-2.ensures c.if-not-index.true, c.self.inside.log.ok.0)

pub invariant_of-self : goal.invariant_of-self
invariant_of-self c =
    let handle = c.index.result.now in
    let u = used_at _ _ _ _ _ _ c.self.invariant c.self.view_is c.args.id c.requires.0 handle c.requires.1 c.index.ensures in
    let within = used_slot _ _ _ _ _ _ c.self.invariant c.self.view_is c.args.id c.requires.0 handle u c.index_mut.result.now c.index_mut.ensures.value in
    let same = same_read c.self.inside.files.items handle.slot c.index_mut.result.now c.index-2.result.now within c.index_mut.ensures.value c.index-2.ensures in
    sync_holds _ _ _ _ _ _ c.self.invariant c.self.view_is c.args.id c.requires.0 handle u c.index_mut.result.now c.index_mut.ensures.value c.sync_file.new.file c.note.new.log.items c.note.new.log.cap
    (ap (λ (x : MemoryFile). x.clean) same ∙ c.if-not-index.true) c.sync_file.ensures c.note.ensures.items c.note.ensures.room

pub returns-then-not-index : goal.returns-then-not-index
returns-then-not-index c = λ file can.
    let handle = c.index.result.now in
    let u = used_at _ _ _ _ _ _ c.self.invariant c.self.view_is c.args.id file handle can c.index.ensures in
    sync_same _ _ _ _ _ _ c.self.invariant c.self.view_is c.args.id file handle u c.index-2.result.now c.index-2.ensures c.note.new.log.items c.if-not-index.true c.note.ensures.items

pub returns-else-not-index : goal.returns-else-not-index
returns-else-not-index c = λ file can.
    let handle = c.index.result.now in
    let u = used_at _ _ _ _ _ _ c.self.invariant c.self.view_is c.args.id file handle can c.index.ensures in
    sync_none _ _ _ _ _ _ c.self.invariant c.self.view_is c.args.id file handle u c.index-2.result.now c.index-2.ensures c.if-not-index.false
