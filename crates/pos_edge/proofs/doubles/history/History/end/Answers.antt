-- The FileId ends, and the file stays.
use Rattle.pos_edge.proofs.KeptCalls.{used_at, end_holds, end_same}
use Rattle.pos_edge.proofs.doubles.history.History.end.Goals as goal

pub invariant_of-self : goal.invariant_of-self
invariant_of-self c =
    let u = used_at _ _ _ _ _ _ c.self.invariant c.self.view_is c.args.id c.requires.0 c.index-handle.result.now c.requires.1 c.index-handle.ensures in
    end_holds _ _ _ _ _ _ c.self.invariant c.self.view_is c.args.id c.requires.0 c.index-handle.result.now u c.index-handle.ensures

pub returns : goal.returns
returns c = λ file can.
    let u = used_at _ _ _ _ _ _ c.self.invariant c.self.view_is c.args.id file c.index-handle.result.now can c.index-handle.ensures in
    end_same _ _ _ _ _ _ c.self.invariant c.self.view_is c.args.id file c.index-handle.result.now u
