-- The bytes of a file that is there are those that its history gives.
use Rattle.std.proofs.Common.{sym, ap, ◌∙◌, Some}
use Rattle.pos_edge.proofs.KeptCalls.{found_there, found_absent, not_found, found_in}
use Rattle.pos_edge.proofs.doubles.history.History.contents.Goals as goal

pub returns-in_err-slot-clause-absent : goal.returns-in_err-slot-clause-absent
returns-in_err-slot-clause-absent c = rw c.from_residual.ensures (not_found _ _ _ _ _ _ c.self.invariant c.self.view_is c.args.name.now (rw c.deref.ensures.value at c.in_err-slot.ensures.none))

pub returns-then-not-file-clause-absent : goal.returns-then-not-file-clause-absent
returns-then-not-file-clause-absent c =
    let found = found_in _ _ c.in_ok-slot.slot c.args.name.now c.deref.ensures.value c.in_ok-slot.ensures.found in
    found_absent _ _ _ _ _ _ c.self.invariant c.self.view_is c.in_ok-slot.slot c.args.name.now c.index-file.result.now found.0 found.1 c.index-file.ensures c.if-not-file.true

pub returns-clause-there : goal.returns-clause-there
returns-clause-there c =
    let found = found_in _ _ c.in_ok-slot.slot c.args.name.now c.deref.ensures.value c.in_ok-slot.ensures.found in
    found_there _ _ _ _ _ _ c.self.invariant c.self.view_is c.in_ok-slot.slot c.args.name.now c.index-file.result.now found.0 found.1 c.index-file.ensures c.if-not-file.false ∙ ap (λ x. Some x) (sym c.deref-2.ensures.value)
