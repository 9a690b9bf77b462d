-- The place's file is replayed, and its state is that of the name.
use Rattle.std.proofs.Common.{◌≡◌, ap, ◌∙◌, sym, fold}
use Rattle.pos_edge.specs.Log.{NameState, never}
use Rattle.pos_edge.specs.Histories.{seen_at}
use Rattle.pos_edge.specs.MemoryDisks.{image_after}
use Rattle.pos_edge.proofs.KeptCalls.{found_in}
use Rattle.pos_edge.proofs.KeptPlaced.{place_state, no_image}
use Rattle.pos_edge.proofs.doubles.history.History.image.Goals as goal

pub returns-in_default : goal.returns-in_default
returns-in_default c = no_image _ _ _ _ _ _ c.self.invariant c.self.view_is c.args.name.now c.args.writes (rw c.deref.ensures.value at c.in_default.ensures.none)

pub returns : goal.returns
returns c =
    let found = found_in _ _ c.in-Some.slot c.args.name.now c.deref.ensures.value c.in-Some.ensures.found in
    let state = place_state _ _ _ _ _ _ c.self.invariant c.self.view_is c.in-Some.slot c.args.name.now found.0 found.1 in
    let same : fold (seen_at c.in-Some.slot) never c.deref-2.result.now ≡ fold (seen_at c.in-Some.slot) never c.self.inside.log.items = ap (fold (seen_at c.in-Some.slot) never) c.deref-2.ensures.value in
    c.shown.ensures (fold (seen_at c.in-Some.slot) never c.deref-2.result.now).file c.in_ok-replay.ensures
    ∙ ap (λ (s : NameState). image_after c.args.writes s.file) (same ∙ sym state)
