-- Each file is removed in turn, and those before it still stand.
use Rattle.std.proofs.Common.{◌≡◌, ◌++◌, ◌∷◌, [], refl, sym, rules, ap, ◌∙◌, append-nil, append_assoc}
use Rattle.pos_edge.specs.Faults.{Rose}
use Rattle.pos_edge.specs.Frame.{SameFaults}
use Rattle.pos_edge.specs.Calls.{IsGone}
use Rattle.pos_edge.specs.ScratchNames.{Stand}
use Rattle.pos_edge.proofs.ScratchFiles.{cleared_none, cleared_more, Stand-pop, at_is_ok, at_is_err}
use Rattle.pos_edge.proofs.scratch.Scratch.clear.Goals as goal

pub loop-last-init : goal.loop-last-init
loop-last-init g c =
    let s : Stand c.self.inside.base.bytes.items c.self.inside.made c.self.inside.left.items (g.D.Disk.view c.args.disk.now) = rw (← c.self.view_is) at c.requires in
    (refl, refl, ([], sym (append-nil c.self.inside.left.items), cleared_none c.self.inside.base.bytes.items (g.D.Disk.view c.args.disk.now)), s)

pub loop-last-preserved : goal.loop-last-preserved
loop-last-preserved g c =
    let base = c.self.inside.base.bytes.items in
    let made = c.self.inside.made in
    let left = c.pop.new.self.items in
    let file = c.in-Some.last in
    let was = c.loop-last.invariant.2 in
    let a = g.D.Disk.view c.args.disk.now in
    let b = g.D.Disk.view c.loop-last.disk in
    let d = g.D.Disk.view c.remove.new.self in
    let popped : c.loop-last.self-inside.left.items ≡ left ++ file ∷ [] = c.in-Some.ensures.items in
    let s : Stand base made (left ++ file ∷ []) b = rw popped at c.loop-last.invariant.3 in
    let after = cleared_more base made left was.0 file c.loop-last.all c.is_ok-removed.result a b d (g.met.D.Disk.is_disk c.loop-last.disk) (g.met.D.Disk.is_disk c.remove.new.self) s was.2 c.remove.ensures.kept c.remove.ensures.reads c.remove.ensures.ends
    (at_is_ok (IsGone file.file.0 b d) c.remove.result c.is_ok-removed.result c.is_ok-removed.ensures.value c.remove.ensures.ok)
    (at_is_ok (SameFaults b d) c.remove.result c.is_ok-removed.result c.is_ok-removed.ensures.value c.remove.ensures.quiet)
    (at_is_err (Rose b.faults d.faults) c.remove.result c.is_ok-removed.result c.is_ok-removed.ensures.value c.remove.ensures.failed)
    c.remove.ensures.left in (
      c.loop-last.invariant.0,
      c.loop-last.invariant.1,
      (file ∷ was.0, was.1 ∙ (ap (λ xs. xs ++ was.0) popped ∙ append_assoc left (file ∷ []) was.0), after),
      Stand-pop base made left file b d (g.met.D.Disk.is_disk c.loop-last.disk) c.remove.ensures.kept.tells c.remove.ensures.ends s,
    )

pub returns-then-all-clause-kept : goal.returns-then-all-clause-kept
returns-then-all-clause-kept g c =
    let was = c.loop-last.invariant.2 in
    let none : c.loop-last.self-inside.left.items ≡ [] = search rules in
    let all : was.0 ≡ c.self.inside.left.items = sym (was.1 ∙ ap (λ xs. xs ++ was.0) none) in
    rw (← c.self.view_is, ← all) was.2.kept

pub returns-else-all-clause-kept : goal.returns-else-all-clause-kept
returns-else-all-clause-kept g c =
    let was = c.loop-last.invariant.2 in
    let none : c.loop-last.self-inside.left.items ≡ [] = search rules in
    let all : was.0 ≡ c.self.inside.left.items = sym (was.1 ∙ ap (λ xs. xs ++ was.0) none) in
    rw (← c.self.view_is, ← all) was.2.kept
