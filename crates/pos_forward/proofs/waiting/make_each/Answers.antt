use Rattle.std.proofs.Common.{◌≡◌, ℕ, ◌<◌, length, get_or, arith, refl, sym, ap₂, ◌∙◌}
use Rattle.std.specs.Simd.Lanes.{zip2}
use Rattle.std.proofs.lemmas.List.{take_all, get_or_default}
use Rattle.std.proofs.lemmas.Simd.{get_or-zip2, length-zip2}
use Rattle.pos_tuple.specs.Node.{next_entry, IsEntry}
use Rattle.pos_tuple.specs.declared.entry.Entry.{Entry}
use Rattle.pos_forward.proofs.GatherLemmas.{made-none, made-more, made-whole}
use Rattle.pos_forward.proofs.waiting.make_each.Goals as goal

pub loop-j-init : goal.loop-j-init
loop-j-init c = made-none c.args.size c.args.t c.args.drafts.now _ _ refl refl

pub loop-j-preserved : goal.loop-j-preserved
loop-j-preserved c =
    let f : Entry → Entry → Entry = next_entry c.args.size c.args.t in
    let l_lt : c.loop-j.j < length c.args.left.now = omega arith in
    let r_lt : c.loop-j.j < length c.args.right.now = omega arith in
    let p_lt : c.loop-j.j < length c.args.pairs.now = omega arith in
    let len : length (zip2 f c.args.left.now c.args.right.now) ≡ length c.args.left.now =
    length-zip2 f c.args.left.now c.args.right.now (c.requires.as_many ∙ sym c.requires.as_many_right) in
    let p : ℕ × ℕ = get_or c.args.pairs.now c.loop-j.j (0, 0) in
    let entry : IsEntry c.args.size c.args.t c.fx-made.result = record { y = c.fx-made.ensures.y; meta = c.fx-made.ensures.meta } in
    made-more c.args.size c.args.t (zip2 f c.args.left.now c.args.right.now) c.args.pairs.now c.loop-j.j c.args.drafts.now c.loop-j.drafts _
    c.fx-made.result p c.draft_from.result c.loop-j.invariant (omega arith) p_lt
    (c.fx-made.ensures.entry ∙ ap₂ f c.index-left-j.is c.index-right-j.is
    ∙ sym (get_or-zip2 f c.args.left.now c.args.right.now c.loop-j.j c.index-left-j.result c.index-right-j.result c.fx-made.result l_lt r_lt))
    (get_or_default c.args.pairs.now c.loop-j.j (0, 0) p p_lt) c.draft_from.ensures.draft c.draft_from.ensures.fits entry
    c.in_ok-add.ensures

pub returns : goal.returns
returns c =
    made-whole c.args.size c.args.t _ (zip2 (next_entry c.args.size c.args.t) c.args.left.now c.args.right.now) _ c.args.pairs.now c.args.drafts.now c.loop-j.drafts
    (take_all c.loop-j.j (zip2 (next_entry c.args.size c.args.t) c.args.left.now c.args.right.now)
    (omega (arith, length-zip2 (next_entry c.args.size c.args.t) c.args.left.now c.args.right.now (c.requires.as_many ∙ sym c.requires.as_many_right))))
    (take_all c.loop-j.j c.args.pairs.now (omega arith)) c.loop-j.invariant
