use Rattle.std.proofs.Common.{ℕ, ◌<◌, length, get_or, arith, refl, sym, subst}
use Rattle.std.proofs.lemmas.List.{take_all, get_or_default}
use Rattle.pos_tuple.specs.Node.{IsEntry}
use Rattle.pos_forward.proofs.GatherLemmas.{made-none, made-more, made-whole}
use Rattle.pos_forward.proofs.waiting.add_made.Goals as goal

pub loop-j-init : goal.loop-j-init
loop-j-init c = made-none c.args.size c.args.t c.args.drafts.now _ _ refl refl

pub loop-j-preserved : goal.loop-j-preserved
loop-j-preserved c =
    let lt : c.loop-j.j < length c.args.made.now = omega arith in
    let p_lt : c.loop-j.j < length c.args.pairs.now = omega arith in
    let p : ℕ × ℕ = get_or c.args.pairs.now c.loop-j.j (0, 0) in
    made-more c.args.size c.args.t c.args.made.now c.args.pairs.now c.loop-j.j c.args.drafts.now c.loop-j.drafts _
    c.index-made-j.result p c.draft_from.result c.loop-j.invariant lt p_lt c.index-made-j.is
    (get_or_default c.args.pairs.now c.loop-j.j (0, 0) p p_lt) c.draft_from.ensures.draft c.draft_from.ensures.fits
    (subst (IsEntry c.args.size c.args.t) (sym c.index-made-j.is) (c.requires.each c.loop-j.j c.index-made-j.result lt))
    c.in_ok-add.ensures

pub returns : goal.returns
returns c =
    made-whole c.args.size c.args.t _ c.args.made.now _ c.args.pairs.now c.args.drafts.now c.loop-j.drafts
    (take_all c.loop-j.j c.args.made.now (omega arith)) (take_all c.loop-j.j c.args.pairs.now (omega arith)) c.loop-j.invariant
