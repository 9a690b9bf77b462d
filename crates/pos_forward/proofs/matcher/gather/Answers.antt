use Rattle.std.proofs.Common.{ℕ, ◌<◌, ◌++◌, List, map, length, get_or, arith, subst}
use Rattle.std.proofs.lemmas.List.{take_all, get_or_default}
use Rattle.pos_forward.specs.Waiting.{AreMadeOrWait, shifted}
use Rattle.pos_forward.proofs.GatherLemmas.{so-far-none, gathered-more}
use Rattle.pos_forward.proofs.matcher.gather.Goals as goal

pub loop-pair-init : goal.loop-pair-init
loop-pair-init c = so-far-none c.args.size c.args.t c.args.left.now c.args.right.now c.args.waiting.now c.args.drafts.now c.args.lanes.now c.requires.few

pub loop-pair-preserved : goal.loop-pair-preserved
loop-pair-preserved c =
    let lt : c.loop-pair.pair-index < length c.args.pairs.now = omega arith in
    let p : ℕ × ℕ = get_or c.args.pairs.now c.loop-pair.pair-index (0, 0) in
    let inside : (p.0 < length c.args.left.now.entries.items) × (p.1 < length c.args.right.now.entries.items) = c.requires.inside c.loop-pair.pair-index (0, 0) lt in
    record {
      few = c.in_ok-add.ensures.few;
      gathered =
          gathered-more c.args.size c.args.t c.args.left.now c.args.right.now c.args.pairs.now c.loop-pair.pair-index
          c.args.waiting.now c.loop-pair.waiting c.add.new.self c.args.drafts.now c.loop-pair.drafts c.add.new.drafts p c.index.result.now c.index-in-loop-pair.result.now
          lt (get_or_default c.args.pairs.now c.loop-pair.pair-index (0, 0) p lt) inside.0 inside.1 c.index.ensures c.index-in-loop-pair.ensures
          c.loop-pair.invariant.gathered (λ es qs l r h. c.in_ok-add.ensures.gathered es qs l r h);
      counts = λ base h. c.in_ok-add.ensures.lanes base (c.loop-pair.invariant.counts base h);
    }

pub returns : goal.returns
returns c = record {
  few = c.loop-pair.invariant.few;
  gathered = λ es done sl sr h.
      subst
      (λ (qs : List (ℕ × ℕ)). AreMadeOrWait c.args.size c.args.t es (done ++ map (shifted c.args.left.now.first c.args.right.now.first) qs) c.loop-pair.waiting c.loop-pair.drafts)
      (take_all c.loop-pair.pair-index c.args.pairs.now c.loop-pair-test.false) (c.loop-pair.invariant.gathered es done sl sr h);
  lanes = λ base h. c.loop-pair.invariant.counts base h;
}
