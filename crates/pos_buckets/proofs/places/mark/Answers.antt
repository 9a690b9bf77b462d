use Rattle.std.proofs.Common.{◌≡◌, ◌+◌, ◌-◌, ◌<◌, length, get_or, sym, ◌∙◌, subst, arith}
use Rattle.std.proofs.lemmas.List.{get_or_read}
use Rattle.pos_buckets.specs.declared.places.Places.{Places}
use Rattle.pos_buckets.specs.Places.{AreMarked}
use Rattle.pos_buckets.proofs.PlaceLemmas.{marked-none, marked-new, marked-again}
use Rattle.pos_buckets.proofs.places.mark.Goals as goal
use Rattle.pos_buckets.proofs.places.mark.Goals.{then-index-eq0, else-index-eq0}

pub loop-i-init : goal.loop-i-init
loop-i-init c = marked-none _ _ _ _ c.requires.clear

pub loop-i-preserved : goal.loop-i-preserved
loop-i-preserved c =
    let place = get_or c.args.values.now c.loop-i.i 0 - c.args.base in
    let marks = c.loop-i.places.marks.items in
    let inside = c.requires.inside c.loop-i.i c.loop-i-test.true in
    let place_lt : place < length marks = omega (arith, inside.0, inside.1, c.loop-i.invariant.room.marks_count) in
    let read : c.index.result.now ≡ get_or marks place 0 = get_or_read marks place c.index.result.now place_lt c.index.ensures 0 in
    elim c.if-index-eq0.branch [
      | then-index-eq0 w ↦
          subst (λ (p : Places). AreMarked c.args.base c.args.values.now (c.loop-i.i + 1) p.marks.items p.firsts.items) (sym w.places-is)
          (marked-new c.args.base c.args.values.now marks c.loop-i.places.firsts.items c.loop-i.i c.requires.inside c.requires.rise c.loop-i-test.true
          c.loop-i.invariant (sym read ∙ w.if-index-eq0.true))
      | else-index-eq0 w ↦
          subst (λ (p : Places). AreMarked c.args.base c.args.values.now (c.loop-i.i + 1) p.marks.items p.firsts.items) (sym w.places-is)
          (marked-again c.args.base c.args.values.now marks c.loop-i.places.firsts.items c.loop-i.i
          c.loop-i.invariant (λ e. w.if-index-eq0.false (read ∙ e)))
    ]

pub returns : goal.returns
returns c =
    let all : c.loop-i.i ≡ length c.args.values.now = omega arith in
    subst (λ n. AreMarked c.args.base c.args.values.now n c.loop-i.places.marks.items c.loop-i.places.firsts.items) all c.loop-i.invariant
