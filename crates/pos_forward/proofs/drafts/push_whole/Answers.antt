use Rattle.std.proofs.Common.{ap, ◌∙◌, ◌++◌, ◌∷◌, []}
use Rattle.pos_forward.proofs.KeepingLemmas.{whole-more}
use Rattle.pos_forward.proofs.drafts.push_whole.Goals as goal

pub loop-i-preserved : goal.loop-i-preserved
loop-i-preserved c =
    c.in_ok-push.ensures ∙ ap (λ d. c.loop-i.whole.items ++ d ∷ []) c.whole_of.ensures
    ∙ whole-more c.args.whole.now.items c.loop-i.whole.items c.args.rows.now c.loop-i.i _ c.loop-i-test.true c.loop-i.invariant
