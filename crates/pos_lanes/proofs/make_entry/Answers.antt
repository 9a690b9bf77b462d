use Rattle.std.proofs.Common.{◌∙◌, ap, arith, Some, sym}
use Rattle.pos_lanes.proofs.PlaceLemmas.{got, zip2-got}
use Rattle.pos_lanes.proofs.make_entry.Goals as goal

pub returns-clause-entry : goal.returns-clause-entry
returns-clause-entry c =
    zip2-got _ _ _ c.args.i _ _ (got c.args.left.now c.args.i c.index-left-i.result (omega arith)) (got c.args.right.now c.args.i c.index-right-i.result (omega arith))
    ∙ ap (λ e. Some e) (sym c.set_entry.ensures.entry)
