use Rattle.pos_prune.proofs.SeveralLemmas.{if_ok, on_ok}
use Rattle.pos_prune.proofs.pruning.prune.Goals as goal

pub returns-clause-work : goal.returns-clause-work
returns-clause-work g c = c.kept_levels.ensures.answer.ended.work

pub returns-clause-done : goal.returns-clause-done
returns-clause-done g c = on_ok c.kept_levels.result _ _ (λ x kept. kept.worked.done) c.kept_levels.ensures.made

pub returns-clause-most : goal.returns-clause-most
returns-clause-most g c = c.kept_levels.ensures.answer.ended.few

pub returns-clause-made : goal.returns-clause-made
returns-clause-made g c = on_ok c.kept_levels.result _ _ (λ x kept. kept.worked.made) c.kept_levels.ensures.made

pub returns-clause-kept : goal.returns-clause-kept
returns-clause-kept g c = if_ok c.kept_levels.result _ _ (λ x kept. kept.kept) c.kept_levels.ensures.made

pub returns-clause-counts : goal.returns-clause-counts
returns-clause-counts g c = if_ok c.kept_levels.result _ _ (λ x kept. kept.lists.count) c.kept_levels.ensures.made

pub returns-clause-exists : goal.returns-clause-exists
returns-clause-exists g c = c.kept_levels.ensures.answer.ended.exists

pub returns-clause-failed : goal.returns-clause-failed
returns-clause-failed g c = c.kept_levels.ensures.answer.ended.failed

pub returns-clause-quiet : goal.returns-clause-quiet
returns-clause-quiet g c = c.kept_levels.ensures.answer.ended.quiet

pub returns-clause-damage : goal.returns-clause-damage
returns-clause-damage g c = c.kept_levels.ensures.answer.damage

pub returns-clause-never : goal.returns-clause-never
returns-clause-never g c = λ d is tells.
    let ts = c.requires.stands in
    c.kept_levels.ensures.answer.never d ts.0 is ts.1 tells (ts.2 tells)
