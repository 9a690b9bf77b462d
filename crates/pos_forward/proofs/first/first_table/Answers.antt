use Rattle.std.proofs.Common.{rules}
use Rattle.std.proofs.lemmas.List.Sorted.{IsNonDecreasingBy-from_sort_by_key}
use Rattle.pos_record.specs.declared.kinds.First.{First}
use Rattle.pos_forward.proofs.FirstLemmas.{first-rows}
use Rattle.pos_forward.proofs.first.first_table.Goals as goal

pub returns : goal.returns
returns c =
    first-rows c.args.id.now.0 c.args.size _ _ c.in_ok-list_values.ensures c.sort_unstable_by_key.ensures.permutation
    (IsNonDecreasingBy-from_sort_by_key (λ (r : First). r.y) _ c.sort_unstable_by_key.ensures.sorted (λ a r q k. search rules))
