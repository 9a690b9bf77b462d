use Rattle.std.proofs.Common.{rules, ◌≡◌, ◌/◌, ◌^◌, ◌<◌, length, arith, subst, sym, List}
use Rattle.std.specs.List.Sorted.{IsNonDecreasingBy, IsPermutation}
use Rattle.std.proofs.lemmas.List.Sorted.{IsNonDecreasingBy-from_sort_by_key}
use Rattle.pos_forward.specs.declared.drafts.Draft.{Draft}
use Rattle.pos_forward.specs.declared.drafts.ShortDraft.{ShortDraft}
use Rattle.pos_forward.specs.Keeping.{kept_drafts}
use Rattle.pos_forward.proofs.KeepingLemmas.{kept-whole, short-permutation, short-rise}
use Rattle.pos_forward.proofs.TableLemmas.{sorted-table}
use Rattle.pos_forward.proofs.drafts.Drafts.sort.Goals as goal

none : (c : goal.After-sort_unstable_by_key) → length c.self.inside.whole.items ≡ 0
none c = search rules

short_permutation : (c : goal.After-sort_unstable_by_key)
    → IsPermutation c.args.self.now (kept_drafts c.sort_unstable_by_key.new.self.items c.self.inside.whole.items)
short_permutation c =
    subst (λ (xs : List Draft). IsPermutation xs (kept_drafts c.sort_unstable_by_key.new.self.items c.self.inside.whole.items)) c.self.view_is
    (short-permutation c.self.inside.short.items c.sort_unstable_by_key.new.self.items c.self.inside.whole.items (none c) c.sort_unstable_by_key.ensures.permutation)

short_rise : (c : goal.After-sort_unstable_by_key)
    → IsNonDecreasingBy (λ (d : Draft). d.y) (kept_drafts c.sort_unstable_by_key.new.self.items c.self.inside.whole.items)
short_rise c =
    short-rise c.sort_unstable_by_key.new.self.items c.self.inside.whole.items (none c)
    (IsNonDecreasingBy-from_sort_by_key (λ (d : ShortDraft). d.key / 2 ^ 64) _ c.sort_unstable_by_key.ensures.sorted (λ a r q k. search rules))

some : (c : goal.After-sort_unstable_by_key-else-is_empty) → 0 < length c.self.inside.whole.items
some c = search rules

whole_is : (c : goal.After-sort_unstable_by_key-else-is_empty)
    → kept_drafts c.self.inside.short.items c.sort_unstable_by_key-else-is_empty.new.self.items ≡ c.sort_unstable_by_key-else-is_empty.new.self.items
whole_is c =
    kept-whole c.self.inside.short.items c.sort_unstable_by_key-else-is_empty.new.self.items
    (let h = some c in let same = c.sort_unstable_by_key-else-is_empty.ensures.len in omega arith)

whole_rise : (c : goal.After-sort_unstable_by_key-else-is_empty)
    → IsNonDecreasingBy (λ (d : Draft). d.y) (kept_drafts c.self.inside.short.items c.sort_unstable_by_key-else-is_empty.new.self.items)
whole_rise c =
    subst (IsNonDecreasingBy (λ (d : Draft). d.y)) (sym (whole_is c))
    (IsNonDecreasingBy-from_sort_by_key (λ (d : Draft). d.y) _ c.sort_unstable_by_key-else-is_empty.ensures.sorted (λ a r q k. search rules))

pub returns-then-is_empty-clause-permutation : goal.returns-then-is_empty-clause-permutation
returns-then-is_empty-clause-permutation c = short_permutation c

pub returns-then-is_empty-clause-rise : goal.returns-then-is_empty-clause-rise
returns-then-is_empty-clause-rise c = λ i j d lt inside. short_rise c i j d (omega arith) inside

pub returns-else-is_empty-clause-rise : goal.returns-else-is_empty-clause-rise
returns-else-is_empty-clause-rise c = λ i j d lt inside. whole_rise c i j d (omega arith) inside

pub returns-then-is_empty-clause-table : goal.returns-then-is_empty-clause-table
returns-then-is_empty-clause-table c = λ k n es h.
    sorted-table k n es c.args.self.now (kept_drafts c.sort_unstable_by_key.new.self.items c.self.inside.whole.items) (short_permutation c) (short_rise c) h

whole_permutation : (c : goal.After-sort_unstable_by_key-else-is_empty)
    → IsPermutation c.args.self.now (kept_drafts c.self.inside.short.items c.sort_unstable_by_key-else-is_empty.new.self.items)
whole_permutation c = search rules

pub returns-else-is_empty-clause-table : goal.returns-else-is_empty-clause-table
returns-else-is_empty-clause-table c = λ k n es h.
    sorted-table k n es c.args.self.now (kept_drafts c.self.inside.short.items c.sort_unstable_by_key-else-is_empty.new.self.items) (whole_permutation c) (whole_rise c) h
