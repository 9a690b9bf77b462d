use Rattle.std.proofs.Common.{◌≡◌, subst, ◌+◌, ◌-◌, ◌*◌, ◌^◌, ◌%◌, leb, true, false, take, drop, Some, None, rules}
use Rattle.pos_layout.specs.declared.damage.HeaderField.TheVariants.{Name, Size, Zeros, Memo, Counts}
use Rattle.pos_layout.specs.Bytes.{part, two_at}
use Rattle.pos_layout.specs.Layouts.{memo_of}
use Rattle.pos_layout.specs.Fields.{header_in, layout_in}
use Rattle.pos_layout.specs.Damages.{header_fault}
use Rattle.pos_layout.proofs.CodecLemmas.{fault_name, fault_size, fault_zeros, fault_memo, fault_counts, fault_none, header_from, most_is}
use Rattle.pos_layout.proofs.LayoutLemmas.{zeros_from-are}
use Rattle.pos_layout.proofs.header.decode_header.Goals as goal

pub returns-then-not-is_named-clause-fault : goal.returns-then-not-is_named-clause-fault
returns-then-not-is_named-clause-fault c =
    let b = c.args.bytes.now in
    subst (λ l. header_fault l b ≡ Some Name) c.layout_in-layout.ensures (fault_name c.layout_in-layout.result b (search rules))

pub returns-then-not-is_size-clause-fault : goal.returns-then-not-is_size-clause-fault
returns-then-not-is_size-clause-fault c =
    let b = c.args.bytes.now in
    subst (λ l. header_fault l b ≡ Some Size) c.layout_in-layout.ensures (fault_size c.layout_in-layout.result b c.from-k.result (search rules) (search rules) (search rules))

pub returns-then-not-are_zero-clause-fault : goal.returns-then-not-are_zero-clause-fault
returns-then-not-are_zero-clause-fault c =
    let b = c.args.bytes.now in
    let l = c.layout_in-layout.result in
    let from = c.zeros_from.result in
    subst (λ l. header_fault l b ≡ Some Zeros) c.layout_in-layout.ensures
    (fault_zeros l b (take (56 - from) (drop from b)) c.from-k.result (search rules) (zeros_from-are l b from c.zeros_from.ensures.value) (search rules) (search rules) (search rules))

pub returns-then-not-is_memo-clause-fault : goal.returns-then-not-is_memo-clause-fault
returns-then-not-is_memo-clause-fault c =
    let b = c.args.bytes.now in
    let l = c.layout_in-layout.result in
    let from = c.zeros_from.result in
    let memo : leb (two_at b 49) (memo_of l) ≡ false = subst (λ m. leb m (memo_of l) ≡ false) c.two_at-memo_length.ensures (search rules) in
    subst (λ l. header_fault l b ≡ Some Memo) c.layout_in-layout.ensures
    (fault_memo l b (take (56 - from) (drop from b)) c.from-k.result (search rules) (zeros_from-are l b from c.zeros_from.ensures.value) (search rules) (search rules) (search rules) memo)

pub returns-then-not-counts_are_at_most-clause-fault : goal.returns-then-not-counts_are_at_most-clause-fault
returns-then-not-counts_are_at_most-clause-fault c =
    let b = c.args.bytes.now in
    let k = c.from-k.result in
    let l = c.layout_in-layout.result in
    let from = c.zeros_from.result in
    let memo : leb (two_at b 49) (memo_of l) ≡ true = subst (λ m. leb m (memo_of l) ≡ true) c.two_at-memo_length.ensures (search rules) in
    subst (λ l. header_fault l b ≡ Some Counts) c.layout_in-layout.ensures
    (fault_counts l b (take (56 - from) (drop from b)) k (1 * 2 ^ (k + 1) % 2 ^ 64) c.columns_in-columns.result (search rules) (zeros_from-are l b from c.zeros_from.ensures.value) c.columns_in-columns.ensures (most_is k (search rules))
    (search rules) (search rules) (search rules) memo (search rules))

pub returns-clause-no_fault : goal.returns-clause-no_fault
returns-clause-no_fault c =
    let b = c.args.bytes.now in
    let k = c.from-k.result in
    let l = c.layout_in-layout.result in
    let from = c.zeros_from.result in
    let memo : leb (two_at b 49) (memo_of l) ≡ true = subst (λ m. leb m (memo_of l) ≡ true) c.two_at-memo_length.ensures (search rules) in
    subst (λ l. header_fault l b ≡ None) c.layout_in-layout.ensures
    (fault_none l b (take (56 - from) (drop from b)) k (1 * 2 ^ (k + 1) % 2 ^ 64) c.columns_in-columns.result (search rules) (zeros_from-are l b from c.zeros_from.ensures.value) c.columns_in-columns.ensures (most_is k (search rules))
    (search rules) (search rules) (search rules) memo (search rules))

pub returns-clause-ok : goal.returns-clause-ok
unfolding part header_in
returns-clause-ok c =
    header_from c.layout_in-layout.result (layout_in c.args.bytes.now) c.copy_from_slice.new.self (take 32 (drop 16 c.args.bytes.now)) c.of.result _ c.two_at-memo_length.result _ c.columns_in-columns.result _ c.eight_at.result _
    c.layout_in-layout.ensures c.copy_from_slice.ensures.after (search rules) c.two_at-memo_length.ensures c.columns_in-columns.ensures c.eight_at.ensures
