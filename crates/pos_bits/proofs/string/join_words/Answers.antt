use Rattle.std.proofs.Common.{◌≡◌, ℕ, ◌+◌, ◌*◌, ◌/◌, ◌%◌, ◌^◌, ◌<◌, ◌∙◌, All, List, length, slice_index_or, ap, sym, subst, arith, rules}
use Rattle.std.proofs.lemmas.List.{set_past}
use Rattle.pos_bits.specs.Blocks.{held_bits, length-blocks, length-held_bits}
use Rattle.pos_bits.proofs.BlocksLemmas.{blocks-lt}
use Rattle.pos_bits.proofs.JoinLemmas.{JoinedWords, joined-all, joined-fits, joined-more, joined-none}
use Rattle.pos_bits.proofs.string.join_words.Goals as goal

pub loop-i-init : goal.loop-i-init
loop-i-init c =
    joined-none (held_bits c.args.words.now c.args.len) c.args.other.now c.args.words.now (c.args.len / 64) c.requires.mine.words_are

pub overflow_add-words : goal.overflow_add-words
overflow_add-words c =
    let size : length (held_bits c.args.words.now c.args.len) ≡ 64 * (c.args.len / 64) + c.args.len % 64 =
    rw (length-held_bits c.args.words.now c.args.len c.requires.mine) (omega arith) in
    let eight : length c.args.other.now ≡ 8 = ap length c.requires.its.words_are ∙ length-blocks 64 8 _ in
    let all : All (λ x. x < 2 ^ 64) c.args.other.now =
    subst (λ (xs : List ℕ). All (λ x. x < 2 ^ 64) xs) (sym c.requires.its.words_are) (blocks-lt 64 8 _) in
    let fits : c.loop-i.carry + slice_index_or c.args.other.now c.loop-i.i 0 / 2 ^ (c.args.len % 64) < 2 ^ 64 =
    joined-fits _ c.args.other.now c.loop-i.words (c.args.len / 64) (c.args.len % 64) c.loop-i.carry c.loop-i.i size (omega arith) all c.loop-i.invariant
    (omega arith) (omega arith) in
    search rules

pub loop-i-preserved : goal.loop-i-preserved
loop-i-preserved c =
    let size : length (held_bits c.args.words.now c.args.len) ≡ 64 * (c.args.len / 64) + c.args.len % 64 =
    rw (length-held_bits c.args.words.now c.args.len c.requires.mine) (omega arith) in
    let eight : length c.args.other.now ≡ 8 = ap length c.requires.its.words_are ∙ length-blocks 64 8 _ in
    let all : All (λ x. x < 2 ^ 64) c.args.other.now =
    subst (λ (xs : List ℕ). All (λ x. x < 2 ^ 64) xs) (sym c.requires.its.words_are) (blocks-lt 64 8 _) in
    joined-more _ c.args.other.now c.loop-i.words (c.args.len / 64) (c.args.len % 64) c.loop-i.carry c.loop-i.i size (omega arith) all c.loop-i.invariant
    (omega arith) (omega arith)

pub returns-then-first-count-lt8 : goal.returns-then-first-count-lt8
returns-then-first-count-lt8 c =
    let count : ℕ = (c.args.other_len + 63) / 64 in
    let done : c.loop-i.i ≡ count = omega arith in
    let l : length (held_bits c.args.other.now c.args.other_len) ≡ c.args.other_len = length-held_bits c.args.other.now c.args.other_len c.requires.its in
    joined-all (held_bits c.args.words.now c.args.len) (held_bits c.args.other.now c.args.other_len) c.args.other.now c.loop-i.words (c.args.len / 64) c.loop-i.carry count
    c.requires.its.words_are (omega arith) (omega arith)
    (subst (λ i. JoinedWords (held_bits c.args.words.now c.args.len) c.args.other.now c.loop-i.words (c.args.len / 64) c.loop-i.carry i) done c.loop-i.invariant)

pub returns-else-first-count-lt8 : goal.returns-else-first-count-lt8
returns-else-first-count-lt8 c =
    let count : ℕ = (c.args.other_len + 63) / 64 in
    let done : c.loop-i.i ≡ count = omega arith in
    let l : length (held_bits c.args.other.now c.args.other_len) ≡ c.args.other_len = length-held_bits c.args.other.now c.args.other_len c.requires.its in
    let eight : length c.loop-i.words ≡ 8 = c.loop-i.invariant.eight in
    sym (set_past c.loop-i.words (c.args.len / 64 + count) c.loop-i.carry (omega arith))
    ∙ joined-all (held_bits c.args.words.now c.args.len) (held_bits c.args.other.now c.args.other_len) c.args.other.now c.loop-i.words (c.args.len / 64) c.loop-i.carry count
    c.requires.its.words_are (omega arith) (omega arith)
    (subst (λ i. JoinedWords (held_bits c.args.words.now c.args.len) c.args.other.now c.loop-i.words (c.args.len / 64) c.loop-i.carry i) done c.loop-i.invariant)
