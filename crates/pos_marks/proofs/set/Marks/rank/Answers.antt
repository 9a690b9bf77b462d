use Rattle.std.proofs.Common.{◌≡◌, ◌+◌, ◌*◌, ◌/◌, ◌%◌, ℕ, Bool, length, ap, ◌∙◌, arith}
use Rattle.pos_lists.specs.Rank.{rank}
use Rattle.pos_marks.specs.Bits.{has_bit}
use Rattle.pos_marks.proofs.MarkLemmas.{marked_before, marked_rank, marked_whole, ranks_fit}
use Rattle.pos_marks.proofs.set.Marks.rank.Goals as goal

pub returns-then-i-eq0-clause-value : goal.returns-then-i-eq0-clause-value
returns-then-i-eq0-clause-value g c = λ p h told.
    (marked_whole c.args.self.now p c.args.i c.index-before.result.now _ h c.requires.sealed c.requires.inside (omega arith) c.index-before.ensures).0

pub returns-then-i-eq0-clause-most : goal.returns-then-i-eq0-clause-most
returns-then-i-eq0-clause-most g c =
    (marked_whole c.args.self.now c.requires.stands.0 c.args.i c.index-before.result.now _ c.requires.stands.1 c.requires.sealed c.requires.inside (omega arith) c.index-before.ensures).1

pub ones_in_block-requires-clause-whole : goal.ones_in_block-requires-clause-whole
ones_in_block-requires-clause-whole g c = ap length c.deref.ensures.value ∙ c.in_ok-load.ensures.room

pub overflow_add-result : goal.overflow_add-result
overflow_add-result g c =
    let m = c.args.self.now in
    let before = marked_before m c.requires.stands.0 c.args.i c.index-before.result.now _ c.requires.stands.1 c.requires.sealed c.requires.inside c.index-before.ensures in
    let within : c.args.i % 524288 % 4096 ≡ c.args.i % 4096 = omega arith in
    let q : ℕ → Bool = λ j. has_bit c.deref.result.now (4096 * (c.args.i % 524288 / 4096) + j) in
    let fits = ranks_fit c.requires.stands.0 q c.args.i c.index-before.result.now c.ones_in_block.result before (c.ones_in_block.ensures ∙ ap (rank q) within) in
    omega arith

pub returns-clause-value : goal.returns-clause-value
returns-clause-value g c = λ p h told.
    let m = c.args.self.now in
    let n = c.load.new.self in
    let before = marked_before m p c.args.i c.index-before.result.now _ h c.requires.sealed c.requires.inside c.index-before.ensures in
    let within : c.args.i % 524288 % 4096 ≡ c.args.i % 4096 = omega arith in
    let start = 4096 * (c.args.i % 524288 / 4096) in
    marked_rank n p c.args.i c.index-before.result.now c.ones_in_block.result (g.D.Disk.view c.load.new.disk) (c.in_ok-load.ensures.marked p h) c.load.ensures.sealed c.in_ok-load.ensures.loaded
    (c.load.ensures.only_reads.kept.tells ∙ told) before
    (c.ones_in_block.ensures ∙ (ap (λ k. rank (λ j. has_bit c.deref.result.now (start + j)) k) within ∙ ap (λ xs. rank (λ j. has_bit xs (start + j)) (c.args.i % 4096)) c.deref.ensures.value))

pub returns-clause-most : goal.returns-clause-most
returns-clause-most g c =
    let m = c.args.self.now in
    let before = marked_before m c.requires.stands.0 c.args.i c.index-before.result.now _ c.requires.stands.1 c.requires.sealed c.requires.inside c.index-before.ensures in
    let within : c.args.i % 524288 % 4096 ≡ c.args.i % 4096 = omega arith in
    let q : ℕ → Bool = λ j. has_bit c.deref.result.now (4096 * (c.args.i % 524288 / 4096) + j) in
    ranks_fit c.requires.stands.0 q c.args.i c.index-before.result.now c.ones_in_block.result before (c.ones_in_block.ensures ∙ ap (rank q) within)
