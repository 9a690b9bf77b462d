-- A directory's place is tested as the definition says; counts of a plot are small, so no product or sum is too large.
use Rattle.std.proofs.Common.{◌≡◌, ◌+◌, sym, ◌∙◌, ap, arith}
use Rattle.std.proofs.lemmas.Bool.{false≢true}
use Rattle.pos_layout.specs.Fields.{column_of, directory_of, end_of}
use Rattle.pos_reader.proofs.HeaderLemmas.{end_of-at, count_small, is_placed-true, is_placed-outside, is_placed-apart}
use Rattle.pos_reader.proofs.header.placed_end.Goals as goal
use Rattle.pos_reader.proofs.header.placed_end.Goals.{After-directory_length-length, else-column-eq0-via-then-column-eq0+else-column-before, else-column-eq0-via-else-column-eq0}

stop : (c : After-directory_length-length) → directory_of c.args.header.now c.args.t + c.directory_length-length.result ≡ end_of c.args.header.now.layout c.args.header.now c.args.t
unfolding column_of
stop c = ap (λ n. directory_of c.args.header.now c.args.t + n) c.directory_length-length.ensures.length ∙ sym (end_of-at c.args.header.now c.args.t c.requires.first)

pub directory_length-length-requires : goal.directory_length-length-requires
unfolding column_of
directory_length-length-requires c = count_small c.args.header.now c.args.t c.requires.counts c.requires.first c.requires.last

pub returns-then-not-is_within-clause-misplaced : goal.returns-then-not-is_within-clause-misplaced
unfolding column_of
returns-then-not-is_within-clause-misplaced c =
    is_placed-outside c.args.header.now c.args.t c.args.before c.directory_length-length.result c.requires.before
    (stop (goal.at.returns-then-not-is_within-clause-misplaced c).After-directory_length-length)
    (λ h. false≢true (sym c.if-not-is_within.true ∙ c.is_within.ensures.within.1 h))

pub returns-then-column-before-clause-misplaced : goal.returns-then-column-before-clause-misplaced
unfolding column_of
returns-then-column-before-clause-misplaced c =
    is_placed-apart c.args.header.now c.args.t c.args.before c.directory_length-length.result c.requires.before
    (stop (goal.at.returns-then-column-before-clause-misplaced c).After-directory_length-length)
    c.if-column-eq0.true c.if-column-before.true

pub overflow_add-result : goal.overflow_add-result
unfolding column_of
overflow_add-result c = let fits = c.is_within.ensures.fits c.if-not-is_within.false in omega arith

pub returns-clause-placed : goal.returns-clause-placed
unfolding column_of
returns-clause-placed c =
    is_placed-true c.args.header.now c.args.t c.args.before c.directory_length-length.result c.requires.before
    (stop (goal.at.returns-clause-placed c).After-directory_length-length)
    (c.is_within.ensures.within.0 c.if-not-is_within.false).0
    (c.is_within.ensures.within.0 c.if-not-is_within.false).1
    (λ none. elim c.else-column-eq0.branch [
      | else-column-eq0-via-then-column-eq0+else-column-before w ↦ w.if-column-before.false
      | else-column-eq0-via-else-column-eq0 w ↦ absurd (w.if-column-eq0.false none)
    ])

pub returns-clause-end : goal.returns-clause-end
unfolding column_of
returns-clause-end c = stop (goal.at.returns-clause-end c).After-directory_length-length
