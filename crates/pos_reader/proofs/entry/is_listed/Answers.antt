-- The tests of an entry, one after another.
use Rattle.std.proofs.Common.{◌≡◌, ◌==◌, ◌∙◌, ◌||◌, sym, arith}
use Rattle.std.proofs.lemmas.Bool.{false≢true}
use Rattle.pos_layout.specs.Layouts.{park_count}
use Rattle.pos_layout.specs.Fields.{column_of, count_of}
use Rattle.pos_layout.specs.Reading.{is_listed}
use Rattle.pos_layout.proofs.LayoutLemmas.{park_inside}
use Rattle.pos_reader.proofs.EntryLemmas.{listed_by_head, listed_means, not_true, or_false, or_true}
use Rattle.pos_reader.proofs.HeaderLemmas.{eq_false, eq_true}
use Rattle.pos_reader.proofs.entry.is_listed.Goals as goal
use Rattle.pos_reader.proofs.entry.is_listed.Goals.{After-park_count, Else-entry-park_count, then-length-eq0-via-then-length-eq0, then-length-eq0-via-else-length-eq0+then-length-longest_park}

count_is : (c : After-park_count) → c.park_count.result ≡ park_count c.args.header.now.layout (count_of c.args.header.now c.args.t) c.args.park
count_is c = cc

pub returns-then-length-eq0 : goal.returns-then-length-eq0
returns-then-length-eq0 c = sym (not_true _ (λ all.
    let l = listed_means c.args.header.now c.args.t c.args.park c.args.entry.now all in
    let some = l.some in
    let short = l.short in
    elim c.then-length-eq0.branch [
      | then-length-eq0-via-then-length-eq0 w ↦ let none = w.if-length-eq0.true in omega arith
      | then-length-eq0-via-else-length-eq0+then-length-longest_park w ↦ let long = w.if-length-longest_park.true in let is = w.longest_park.ensures.value in omega arith
    ]))

pub end_of-start-requires-clause-fits : goal.end_of-start-requires-clause-fits
unfolding column_of
end_of-start-requires-clause-fits c =
    let after = (c.requires.laid_out.placed c.args.t c.requires.park.first c.requires.park.last).after in
    let fits = c.if-length-longest_park.element_fits.fits in
    omega arith

pub park_count-requires : goal.park_count-requires
park_count-requires c =
    let inside = park_inside c.args.header.now.layout c.args.park (count_of c.args.header.now c.args.t) c.requires.park.there in
    let count = c.count_of.ensures in
    omega arith

pub returns-then-not-is_within : goal.returns-then-not-is_within
unfolding column_of
returns-then-not-is_within c = sym (not_true _ (λ all.
    let l = listed_means c.args.header.now c.args.t c.args.park c.args.entry.now all in
    let start = c.end_of-start.ensures in
    false≢true (sym c.if-not-is_within.true ∙ c.is_within.ensures.within.1 (let after = l.after in omega arith, let inside = l.inside in let length = c.from.ensures in omega arith))))

pub returns-then-entry-park_count : goal.returns-then-entry-park_count
returns-then-entry-park_count c = sym (not_true _ (λ all.
    let l = listed_means c.args.header.now c.args.t c.args.park c.args.entry.now all in
    c.if-entry-park_count.true (l.count ∙ sym (count_is (goal.at.returns-then-entry-park_count c).After-park_count))))

-- all but the head was tested
by_head : (c : Else-entry-park_count) → is_listed c.args.header.now.layout c.args.header.now c.args.t c.args.park c.args.entry.now ≡ ((c.args.t == 7) || (c.args.entry.now.head == 0))
unfolding column_of
by_head c =
    let start = c.end_of-start.ensures in
    let longest = c.longest_park.ensures.value in
    let some = c.if-length-eq0.false in
    let short = c.if-length-longest_park.false in
    let within = c.is_within.ensures.within.0 c.if-not-is_within.false in
    listed_by_head c.args.header.now c.args.t c.args.park c.args.entry.now
    (omega arith) (omega arith) (omega arith) (let length = c.from.ensures in let inside = within.1 in omega arith)
    (c.if-entry-park_count.false ∙ count_is (goal.at.Else-entry-park_count c).After-park_count)

pub returns-then-t-eq7 : goal.returns-then-t-eq7
returns-then-t-eq7 c =
    sym (by_head (goal.at.returns-then-t-eq7 c).Else-entry-park_count ∙ or_true (c.args.t == 7) (c.args.entry.now.head == 0) (eq_true _ _ c.if-t-eq7.true))

pub returns-else-t-eq7 : goal.returns-else-t-eq7
returns-else-t-eq7 c =
    sym (by_head (goal.at.returns-else-t-eq7 c).Else-entry-park_count ∙ or_false (c.args.t == 7) (c.args.entry.now.head == 0) (eq_false _ _ c.if-t-eq7.false))
