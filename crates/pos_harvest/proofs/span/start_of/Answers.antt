-- The search, and then one look into a park.
use Rattle.std.proofs.Common.{◌≡◌, ◌∙◌, ◌+◌, ◌<◌, ◌≤◌, ◌^◌, Ok, Err, sym, ap, subst, arith}
use Rattle.std.proofs.lemmas.Result.{err_from_is_err_and}
use Rattle.pos_layout.specs.Layouts.{parks_of}
use Rattle.pos_layout.specs.Fields.{count_of, layout_in}
use Rattle.pos_layout.specs.Rules.{IsLaidOut}
use Rattle.pos_reader.specs.declared.refusal.ReadRefusal.TheVariants.{Damage as Found}
use Rattle.pos_reader.proofs.ReadingLemmas.{reading_after, reading_refused, reading_done}
use Rattle.pos_harvest.specs.Searches.{IsBetween}
use Rattle.pos_harvest.proofs.SpanLemmas.{count_few, steps_fit}
use Rattle.pos_harvest.proofs.span.start_of.Goals as goal
use Rattle.pos_harvest.proofs.span.start_of.Given.{Over}
use Rattle.pos_harvest.proofs.span.start_of.Goals.{After-parks_of-all}

pub parks_of-all-requires : goal.parks_of-all-requires
parks_of-all-requires g c =
    let few = count_few c.args.plot.now.header c.requires.laid_out in
    let count = c.count.ensures.count in
    omega arith

-- how many parks there are
all_is : (g : Over) (c : After-parks_of-all g) → c.parks_of-all.result ≡ parks_of c.args.plot.now.header.layout (count_of c.args.plot.now.header 7)
all_is g c = c.parks_of-all.ensures ∙ ap (λ l. parks_of l c.count.result) c.layout.ensures ∙ ap (parks_of c.args.plot.now.header.layout) c.count.ensures.count

-- so many steps are enough
fits : (g : Over) (c : After-parks_of-all g) → c.parks_of-all.result < c.args.low + 2 ^ 41
fits g c = subst (λ n. n < c.args.low + 2 ^ 41) (sym (all_is g c)) (steps_fit c.args.plot.now.header c.args.low c.requires.laid_out)

pub returns-in_err-parks-clause-reading : goal.returns-in_err-parks-clause-reading
returns-in_err-parks-clause-reading g c =
    let p = err_from_is_err_and c.from_residual.result c.from_residual.ensures.1 in
    let few = fits g (goal.at.returns-in_err-parks-clause-reading g c).After-parks_of-all in
    reading_refused 41 43 c.in_err-parks.field-0.0 c.from_residual.result _ _ _ _ (omega arith) (p.1 ∙ ap (λ e. Err e) p.2) (c.in_err-parks.ensures.reading 41 few)

pub first_place-requires-clause-is_open : goal.first_place-requires-clause-is_open
first_place-requires-clause-is_open g c =
    let few = fits g (goal.at.first_place-requires-clause-is_open g c).After-parks_of-all in
    (c.in_ok-parks.ensures.reading 41 few).left.stays_open

pub first_place-requires-clause-f7 : goal.first_place-requires-clause-f7
first_place-requires-clause-f7 g c =
    let few = fits g (goal.at.first_place-requires-clause-f7 g c).After-parks_of-all in
    subst (λ p. c.args.f7 ≤ 2 ^ p.header.size) (sym (c.in_ok-parks.ensures.reading 41 few).left.same) c.requires.f7

pub first_place-requires-clause-inside : goal.first_place-requires-clause-inside
first_place-requires-clause-inside g c =
    let arm = (goal.at.first_place-requires-clause-inside g c).After-parks_of-all in
    subst (λ p. c.in_ok-parks.parks ≤ parks_of p.header.layout (count_of p.header 7)) (sym (c.in_ok-parks.ensures.reading 41 (fits g arm)).left.same)
    (subst (λ n. c.in_ok-parks.parks ≤ n) (all_is g arm) c.in_ok-parks.ensures.within.1)

pub returns-clause-place : goal.returns-clause-place
returns-clause-place g c =
    let few = fits g (goal.at.returns-clause-place g c).After-parks_of-all in
    subst (λ p. c.in_ok-place.place ≤ count_of p.header 7) (c.in_ok-parks.ensures.reading 41 few).left.same c.in_ok-place.ensures.place

pub first_place-requires-clause-laid_out : goal.first_place-requires-clause-laid_out
first_place-requires-clause-laid_out g c =
    let few = fits g (goal.at.first_place-requires-clause-laid_out g c).After-parks_of-all in
    subst (λ p. IsLaidOut p.header.layout p.header) (sym (c.in_ok-parks.ensures.reading 41 few).left.same) c.requires.laid_out

pub returns-in_err-place-clause-reading : goal.returns-in_err-place-clause-reading
returns-in_err-place-clause-reading g c =
    let p = err_from_is_err_and c.from_residual-in_err-place.result c.from_residual-in_err-place.ensures.1 in
    let few = fits g (goal.at.returns-in_err-place-clause-reading g c).After-parks_of-all in
    reading_after 41 2 43 c.in_ok-parks.parks c.from_residual-in_err-place.result _ _ _ _ _ _ (omega arith) (c.in_ok-parks.ensures.reading 41 few)
    (reading_refused 2 2 c.in_err-place.field-0.0 c.from_residual-in_err-place.result _ _ _ _ (omega arith) (p.1 ∙ ap (λ e. Err e) p.2) c.in_err-place.ensures.reading)

pub returns-in_err-place-clause-damage : goal.returns-in_err-place-clause-damage
returns-in_err-place-clause-damage g c = λ d same b holds.
    let p = err_from_is_err_and c.from_residual-in_err-place.result c.from_residual-in_err-place.ensures.1 in
    let few = fits g (goal.at.returns-in_err-place-clause-damage g c).After-parks_of-all in
    let e : c.in_err-place.field-0.0 ≡ Found d = cc (p.1, p.2, same) in
    c.in_err-place.ensures.damage d (ap (λ e. Err e) e) b ((c.in_ok-parks.ensures.reading 41 few).left.stays_file b holds)

pub returns-clause-reading : goal.returns-clause-reading
returns-clause-reading g c =
    let few = fits g (goal.at.returns-clause-reading g c).After-parks_of-all in
    reading_done 43 43 c.in_ok-place.place _ _ _ _ _ (omega arith)
    (reading_after 41 2 43 c.in_ok-parks.parks (Ok c.in_ok-place.place) _ _ _ _ _ _ (omega arith) (c.in_ok-parks.ensures.reading 41 few) c.in_ok-place.ensures.reading)

pub returns-clause-found : goal.returns-clause-found
returns-clause-found g c = λ b holds between.
    let few = fits g (goal.at.returns-clause-found g c).After-parks_of-all in
    let all = all_is g (goal.at.returns-clause-found g c).After-parks_of-all in
    c.in_ok-place.ensures.found b ((c.in_ok-parks.ensures.reading 41 few).left.stays_file b holds)
    (c.in_ok-parks.ensures.found b holds (subst (IsBetween (layout_in b) b c.args.f7 c.args.low) (sym all) between))
