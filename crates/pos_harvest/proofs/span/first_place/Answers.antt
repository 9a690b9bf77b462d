-- The last of the first parks is read.
use Rattle.std.proofs.Common.{◌≡◌, ◌+◌, ◌-◌, ◌*◌, ◌<◌, ◌≤◌, ℕ, sym, ap, ◌∙◌, subst, arith}
use Rattle.std.proofs.lemmas.Result.{err_from_is_err_and}
use Rattle.pos_layout.specs.declared.layout.Layout.{Layout}
use Rattle.pos_layout.specs.Layouts.{parks_of, park_count, full_of}
use Rattle.pos_layout.specs.Fields.{count_of, layout_in}
use Rattle.pos_reader.specs.declared.refusal.ReadRefusal.TheVariants.{Damage as Found}
use Rattle.pos_reader.proofs.AnswerLemmas.{damage_of}
use Rattle.pos_layout.proofs.LayoutLemmas.{header_layout, park_inside}
use Rattle.pos_reader.specs.Spans.{last_count}
use Rattle.pos_harvest.specs.Searches.{IsBetween, IsStart}
use Rattle.pos_harvest.proofs.SpanLemmas.{under_damage, count_few, place_fits, start_none, start_some, same_parks}
use Rattle.pos_harvest.proofs.span.first_place.Goals as goal

some_parks : (n : ℕ) → (n ≡ 0 → ⊥) → 0 < n
some_parks n apart = omega arith

last_of : (n m : ℕ) → (n ≡ 0 → ⊥) → n ≤ m → n - 1 < m
last_of n m apart most = omega arith

pub returns-then-parks-eq0-clause-found : goal.returns-then-parks-eq0-clause-found
returns-then-parks-eq0-clause-found g c = λ b holds between.
    let none = c.if-parks-eq0.true in
    subst (λ n. IsStart (layout_in b) b c.args.f7 n 0) (sym none)
    (start_none b c.args.f7 (subst (λ n. IsBetween (layout_in b) b c.args.f7 n n) none between))

pub returns-in_err-below-clause-damage : goal.returns-in_err-below-clause-damage
returns-in_err-below-clause-damage g c = λ d same b holds.
    let p = err_from_is_err_and c.from_residual.result c.from_residual.ensures.1 in
    let e : c.in_err-below.field-0.0 ≡ Found d = cc (p.1, p.2, same) in
    under_damage c.args.plot.now b _ (c.args.parks - 1) c.args.f7 d holds (last_of c.args.parks _ c.if-parks-eq0.false c.requires.inside) c.requires.f7
    (damage_of c.in_err-below.field-0.0 d _ e (c.in_err-below.ensures.under b holds))

-- the place where the last park begins is inside the table
begins : (l : Layout) (n park full : ℕ) → full ≡ full_of l → park < parks_of l n → n ≤ 2251799813685248 → full * park < 2251799813685248
begins l n park full is there few =
    let inside = park_inside l park n there in
    subst (λ m. m * park < 2251799813685248) (sym is) (omega arith)

-- and so is the place behind those numbers of it
ends : (l : Layout) (n park full below : ℕ) → full ≡ full_of l → park < parks_of l n → below ≤ park_count l n park → full * park + below ≤ n
ends l n park full below is there most = subst (λ m. m * park + below ≤ n) (sym is) (place_fits l n park below there most)

pub overflow_mul-result : goal.overflow_mul-result
overflow_mul-result g c =
    let h = c.args.plot.now.header in
    let few = count_few h c.requires.laid_out in
    let small = begins h.layout (count_of h 7) (c.args.parks - 1) c.full_park-full.result (c.full_park-full.ensures.value ∙ ap full_of c.layout.ensures)
    (last_of c.args.parks (parks_of h.layout (count_of h 7)) c.if-parks-eq0.false c.requires.inside) few in
    omega arith

pub overflow_add-result : goal.overflow_add-result
overflow_add-result g c =
    let h = c.args.plot.now.header in
    let few = count_few h c.requires.laid_out in
    let fits = ends h.layout (count_of h 7) (c.args.parks - 1) c.full_park-full.result c.in_ok-below.below (c.full_park-full.ensures.value ∙ ap full_of c.layout.ensures)
    (last_of c.args.parks (parks_of h.layout (count_of h 7)) c.if-parks-eq0.false c.requires.inside) c.in_ok-below.ensures.at_most in
    omega arith

pub returns-clause-place : goal.returns-clause-place
returns-clause-place g c =
    let h = c.args.plot.now.header in
    let fits = ends h.layout (count_of h 7) (c.args.parks - 1) c.full_park-full.result c.in_ok-below.below (c.full_park-full.ensures.value ∙ ap full_of c.layout.ensures)
    (last_of c.args.parks (parks_of h.layout (count_of h 7)) c.if-parks-eq0.false c.requires.inside) c.in_ok-below.ensures.at_most in
    subst (λ n. c.full_park-full.result * (c.args.parks - 1) + n ≤ count_of h 7) (sym c.from.ensures) fits

pub returns-clause-found : goal.returns-clause-found
returns-clause-found g c = λ b holds between.
    let l = layout_in b in
    let header = holds.header in
    let full : c.full_park-full.result ≡ full_of l = c.full_park-full.ensures.value ∙ ap full_of (c.layout.ensures ∙ ap (λ h. h.layout) header ∙ header_layout b) in
    let few : c.in_ok-below.below ≤ park_count l (last_count b) (c.args.parks - 1) =
    subst (λ l. c.in_ok-below.below ≤ park_count l (last_count b) (c.args.parks - 1)) (header_layout b)
    (subst (λ h. c.in_ok-below.below ≤ park_count h.layout (count_of h 7) (c.args.parks - 1)) header c.in_ok-below.ensures.at_most) in
    subst (λ n. IsStart l b c.args.f7 c.args.parks (c.full_park-full.result * (c.args.parks - 1) + n)) (sym c.from.ensures)
    (subst (λ m. IsStart l b c.args.f7 c.args.parks (m * (c.args.parks - 1) + c.in_ok-below.below)) (sym full)
    (start_some l b c.args.f7 c.args.parks c.in_ok-below.below (some_parks c.args.parks c.if-parks-eq0.false)
    (subst (λ n. c.args.parks ≤ n) (same_parks c.args.plot.now b _ holds) c.requires.inside) between
    (c.in_ok-below.ensures.under b holds) few))
