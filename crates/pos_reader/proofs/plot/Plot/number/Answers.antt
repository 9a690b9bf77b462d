-- The number is that of the park, where it points inside.
use Rattle.std.proofs.Common.{◌≡◌, ◌∙◌, ◌/◌, ◌<◌, ◌≤◌, ◌-◌, ◌+◌, ◌*◌, ◌^◌, ℕ, List, Err, take, length, slice_index, sym, ap, subst, arith}
use Rattle.std.proofs.lemmas.Result.{err_from_is_err_and}
use Rattle.std.proofs.lemmas.List.{get_or-take, length-take}
use Rattle.std.proofs.lemmas.List.Elements.{All-get_or}
use Rattle.pos_layout.specs.declared.damage.Damage.TheVariants.{Pointer}
use Rattle.pos_layout.specs.Layouts.{full_of, parks_of, park_count}
use Rattle.pos_layout.specs.Fields.{count_of, layout_in}
use Rattle.pos_layout.proofs.LayoutLemmas.{park_of_place, place_in_park}
use Rattle.pos_layout.specs.Lists.{points_inside}
use Rattle.pos_layout.specs.Reading.{num, tested}
use Rattle.pos_reader.specs.Plots.{IsPlotFile}
use Rattle.pos_reader.proofs.AnswerLemmas.{answers_refused, num_found, num_refused, tested_true, tested_false}
use Rattle.pos_reader.proofs.EntryLemmas.{park_few}
use Rattle.pos_rice.specs.declared.TheConstants.{MOST_NUMBERS}
use Rattle.pos_reader.proofs.plot.Plot.number.Goals as goal
use Rattle.pos_reader.proofs.plot.Plot.number.Given.{Over}
use Rattle.pos_reader.proofs.plot.Plot.number.Goals.{After-points_inside}

pub read_park-requires-clause-park : goal.read_park-requires-clause-park
read_park-requires-clause-park g c =
    let inside = c.self.inside.header in
    let place = subst (λ h. c.args.i < count_of h c.args.t) (sym (ap (λ p. p.header) c.self.view_is)) c.requires.place in
    let there = park_of_place inside.layout c.args.i (count_of inside c.args.t) place in
    record {
      first = c.requires.first;
      last = c.requires.last;
      there = subst (λ n. n < parks_of inside.layout (count_of inside c.args.t)) (sym c.place_in-park.ensures.park) there;
    }

pub returns-in_err-read_park-clause-number : goal.returns-in_err-read_park-clause-number
returns-in_err-read_park-clause-number g c = λ b holds.
    let p = err_from_is_err_and c.from_residual.result c.from_residual.ensures.1 in
    let inside = subst (λ p. IsPlotFile p b (g.D.Disk.view c.args.disk.now)) (sym c.self.view_is) holds in
    answers_refused c.from_residual.result c.in_err-read_park.field-0.0 (num (layout_in b) b c.args.t c.args.i) (p.1 ∙ ap (λ e. Err e) p.2)
    (λ d same. num_refused b c.self.inside.header c.args.t c.args.i c.place_in-park.result.0 d inside.header c.place_in-park.ensures.park (c.in_err-read_park.ensures.damage d (ap (λ e. Err e) same) _ b inside))

-- the place is one of the park
within : (g : Over) (c : After-points_inside g) → c.place_in-park.result.1 < c.in_ok-read_park.field-0
within g c =
    let h : c.self.inside.header ≡ c.args.self.now.header = ap (λ p. p.header) c.self.view_is in
    let l = c.self.inside.header.layout in
    let n = count_of c.self.inside.header c.args.t in
    let place = place_in_park l c.args.i n (subst (λ h. c.args.i < count_of h c.args.t) (sym h) c.requires.place) in
    let count : c.in_ok-read_park.field-0 ≡ park_count l n (c.args.i / full_of l) = c.in_ok-read_park.ensures.count ∙ ap (λ park. park_count l n park) c.place_in-park.ensures.park in
    let at = c.place_in-park.ensures.place in
    omega arith

placed : (g : Over) (c : After-points_inside g) → c.place_in-park.result.1 < length (take c.in_ok-read_park.field-0 c.read_park.new.numbers)
placed g c =
    let place = within g c in
    let few : c.in_ok-read_park.field-0 ≤ MOST_NUMBERS = let count = c.in_ok-read_park.ensures.count in let most = park_few c.self.inside.header.layout (count_of c.self.inside.header c.args.t) c.place_in-park.result.0 in omega arith in
    let room : MOST_NUMBERS ≤ length c.read_park.new.numbers = let kept = c.read_park.auto.numbers in let len = c.as_mut_slice-numbers.ensures.len in let invariant = c.self.invariant.3 in omega arith in
    rw length-take (omega arith)

-- the number in the buffer is that of the park
same : (g : Over) (c : After-points_inside g) → slice_index (take c.in_ok-read_park.field-0 c.read_park.new.numbers) c.place_in-park.result.1 ≡ slice_index c.read_park.new.numbers c.place_in-park.result.1
same g c =
    get_or-take c.in_ok-read_park.field-0 c.read_park.new.numbers c.place_in-park.result.1 0 (within g c)

-- what the definition says of that number
said : (g : Over) (c : After-points_inside g) (b : List ℕ) → IsPlotFile c.args.self.now b (g.D.Disk.view c.args.disk.now)
    → num (layout_in b) b c.args.t c.args.i ≡ tested c.points_inside.result (Pointer c.args.t c.args.i) (slice_index c.read_park.new.numbers c.place_in-park.result.1)
said g c b holds =
    let inside = subst (λ p. IsPlotFile p b (g.D.Disk.view c.args.disk.now)) (sym c.self.view_is) holds in
    let h = c.self.inside.header in
    num_found b _ h c.args.t c.args.i c.place_in-park.result.0 c.place_in-park.result.1 inside.header c.place_in-park.ensures.park c.place_in-park.ensures.place (c.in_ok-read_park.ensures.ok _ b inside)
    ∙ ap (λ n. tested (points_inside h.size c.args.t (count_of h (c.args.t - 1)) n) (Pointer c.args.t c.args.i) n) (same g c)
    ∙ ap (λ holds. tested holds (Pointer c.args.t c.args.i) (slice_index c.read_park.new.numbers c.place_in-park.result.1)) (sym c.points_inside.ensures)

pub returns-then-not-points_inside-clause-number :
    goal.returns-then-not-points_inside-clause-number
returns-then-not-points_inside-clause-number g c = λ b holds.
    said g (goal.at.returns-then-not-points_inside-clause-number g c).After-points_inside b holds
    ∙ tested_false _ _ (slice_index c.read_park.new.numbers c.place_in-park.result.1) c.if-not-points_inside.true

pub returns-clause-number : goal.returns-clause-number
returns-clause-number g c = λ b holds.
    said g (goal.at.returns-clause-number g c).After-points_inside b holds
    ∙ tested_true _ (Pointer c.args.t c.args.i) (slice_index c.read_park.new.numbers c.place_in-park.result.1) c.if-not-points_inside.false

pub returns-clause-below : goal.returns-clause-below
returns-clause-below g c =
    let points = (goal.at.returns-clause-below g c).After-points_inside in
    let k : c.self.inside.header.size ≡ c.args.self.now.header.size = ap (λ p. p.header.size) c.self.view_is in
    let ns = take c.in_ok-read_park.field-0 c.read_park.new.numbers in
    let below : slice_index ns c.place_in-park.result.1 < 2 ^ (2 * c.self.inside.header.size + 2) =
    All-get_or (λ n. n < 2 ^ (2 * c.self.inside.header.size + 2)) ns c.place_in-park.result.1 0 (placed g points) c.in_ok-read_park.ensures.numbers.below in
    rw (same g points, k) at below
