-- Numbers that rise and point inside, and what they are as the first places of a table.
use Rattle.std.proofs.Common.{◌≡◌, ℕ, zero, suc, ◌+◌, ◌-◌, ◌*◌, ◌/◌, ◌%◌, ◌<◌, ◌≤◌, min, All, List, [], ◌∷◌, ◌++◌, length, take, slice_index, Result, Ok, Err, refl, sym, ap, ◌∙◌, subst, inl, inr, arith, length-append}
use Rattle.std.proofs.lemmas.Bool.{cases_lt}
use Rattle.std.proofs.lemmas.List.{get_or_append_left, get_or-append-add, get_or-take, length-take-le, take_all}
use Rattle.std.proofs.lemmas.List.Elements.{All-append, All-cons, All-get_or, All-nil, All-take}
use Rattle.pos_edge.specs.View.{View}
use Rattle.pos_layout.specs.declared.damage.Damage.{Damage}
use Rattle.pos_layout.specs.declared.damage.Damage.TheVariants.{Pointer}
use Rattle.pos_layout.specs.declared.header.Header.{Header}
use Rattle.pos_layout.specs.declared.layout.Layout.{Layout}
use Rattle.pos_layout.specs.declared.layout.Layout.TheVariants.{One, Two}
use Rattle.pos_layout.specs.Fields.{count_of, header_in, layout_in}
use Rattle.pos_layout.specs.Layouts.{full_of, park_count, parks_of}
use Rattle.pos_layout.specs.Lists.{points_inside}
use Rattle.pos_layout.specs.Reading.{num, read_park}
use Rattle.pos_layout.proofs.LayoutLemmas.{full_few}
use Rattle.pos_reader.specs.Plots.{PlotState, IsPlotFile}
use Rattle.pos_reader.proofs.AnswerLemmas.{num_found, num_refused, tested_false, tested_true}
use Rattle.pos_rice.specs.declared.TheConstants.{MOST_NUMBERS}
use Rattle.pos_convert.specs.Conversions.{DoesNotRise, IsSoundPlace, IsTableStop, ShowsAt}
use Rattle.pos_convert.specs.Copies.{AreRead, AreSound, IsListStop, IsParkDamaged, IsParkStop, NumberShows, PointsInside, PointsOutside, ReadAs, Rises, least_after}

-- ---- numbers that rise

least_joined : (least : ℕ) (xs ys : List ℕ) → least_after least (xs ++ ys) ≡ least_after (least_after least xs) ys
unfolding least_after
least_joined least [] ys = refl
least_joined least (x ∷ xs) ys = least_joined (x + 1) xs ys

rise_joined : (least : ℕ) (xs ys : List ℕ) → Rises least xs → Rises (least_after least xs) ys → Rises least (xs ++ ys)
unfolding Rises least_after
rise_joined least [] ys first second = second
rise_joined least (x ∷ xs) ys first second = (first.0, rise_joined (x + 1) xs ys first.1 second)

rises_first : (least : ℕ) (ns : List ℕ) → Rises least ns → 0 < length ns → least ≤ slice_index ns 0
unfolding Rises
rises_first least [] rise some = absurd (omega arith)
rises_first least (n ∷ ns) rise some = rise.0

rises_at : (least : ℕ) (ns : List ℕ) (i : ℕ) → Rises least ns → suc i < length ns → slice_index ns i < slice_index ns (suc i)
unfolding Rises
rises_at least [] i rise inside = absurd (omega arith)
rises_at least (n ∷ ns) zero rise inside = let first : n + 1 ≤ slice_index ns 0 = rises_first (n + 1) ns rise.1 (omega arith) in omega arith
rises_at least (n ∷ ns) (suc i) rise inside = rises_at (n + 1) ns i rise.1 (omega arith)

-- what may come after the numbers up to a place
least_front : (least : ℕ) (ns : List ℕ) (i : ℕ) → i < length ns → least_after least (take (suc i) ns) ≡ slice_index ns i + 1
unfolding least_after
least_front least [] i inside = absurd (omega arith)
least_front least (n ∷ ns) zero inside = refl
least_front least (n ∷ ns) (suc i) inside = least_front (n + 1) ns i (omega arith)

least_whole : (least : ℕ) (ns : List ℕ) (i : ℕ) → length ns ≡ suc i → least_after least ns ≡ slice_index ns i + 1
least_whole least ns i as_long =
    let all : take (suc i) ns ≡ ns = take_all (suc i) ns (omega arith) in
    ap (least_after least) (sym all) ∙ least_front least ns i (omega arith)

nothing_least : (ns : List ℕ) → length ns ≡ 0 → least_after 0 ns ≡ 0
unfolding least_after
nothing_least [] none = refl
nothing_least (n ∷ ns) none = absurd (omega arith)

-- ---- sound numbers

pub sound_none : (p : PlotState) (t least : ℕ) → AreSound p t least []
unfolding Rises
sound_none p t least = record { inside = All-nil (λ n. PointsInside p t n); rise = tt }

one_number : (least n : ℕ) → least ≤ n → Rises least (n ∷ [])
unfolding Rises
one_number least n above = (above, tt)

least_one : (least n : ℕ) → least_after least (n ∷ []) ≡ n + 1
unfolding least_after
least_one least n = refl

pub least_none : (least : ℕ) → least ≡ least_after least []
unfolding least_after
least_none least = refl

-- one more of a list's numbers
pub sound_more : (p : PlotState) (t least : ℕ) (ns : List ℕ) (n : ℕ) → AreSound p t least ns → PointsInside p t n → least_after least ns ≤ n → AreSound p t least (ns ++ n ∷ [])
sound_more p t least ns n sound inside above = record {
  inside = All-append (λ n. PointsInside p t n) ns (n ∷ []) sound.inside (one n inside);
  rise = rise_joined least ns (n ∷ []) sound.rise (one_number (least_after least ns) n above);
}
  where
    one : (n : ℕ) → PointsInside p t n → All (λ n. PointsInside p t n) (n ∷ [])
    one n inside = All-cons (λ n. PointsInside p t n) n [] inside (All-nil (λ n. PointsInside p t n))

pub least_more : (least : ℕ) (ns : List ℕ) (n : ℕ) → n + 1 ≡ least_after least (ns ++ n ∷ [])
least_more least ns n = sym (least_joined least ns (n ∷ []) ∙ least_one (least_after least ns) n)

-- ---- places in parks

place_park : (l : Layout) (park j : ℕ) → j < full_of l → park ≡ (full_of l * park + j) / full_of l
unfolding full_of
place_park One park j few = omega arith
place_park Two park j few = omega arith

place_place : (l : Layout) (park j : ℕ) → j < full_of l → j ≡ (full_of l * park + j) % full_of l
unfolding full_of
place_place One park j few = omega arith
place_place Two park j few = omega arith

full_not_none : (l : Layout) → 0 < full_of l
unfolding full_of
full_not_none One = omega arith
full_not_none Two = omega arith

park_begins : (l : Layout) (n park : ℕ) → park < parks_of l n → full_of l * park + 0 < n
unfolding full_of
park_begins One n park there = omega arith
park_begins Two n park there = omega arith

pub count_few : (l : Layout) (n park : ℕ) → park_count l n park ≤ full_of l
count_few l n park = omega arith

-- a park's numbers have room where those of any layout have
pub park_has_room : (l : Layout) (n park count size : ℕ) → count ≡ park_count l n park → MOST_NUMBERS ≤ size → count ≤ size
park_has_room l n park count size is room = let few = count_few l n park in let most = full_few l in omega arith

-- how many parks a table has, by other names of its layout and count
pub parks_are : (l m : Layout) (n k parks : ℕ) → parks ≡ parks_of l n → l ≡ m → n ≡ k → parks ≡ parks_of m k
parks_are l m n k parks is layout count = is ∙ (ap (λ (o : Layout). parks_of o n) layout ∙ ap (λ j. parks_of m j) count)

place_within : (l : Layout) (n park j : ℕ) → j < park_count l n park → full_of l * park + j < n
unfolding full_of
place_within One n park j few = omega arith
place_within Two n park j few = omega arith

pub parks_at : (l : Layout) (n c : ℕ) → c < parks_of l n → min (full_of l * c) n ≡ full_of l * c
unfolding full_of
parks_at One n c there = omega arith
parks_at Two n c there = omega arith

parks_step : (l : Layout) (n c : ℕ) → min (full_of l * c) n + park_count l n c ≡ min (full_of l * (c + 1)) n
unfolding full_of
parks_step One n c = omega arith
parks_step Two n c = omega arith

pub parks_end : (l : Layout) (n c : ℕ) → parks_of l n ≤ c → min (full_of l * c) n ≡ n
unfolding full_of
parks_end One n c past = omega arith
parks_end Two n c past = omega arith

pub parks_none : (l : Layout) (n : ℕ) → 0 ≡ min (full_of l * 0) n
unfolding full_of
parks_none One n = omega arith
parks_none Two n = omega arith

-- ---- what a file reads as

same_number : (r : Result ℕ Damage) (m n : ℕ) → r ≡ Ok m → r ≡ Ok n → m ≡ n
same_number r m n first second = cc

-- places that read as rising numbers are sound
pub sound_place : (b : List ℕ) (t : ℕ) (ns : List ℕ) → Rises 0 ns → ReadAs b t ns → (i : ℕ) → i < length ns → IsSoundPlace (layout_in b) b t i
sound_place b t ns rise reads zero inside = record { number = slice_index ns 0; reads = reads 0 inside; above = λ before later read. absurd (omega arith) }
sound_place b t ns rise reads (suc i) inside = record { number = slice_index ns (suc i); reads = reads (suc i) inside; above = is_above }
  where
    is_above : (before : ℕ) → 0 < suc i → num (layout_in b) b t (suc i - 1) ≡ Ok before → before < slice_index ns (suc i)
    is_above before later read =
        let at : suc i - 1 ≡ i = omega arith in
        let here : num (layout_in b) b t i ≡ Ok before = subst (λ (j : ℕ). num (layout_in b) b t j ≡ Ok before) at read in
        let same : before ≡ slice_index ns i = same_number (num (layout_in b) b t i) before (slice_index ns i) here (reads i (omega arith)) in
        let up = rises_at 0 ns i rise inside in
        omega arith

module _ (p : PlotState) (b : List ℕ) (said : p.header ≡ header_in b) (t park : ℕ) where
  abbrev l : Layout
  l = p.header.layout

  abbrev at : ℕ
  at = full_of l * park

  -- a number of the park by what was read of it
  in_park : (ns : List ℕ) (j : ℕ) → read_park (layout_in b) b t park ≡ Ok ns → j < full_of l → PointsInside p t (slice_index ns j)
      → num (layout_in b) b t (at + j) ≡ Ok (slice_index ns j)
  in_park ns j read few inside =
      num_found b ns p.header t (at + j) park j said (place_park l park j few) (place_place l park j few) read
      ∙ tested_true (points_inside p.header.size t (count_of p.header (t - 1)) (slice_index ns j)) (Pointer t (at + j)) (slice_index ns j) inside

  out_of_park : (ns : List ℕ) (j : ℕ) → read_park (layout_in b) b t park ≡ Ok ns → j < full_of l → PointsOutside p t (slice_index ns j)
      → num (layout_in b) b t (at + j) ≡ Err (Pointer t (at + j))
  out_of_park ns j read few outside =
      num_found b ns p.header t (at + j) park j said (place_park l park j few) (place_place l park j few) read
      ∙ tested_false (points_inside p.header.size t (count_of p.header (t - 1)) (slice_index ns j)) (Pointer t (at + j)) (slice_index ns j) outside

  -- the first numbers of the park behind those of the parks before
  pub read_joined : (front ns : List ℕ) (n : ℕ) → length front ≡ at → ReadAs b t front → read_park (layout_in b) b t park ≡ Ok ns → n ≤ length ns → length ns ≤ full_of l
      → All (λ m. PointsInside p t m) (take n ns) → ReadAs b t (front ++ take n ns)
  read_joined front ns n as_long reads read most few inside i within = elim (cases_lt i (length front)) [
    | inl less ↦ reads i less ∙ ap (λ m. Ok m) (sym (get_or_append_left front (take n ns) 0 i less))
    | inr more ↦ behind (i - length front) (omega arith)
  ]
    where
      behind : (j : ℕ) → length front + j ≡ i → num (layout_in b) b t i ≡ Ok (slice_index (front ++ take n ns) i)
      behind j is =
          let sum = length-append front (take n ns) in
          let part = length-take-le n ns most in
          let less : j < n = omega arith in
          let small : j < full_of l = omega arith in
          let value : slice_index (take n ns) j ≡ slice_index ns j = get_or-take n ns j 0 less in
          let shown : slice_index (front ++ take n ns) i ≡ slice_index ns j = ap (λ k. slice_index (front ++ take n ns) k) (sym is) ∙ get_or-append-add front (take n ns) j 0 ∙ value in
          let points : PointsInside p t (slice_index ns j) = subst (λ m. PointsInside p t m) value (All-get_or (λ m. PointsInside p t m) (take n ns) j 0 (omega arith) inside) in
          let place : at + j ≡ i = omega arith in
          subst (λ (k : ℕ). num (layout_in b) b t k ≡ Ok (slice_index ns j)) place (in_park ns j read small points) ∙ ap (λ m. Ok m) (sym shown)

  module _ (front : List ℕ) (there : park < parks_of l (count_of p.header t)) (as_long : length front ≡ at) (rise : Rises 0 front) (reads : ReadAs b t front) where
    counted : (i : ℕ) → i < count_of p.header t → i < count_of (header_in b) t
    counted i less = subst (λ (h : Header). i < count_of h t) said less

    -- a damage of the park is found at its first place
    pub park_damaged : (d : Damage) → IsParkDamaged t park b d → IsTableStop (layout_in b) b t d
    park_damaged d found = record {
      place = at + 0;
      inside = counted (at + 0) (park_begins l (count_of p.header t) park there);
      before = λ i less. sound_place b t front rise reads i (omega arith);
      shows = inl (num_refused b p.header t (at + 0) park d said (place_park l park 0 (full_not_none l)) found);
    }

    -- so is that of the first number that is not sound
    module _ (d : Damage) (stop : IsParkStop p t park (least_after 0 front) b d) where
      abbrev list : IsListStop p t at (least_after 0 front) stop.numbers d
      list = stop.stop

      abbrev spot : ℕ
      spot = list.place

      abbrev ns : List ℕ
      ns = stop.numbers

      abbrev all : List ℕ
      all = front ++ take spot ns

      place_less : spot < length ns
      place_less = list.inside

      ns_long : length ns ≡ park_count l (count_of p.header t) park
      ns_long = stop.read.as_many

      ns_few : length ns ≤ full_of l
      ns_few = let most = count_few l (count_of p.header t) park in let long = ns_long in omega arith

      place_few : spot < full_of l
      place_few = let less = place_less in let most = ns_few in omega arith

      all_long : length all ≡ at + spot
      all_long =
          let less = place_less in
          let sum = length-append front (take spot ns) in
          let part = length-take-le spot ns (omega arith) in
          omega arith

      all_rise : Rises 0 all
      all_rise = rise_joined 0 front (take spot ns) rise list.before.rise

      all_read : ReadAs b t all
      all_read = let less = place_less in read_joined front ns spot as_long reads stop.read.reads (omega arith) ns_few list.before.inside

      -- what is out of order has one before it
      out_of_order : (i : ℕ) → length all ≡ i → slice_index ns spot < least_after 0 all → num (layout_in b) b t i ≡ Ok (slice_index ns spot) → DoesNotRise (layout_in b) b t i
      out_of_order zero none less read = let least = nothing_least all none in absurd (omega arith)
      out_of_order (suc i) long less read =
          let least = least_whole 0 all i long in
          let before : suc i - 1 ≡ i = omega arith in
          record {
            before = slice_index all i;
            number = slice_index ns spot;
            later = omega arith;
            reads_before = subst (λ (j : ℕ). num (layout_in b) b t j ≡ Ok (slice_index all i)) (sym before) (all_read i (omega arith));
            reads = read;
            falls = omega arith;
          }

      shown_at : NumberShows p t (at + spot) (least_after (least_after 0 front) (take spot ns)) (slice_index ns spot) d → ShowsAt (layout_in b) b t (at + spot) d
      shown_at (inl outside) = inl (out_of_park ns spot stop.read.reads place_few outside.1 ∙ ap (λ e. Err e) (sym outside.0))
      shown_at (inr order) =
          let same : least_after 0 all ≡ least_after (least_after 0 front) (take spot ns) = least_joined 0 front (take spot ns) in
          let less : slice_index ns spot < least_after 0 all = subst (λ (m : ℕ). slice_index ns spot < m) (sym same) order.2 in
          inr (order.0, out_of_order (at + spot) all_long less (in_park ns spot stop.read.reads place_few order.1))

      pub park_stop : IsTableStop (layout_in b) b t d
      park_stop = record {
        place = at + spot;
        inside = counted (at + spot) (place_within l (count_of p.header t) park spot (let less = place_less in let long = ns_long in omega arith));
        before = λ i less. sound_place b t all all_rise all_read i (let long = all_long in omega arith);
        shows = shown_at list.shows;
      }

-- ---- the parks so far, and one more

pub read_nothing : (p : PlotState) (t : ℕ) (v : View) → AreRead p t [] v
unfolding Rises
read_nothing p t v = record { rise = tt; reads = λ b holds i less. absurd (omega arith) }

pub read_park_more : (p : PlotState) (t park : ℕ) (front ns : List ℕ) (v : View) → park < parks_of p.header.layout (count_of p.header t) → length front ≡ full_of p.header.layout * park → AreRead p t front v
    → length ns ≡ park_count p.header.layout (count_of p.header t) park → ((b : List ℕ) → IsPlotFile p b v → read_park (layout_in b) b t park ≡ Ok ns) → AreSound p t (least_after 0 front) ns → AreRead p t (front ++ ns) v
read_park_more p t park front ns v there as_long are ns_long read sound = record {
  rise = rise_joined 0 front ns are.rise sound.rise;
  reads = λ b holds.
      let most = count_few p.header.layout (count_of p.header t) park in
      let all : take (length ns) ns ≡ ns = take_all (length ns) ns (omega arith) in
      subst (λ (xs : List ℕ). ReadAs b t (front ++ xs)) all
      (read_joined p b holds.header t park front ns (length ns) as_long (are.reads b holds) (read b holds) (omega arith) (omega arith)
      (All-take (λ n. PointsInside p t n) (length ns) ns sound.inside));
}

pub long_more : (l : Layout) (n c : ℕ) (front ns : List ℕ) → length front ≡ min (full_of l * c) n → length ns ≡ park_count l n c → length (front ++ ns) ≡ min (full_of l * (c + 1)) n
long_more l n c front ns first second =
    length-append front ns ∙ (ap (λ m. m + length ns) first ∙ (ap (λ m. min (full_of l * c) n + m) second ∙ parks_step l n c))

pub least_both : (xs ys : List ℕ) → least_after (least_after 0 xs) ys ≡ least_after 0 (xs ++ ys)
least_both xs ys = sym (least_joined 0 xs ys)
