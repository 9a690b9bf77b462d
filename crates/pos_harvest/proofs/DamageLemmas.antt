-- Each damage that a challenge meets in a file that opens is one of a number, or a place without a proof.
use Rattle.std.proofs.Common.{◌≡◌, ℕ, zero, suc, ◌-◌, ◌*◌, ◌^◌, ◌<◌, ◌≤◌, ◌⊎◌, ⊎_elim, inl, inr, nat_lt, Bool, true, false, if◌then◌else◌, List, Result, Ok, Err, refl, sym, ap, subst, arith}
use Rattle.std.proofs.lemmas.Bool.{true≢false}
use Rattle.pos_order.specs.Quality.{pair_quality, quality_index}
use Rattle.pos_lists.specs.Pairs.{greater, lesser}
use Rattle.pos_lists.specs.PlotLists.{place_in}
use Rattle.pos_lists.specs.Walk.{after, join_ok, walk, limb, walk_from, limb_from}
use Rattle.pos_lists.proofs.PairLemmas.{pairs_are_in_order}
use Rattle.pos_layout.specs.declared.damage.Damage.{Damage}
use Rattle.pos_layout.specs.declared.damage.Damage.TheVariants.{Directory, NotAProof}
use Rattle.pos_layout.specs.Fields.{count_of, header_in, layout_in}
use Rattle.pos_layout.specs.Reading.{head, num, then_read, under}
use Rattle.pos_layout.specs.Rules.{Opens}
use Rattle.pos_layout.proofs.AnyReadings.{numbers_point_inside}
use Rattle.pos_layout.proofs.LayoutLemmas.{park_inside}
use Rattle.pos_layout.specs.Layouts.{full_of}
use Rattle.pos_reader.specs.ReadingCauses.{EntryCause, ParkCause}
use Rattle.pos_reader.specs.Spans.{last_count}
use Rattle.pos_harvest.specs.DamageLaws.{SpanDamageIsOfANumber, TupleDamageIsOfANumber, BranchDamageIsOfANumber, ProofListDamageIsOfTheFile, QualityListDamageIsOfANumber}
use Rattle.pos_harvest.specs.Places.{tuple_at, quality_in, ShowsNoProof}
use Rattle.pos_harvest.specs.PlotDamage.{IsNumberDamage}
use Rattle.pos_harvest.specs.Searches.{places_of}
use Rattle.pos_harvest.proofs.CauseLemmas.{number_damage_has_its_cause, head_damage_has_its_cause, count_damage_has_its_cause, park_to_number}
use Rattle.pos_harvest.proofs.FullParks.{park_at}
use Rattle.pos_harvest.proofs.PlaceLemmas.{pair_inside, place_inside}

-- ---- answers one after another

err_same : (d e : Damage) → ◌≡◌ {A = Result ℕ Damage} (Err d) (Err e) → d ≡ e
err_same d e is = cc

after_err : {A B : Type 0} (r : Result A Damage) (f : A → Result B Damage) (d : Damage) → after r f ≡ Err d → (r ≡ Err d) ⊎ ((x : A) × (r ≡ Ok x) × (f x ≡ Err d))
after_err (Ok x) f d e = inr (x, refl, e)
after_err (Err g) f d e = inl (let same : g ≡ d = cc in ap (λ d. Err d) same)

join_err : (a c : Result (List ℕ) Damage) (d : Damage) → join_ok a c ≡ Err d → (a ≡ Err d) ⊎ (c ≡ Err d)
join_err (Err g) c d e = inl (let same : g ≡ d = cc in ap (λ d. Err d) same)
join_err (Ok xs) (Err g) d e = inr (let same : g ≡ d = cc in ap (λ d. Err d) same)
join_err (Ok xs) (Ok ys) d e = cc

choice_err : (t : Bool) (a c : Result (ℕ × ℕ) Damage) (d : Damage) → (if t then a else c) ≡ Err d → (a ≡ Err d) ⊎ (c ≡ Err d)
choice_err true a c d e = inl e
choice_err false a c d e = inr e

passes : {X Y : Type 0} (r : Result X Damage) (f : X → Y) (d : Damage) → then_read r (λ x. Ok (f x)) ≡ Err d → r ≡ Err d
passes (Ok x) f d e = cc
passes (Err g) f d e = (let same : g ≡ d = cc in ap (λ d. Err d) same)

-- ---- one number

number_damage : (b : List ℕ) (t i : ℕ) (d : Damage) → Opens (layout_in b) b → 1 ≤ t → t ≤ 7 → i < count_of (header_in b) t → num (layout_in b) b t i ≡ Err d → IsNumberDamage (layout_in b) b d
number_damage b t i d opens first last inside refused =
    (t, i, record { first = first; last = last; inside = inside }, (number_damage_has_its_cause (layout_in b) b t i d opens).0 refused)

-- where a number was read, its pair is inside the table below
pair_is_inside : (b : List ℕ) (t i s : ℕ) → 1 ≤ t → t ≤ 6 → num (layout_in b) b t i ≡ Ok s → (lesser s < places_of (header_in b) (t - 1)) × (greater s < places_of (header_in b) (t - 1))
pair_is_inside b t i s first last is =
    let inside = pair_inside (header_in b) t s first last (numbers_point_inside (layout_in b) b t i s is) in
    let order = pairs_are_in_order s in
    (omega arith, inside)

-- ---- a walk and a branch, from a place that is inside

walk_damage : (b : List ℕ) (t i : ℕ) (d : Damage) → Opens (layout_in b) b → t ≤ 6 → i < places_of (header_in b) t → walk (num (layout_in b) b) t i ≡ Err d → IsNumberDamage (layout_in b) b d
unfolding walk
walk_damage b zero i d opens last inside refused = absurd (let e : true ≡ false = cc in true≢false e)
walk_damage b (suc n) i d opens last inside refused =
    ⊎_elim
    (λ (e : num (layout_in b) b (suc n) i ≡ Err d). number_damage b (suc n) i d opens (omega arith) (omega arith) inside e)
    (λ (g : (s : ℕ) × (num (layout_in b) b (suc n) i ≡ Ok s) × (join_ok (walk (num (layout_in b) b) n (lesser s)) (walk (num (layout_in b) b) n (greater s)) ≡ Err d)).
    let back : suc n - 1 ≡ n = omega arith in
    let pair = pair_is_inside b (suc n) i g.0 (omega arith) last g.1 in
    let low : lesser g.0 < places_of (header_in b) n = subst (λ m. lesser g.0 < places_of (header_in b) m) back pair.0 in
    let high : greater g.0 < places_of (header_in b) n = subst (λ m. greater g.0 < places_of (header_in b) m) back pair.1 in
    ⊎_elim
    (λ (l : walk (num (layout_in b) b) n (lesser g.0) ≡ Err d). walk_damage b n (lesser g.0) d opens (omega arith) low l)
    (λ (r : walk (num (layout_in b) b) n (greater g.0) ≡ Err d). walk_damage b n (greater g.0) d opens (omega arith) high r)
    (join_err _ _ d g.2))
    (after_err (num (layout_in b) b (suc n) i) (λ s. join_ok (walk (num (layout_in b) b) n (lesser s)) (walk (num (layout_in b) b) n (greater s))) d refused)

limb_damage : (b : List ℕ) (n q i : ℕ) (d : Damage) → Opens (layout_in b) b → n ≤ 5 → i < count_of (header_in b) (suc n) → limb (num (layout_in b) b) n q i ≡ Err d → IsNumberDamage (layout_in b) b d
unfolding limb
limb_damage b zero q i d opens last inside refused =
    ⊎_elim
    (λ (e : num (layout_in b) b 1 i ≡ Err d). number_damage b 1 i d opens (omega arith) (omega arith) inside e)
    (λ (g : (s : ℕ) × (num (layout_in b) b 1 i ≡ Ok s) × (◌≡◌ {A = Result (ℕ × ℕ) Damage} (Ok (lesser s, greater s)) (Err d))). absurd (let never = g.2 in let e : true ≡ false = cc in true≢false e))
    (after_err (num (layout_in b) b 1 i) (λ s. Ok (lesser s, greater s)) d refused)
limb_damage b (suc n) q i d opens last inside refused =
    ⊎_elim
    (λ (e : num (layout_in b) b (suc (suc n)) i ≡ Err d). number_damage b (suc (suc n)) i d opens (omega arith) (omega arith) inside e)
    (λ (g : (s : ℕ) × (num (layout_in b) b (suc (suc n)) i ≡ Ok s) × ((if nat_lt q (2 ^ n) then limb (num (layout_in b) b) n q (lesser s) else limb (num (layout_in b) b) n (q - 2 ^ n) (greater s)) ≡ Err d)).
    let back : suc (suc n) - 1 ≡ suc n = omega arith in
    let pair = pair_is_inside b (suc (suc n)) i g.0 (omega arith) (omega arith) g.1 in
    let low : lesser g.0 < places_of (header_in b) (suc n) = subst (λ m. lesser g.0 < places_of (header_in b) m) back pair.0 in
    let high : greater g.0 < places_of (header_in b) (suc n) = subst (λ m. greater g.0 < places_of (header_in b) m) back pair.1 in
    ⊎_elim
    (λ (l : limb (num (layout_in b) b) n q (lesser g.0) ≡ Err d). limb_damage b n q (lesser g.0) d opens (omega arith) low l)
    (λ (r : limb (num (layout_in b) b) n (q - 2 ^ n) (greater g.0) ≡ Err d). limb_damage b n (q - 2 ^ n) (greater g.0) d opens (omega arith) high r)
    (choice_err (nat_lt q (2 ^ n)) _ _ d g.2))
    (after_err (num (layout_in b) b (suc (suc n)) i) (λ s. if nat_lt q (2 ^ n) then limb (num (layout_in b) b) n q (lesser s) else limb (num (layout_in b) b) n (q - 2 ^ n) (greater s)) d refused)

-- a number of table 7 names a place of table 6
top_inside : (b : List ℕ) (i s : ℕ) → num (layout_in b) b 7 i ≡ Ok s → place_in (header_in b).size s < count_of (header_in b) 6
top_inside b i s is = place_inside (header_in b) s (numbers_point_inside (layout_in b) b 7 i s is)

pub tuple_damage_is_of_a_number : TupleDamageIsOfANumber
unfolding tuple_at walk_from
tuple_damage_is_of_a_number b i d opens inside refused =
    let k = (header_in b).size in
    ⊎_elim
    (λ (e : num (layout_in b) b 7 i ≡ Err d). number_damage b 7 i d opens (omega arith) (omega arith) inside e)
    (λ (g : (s : ℕ) × (num (layout_in b) b 7 i ≡ Ok s) × (walk (num (layout_in b) b) 6 (place_in k s) ≡ Err d)).
    walk_damage b 6 (place_in k g.0) d opens (omega arith) (top_inside b i g.0 g.1) g.2)
    (after_err (num (layout_in b) b 7 i) (λ s. walk (num (layout_in b) b) 6 (place_in k s)) d refused)

pub branch_damage_is_of_a_number : BranchDamageIsOfANumber
unfolding quality_in limb_from
branch_damage_is_of_a_number b c i d opens inside refused =
    let k = (header_in b).size in
    let q = quality_index c in
    ⊎_elim
    (λ (e : num (layout_in b) b 7 i ≡ Err d). number_damage b 7 i d opens (omega arith) (omega arith) inside e)
    (λ (g : (s : ℕ) × (num (layout_in b) b 7 i ≡ Ok s) × (limb (num (layout_in b) b) 5 q (place_in k s) ≡ Err d)).
    limb_damage b 5 q (place_in k g.0) d opens (omega arith) (top_inside b i g.0 g.1) g.2)
    (after_err (num (layout_in b) b 7 i) (λ s. limb (num (layout_in b) b) 5 q (place_in k s)) d
    (passes (limb_from (num (layout_in b) b) k q i) (λ (pair : ℕ × ℕ). pair_quality k c pair.0 pair.1) d refused))

-- ---- the search for a span

entry_to_park : (b : List ℕ) (park : ℕ) (d : Damage) → EntryCause (layout_in b) b 7 park d → ParkCause (layout_in b) b 7 park d
entry_to_park b park (Directory u q) cause = (cause.0, cause.1, inl cause.2)
entry_to_park b park d cause = absurd cause

park_damage : (b : List ℕ) (park : ℕ) (d : Damage) → full_of (layout_in b) * park < last_count b → ParkCause (layout_in b) b 7 park d → IsNumberDamage (layout_in b) b d
park_damage b park d there cause =
    let at = park_at (layout_in b) park in (
      7,
      full_of (layout_in b) * park,
      record { first = omega arith; last = omega arith; inside = there },
      park_to_number (layout_in b) b 7 (full_of (layout_in b) * park) d (subst (λ q. ParkCause (layout_in b) b 7 q d) (sym at) cause),
    )

pub span_damage_is_of_a_number : SpanDamageIsOfANumber
span_damage_is_of_a_number b d opens damage =
    let park = damage.0 in
    let there = park_inside (layout_in b) park (last_count b) damage.1 in
    ⊎_elim
    (λ (e : head (layout_in b) b park ≡ Err d). park_damage b park d there (entry_to_park b park d ((head_damage_has_its_cause (layout_in b) b park d).0 e)))
    (λ (u : (f : ℕ) × (f ≤ 2 ^ (header_in b).size) × (under (layout_in b) b park f ≡ Err d)).
    park_damage b park d there ((count_damage_has_its_cause (layout_in b) b park u.0 d opens).0 u.2))
    damage.2

-- ---- a list of a challenge

pub proof_list_damage_is_of_the_file : ProofListDamageIsOfTheFile
proof_list_damage_is_of_the_file b c d opens (inl damage) = inr (opens, inl (span_damage_is_of_a_number b d opens damage))
proof_list_damage_is_of_the_file b c d opens (inr h) =
    let stops = h.stops in
    let to = stops.to in
    let last = h.span.upper.inside in
    let inside : stops.place < last_count b = omega arith in
    inr (
      opens,
      ⊎_elim
          (λ (e : tuple_at (layout_in b) b stops.place ≡ Err d). inl (tuple_damage_is_of_a_number b stops.place d opens inside e))
          (λ (n : (d ≡ NotAProof stops.place) × ShowsNoProof (layout_in b) b c stops.place).
          inr (stops.place, record { first = omega arith; last = omega arith; inside = inside }, n.0, n.1))
          stops.here,
    )

pub quality_list_damage_is_of_a_number : QualityListDamageIsOfANumber
quality_list_damage_is_of_a_number b c d opens (inl damage) = span_damage_is_of_a_number b d opens damage
quality_list_damage_is_of_a_number b c d opens (inr h) =
    let stops = h.stops in
    let to = stops.to in
    let last = h.span.upper.inside in
    branch_damage_is_of_a_number b c stops.place d opens (omega arith) stops.here
