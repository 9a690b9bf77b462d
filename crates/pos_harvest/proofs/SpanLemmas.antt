-- The search among the parks of table 7, and where it ends.
use Rattle.std.proofs.Common.{◌≡◌, ℕ, zero, suc, ◌+◌, ◌-◌, ◌*◌, ◌/◌, ◌^◌, ◌<◌, ◌≤◌, inl, inr, nat_lt, List, [], ◌∷◌, count_by, Result, Ok, Err, refl, sym, ap, ◌∙◌, subst, arith, pow_mono, cond}
use Rattle.std.proofs.Math.Nat.{mul-le-mul_left, pow-suc}
use Rattle.std.proofs.lemmas.Bool.{cases_lt}
use Rattle.std.proofs.lemmas.List.Sums.{sum_by-cons}
use Rattle.std.proofs.lemmas.Bool.Decides.{nat_tests}
use Rattle.pos_edge.specs.View.{View}
use Rattle.pos_layout.specs.declared.damage.Damage.{Damage}
use Rattle.pos_layout.specs.declared.header.Header.{Header}
use Rattle.pos_layout.specs.Fields.{count_of, header_in, layout_in}
use Rattle.pos_layout.specs.declared.layout.Layout.{Layout}
use Rattle.pos_layout.specs.Layouts.{parks_of, park_count, full_of}
use Rattle.pos_layout.specs.Reading.{head, under, read_park}
use Rattle.pos_layout.specs.Rules.{IsLaidOut}
use Rattle.pos_reader.specs.Plots.{PlotState, IsPlotFile}
use Rattle.pos_reader.specs.Spans.{BeginsBelow, BeginsFrom, EndsIn, IsLastDamage, last_count, last_parks}
use Rattle.pos_layout.proofs.LayoutLemmas.{header_layout, park_inside}
use Rattle.pos_reader.proofs.AnswerLemmas.{then_parts}
use Rattle.pos_reader.proofs.ParkParts.{under_some}
use Rattle.pos_harvest.specs.Searches.{IsBetween, IsStart}
use Rattle.pos_harvest.proofs.FullParks.{park_before, park_end, parks_few}

-- ---- what the plot's header says of the file

pub same_parks : (p : PlotState) (b : List ℕ) (v : View) → IsPlotFile p b v → parks_of p.header.layout (count_of p.header 7) ≡ last_parks (layout_in b) b
same_parks p b v holds = ap (λ h. parks_of h.layout (count_of h 7)) holds.header ∙ ap (λ l. parks_of l (last_count b)) (header_layout b)

pub count_few : (h : Header) → IsLaidOut h.layout h → count_of h 7 ≤ 2251799813685248
count_few h laid =
    let most = pow_mono {i = h.size + 1} {j = 51} (let g = laid.greatest in omega arith) in
    let few = laid.counts 7 (omega arith) (omega arith) in
    omega arith

pub head_damage : (p : PlotState) (b : List ℕ) (v : View) (park : ℕ) (d : Damage) → IsPlotFile p b v → park < parks_of p.header.layout (count_of p.header 7)
    → head (layout_in b) b park ≡ Err d → IsLastDamage (layout_in b) b d
head_damage p b v park d holds there refused = (park, subst (λ n. park < n) (same_parks p b v holds) there, inl refused)

pub under_damage : (p : PlotState) (b : List ℕ) (v : View) (park f : ℕ) (d : Damage) → IsPlotFile p b v → park < parks_of p.header.layout (count_of p.header 7)
    → f ≤ 2 ^ p.header.size → under (layout_in b) b park f ≡ Err d → IsLastDamage (layout_in b) b d
under_damage p b v park f d holds there few refused =
    (park, subst (λ n. park < n) (same_parks p b v holds) there, inr (f, subst (λ h. f ≤ 2 ^ h.size) holds.header few, refused))

-- ---- one step of the search: half of what is apart is left

pub upper_half : (low high steps : ℕ) → low < high → high < low + 2 ^ steps
    → (1 + (steps - 1) ≤ steps) × (high < low + (high - low) / 2 + 1 + 2 ^ (steps - 1))
upper_half low high zero apart fits = absurd (omega arith)
upper_half low high (suc s) apart fits =
    let e = pow-suc 2 s in
    let back : suc s - 1 ≡ s = omega arith in
    (omega arith, rw back (omega arith))

pub lower_half : (low high steps : ℕ) → low < high → high < low + 2 ^ steps
    → (1 + (steps - 1) ≤ steps) × (low + (high - low) / 2 < low + 2 ^ (steps - 1))
lower_half low high zero apart fits = absurd (omega arith)
lower_half low high (suc s) apart fits =
    let e = pow-suc 2 s in
    let back : suc s - 1 ≡ s = omega arith in
    (omega arith, rw back (omega arith))

pub between_upper : (b : List ℕ) (f low high middle n : ℕ) → head (layout_in b) b middle ≡ Ok n → n < f → IsBetween (layout_in b) b f low high → IsBetween (layout_in b) b f (middle + 1) high
between_upper b f low high middle n found less h = record {
  below = λ some. let back : middle + 1 - 1 ≡ middle = omega arith in subst (BeginsBelow (layout_in b) b f) (sym back) (n, found, less);
  from = h.from;
}

pub between_lower : (b : List ℕ) (f low high middle n : ℕ) → head (layout_in b) b middle ≡ Ok n → f ≤ n → IsBetween (layout_in b) b f low high → IsBetween (layout_in b) b f low middle
between_lower b f low high middle n found most h = record {
  below = h.below;
  from = λ there. (n, found, most);
}

-- nothing is apart at the start
pub between_all : (b : List ℕ) (f high : ℕ) → high ≡ last_parks (layout_in b) b → IsBetween (layout_in b) b f 0 high
between_all b f high all = record {
  below = λ some. absurd (omega arith);
  from = λ there. absurd (omega arith);
}

-- the parks that begin below an f7 begin below a greater one
pub between_next : (b : List ℕ) (f parks high : ℕ) → high ≡ last_parks (layout_in b) b → IsBetween (layout_in b) b f parks parks → IsBetween (layout_in b) b (f + 1) parks high
between_next b f parks high all h = record {
  below = λ some. let n = h.below some in (n.0, n.1, (let less = n.2 in omega arith));
  from = λ there. absurd (omega arith);
}

-- ---- the place that a look into the last park gives

pub place_fits : (l : Layout) (n park below : ℕ) → park < parks_of l n → below ≤ park_count l n park → full_of l * park + below ≤ n
place_fits l n park below there few = let inside = park_inside l park n there in omega arith

pub start_none : (b : List ℕ) (f : ℕ) → IsBetween (layout_in b) b f 0 0 → IsStart (layout_in b) b f 0 0
start_none b f h = record {
  between = h;
  bound = record { inside = omega arith; none = λ first there. h.from there; some = λ some. absurd (omega arith) };
  none = λ none. refl;
  counts = λ some. absurd (omega arith);
  from = omega arith;
  to = omega arith;
}

pub start_some : (l : Layout) (b : List ℕ) (f parks below : ℕ) → 0 < parks → parks ≤ last_parks l b → IsBetween l b f parks parks
    → under l b (parks - 1) f ≡ Ok below → below ≤ park_count l (last_count b) (parks - 1) → IsStart l b f parks (full_of l * (parks - 1) + below)
start_some l b f parks below some there h counted few =
    let begins = h.below some in
    let least : 1 ≤ below = under_some l b (parks - 1) f begins.0 below begins.1 begins.2 counted in
    let inside : full_of l * (parks - 1) + below ≤ last_count b = place_fits l (last_count b) (parks - 1) below (omega arith) few in
    let most : below ≤ full_of l = omega arith in
    let end = park_end l parks some in
    let at : (full_of l * (parks - 1) + below - 1) / full_of l ≡ parks - 1 = park_before l (parks - 1) below least most in
    let left : full_of l * (parks - 1) + below - full_of l * (parks - 1) ≡ below = omega arith in
    let up : parks - 1 + 1 ≡ parks = omega arith in
    record {
      between = h;
      bound = record {
        inside = inside;
        none = λ none. absurd (omega arith);
        some = λ some. subst (λ p. EndsIn l b f p (full_of l * (parks - 1) + below)) (sym at) (record {
          begins = begins;
          counts = counted ∙ ap (λ n. Ok n) (sym left);
          next = λ full next. subst (BeginsFrom l b f) (sym up) (h.from (subst (λ p. p < last_parks l b) up next));
        });
      };
      none = λ none. absurd (omega arith);
      counts = λ some. counted ∙ ap (λ n. Ok n) (sym left);
      from = omega arith;
      to = omega arith;
    }

-- ---- the first place is at most the second

test_rises : (x l m : ℕ) → l ≤ m → cond (nat_lt x l) 1 0 ≤ cond (nat_lt x m) 1 0
test_rises x l m up = grind (arith, nat_tests)

count_rises : (l m : ℕ) (ns : List ℕ) → l ≤ m → count_by (λ x. nat_lt x l) ns ≤ count_by (λ x. nat_lt x m) ns
count_rises l m [] up = omega arith
count_rises l m (x ∷ ns) up =
    let a = sum_by-cons (λ x. cond (nat_lt x l) 1 0) x ns in
    let c = sum_by-cons (λ x. cond (nat_lt x m) 1 0) x ns in
    let rest = count_rises l m ns up in
    let here = test_rises x l m up in
    rw (a, c) (omega arith)

pub under_rises : (b : List ℕ) (park f m n : ℕ) → under (layout_in b) b park f ≡ Ok m → under (layout_in b) b park (f + 1) ≡ Ok n → m ≤ n
unfolding under
under_rises b park f m n first second =
    let k = (header_in b).size in
    let l = f * 2 ^ (k + 1) in
    let u = (f + 1) * 2 ^ (k + 1) in
    let one = then_parts (read_park (layout_in b) b 7 park) (λ ns. Ok (count_by (λ x. nat_lt x l) ns)) m first in
    let two = then_parts (read_park (layout_in b) b 7 park) (λ ns. Ok (count_by (λ x. nat_lt x u) ns)) n second in
    let same : one.0 ≡ two.0 = lists_same one.0 two.0 (sym one.1 ∙ two.1) in
    let low : count_by (λ x. nat_lt x l) one.0 ≡ m = numbers_same _ m one.2 in
    let high : count_by (λ x. nat_lt x u) two.0 ≡ n = numbers_same _ n two.2 in
    let up : l ≤ u = omega arith in
    let rises = count_rises l u two.0 up in
    let low' : count_by (λ x. nat_lt x l) two.0 ≡ m = subst (λ ns. count_by (λ x. nat_lt x l) ns ≡ m) same low in
    omega arith
  where
    lists_same : (xs ys : List ℕ) → ◌≡◌ {A = Result (List ℕ) Damage} (Ok xs) (Ok ys) → xs ≡ ys
    lists_same xs ys e = cc

    numbers_same : (m n : ℕ) → ◌≡◌ {A = Result ℕ Damage} (Ok m) (Ok n) → m ≡ n
    numbers_same m n e = cc

pub starts_rise : (b : List ℕ) (f p q i j : ℕ) → p ≤ q → IsStart (layout_in b) b f p i → IsStart (layout_in b) b (f + 1) q j → i ≤ j
starts_rise b f p q i j up first second = elim (cases_lt p q) [
  | inl less ↦ (let a = first.to in let c = second.from in let most : full_of (layout_in b) * p ≤ full_of (layout_in b) * (q - 1) = mul-le-mul_left (full_of (layout_in b)) (omega arith) in omega arith)
  | inr most ↦ (let same : q ≡ p = omega arith in same_park b f p i j first (subst (λ n. IsStart (layout_in b) b (f + 1) n j) same second))
]
  where
    same_park : (b : List ℕ) (f p i j : ℕ) → IsStart (layout_in b) b f p i → IsStart (layout_in b) b (f + 1) p j → i ≤ j
    same_park b f zero i j first second = let a = first.none refl in omega arith
    same_park b f (suc p) i j first second =
        let back : suc p - 1 ≡ p = omega arith in
        let below = under_rises b (suc p - 1) f _ _ (first.counts (omega arith)) (second.counts (omega arith)) in
        let a = first.from in
        let c = second.from in
        omega arith

-- 41 reads halve all parks of a table
pub steps_fit : (h : Header) (low : ℕ) → IsLaidOut h.layout h → parks_of h.layout (count_of h 7) < low + 2 ^ 41
steps_fit h low laid = let few = count_few h laid in let parks = parks_few h.layout (count_of h 7) few in omega arith
