-- Marks of the places of a bucket: made one by one, and taken away.
use Rattle.std.proofs.Common.{◌≡◌, ◌≢◌, ℕ, ◌+◌, ◌-◌, ◌<◌, ◌≤◌, List, length, replicate, get_or, set, arith, refl, ◌∙◌, ap, below_more, ⊎_elim}
use Rattle.std.specs.List.Sorted.{IsNonDecreasing}
use Rattle.std.proofs.lemmas.Bool.{cases_eq, cases_lt}
use Rattle.std.proofs.lemmas.List.{get_or-set_other, get_or-set_same, length-set, get_or-replicate, length-replicate}
use Rattle.pos_buckets.specs.Places.{HasPlaces, AreFlags, AreInside, AreClear, AreMarked, AreLeftFrom}

pub marked-none : (base : ℕ) (values marks firsts : List ℕ) → AreClear marks firsts → AreMarked base values 0 marks firsts
marked-none base values marks firsts h = record {
  room = h.room;
  first = λ r small lt. absurd (omega (arith, h.none r small));
  least = λ r i small lt lt2. absurd (omega (arith, h.none r small));
  marked = λ i lt. absurd (omega arith);
  flags = record { count = h.room.marks_count; at = λ r small. omega (arith, h.none r small) };
}

room-set :
    (marks firsts : List ℕ) (r v i : ℕ) → HasPlaces marks firsts → HasPlaces (set marks r v) (set firsts r i)
room-set marks firsts r v i h = record {
  marks_count = length-set marks r v ∙ h.marks_count;
  firsts_count = length-set firsts r i ∙ h.firsts_count;
}

flags-set : (marks : List ℕ) (place : ℕ) → AreFlags marks → AreFlags (set marks place 1)
flags-set marks place h = record {
  count = length-set marks place 1 ∙ h.count;
  at = λ r r_lt.
      ⊎_elim (λ same.
      let inside : place < length marks = omega (arith, h.count) in
      let mark : get_or (set marks place 1) r 0 ≡ 1 = rw same (get_or-set_same marks place 1 0 inside) in omega (arith, mark))
      (λ other.
      let mark_is : get_or (set marks place 1) r 0 ≡ get_or marks r 0 = get_or-set_other marks place r 1 0 other in
      let old = h.at r r_lt in omega (arith, old, mark_is))
      (cases_eq r place);
}

-- the first value of a place that was not marked
pub marked-new :
    (base : ℕ) (values marks firsts : List ℕ) (i : ℕ) → AreInside base values → IsNonDecreasing values → i < length values
    → AreMarked base values i marks firsts → get_or marks (get_or values i 0 - base) 0 ≡ 0
    → AreMarked base values (i + 1) (set marks (get_or values i 0 - base) 1) (set firsts (get_or values i 0 - base) i)
marked-new base values marks firsts i inside rise small h new =
    let place = get_or values i 0 - base in
    let here : (base ≤ get_or values i 0) × (get_or values i 0 < base + 15113) = inside i small in
    let place_lt : place < 15113 = omega arith in
    let marks_lt : place < length marks = omega (arith, h.room.marks_count) in
    let firsts_lt : place < length firsts = omega (arith, h.room.firsts_count) in
    let mark_here : get_or (set marks place 1) place 0 ≡ 1 = get_or-set_same marks place 1 0 marks_lt in
    let first_here : get_or (set firsts place i) place 0 ≡ i = get_or-set_same firsts place i 0 firsts_lt in
    let strictly = λ (j : ℕ) (lt : j < i).
    let up : get_or values j 0 ≤ get_or values i 0 = rise j i 0 (omega arith) small in
    let mark : 0 < get_or marks (get_or values j 0 - base) 0 = h.marked j lt in
    let other : get_or values j 0 ≢ get_or values i 0 =
    λ same. let hit : get_or marks (get_or values j 0 - base) 0 ≡ 0 = rw same new in omega (arith, mark, hit)
    in let answer : get_or values j 0 < get_or values i 0 = omega (arith, other) in answer
    in
    record {
      room = room-set marks firsts place 1 i h.room;
      first = λ r r_lt lt.
          ⊎_elim (λ same.
          let first_r : get_or (set firsts place i) r 0 ≡ i = rw same first_here in
          let value : get_or values i 0 ≡ base + r = omega arith in
          (omega (arith, first_r), ap (λ n. get_or values n 0) first_r ∙ value))
          (λ other.
          let mark_is : get_or (set marks place 1) r 0 ≡ get_or marks r 0 = get_or-set_other marks place r 1 0 other in
          let first_is : get_or (set firsts place i) r 0 ≡ get_or firsts r 0 = get_or-set_other firsts place r i 0 other in
          let was : 0 < get_or marks r 0 = omega (arith, mark_is) in
          let old = h.first r r_lt was in (omega (arith, old.0, first_is), ap (λ n. get_or values n 0) first_is ∙ old.1))
          (cases_eq r place);
      least = λ r j r_lt lt before.
          ⊎_elim (λ same.
          let first_r : get_or (set firsts place i) r 0 ≡ i = rw same first_here in
          let below : j < i = omega (arith, first_r) in
          omega (arith, strictly j below))
          (λ other.
          let mark_is : get_or (set marks place 1) r 0 ≡ get_or marks r 0 = get_or-set_other marks place r 1 0 other in
          let first_is : get_or (set firsts place i) r 0 ≡ get_or firsts r 0 = get_or-set_other firsts place r i 0 other in
          h.least r j r_lt (omega (arith, mark_is)) (omega (arith, first_is)))
          (cases_eq r place);
      marked = λ j lt.
          ⊎_elim (λ same.
          let mark : get_or (set marks place 1) (get_or values j 0 - base) 0 ≡ 1 = rw same mark_here in omega (arith, mark))
          (λ other.
          let mark_is : get_or (set marks place 1) (get_or values j 0 - base) 0 ≡ get_or marks (get_or values j 0 - base) 0 =
          get_or-set_other marks place (get_or values j 0 - base) 1 0 other in
          let below : j < i =
          ⊎_elim (λ lt2. lt2) (λ ge. let same : j ≡ i = omega arith in absurd (other (rw same refl))) (cases_lt j i) in
          let mark = h.marked j below in omega (arith, mark, mark_is))
          (cases_eq (get_or values j 0 - base) place);
      flags = flags-set marks place h.flags;
    }

-- a value at a place that was marked
pub marked-again :
    (base : ℕ) (values marks firsts : List ℕ) (i : ℕ)
    → AreMarked base values i marks firsts → get_or marks (get_or values i 0 - base) 0 ≢ 0
    → AreMarked base values (i + 1) marks firsts
marked-again base values marks firsts i h there = record {
  room = h.room;
  first = λ r r_lt lt. let old = h.first r r_lt lt in (omega (arith, old.0), old.1);
  least = h.least;
  marked = below_more (λ j. 0 < get_or marks (get_or values j 0 - base) 0) i h.marked (omega (arith, there));
  flags = h.flags;
}

pub left-all :
    (base : ℕ) (values marks firsts : List ℕ) → AreMarked base values (length values) marks firsts
    → AreLeftFrom base values 0 marks firsts
left-all base values marks firsts h = record {
  room = h.room;
  first = λ r r_lt lt. let old = h.first r r_lt lt in (omega arith, old.0, old.1);
}

pub left-more :
    (base : ℕ) (values marks firsts : List ℕ) (i : ℕ) → AreInside base values → i < length values
    → AreLeftFrom base values i marks firsts → AreLeftFrom base values (i + 1) (set marks (get_or values i 0 - base) 0) firsts
left-more base values marks firsts i inside small h =
    let place = get_or values i 0 - base in
    let here : (base ≤ get_or values i 0) × (get_or values i 0 < base + 15113) = inside i small in
    let marks_lt : place < length marks = omega (arith, h.room.marks_count) in
    let mark_here : get_or (set marks place 0) place 0 ≡ 0 = get_or-set_same marks place 0 0 marks_lt in
    record {
      room = record { marks_count = length-set marks place 0 ∙ h.room.marks_count; firsts_count = h.room.firsts_count };
      first = λ r r_lt lt.
          ⊎_elim (λ same. let gone : get_or (set marks place 0) r 0 ≡ 0 = rw same mark_here in absurd (omega (arith, gone)))
          (λ other.
          let mark_is : get_or (set marks place 0) r 0 ≡ get_or marks r 0 = get_or-set_other marks place r 0 0 other in
          let old = h.first r r_lt (omega (arith, mark_is)) in
          let differs : get_or firsts r 0 ≢ i =
          λ same. let value : get_or values i 0 ≡ base + r = rw (← same) old.2 in other (omega arith) in
          (omega (arith, old.0, differs), old.1, old.2))
          (cases_eq r place);
    }

pub left-none :
    (base : ℕ) (values marks firsts : List ℕ) (n : ℕ) → n ≡ length values → AreLeftFrom base values n marks firsts
    → AreClear marks firsts
left-none base values marks firsts n e h = record {
  room = h.room;
  none = λ r r_lt.
      ⊎_elim (λ lt. let old = h.first r r_lt lt in absurd (omega (arith, old.0, old.1))) (λ ge. omega arith)
      (cases_lt 0 (get_or marks r 0));
}

pub clear-new : (marks firsts : List ℕ) → marks ≡ replicate 15113 0 → firsts ≡ replicate 15113 0 → AreClear marks firsts
clear-new marks firsts e f = record {
  room = record { marks_count = ap length e ∙ length-replicate {A = ℕ} 15113 0; firsts_count = ap length f ∙ length-replicate {A = ℕ} 15113 0 };
  none = λ r lt. ap (λ xs. get_or xs r 0) e ∙ get_or-replicate 15113 r 0 0 lt;
}
