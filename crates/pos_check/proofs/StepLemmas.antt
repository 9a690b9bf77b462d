-- How what was read, hashed and counted grows, by a place and by a challenge.
use Rattle.std.proofs.Common.{◌≡◌, ℕ, suc, ◌+◌, ◌-◌, ◌*◌, ◌<◌, ◌≤◌, inl, inr, List, [], ◌∷◌, ◌++◌, length, map, Result, Ok, Err, refl, sym, ap, ◌∙◌, subst, arith}
use Rattle.std.specs.Prelude.{slice_index_or}
use Rattle.std.specs.List.{concat}
use Rattle.std.proofs.lemmas.Bool.{cases_lt}
use Rattle.std.proofs.lemmas.List.{get_or_push, get_or_append_left, length-append, append-nil, append_assoc, map-append}
use Rattle.std.proofs.lemmas.List.Folds.{concat-append}
use Rattle.std.proofs.lemmas.List.Sums.{sum_by-append, sum_by-cons}
use Rattle.sha2.specs.Hashers.{Holds256}
use Rattle.sha2.specs.Sha256.{sha256}
use Rattle.sha2.specs.declared.Sha256.{Sha256}
use Rattle.pos_layout.specs.declared.damage.Damage.{Damage}
use Rattle.pos_layout.specs.Fields.{header_in, layout_in}
use Rattle.pos_harvest.specs.Listings.{IsProofListDamage, StopsListing}
use Rattle.pos_harvest.specs.Places.{ShowsProof, FailsAsProof, quality_in}
use Rattle.pos_check.specs.Challenges.{check_challenge}
use Rattle.pos_check.specs.Summaries.{HaveProofs, IsChecked, IsSummary, StopsCheck, challenge_of, count_all}
use Rattle.pos_check.specs.Steps.{HoldsSummary, TakesChallenge, TakesPlaces}
use Rattle.pos_check.specs.declared.summary.Summary.{Summary}

-- ---- lists that grow

grown : {X : Type 0} (P : ℕ → X → Type 0) (none : X) (xs : List X) (x : X)
    → ((j : ℕ) → j < length xs → P j (slice_index_or xs j none)) → P (length xs) x
    → (j : ℕ) → j < length (xs ++ x ∷ []) → P j (slice_index_or (xs ++ x ∷ []) j none)
grown P none xs x each here j inside =
    let len : length (xs ++ x ∷ []) ≡ length xs + 1 = length-append xs (x ∷ []) in
    elim (cases_lt j (length xs)) as (λ _. P j (slice_index_or (xs ++ x ∷ []) j none)) [
      | inl less ↦ subst (λ y. P j y) (sym (get_or_append_left xs (x ∷ []) none j less)) (each j less)
      | inr more ↦
          let same : j ≡ length xs = omega arith in
          subst (λ i. P i (slice_index_or (xs ++ x ∷ []) i none)) (sym same)
          (subst (λ y. P (length xs) y) (sym (get_or_push xs x none (length xs) refl)) here)
    ]

concat-push : (xs : List (List ℕ)) (x : List ℕ) → concat (xs ++ x ∷ []) ≡ concat xs ++ x
concat-push xs x = concat-append xs (x ∷ []) ∙ ap (λ y. concat xs ++ y) (append-nil x)

count-push : (xs : List (List (List ℕ))) (x : List (List ℕ)) → count_all (xs ++ x ∷ []) ≡ count_all xs + length x
count-push xs x =
    let a = sum_by-append length xs (x ∷ []) in
    let b = sum_by-cons length x [] in
    omega (arith, a, b)

all-push : (xs : List (List (List ℕ))) (x : List (List ℕ)) → concat (map concat (xs ++ x ∷ [])) ≡ concat (map concat xs) ++ concat x
all-push xs x = ap concat (map-append concat xs (x ∷ [])) ∙ concat-push (map concat xs) (concat x)

-- ---- places

pub places_none : (b c : List ℕ) (first : ℕ) (hasher : Sha256) → TakesPlaces (layout_in b) b c first first hasher hasher
places_none b c first hasher = record {
  qualities = [];
  shown = record { as_long = omega arith; each = λ j inside. absurd (omega arith) };
  proofs = λ i from to. absurd (omega arith);
  hashed = λ m holds. subst (λ m. Holds256 hasher m) (sym (append-nil m)) holds;
}

proofs_more : (b c : List ℕ) (first place : ℕ) → HaveProofs (layout_in b) b c first place → (xs : List ℕ) × ShowsProof (layout_in b) b c place xs → HaveProofs (layout_in b) b c first (place + 1)
proofs_more b c first place before here i from to =
    elim (cases_lt i place) as (λ _. (xs : List ℕ) × ShowsProof (layout_in b) b c i xs) [
      | inl less ↦ before i from less
      | inr more ↦ (let same : place ≡ i = omega arith in subst (λ i. (xs : List ℕ) × ShowsProof (layout_in b) b c i xs) same here)
    ]

pub places_more : (b c : List ℕ) (first place : ℕ) (old middle new : Sha256) (quality : List ℕ) → first ≤ place
    → TakesPlaces (layout_in b) b c first place old middle → (xs : List ℕ) × ShowsProof (layout_in b) b c place xs → quality_in (layout_in b) b c place ≡ Ok quality
    → ((m : List ℕ) → Holds256 middle m → Holds256 new (m ++ quality)) → TakesPlaces (layout_in b) b c first (place + 1) old new
places_more b c first place old middle new quality from h proof shows takes =
    let long = h.shown.as_long in
    let len : length (h.qualities ++ quality ∷ []) ≡ length h.qualities + 1 = length-append h.qualities (quality ∷ []) in
    let at : first + length h.qualities ≡ place = omega arith in
    record {
      qualities = h.qualities ++ quality ∷ [];
      shown = record {
        as_long = omega arith;
        each = grown (λ j q. quality_in (layout_in b) b c (first + j) ≡ Ok q) [] h.qualities quality h.shown.each
            (subst (λ i. quality_in (layout_in b) b c i ≡ Ok quality) (sym at) shows);
      };
      proofs = proofs_more b c first place h.proofs proof;
      hashed = λ m holds.
          subst (λ m. Holds256 new m) (append_assoc m (concat h.qualities) quality ∙ ap (λ y. m ++ y) (sym (concat-push h.qualities quality)))
          (takes (m ++ concat h.qualities) (h.hashed m holds));
    }

-- the first place that shows no proof
pub places_stop : (b c : List ℕ) (first place second : ℕ) (old new : Sha256) (d : Damage) → first ≤ place → place < second
    → TakesPlaces (layout_in b) b c first place old new → FailsAsProof (layout_in b) b c place d → StopsListing (layout_in b) b c first second d
places_stop b c first place second old new d from to h fails = record {
  place = place;
  from = from;
  to = to;
  before = h.proofs;
  here = fails;
}

-- ---- challenges

pub summary_none : (b : List ℕ) (hasher : Sha256) → Holds256 hasher [] → HoldsSummary (layout_in b) b 0 0 hasher
summary_none b hasher holds = record {
  lists = [];
  checked = record { as_many = refl; each = λ i inside. absurd (omega arith) };
  counted = refl;
  hashed = holds;
}

pub summary_more : (b : List ℕ) (n proofs count : ℕ) (old new : Sha256) → HoldsSummary (layout_in b) b n proofs old
    → TakesChallenge (layout_in b) b (challenge_of b n) count old new → HoldsSummary (layout_in b) b (n + 1) (proofs + count) new
summary_more b n proofs count old new h t =
    let many = h.checked.as_many in
    let len : length (h.lists ++ t.qualities ∷ []) ≡ length h.lists + 1 = length-append h.lists (t.qualities ∷ []) in
    record {
      lists = h.lists ++ t.qualities ∷ [];
      checked = record {
        as_many = omega arith;
        each = λ i inside.
            grown (λ j q. IsChecked (layout_in b) b (challenge_of b j) q) [] h.lists t.qualities
            (λ j less. h.checked.each j (omega arith))
            (subst (λ j. IsChecked (layout_in b) b (challenge_of b j) t.qualities) (sym many) t.checked)
            i (omega arith);
      };
      counted = omega (arith, count-push h.lists t.qualities, h.counted, t.as_many);
      hashed = subst (λ m. Holds256 new m) (sym (all-push h.lists t.qualities)) (t.hashed (concat (map concat h.lists)) h.hashed);
    }

pub summary_done : (b : List ℕ) (n proofs : ℕ) (hasher : Sha256) (s : Summary) → HoldsSummary (layout_in b) b n proofs hasher → s.challenges ≡ n → s.proofs ≡ proofs
    → ((m : List ℕ) → Holds256 hasher m → s.digest ≡ sha256 m) → IsSummary (layout_in b) b n s
summary_done b n proofs hasher s h challenges counted digest = record {
  lists = h.lists;
  checked = h.checked;
  challenges = challenges;
  proofs = counted ∙ h.counted;
  digest = digest (concat (map concat h.lists)) h.hashed;
}

-- the first challenge that has not a proof at each place
pub summary_stops : (b : List ℕ) (i n proofs : ℕ) (hasher : Sha256) (d : Damage) → i < n → HoldsSummary (layout_in b) b i proofs hasher
    → IsProofListDamage (layout_in b) b (challenge_of b i) d → StopsCheck (layout_in b) b n d
summary_stops b i n proofs hasher d inside h damage = record {
  challenge = i;
  inside = inside;
  before = λ j less. (slice_index_or h.lists j [], h.checked.each j less);
  here = damage;
}

-- ---- a challenge of the plot

-- the challenge that was made of a plot's id is that of its file
pub asked_is : (b c id : List ℕ) (of : List ℕ) (i : ℕ) → c ≡ check_challenge id i → id ≡ of → of ≡ (header_in b).id.0 → c ≡ challenge_of b i
asked_is b c id of i is same kept = is ∙ ap (λ id. check_challenge id i) (same ∙ kept)

-- so many reads for each challenge, and for each proof
pub reads_more : (before middle after i proofs count more : ℕ) → middle ≤ before + (100 * i + 128 * proofs) → after ≤ middle + (100 + 128 * count)
    → more ≡ count → after ≤ before + (100 * (i + 1) + 128 * (proofs + more))
reads_more before middle after i proofs count more far step same = omega arith

pub few_more : (i proofs count more : ℕ) → proofs ≤ i * 18446744073709551616 → count < 18446744073709551616 → more ≡ count
    → proofs + more ≤ (i + 1) * 18446744073709551616
few_more i proofs count more few small same = omega arith
