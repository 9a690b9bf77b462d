-- A loop over the places of a span: each place that was read shows what is listed for it.
use Rattle.std.proofs.Common.{◌≡◌, ◌↔◌, ℕ, ◌+◌, ◌-◌, ◌*◌, ◌<◌, ◌≤◌, inl, inr, List, [], ◌∷◌, ◌++◌, length, Result, Ok, Err, refl, sym, ap, ◌∙◌, subst, arith}
use Rattle.std.specs.Prelude.{slice_index_or}
use Rattle.std.proofs.lemmas.Bool.{cases_lt}
use Rattle.std.proofs.lemmas.List.{get_or_push, get_or_append_left, length-append}
use Rattle.pos_edge.specs.Faults.{Rose}
use Rattle.pos_edge.specs.View.{View}
use Rattle.pos_edge.specs.Frame.{SameFaults}
use Rattle.std.proofs.Math.Nat.{mul-le-mul_left}
use Rattle.pos_reader.specs.Readings.{CountsFaults}
use Rattle.pos_reader.proofs.ReadLemmas.{faults_none}
use Rattle.pos_reader.proofs.ReadingLemmas.{steps_more, steps_to}
use Rattle.pos_harvest.specs.declared.refusal.ListRefusal.{ListRefusal}
use Rattle.pos_harvest.specs.declared.refusal.ListRefusal.TheVariants.{DiskFailed as ListDiskFailed, Memory}
use Rattle.pos_harvest.specs.Listings.{IsSourceListing, StopsAtFirst}
use Rattle.pos_harvest.specs.Sources.{IsSourceRead, LeavesSource, Source}
use Rattle.pos_harvest.proofs.SourceLemmas.{err_is, source_leaves}

-- the places from first up to, not with, place were read, each with so many reads, and out has what each shows
pub record SoFar {S E : Type 0} (s : Source S E) (n : ℕ) (Shows : List ℕ → ℕ → List ℕ → Type 0) (first place : ℕ) (p : S) (a : View) (q : S) (v : View)
    (out : List (List ℕ)) : Type 0 where
  pub left : LeavesSource s (n * (place - first)) p q a v
  pub quiet : SameFaults a v
  pub as_long : length out ≡ place - first
  pub each : (b : List ℕ) → s.Serves p b a → (j : ℕ) → j < length out → Shows b (first + j) (slice_index_or out j [])

-- a place more
each_grown : (Shows : ℕ → List ℕ → Type 0) (first : ℕ) (out : List (List ℕ)) (x : List ℕ)
    → ((j : ℕ) → j < length out → Shows (first + j) (slice_index_or out j [])) → Shows (first + length out) x
    → (j : ℕ) → j < length (out ++ x ∷ []) → Shows (first + j) (slice_index_or (out ++ x ∷ []) j [])
each_grown Shows first out x each here j inside =
    let len : length (out ++ x ∷ []) ≡ length out + 1 = length-append out (x ∷ []) in
    elim (cases_lt j (length out)) as (λ _. Shows (first + j) (slice_index_or (out ++ x ∷ []) j [])) [
      | inl less ↦ subst (λ y. Shows (first + j) y) (sym (get_or_append_left out (x ∷ []) [] j less)) (each j less)
      | inr more ↦
          let same : j ≡ length out = omega arith in
          subst (λ i. Shows (first + i) (slice_index_or (out ++ x ∷ []) i [])) (sym same)
          (subst (λ y. Shows (first + length out) y) (sym (get_or_push out x [] (length out) refl)) here)
    ]

-- the places of a span are at most those of the table
pub span_fits : (n first second count : ℕ) → second ≤ count → 100 + n * (second - first) ≤ 100 + n * count
span_fits n first second count inside = let most : n * (second - first) ≤ n * count = mul-le-mul_left n (omega arith) in omega arith

module _ {S E : Type 0} (s : Source S E) (n : ℕ) (Shows : List ℕ → ℕ → List ℕ → Type 0) (first : ℕ) (p : S) (a : View) where
  -- a place was read
  pub far_more : (place : ℕ) (q r : S) (v w : View) (out : List (List ℕ)) (x : List ℕ) → first ≤ place
      → SoFar s n Shows first place p a q v out → IsSourceRead s n (Ok x) q r v w → ((b : List ℕ) → s.Serves q b v → Shows b place x)
      → SoFar s n Shows first (place + 1) p a r w (out ++ x ∷ [])
  far_more place q r v w out x from h reading shows = record {
    left = source_leaves s (n * (place - first)) n (n * (place + 1 - first)) p q r a v w (steps_more n first place from) h.left reading.left;
    quiet = reading.faults.quiet ∙ h.quiet;
    as_long = let e : length (out ++ x ∷ []) ≡ length out + 1 = length-append out (x ∷ []) in let l = h.as_long in omega arith;
    each = λ b holds. each_grown (Shows b) first out x (h.each b holds)
        (let at : first + length out ≡ place = let l = h.as_long in omega arith in
        subst (λ i. Shows b i x) (sym at) (shows b (h.left.stays b holds)));
  }

  -- what is left where a place was refused
  pub far_refused : {X Y : Type 0} (place second : ℕ) (q r : S) (v w : View) (out : List (List ℕ)) (refusal : E) (said : ListRefusal) (result : Result Y ListRefusal)
      → first ≤ place → place < second → SoFar s n Shows first place p a q v out → IsSourceRead {X = X} s n (Err refusal) q r v w
      → result ≡ Err said → (said ≡ ListDiskFailed) ↔ (refusal ≡ s.failed) → IsSourceListing s (n * (second - first)) result p r a w
  far_refused place second q r v w out refusal said result from to h reading is means = record {
    left = source_leaves s (n * (place - first)) n (n * (second - first)) p q r a v w (steps_to n first place second from to) h.left reading.left;
    faults = refused_faults result is;
  }
    where
      refused_faults : {Y : Type 0} (result : Result Y ListRefusal) → result ≡ Err said → CountsFaults ListDiskFailed result a w
      refused_faults (Ok y) is = cc
      refused_faults {Y} (Err e) is = let same : e ≡ said = cc in record {
        failed = λ f. subst (λ n. Rose n w.faults) h.quiet (reading.faults.failed (ap (λ e. Err e) (means.0 (sym same ∙ err_is {X = Y} e ListDiskFailed f))));
        quiet = λ other. reading.faults.quiet (λ f. other (same ∙ means.1 f)) ∙ h.quiet;
      }

  -- and where a place showed a damage
  pub far_stops : (place second : ℕ) (q : S) (v : View) (out : List (List ℕ)) (b : List ℕ) (Bad : ℕ → Type 0) → first ≤ place → place < second
      → SoFar s n Shows first place p a q v out → s.Serves p b a → Bad place
      → StopsAtFirst (λ i. (x : List ℕ) × Shows b i x) Bad first second
  far_stops place second q v out b Bad from to h holds bad = record {
    place = place;
    from = from;
    to = to;
    before = λ i low high.
        let l = h.as_long in
        let inside : i - first < length out = omega arith in
        let at : first + (i - first) ≡ i = omega arith in
        (slice_index_or out (i - first) [], subst (λ m. Shows b m (slice_index_or out (i - first) [])) at (h.each b holds (i - first) inside));
    here = bad;
  }

  -- or there was no room for what it shows
  pub far_unsaid : {Y : Type 0} (place second : ℕ) (q r : S) (v w : View) (out : List (List ℕ)) (x : List ℕ) (result : Result Y ListRefusal)
      → first ≤ place → place < second → SoFar s n Shows first place p a q v out → IsSourceRead s n (Ok x) q r v w
      → result ≡ Err Memory → IsSourceListing s (n * (second - first)) result p r a w
  far_unsaid place second q r v w out x result from to h reading is = record {
    left = source_leaves s (n * (place - first)) n (n * (second - first)) p q r a v w (steps_to n first place second from to) h.left reading.left;
    faults = faults_none ListDiskFailed result a w (reading.faults.quiet ∙ h.quiet) (λ e. cc);
  }
