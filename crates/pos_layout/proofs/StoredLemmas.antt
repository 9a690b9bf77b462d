-- Reading the file of a plot shows its lists.
use Rattle.std.proofs.Common.{◌≡◌, ℕ, zero, suc, ◌+◌, ◌-◌, ◌*◌, ◌/◌, ◌%◌, ◌^◌, ◌<◌, ◌≤◌, ◌≢◌, ◌==◌, ◌||◌, nat_lt, count_by, min, Bool, true, false, List, length, take, drop, slice_index, Ok, refl, sym, ◌∙◌, ap, arith, inl, inr, ◌⊎◌}
use Rattle.std.proofs.lemmas.Bool.{false≢true}
use Rattle.std.proofs.lemmas.List.{get_or-take, get_or-drop, length-take, length-drop}
use Rattle.sha2.specs.Sha256.{sha256}
use Rattle.pos_rice.proofs.ReadingLemmas.{found_exactly}
use Rattle.pos_layout.proofs.LayoutLemmas.{full_some, park_of_place, place_back, place_small}
use Rattle.pos_layout.proofs.RangeLemmas.{inside_in_range}
use Rattle.pos_layout.proofs.ReadingLemmas.{eq_true, eq_false, eq_means, listed_by_head, or_true, or_false, park_found, same_bytes, numbers-all, headed_elsewhere, headed_right, pointed_first, head_found, num_found, tested_true, under_found}
use Rattle.pos_layout.specs.declared.damage.Damage.TheVariants.{Directory, Pointer}
use Rattle.pos_layout.specs.Bytes.{part}
use Rattle.pos_layout.specs.Layouts.{Layout, full_of, digest_of, park_count, parks_of}
use Rattle.pos_layout.specs.Fields.{count_of, directory_of, end_of, entry_in, header_in, park_in}
use Rattle.pos_layout.specs.Lists.{points_inside}
use Rattle.pos_lists.specs.PlotLists.{PlotLists, count, f7_in, numbers}
use Rattle.pos_layout.specs.Reading.{head, is_listed, num, numbers_by, read_entry, read_park, under}
use Rattle.pos_layout.specs.ReadingLaws.{AWholeFileShowsItsLists}
use Rattle.std.proofs.lemmas.List.Kept.{AllPairs-from_increasing}
use Rattle.pos_layout.specs.Rules.{Opens, StoresTable, Stores, Well, park_start}

-- whether a table is the last
is_last : (t : ℕ) → (t ≡ 7) ⊎ (t ≢ 7)
is_last t = cases (t == 7) refl
  where
    cases : (b : Bool) → (t == 7) ≡ b → (t ≡ 7) ⊎ (t ≢ 7)
    cases true e = inl (eq_means t 7 e)
    cases false e = inr (λ same. false≢true (sym e ∙ eq_true t 7 same))

module _ (l : Layout) (b ns : List ℕ) (t : ℕ) (stored : StoresTable l b t ns) where
  -- the parks begin after the table before
  begins : (park : ℕ) → park ≤ parks_of l (length ns) → end_of l (header_in b) (t - 1) ≤ park_start l b t park
  unfolding park_start
  begins zero few = omega arith
  begins (suc park) few =
      let before = begins park (omega arith) in
      let at = stored.starts park (omega arith) in
      omega arith

  -- and each ends before the next, the last one at the directory
  ends : (left park : ℕ) → park + left ≡ parks_of l (length ns) → park_start l b t park ≤ directory_of (header_in b) t
  unfolding park_start
  ends zero park all = let e : park ≡ parks_of l (length ns) = omega arith in let last = stored.ends in rw e (omega arith)
  ends (suc left) park all =
      let after = ends left (suc park) (omega arith) in
      let at = stored.starts park (omega arith) in
      omega arith

  inside : (park : ℕ) → park < parks_of l (length ns) → (entry_in l b t park).offset + (entry_in l b t park).park_length ≤ directory_of (header_in b) t
  unfolding park_start
  inside park there = ends (parks_of l (length ns) - suc park) (suc park) (omega arith)

  after : (park : ℕ) → park < parks_of l (length ns) → end_of l (header_in b) (t - 1) ≤ (entry_in l b t park).offset
  after park there = let at = stored.starts park there in let from = begins park (omega arith) in omega arith

  counted : (park : ℕ) → park < parks_of l (length ns) → (entry_in l b t park).count ≡ park_count l (count_of (header_in b) t) park
  unfolding part
  counted park there =
      let count = stored.count in
      (stored.parks park there).count ∙ length-take (full_of l) (drop (full_of l * park) ns) ∙ ap (λ n. min (full_of l) n) (length-drop (full_of l * park) ns)
      ∙ ap (λ n. min (full_of l) (n - full_of l * park)) stored.count

  headed : (park : ℕ) → park < parks_of l (length ns) → ((t == 7) || ((entry_in l b t park).head == 0)) ≡ true
  headed park there = elim (is_last t) [
    | inl last ↦ or_true (t == 7) _ (eq_true t 7 last) ∙ eq_true t 7 last
    | inr other ↦ or_false (t == 7) _ (eq_false t 7 other) ∙ eq_true _ _ ((stored.parks park there).head ∙ rw (eq_false t 7 other) refl)
  ]

  entry_stored : (park : ℕ) → park < parks_of l (length ns) → read_entry l b t park ≡ Ok (entry_in l b t park)
  unfolding read_entry
  entry_stored park there =
      let p = stored.parks park there in
      tested_true (is_listed l (header_in b) t park (entry_in l b t park)) (Directory t park) (entry_in l b t park)
      (listed_by_head l (header_in b) t park (entry_in l b t park) p.some p.short (after park there) (inside park there) (counted park there) ∙ headed park there)

  numbers_stored : (park : ℕ) → park < parks_of l (length ns) → (header_in b).size < 64 → numbers_by l (header_in b) t park (entry_in l b t park) (park_in b (entry_in l b t park)) ≡ Ok (part ns (full_of l * park) (full_of l))
  numbers_stored park there small =
      let p = stored.parks park there in
      let e = entry_in l b t park in
      numbers-all l (header_in b) t park e (park_in b e) (part ns (full_of l * park) (full_of l))
      (same_bytes (take (digest_of l) (sha256 (park_in b e))) e.digest (sym p.digest))
      ((found_exactly (header_in b).size e.count (park_in b e) (part ns (full_of l * park) (full_of l)) small).1 (p.park, sym p.count))
      (elim (is_last t) [
        | inl last ↦ headed_right (header_in b) t e (part ns (full_of l * park) (full_of l)) (p.head ∙ rw (eq_true t 7 last) refl)
        | inr other ↦ headed_elsewhere (header_in b) t e (part ns (full_of l * park) (full_of l)) other
      ])

small_size : (l : Layout) (b : List ℕ) → Opens l b → (header_in b).size < 64
small_size l b opens = let most = opens.laid_out.greatest in omega arith

pub park_stored : (l : Layout) (b : List ℕ) (p : PlotLists) (t park : ℕ) → Stores l b p → 1 ≤ t → t ≤ 7 → park < parks_of l (count p t) → read_park l b t park ≡ Ok (part (numbers p t) (full_of l * park) (full_of l))
park_stored l b p t park stores first last there =
    let table = stores.tables t first last in
    park_found l b _ (header_in b) t park (entry_in l b t park) refl (entry_stored l b (numbers p t) t table park there) refl
    ∙ numbers_stored l b (numbers p t) t table park there (small_size l b stores.opens)

part_index : (ns : List ℕ) (at n i : ℕ) → i < n → slice_index (part ns at n) i ≡ slice_index ns (at + i)
unfolding part
part_index ns at n i within = get_or-take n (drop at ns) i 0 within ∙ get_or-drop at ns i 0

pub head_stored : (l : Layout) (b : List ℕ) (p : PlotLists) (park : ℕ) → Stores l b p → park < parks_of l (count p 7) → head l b park ≡ Ok (f7_in p.k (slice_index (numbers p 7) (full_of l * park)))
head_stored l b p park stores there =
    let table = stores.tables 7 (omega arith) (omega arith) in
    let e = entry_in l b 7 park in
    head_found l b park e (entry_stored l b (numbers p 7) 7 table park there)
    ∙ ap (λ n. Ok n) ((table.parks park there).head ∙ ap (λ k. f7_in k (slice_index (part (numbers p 7) (full_of l * park) (full_of l)) 0)) (sym stores.size)
    ∙ ap (λ n. f7_in p.k n) (part_index (numbers p 7) (full_of l * park) (full_of l) 0 (let some = full_some l in omega arith) ∙ ap (λ i. slice_index (numbers p 7) i) (let z : full_of l * park + 0 ≡ full_of l * park = omega arith in z)))

-- a number of a plot whose pointers are in range points inside, by the counts of the header
points_stored : (l : Layout) (b : List ℕ) (p : PlotLists) (t i : ℕ) → Well l b p → 1 ≤ t → t ≤ 7 → i < count p t
    → points_inside (header_in b).size t (count_of (header_in b) (t - 1)) (slice_index (numbers p t) i) ≡ true
points_stored l b p zero i well first last there = absurd (omega arith)
points_stored l b p (suc zero) i well first last there =
    let inside = inside_in_range p 0 i well.in_range (omega arith) there in
    pointed_first (header_in b).size 1 (count_of (header_in b) 0) (slice_index (numbers p 1) i) refl
    ∙ sym (pointed_first (header_in b).size 1 (count p 0) (slice_index (numbers p 1) i) refl)
    ∙ ap (λ k. points_inside k 1 (count p 0) (slice_index (numbers p 1) i)) (sym well.stores.size) ∙ inside
points_stored l b p (suc (suc t)) i well first last there =
    let inside = inside_in_range p (suc t) i well.in_range (omega arith) there in
    let counts = (well.stores.tables (suc t) (omega arith) (omega arith)).count in
    let before : suc (suc t) - 1 ≡ suc t = omega arith in
    rw (before, ← counts, ← well.stores.size) inside

pub number_stored : (l : Layout) (b : List ℕ) (p : PlotLists) (t i : ℕ) → Well l b p → 1 ≤ t → t ≤ 7 → i < count p t → num l b t i ≡ Ok (slice_index (numbers p t) i)
number_stored l b p t i well first last there =
    let ns = part (numbers p t) (full_of l * (i / full_of l)) (full_of l) in
    let at : slice_index ns (i % full_of l) ≡ slice_index (numbers p t) i =
    part_index (numbers p t) (full_of l * (i / full_of l)) (full_of l) (i % full_of l) (place_small l i) ∙ ap (λ k. slice_index (numbers p t) k) (place_back l i) in
    num_found l b ns (header_in b) t i refl (park_stored l b p t (i / full_of l) well.stores first last (park_of_place l i (count p t) there))
    ∙ tested_true _ (Pointer t i) (slice_index ns (i % full_of l)) (rw at (points_stored l b p t i well first last there))
    ∙ ap (λ n. Ok n) at

pub count_stored : (l : Layout) (b : List ℕ) (p : PlotLists) (park f7 : ℕ) → Stores l b p → park < parks_of l (count p 7)
    → under l b park f7 ≡ Ok (count_by (λ n. nat_lt n (f7 * 2 ^ (p.k + 1))) (part (numbers p 7) (full_of l * park) (full_of l)))
count_stored l b p park f7 stores there =
    under_found l b (part (numbers p 7) (full_of l * park) (full_of l)) (header_in b) park f7 refl (park_stored l b p 7 park stores (omega arith) (omega arith) there)
    ∙ ap (λ k. Ok (count_by (λ n. nat_lt n (f7 * 2 ^ (k + 1))) (part (numbers p 7) (full_of l * park) (full_of l)))) (sym stores.size)

-- ---- a whole file

pub shown_lists : AWholeFileShowsItsLists
shown_lists l b p well = record {
  rise = λ n h. AllPairs-from_increasing (numbers p (suc n)) (well.stores.tables (suc n) (omega arith) (omega arith)).rising;
  in_range = well.in_range;
  reads = λ n i h there. number_stored l b p (suc n) i well (omega arith) (omega arith) there;
  few = few_numbers;
}
  where
    few_numbers : count p 6 ≤ 2 ^ (p.k + 1)
    few_numbers =
        let said = well.stores.opens.laid_out.counts 6 (omega arith) (omega arith) in
        let same = (well.stores.tables 6 (omega arith) (omega arith)).count in
        let size : 2 ^ ((header_in b).size + 1) ≡ 2 ^ (p.k + 1) = ap (λ k. 2 ^ (k + 1)) (sym well.stores.size) in
        omega (arith, said, same, size)
