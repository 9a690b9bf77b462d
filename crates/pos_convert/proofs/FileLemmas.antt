-- The converted file: it is whole, and of the images of a conversion nothing else opens.
use Rattle.std.proofs.Common.{ℕ, zero, suc, ◌-◌, ◌^◌, ◌≤◌, ◌<◌, ◌≡◌, nat_lt, true, List, Option, Some, None, Ok, refl, sym, ap, ◌∙◌, subst, inl, inr, arith, ltb-true}
use Rattle.std.proofs.lemmas.Bool.{and_parts}
use Rattle.pos_edge.specs.View.{View}
use Rattle.pos_lists.specs.Pairs.{greater}
use Rattle.pos_lists.specs.PlotLists.{PlotLists, count, f7_in, number_at, numbers, place_in}
use Rattle.pos_lists.specs.Trees.{IsInRange, limit}
use Rattle.pos_layout.specs.declared.header.Header.{Header}
use Rattle.pos_layout.specs.declared.layout.Layout.{Layout}
use Rattle.pos_layout.specs.declared.layout.Layout.TheVariants.{Two}
use Rattle.pos_layout.specs.Drafts.{Draft, Stands, WriterState, plot_of}
use Rattle.pos_layout.specs.Fields.{count_of, header_in, layout_in}
use Rattle.pos_layout.specs.Files.{file_of}
use Rattle.pos_layout.specs.Images.{IsShut, IsShutOr, IsTinyOrShut}
use Rattle.pos_layout.specs.Lists.{points_inside}
use Rattle.pos_layout.specs.Reading.{num}
use Rattle.pos_layout.proofs.AnyReadings.{numbers_point_inside}
use Rattle.pos_layout.proofs.FileBytes.{file-are_bytes}
use Rattle.pos_layout.proofs.FileImages.{but_gate_is_the_file, shut_is_closed, tiny_is_closed}
use Rattle.pos_layout.proofs.FilePlots.{file_memo, file_stores}
use Rattle.pos_layout.proofs.WriterLemmas.{plot_from_draft}
use Rattle.pos_reader.specs.Plots.{PlotState, IsPlotFile}
use Rattle.pos_convert.specs.Conversions.{IsConverted, OpensConverted}
use Rattle.pos_convert.specs.Copies.{AreTablesRead, filled}

-- ---- images

pub tiny_opens : (memo b : List ℕ) (image : Option (List ℕ)) → IsTinyOrShut image → OpensConverted memo b image
tiny_opens memo b None is = tt
tiny_opens memo b (Some c) (inl tiny) = λ opens. absurd (tiny_is_closed (layout_in c) c tiny opens)
tiny_opens memo b (Some c) (inr shut) = λ opens. absurd (shut_is_closed (layout_in c) c shut opens)

pub shut_opens : (memo b : List ℕ) (image : Option (List ℕ)) → IsShut image → OpensConverted memo b image
shut_opens memo b None is = tt
shut_opens memo b (Some c) shut = λ opens. absurd (shut_is_closed (layout_in c) c shut opens)

pub finished_opens : (l : Layout) (memo b : List ℕ) (p : PlotLists) (image : Option (List ℕ)) → IsConverted memo b (file_of l memo p) → IsShutOr (file_of l memo p) image → OpensConverted memo b image
finished_opens l memo b p None converted is = tt
finished_opens l memo b p (Some c) converted (inl shut) = λ opens. absurd (shut_is_closed (layout_in c) c shut opens)
finished_opens l memo b p (Some c) converted (inr but) = λ opens. subst (λ x. IsConverted memo b x) (sym (but_gate_is_the_file l (layout_in c) c memo p but opens)) converted

-- ---- where the numbers of lists point

first_inside : (k before n : ℕ) → points_inside k 1 before n ≡ true → greater n < 2 ^ k
unfolding points_inside
first_inside k before n is = ltb-true _ _ is

later_inside : (k m before n : ℕ) → m < 5 → points_inside k (suc (suc m)) before n ≡ true → greater n < before
unfolding points_inside
later_inside k zero before n few is = ltb-true _ _ is
later_inside k (suc zero) before n few is = ltb-true _ _ is
later_inside k (suc (suc zero)) before n few is = ltb-true _ _ is
later_inside k (suc (suc (suc zero))) before n few is = ltb-true _ _ is
later_inside k (suc (suc (suc (suc zero)))) before n few is = ltb-true _ _ is
later_inside k (suc (suc (suc (suc (suc m))))) before n few is = absurd (omega arith)

last_inside : (k before n : ℕ) → points_inside k 7 before n ≡ true → (f7_in k n < 2 ^ k) × (place_in k n < before)
unfolding points_inside
last_inside k before n is =
    let both = and_parts (nat_lt (f7_in k n) (2 ^ k)) (nat_lt (place_in k n) before) is in
    (ltb-true _ _ both.0, ltb-true _ _ both.1)

module _ (b : List ℕ) (p : PlotLists) (size : p.k ≡ (header_in b).size) (counts : (t : ℕ) → 1 ≤ t → t ≤ 7 → count p t ≡ count_of (header_in b) t)
    (reads : (t i : ℕ) → 1 ≤ t → t ≤ 7 → i < count p t → num (layout_in b) b t i ≡ Ok (number_at p t i)) where
  point_inside : (t i before : ℕ) → 1 ≤ t → t ≤ 7 → i < count p t → count_of (header_in b) (t - 1) ≡ before → points_inside p.k t before (number_at p t i) ≡ true
  point_inside t i before first last inside same =
      subst (λ (k : ℕ). points_inside k t before (number_at p t i) ≡ true) (sym size)
      (subst (λ (m : ℕ). points_inside (header_in b).size t m (number_at p t i) ≡ true) same (numbers_point_inside (layout_in b) b t i (number_at p t i) (reads t i first last inside)))

  count_before : (m : ℕ) → m < 6 → count_of (header_in b) (suc (suc m) - 1) ≡ count p (suc m)
  count_before m few =
      let down : suc (suc m) - 1 ≡ suc m = omega arith in
      ap (λ t. count_of (header_in b) t) down ∙ sym (counts (suc m) (omega arith) (omega arith))

  pub lists_in_range : IsInRange p
  unfolding limit
  lists_in_range = record { points = pairs; answers = λ i inside. (last i inside).0; places = λ i inside. (last i inside).1 }
    where
      pairs : (n i : ℕ) → n < 6 → i < count p (suc n) → greater (number_at p (suc n) i) < limit p n
      pairs zero i few inside = first_inside p.k (count_of (header_in b) (1 - 1)) (number_at p 1 i) (point_inside 1 i (count_of (header_in b) (1 - 1)) (omega arith) (omega arith) inside refl)
      pairs (suc m) i few inside =
          later_inside p.k m (count p (suc m)) (number_at p (suc (suc m)) i) (omega arith)
          (point_inside (suc (suc m)) i (count p (suc m)) (omega arith) (omega arith) inside (count_before m (omega arith)))

      last : (i : ℕ) → i < count p 7 → (f7_in p.k (number_at p 7 i) < 2 ^ p.k) × (place_in p.k (number_at p 7 i) < count p 6)
      last i inside = last_inside p.k (count p 6) (number_at p 7 i) (point_inside 7 i (count p 6) (omega arith) (omega arith) inside (count_before 5 (omega arith)))

-- ---- the finished file

module _ (p : PlotState) (memo bytes : List ℕ) (a v : View) (holds : IsPlotFile p bytes a) (w : WriterState) (tables : List (List ℕ)) (read : AreTablesRead p 7 tables a) where
  abbrev pub draft : Draft
  draft = filled Two memo p.header.id.0 p.header.size tables

  abbrev lists : PlotLists
  lists = plot_of draft

  size_is : lists.k ≡ (header_in bytes).size
  size_is = ap (λ (h : Header). h.size) holds.header

  counts_are : (t : ℕ) → 1 ≤ t → t ≤ 7 → count lists t ≡ count_of (header_in bytes) t
  unfolding numbers
  counts_are zero first last = absurd (omega arith)
  counts_are (suc j) first last = read.counts j (omega arith) ∙ ap (λ (h : Header). count_of h (suc j)) holds.header

  reads_are : (t i : ℕ) → 1 ≤ t → t ≤ 7 → i < count lists t → num (layout_in bytes) bytes t i ≡ Ok (number_at lists t i)
  unfolding numbers
  reads_are zero i first last inside = absurd (omega arith)
  reads_are (suc j) i first last inside = (read.each j (omega arith)).reads bytes holds i inside

  pub file_converted : Stands w draft v → IsConverted memo bytes (file_of Two memo lists)
  file_converted stands =
      let is_plot = plot_from_draft draft stands.keeps.draft read.as_many in
      let allowed = stands.keeps.draft.memo in record {
        bytes = file-are_bytes Two memo lists allowed is_plot;
        plot = lists;
        well = record { stores = file_stores Two memo lists allowed is_plot; in_range = lists_in_range bytes lists size_is counts_are reads_are };
        memo_is = file_memo Two memo lists allowed is_plot;
        id = ap (λ (h : Header). h.id.0) holds.header;
        size = size_is;
        counts = counts_are;
        reads = reads_are;
      }
