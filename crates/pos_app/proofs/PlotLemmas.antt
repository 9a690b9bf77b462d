-- What `prove` and `quality` say over a whole file, and over the plot of an id.
use Rattle.std.proofs.Common.{◌≡◌, ◌⊎◌, ℕ, ◌+◌, ◌-◌, ◌^◌, ◌<◌, ◌≤◌, List, [], length, Some, Result, Ok, sym, ◌∙◌, ap, subst, inl, inr, arith}
use Rattle.std.specs.Prelude.{slice_index_or}
use Rattle.std.proofs.lemmas.List.{ext_get_or, get_or-map, length-map}
use Rattle.pos_edge.specs.View.{View}
use Rattle.pos_lists.specs.PlotLists.{PlotLists, count, number_at, place_in}
use Rattle.pos_lists.specs.Trees.{branch}
use Rattle.pos_order.specs.Quality.{pair_quality, quality_index}
use Rattle.pos_laws.specs.Listing.{quality_pairs}
use Rattle.pos_laws.proofs.Spans.{pairs_by_span, span_is_ordered}
use Rattle.pos_laws.proofs.ListThere.{list_is_there}
use Rattle.pos_layout.specs.declared.damage.Damage.{Damage}
use Rattle.pos_layout.specs.Fields.{header_in, layout_in}
use Rattle.pos_layout.specs.Rules.{Opens, Well}
use Rattle.pos_layout.proofs.StoredLemmas.{shown_lists}
use Rattle.pos_harvest.specs.Listings.{IsProofListDamage, IsQualityListDamage, ListsProofs, ListsQualities}
use Rattle.pos_harvest.proofs.WholeLists.{each_place_has_a_proof, each_place_has_a_quality, listed_are_the_proofs, listed_are_the_qualities, only_a_place_without_proof, quality_is_of_the_branch}
use Rattle.pos_harvest.proofs.WholeSpans.{span_is_of_the_list}
use Rattle.pos_app.specs.Statuses.{done_status}
use Rattle.pos_edge.specs.Sinks.{Heard}
use Rattle.pos_app.specs.Answers.{Speaks}
use Rattle.pos_app.specs.FileAnswers.{IsOpeningDamage}
use Rattle.pos_app.specs.ListAnswers.{SaysProofs, SaysQualities}
use Rattle.pos_app.specs.PlotAnswers.{HoldsPlotOf, HoldsWholeFile, SaysTheProofs, SaysTheQualities, ShowsProofsOrNone, ShowsQualities, pair_qualities}
use Rattle.pos_app.specs.Texts.{proofs_text, qualities_text}
use Rattle.pos_app.proofs.ListLemmas.{not_there, one_bytes, whole_bytes}

ok_list : (xs ys : List ℕ) → ◌≡◌ {A = Result (List ℕ) Damage} (Ok xs) (Ok ys) → xs ≡ ys
ok_list xs ys e = cc

-- over a whole file the qualities listed are those of the pairs that the challenge chooses in the trees of the plot's lists
listed_are_the_pairs : (b : List ℕ) (p : PlotLists) (c : List ℕ) (out : List (List ℕ)) → Well (layout_in b) b p → ListsQualities (layout_in b) b c out → out ≡ pair_qualities p c
listed_are_the_pairs b p c out well h =
    let span = (span_is_of_the_list b p c h.first h.second well.stores).0 h.span in
    let order = span_is_ordered p c h.first h.second span in
    let pairs = pairs_by_span p c h.first h.second span in
    let of_pair : ℕ × ℕ → List ℕ = λ pair. pair_quality p.k c pair.0 pair.1 in
    let many : length out ≡ h.second - h.first = h.qualities.as_long in
    let long : length out ≡ length (quality_pairs p c) = many ∙ sym pairs.0 in
    ext_get_or [] out (pair_qualities p c) (long ∙ sym (length-map (quality_pairs p c) of_pair)) (λ j inside.
    let at : h.first + j < count p 7 = omega arith in
    let in_pairs : j < length (quality_pairs p c) = omega arith in
    let q : slice_index_or out j [] ≡ of_pair (branch p 5 (quality_index c) (place_in p.k (number_at p 7 (h.first + j)))) =
    ok_list _ _ (sym (h.qualities.each j inside) ∙ quality_is_of_the_branch b p c (h.first + j) well at) in
    q ∙ ap of_pair (sym (pairs.1 j (omega arith))) ∙ sym (get_or-map of_pair (quality_pairs p c) j (0, 0) [] in_pairs))

-- a damage of a whole file is one that stands in place of the list
list_damage : (b : List ℕ) (d : Damage) (More : Type 0) → Opens (layout_in b) b → IsOpeningDamage b d ⊎ (Opens (layout_in b) b × More) → More
list_damage b d More opens (inl finds) = absurd (whole_bytes b d opens finds)
list_damage b d More opens (inr more) = more.1

module _
    (file c : List ℕ) (before after : View) (result : ℕ) (old new : Heard) (held : HoldsWholeFile file before) where
  -- a damage that is shown of the file's bytes is one of these bytes
  damage_there : (b : List ℕ) (d : Damage) (More : List ℕ → Type 0) → before.contents file ≡ Some b
      → IsOpeningDamage b d ⊎ (Opens (layout_in b) b × More b) → More held.bytes
  damage_there b d More contents has =
      let same : b ≡ held.bytes = one_bytes b held.bytes _ contents held.contents in
      list_damage held.bytes d (More held.bytes) held.well.stores.opens (subst (λ s. IsOpeningDamage s d ⊎ (Opens (layout_in s) s × More s)) same has)

  -- over a whole file `prove` says its text, or that a place has no proof,
  pub says_of_whole_proofs : SaysProofs file c before after result old new → ShowsProofsOrNone file held.bytes held.lists c before after result old new
  says_of_whole_proofs (inl (inl shown)) = inl shown
  says_of_whole_proofs (inl (inr (inl damaged))) =
      let told = damaged.told held.tells in
      inr (inl (record {
        damage = damaged.damage;
        first = only_a_place_without_proof held.bytes held.lists c damaged.damage held.well
            (damage_there told.0 damaged.damage (λ b. IsProofListDamage (layout_in b) b c damaged.damage) told.1 told.2);
        said = damaged.said;
      }))
  says_of_whole_proofs (inl (inr (inr (inl none)))) = absurd (not_there held.bytes _ none.absent held.contents)
  says_of_whole_proofs (inl (inr (inr (inr failed)))) = inr (inr (inl failed))
  says_of_whole_proofs (inr unsaid) = inr (inr (inr unsaid))

  -- and `quality` the qualities of the plot's own lists
  pub says_of_whole_qualities : SaysQualities file c before after result old new → ShowsQualities file held.lists c before after result old new
  says_of_whole_qualities (inl (inl shown)) =
      let has = shown.right.told held.tells in
      let same : has.bytes ≡ held.bytes = one_bytes has.bytes held.bytes _ has.contents held.contents in
      let are = listed_are_the_pairs held.bytes held.lists c shown.right.qualities held.well
      (subst (λ b. ListsQualities (layout_in b) b c shown.right.qualities) same has.listed) in
      inl (record {
        text = shown.text;
        right = record { shown = shown.right; listed = shown.right.lines ∙ ap qualities_text are };
        said = shown.said;
      })
  says_of_whole_qualities (inl (inr (inl damaged))) =
      let told = damaged.told held.tells in
      absurd (each_place_has_a_quality held.bytes held.lists c damaged.damage held.well
      (damage_there told.0 damaged.damage (λ b. IsQualityListDamage (layout_in b) b c damaged.damage) told.1 told.2))
  says_of_whole_qualities (inl (inr (inr (inl none)))) = absurd (not_there held.bytes _ none.absent held.contents)
  says_of_whole_qualities (inl (inr (inr (inr failed)))) = inr (inl failed)
  says_of_whole_qualities (inr unsaid) = inr (inr unsaid)

module _
    (id : List ℕ) (k : ℕ) (file c : List ℕ) (before after : View) (result : ℕ) (old new : Heard)
    (held : HoldsPlotOf id k file before) where
  -- `prove` says the one list of the proofs
  pub says_the_proofs : SaysProofs file c before after result old new → SaysTheProofs id k c before after result old new
  says_the_proofs (inl (inl shown)) =
      let has = shown.right.told held.whole.tells in
      let same : has.bytes ≡ held.whole.bytes = one_bytes has.bytes held.whole.bytes _ has.contents held.whole.contents in
      let size : shown.right.k ≡ k = has.same_size ∙ ap (λ b. (header_in b).size) same ∙ sym held.whole.well.stores.size ∙ held.plot.same_size in
      let lines : shown.text ≡ proofs_text k shown.right.proofs = shown.right.lines ∙ ap (λ n. proofs_text n shown.right.proofs) size in
      inl (
        shown.right.proofs,
        listed_are_the_proofs held.whole.bytes held.whole.lists id k c shown.right.proofs held.whole.well held.plot (subst (λ b. ListsProofs (layout_in b) b c shown.right.proofs) same has.listed),
        subst (λ s. Speaks done_status s result old new) lines shown.said,
      )
  says_the_proofs (inl (inr (inl damaged))) =
      let told = damaged.told held.whole.tells in
      absurd (each_place_has_a_proof held.whole.bytes held.whole.lists id k c damaged.damage held.whole.well held.plot
      (damage_there file c before after result old new held.whole told.0 damaged.damage (λ b. IsProofListDamage (layout_in b) b c damaged.damage) told.1 told.2))
  says_the_proofs (inl (inr (inr (inl none)))) = absurd (not_there held.whole.bytes _ none.absent held.whole.contents)
  says_the_proofs (inl (inr (inr (inr failed)))) = inr (inl failed)
  says_the_proofs (inr unsaid) = inr (inr unsaid)

  -- `quality` says their qualities
  pub says_the_qualities : SaysQualities file c before after result old new → SaysTheQualities id k c before after result old new
  says_the_qualities says = theirs (says_of_whole_qualities file c before after result old new held.whole says)
    where
      theirs : ShowsQualities file held.whole.lists c before after result old new → SaysTheQualities id k c before after result old new
      theirs (inl shown) =
          let has = shown.right.shown.told held.whole.tells in
          let same : has.bytes ≡ held.whole.bytes = one_bytes has.bytes held.whole.bytes _ has.contents held.whole.contents in
          let few = subst (λ n. count held.whole.lists 6 ≤ 2 ^ (n + 1)) held.plot.same_size (shown_lists (layout_in held.whole.bytes) held.whole.bytes held.whole.lists held.whole.well).few in
          let there = list_is_there held.whole.lists id k c held.plot few in
          let are = listed_are_the_qualities held.whole.bytes held.whole.lists id k c there.0 shown.right.shown.qualities held.whole.well held.plot there.2
          (subst (λ b. ListsQualities (layout_in b) b c shown.right.shown.qualities) same has.listed)
          in inl (there.0, there.2, subst (λ s. Speaks done_status s result old new) (shown.right.shown.lines ∙ ap qualities_text are) shown.said)
      theirs (inr unless) = inr unless
