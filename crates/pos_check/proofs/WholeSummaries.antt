-- Over a whole file there is one summary, and over the plot of an id it is that of its proofs.
use Rattle.std.proofs.Common.{◌≡◌, ℕ, ◌+◌, ◌-◌, ◌^◌, ◌≤◌, List, [], length, Result, Ok, sym, ap, ◌∙◌, subst, arith}
use Rattle.std.specs.Prelude.{slice_index_or}
use Rattle.std.proofs.lemmas.List.{ext_get_or}
use Rattle.pos_lists.specs.PlotLists.{PlotLists, count}
use Rattle.pos_laws.specs.PlotOf.{PlotOf}
use Rattle.pos_laws.proofs.ListThere.{list_is_there}
use Rattle.pos_layout.specs.declared.damage.Damage.{Damage}
use Rattle.pos_layout.specs.Fields.{header_in, layout_in}
use Rattle.pos_layout.specs.Rules.{Well}
use Rattle.pos_layout.proofs.StoredLemmas.{shown_lists}
use Rattle.pos_harvest.specs.Places.{quality_in}
use Rattle.pos_harvest.proofs.WholeSpans.{one_span}
use Rattle.pos_harvest.proofs.WholeLists.{each_place_has_a_proof, listed_are_the_qualities, only_a_place_without_proof}
use Rattle.pos_check.specs.declared.summary.Summary.{Summary}
use Rattle.pos_check.specs.Challenges.{check_challenge}
use Rattle.pos_check.specs.Summaries.{IsChecked, challenge_of, count_all, digest_all}
use Rattle.pos_check.specs.SummaryLaws.{EachChallengeIsChecked, OneSummary, OnlyAPlaceStopsACheck, RatesProofs, SummaryIsOfTheProofs}

-- ---- one summary

ok_list : (xs ys : List ℕ) → ◌≡◌ {A = Result (List ℕ) Damage} (Ok xs) (Ok ys) → xs ≡ ys
ok_list xs ys e = cc

-- the qualities of a span are those of the one span
same_qualities : (b : List ℕ) (p : PlotLists) (c : List ℕ) (qs rs : List (List ℕ)) → Well (layout_in b) b p → IsChecked (layout_in b) b c qs → IsChecked (layout_in b) b c rs → qs ≡ rs
same_qualities b p c qs rs well x y =
    let one = one_span b p c well.stores in
    let at = one.2.only x.first x.second x.span in
    let also = one.2.only y.first y.second y.span in
    let first : x.first ≡ y.first = at.0 ∙ sym also.0 in
    let second : x.second ≡ y.second = at.1 ∙ sym also.1 in
    let long : length qs ≡ x.second - x.first = x.qualities.as_long in
    let so_long : length rs ≡ y.second - y.first = y.qualities.as_long in
    ext_get_or [] qs rs (omega arith) (λ j inside.
    ok_list _ _ (sym (x.qualities.each j inside) ∙ ap (λ f. quality_in (layout_in b) b c (f + j)) first ∙ y.qualities.each j (omega arith)))

same_fields : (s t : Summary) → s.challenges ≡ t.challenges → s.proofs ≡ t.proofs → s.digest ≡ t.digest → s ≡ t
same_fields s t challenges proofs digest =
    ap (λ n. record { challenges = n; proofs = s.proofs; digest = s.digest }) challenges
    ∙ ap (λ n. record { challenges = t.challenges; proofs = n; digest = s.digest }) proofs
    ∙ ap (λ d. record { challenges = t.challenges; proofs = t.proofs; digest = d }) digest

pub one_summary : OneSummary
one_summary b p n s t well x y =
    let many : length x.lists ≡ n = x.checked.as_many in
    let as_many : length y.lists ≡ n = y.checked.as_many in
    let same : x.lists ≡ y.lists = ext_get_or [] x.lists y.lists (omega arith) (λ i inside.
    same_qualities b p (challenge_of b i) _ _ well (x.checked.each i (omega arith)) (y.checked.each i (omega arith))) in
    same_fields s t
    (x.challenges ∙ sym y.challenges)
    (x.proofs ∙ ap count_all same ∙ sym y.proofs)
    (x.digest ∙ ap digest_all same ∙ sym y.digest)

-- ---- the plot of an id

few_in_table : (b : List ℕ) (p : PlotLists) (id : List ℕ) (k : ℕ) → Well (layout_in b) b p → PlotOf p id k → count p 6 ≤ 2 ^ (k + 1)
few_in_table b p id k well plot = subst (λ k. count p 6 ≤ 2 ^ (k + 1)) plot.same_size (shown_lists (layout_in b) b p well).few

rates_proofs : (b : List ℕ) (p : PlotLists) (id : List ℕ) (k : ℕ) (c : List ℕ) (qs : List (List ℕ)) → Well (layout_in b) b p → PlotOf p id k
    → IsChecked (layout_in b) b c qs → RatesProofs id k c qs
rates_proofs b p id k c qs well plot x =
    let there = list_is_there p id k c plot (few_in_table b p id k well plot) in
    record {
      proofs = there.0;
      lists = there.2;
      rated = listed_are_the_qualities b p id k c there.0 qs well plot there.2 (record {
        first = x.first;
        second = x.second;
        span = x.span;
        qualities = x.qualities;
      });
    }

pub summary_is_of_the_proofs : SummaryIsOfTheProofs
summary_is_of_the_proofs b p id k n s well plot x =
    let of_id : (header_in b).id.0 ≡ id = sym well.stores.id ∙ plot.same_id in
    record {
      lists = x.lists;
      as_many = x.checked.as_many;
      each = λ i less.
          subst (λ id_of. RatesProofs id k (check_challenge id_of i) (slice_index_or x.lists i [])) of_id
          (rates_proofs b p id k (challenge_of b i) (slice_index_or x.lists i []) well plot (x.checked.each i less));
      challenges = x.challenges;
      proofs = x.proofs;
      digest = x.digest;
    }

pub each_challenge_is_checked : EachChallengeIsChecked
each_challenge_is_checked b p id k n d well plot stops =
    each_place_has_a_proof b p id k (challenge_of b stops.challenge) d well plot stops.here

-- ---- a whole file

pub only_a_place_stops_a_check : OnlyAPlaceStopsACheck
only_a_place_stops_a_check b p n d well stops = record {
  challenge = stops.challenge;
  asked = stops.inside;
  before = stops.before;
  first = only_a_place_without_proof b p (challenge_of b stops.challenge) d well stops.here;
}
