-- Gathered entries after they were sorted: each stands behind its point, and a repetition is of two entries.
use Rattle.std.proofs.Common.{◌≡◌, ◌≢◌, ℕ, ◌-◌, ◌<◌, Bool, true, List, length, slice_index_or, sym, ◌∙◌, ap, subst, arith}
use Rattle.std.specs.List.Sorted.{IsPermutation}
use Rattle.std.proofs.lemmas.List.{get_or_default}
use Rattle.std.proofs.lemmas.List.Sorted.{IsPermutation-sym, Contains-permutation}
use Rattle.pos_edge.specs.declared.scratch.ScratchDamage.{ScratchDamage}
use Rattle.pos_lists.specs.Rank.{first_in, second_in}
use Rattle.pos_lists.specs.Numbering.{AreGathered}
use Rattle.pos_laws.proofs.Ranks.{length-firsts, at-firsts}
use Rattle.pos_relocate.specs.Passes.{AreListed, AreShuffled, IsRepetition}
use Rattle.pos_relocate.proofs.EntryLemmas.{shuffled_once}

-- a sorted entry is a gathered one
pub record IsGatheredOne (marked : ℕ → Bool) (point : ℕ → ℕ) (high : ℕ) (pointed : List (ℕ × ℕ)) (s : ℕ) : Type 0 where
  pub points : first_in pointed s ≡ point (second_in pointed s)
  pub below : second_in pointed s < high
  pub only : marked (second_in pointed s) ≡ true

pub sorted_one : (marked : ℕ → Bool) (point : ℕ → ℕ) (high : ℕ) (xs pointed : List (ℕ × ℕ)) → AreGathered marked point high xs → IsPermutation xs pointed
    → (s : ℕ) → s < length pointed → IsGatheredOne marked point high pointed s
sorted_one marked point high xs pointed g p s l =
    let c = Contains-permutation pointed xs (slice_index_or pointed s (0, 0)) (IsPermutation-sym xs pointed p) (s, l, get_or_default pointed s (slice_index_or pointed s (0, 0)) (0, 0) l) in
    let here : slice_index_or xs c.0 (0, 0) ≡ slice_index_or pointed s (0, 0) = get_or_default xs c.0 (0, 0) (slice_index_or pointed s (0, 0)) c.1 ∙ c.2 in
    let a : first_in xs c.0 ≡ first_in pointed s = ap (λ (e : ℕ × ℕ). e.0) here in
    let b : second_in xs c.0 ≡ second_in pointed s = ap (λ (e : ℕ × ℕ). e.1) here in
    record {
      points = sym a ∙ (g.points c.0 c.1 ∙ ap point b);
      below = subst (λ (n : ℕ). n < high) b (g.below c.0 c.1);
      only = subst (λ (n : ℕ). marked n ≡ true) b (g.only c.0 c.1);
    }

-- two entries of one point
pub record AreTwo (marked : ℕ → Bool) (point : ℕ → ℕ) (high i j : ℕ) : Type 0 where
  pub differ : i ≢ j
  pub same : point i ≡ point j
  pub first : i < high
  pub second : j < high
  pub marked_first : marked i ≡ true
  pub marked_second : marked j ≡ true

pub repeats_two : (marked : ℕ → Bool) (point : ℕ → ℕ) (high bound : ℕ) (xs : List (ℕ × ℕ)) (file limit : ℕ) (damage : ScratchDamage) → AreListed high bound xs → AreGathered marked point high xs
    → IsRepetition file limit xs damage → (i : ℕ) × (j : ℕ) × AreTwo marked point high i j
repeats_two marked point high bound xs file limit damage listed g r =
    let pointed = r.pointed in
    let at = r.at in
    let rep = r.repeated in
    let after = rep.after in
    let inside = rep.inside in
    let len = length-firsts pointed in
    let shuffled : AreShuffled high pointed = record { gathered = xs; bound = bound; listed = listed; permuted = r.permuted } in
    let one = sorted_one marked point high xs pointed g r.permuted at (omega arith) in
    let other = sorted_one marked point high xs pointed g r.permuted (at - 1) (omega arith) in
    let a = at-firsts pointed at 0 (omega arith) in
    let b = at-firsts pointed (at - 1) 0 (omega arith) in (
      second_in pointed at,
      second_in pointed (at - 1),
      record {
        differ = λ e. let same = shuffled_once high pointed shuffled at (at - 1) (omega arith) (omega arith) e in absurd (omega arith);
        same = sym one.points ∙ (sym a ∙ (rep.same ∙ (b ∙ other.points)));
        first = one.below;
        second = other.below;
        marked_first = one.only;
        marked_second = other.only;
      },
    )
