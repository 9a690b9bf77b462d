-- The marked targets of a left value: gathered as the bits of a word, and walked from the lowest bit on.
use Rattle.std.proofs.Common.{◌≡◌, ◌≢◌, ℕ, zero, suc, ◌+◌, ◌-◌, ◌*◌, ◌/◌, ◌%◌, ◌^◌, ◌<◌, ◌≤◌, List, length, get_or, arith, refl, ◌∙◌, ap, subst, ⊎_elim, w64}
use Rattle.std.proofs.Math.Nat.{pow-succ'}
use Rattle.std.proofs.Math.Pow.{pow_mono}
use Rattle.std.proofs.lemmas.Bool.{cases_eq, cases_lt}
use Rattle.std.proofs.lemmas.Nat.{and_le_l}
use Rattle.std.proofs.lemmas.Nat.Bits.{bit_at-zero, bit_at-suc, bit_at_lowest, bit_at_clear_same, bit_at_clear_other}
use Rattle.std.specs.Prelude.{bit_and}
use Rattle.std.specs.Int.{bit_at, bit_not}
use Rattle.pos_tuple.specs.Match.{bucket}
use Rattle.pos_buckets.specs.Hits.{AreHits, AreHighHits}
use Rattle.pos_buckets.specs.Places.{AreMarked}
use Rattle.pos_buckets.specs.PairsBelow.{point, AreBeside, ArePairsBelow}
use Rattle.pos_buckets.specs.Targets.{target_place}
use Rattle.pos_buckets.proofs.RunLemmas.{target-none, next-left}

-- the mark of the place of the m-th target of the i-th left value
abbrev pub mark_at : List ℕ → List ℕ → ℕ → ℕ → ℕ
mark_at l marks i m = get_or marks (target_place (bucket (get_or l i 0) % 2) (get_or l i 0 % 15113) m) 0

pub high-none : (parity place : ℕ) (marks : List ℕ) → AreHighHits parity place marks 0 0
high-none parity place marks = record { below = omega arith; bits = λ j m lt e. absurd (omega arith) }

power_next : (n : ℕ) → 2 ^ (n + 1) ≡ 2 * 2 ^ n
power_next n = let same : n + 1 ≡ suc n = omega arith in ap (λ (m : ℕ). 2 ^ m) same ∙ pow-succ' 2 n

-- twice such a word and one bit fit
pub power_fits : (n : ℕ) → n < 64 → 2 * 2 ^ n ≤ 2 ^ 64
power_fits n lt = let up : 2 ^ n ≤ 2 ^ 63 = pow_mono {i = n} {j = 63} (omega arith) in omega (arith, up)

doubled_low : (hits mark : ℕ) → mark ≤ 1 → (hits * 2 + mark) % 2 ≡ mark
doubled_low hits mark small = omega arith

doubled_high : (hits mark : ℕ) → mark ≤ 1 → (hits * 2 + mark) / 2 ≡ hits
doubled_high hits mark small = omega arith

next_bits :
    (parity place : ℕ) (marks : List ℕ) (n hits mark : ℕ) → n < 64 → mark ≤ 1
    → mark ≡ get_or marks (target_place parity place (63 - n)) 0 → AreHighHits parity place marks n hits
    → (j m : ℕ) → j < n + 1 → m + (n + 1) ≡ 64 + j → bit_at (hits * 2 + mark) j ≡ get_or marks (target_place parity place m) 0
next_bits parity place marks n hits mark lt small is h zero m j_lt e =
    let at : 63 - n ≡ m = omega arith in
    bit_at_lowest (hits * 2 + mark) ∙ doubled_low hits mark small ∙ is ∙ ap (λ t. get_or marks (target_place parity place t) 0) at
next_bits parity place marks n hits mark lt small is h (suc j) m j_lt e =
    bit_at-suc (hits * 2 + mark) j ∙ ap (λ x. bit_at x j) (doubled_high hits mark small) ∙ h.bits j m (omega arith) (omega arith)

-- one more target
pub high-more :
    (parity place : ℕ) (marks : List ℕ) (n hits mark : ℕ) → n < 64 → mark ≤ 1
    → mark ≡ get_or marks (target_place parity place (63 - n)) 0 → AreHighHits parity place marks n hits
    → AreHighHits parity place marks (n + 1) (hits * 2 + mark)
high-more parity place marks n hits mark lt small is h = record {
  below = let next = power_next n in let low = h.below in omega (arith, next, low);
  bits = next_bits parity place marks n hits mark lt small is h;
}

pub high-all : (parity place : ℕ) (marks : List ℕ) (n hits : ℕ) → n ≡ 64 → AreHighHits parity place marks n hits → AreHits parity place marks hits
high-all parity place marks n hits e h m lt = h.bits m m (omega arith) (omega arith)

-- The pairs below the target `from` are listed, and the bits that are left are those of the marked targets from there on.
pub record AreHitsLeft (l r marks : List ℕ) (i hits : ℕ) (pairs : List (ℕ × ℕ)) : Type 0 where
  pub from : ℕ
  pub within : from ≤ 64
  pub listed : ArePairsBelow l r (point i from 0) pairs
  pub below : (m : ℕ) → m < from → bit_at hits m ≡ 0
  pub bits : (m : ℕ) → from ≤ m → m < 64 → bit_at hits m ≡ mark_at l marks i m

pub left-start :
    (l r marks : List ℕ) (i hits : ℕ) (pairs : List (ℕ × ℕ)) → AreHits (bucket (get_or l i 0) % 2) (get_or l i 0 % 15113) marks hits
    → ArePairsBelow l r (point i 0 0) pairs → AreHitsLeft l r marks i hits pairs
left-start l r marks i hits pairs h listed = record {
  from = 0;
  within = omega arith;
  listed = listed;
  below = λ m lt. absurd (omega arith);
  bits = λ m ge lt. h m lt;
}

-- a bit that is set is that of a marked target
pub left-marked :
    (l r marks : List ℕ) (i hits t : ℕ) (pairs : List (ℕ × ℕ)) → t < 64 → bit_at hits t ≡ 1 → AreHitsLeft l r marks i hits pairs
    → mark_at l marks i t ≢ 0
left-marked l r marks i hits t pairs small hit h none =
    ⊎_elim (λ lt. let gone = h.below t lt in absurd (omega (arith, gone, hit)))
    (λ ge. let same = h.bits t ge small in absurd (omega (arith, same, none, hit))) (cases_lt t h.from)

-- clearing a bit that is set makes the word smaller
pub cleared-smaller : (hits t : ℕ) → t < 64 → bit_at hits t ≡ 1 → bit_and hits (bit_not w64 (1 * 2 ^ t % 2 ^ 64)) < hits
cleared-smaller hits t small hit =
    let left : ℕ = bit_and hits (bit_not w64 (1 * 2 ^ t % 2 ^ 64)) in
    let gone : bit_at left t ≡ 0 = bit_at_clear_same w64 hits t small in
    ⊎_elim (λ same. absurd (let both : bit_at left t ≡ bit_at hits t = ap (λ x. bit_at x t) same in omega arith))
    (λ other. omega (arith, and_le_l hits (bit_not w64 (1 * 2 ^ t % 2 ^ 64)))) (cases_eq left hits)

module _
    (l r marks firsts : List ℕ) (base i : ℕ) (few : length r < 2 ^ 64) (i_lt : i < length l) (beside : AreBeside base l r)
    (marked : AreMarked base r (length r) marks firsts) where
  -- past targets that are not marked
  none-until :
      (n from : ℕ) (pairs : List (ℕ × ℕ)) → from + n ≤ 64
      → ((m : ℕ) → from ≤ m → m < from + n → mark_at l marks i m ≡ 0)
      → ArePairsBelow l r (point i from 0) pairs → ArePairsBelow l r (point i (from + n) 0) pairs
  none-until zero from pairs within none h =
      let same : from ≡ from + 0 = omega arith in subst (λ m. ArePairsBelow l r (point i m 0) pairs) same h
  none-until (suc n) from pairs within none h =
      let same : from + n + 1 ≡ from + suc n = omega arith in
      subst (λ m. ArePairsBelow l r (point i m 0) pairs) same
      (target-none l r marks firsts base i (from + n) pairs few (omega arith) i_lt beside marked (none (from + n) (omega arith) (omega arith))
      (none-until n from pairs (omega arith) (λ m ge lt. none m ge (omega arith)) h))

  -- the pairs of all targets below the one of the lowest bit are listed
  pub left-until :
      (hits t : ℕ) (pairs : List (ℕ × ℕ)) → t ≤ 64 → ((m : ℕ) → m < t → bit_at hits m ≡ 0) → (t < 64 → bit_at hits t ≡ 1)
      → AreHitsLeft l r marks i hits pairs → ArePairsBelow l r (point i t 0) pairs
  left-until hits t pairs small low hit h =
      let from_le : h.from ≤ t =
      ⊎_elim (λ lt. let gone = h.below t lt in let there = hit (omega (arith, h.within)) in absurd (omega (arith, gone, there))) (λ ge. ge) (cases_lt t h.from) in
      let none = λ (m : ℕ) (ge : h.from ≤ m) (lt : m < t).
      let gone = low m lt in
      let same = h.bits m ge (omega arith) in
      let answer : mark_at l marks i m ≡ 0 = omega (arith, gone, same)
      in answer
      in
      let n : ℕ = t - h.from in
      let same : h.from + n ≡ t = omega arith in
      subst (λ m. ArePairsBelow l r (point i m 0) pairs) same
      (none-until n h.from pairs (omega arith) (λ m ge lt. none m ge (omega arith)) h.listed)

  -- one bit is taken away, and the pairs of its target are listed
  pub left-more :
      (hits t : ℕ) (pairs more : List (ℕ × ℕ)) → t < 64 → ((m : ℕ) → m < t → bit_at hits m ≡ 0) → bit_at hits t ≡ 1
      → AreHitsLeft l r marks i hits pairs → ArePairsBelow l r (point i (t + 1) 0) more
      → AreHitsLeft l r marks i (bit_and hits (bit_not w64 (1 * 2 ^ t % 2 ^ 64))) more
  left-more hits t pairs more small low hit h listed =
      let from_le : h.from ≤ t =
      ⊎_elim (λ lt. let gone = h.below t lt in absurd (omega (arith, gone, hit))) (λ ge. ge) (cases_lt t h.from) in
      record {
        from = t + 1;
        within = omega arith;
        listed = listed;
        below = λ m lt.
            ⊎_elim (λ same. rw same (bit_at_clear_same w64 hits t small))
            (λ other. let m_lt : m < 64 = omega arith in bit_at_clear_other w64 hits t small m m_lt other ∙ low m (omega arith)) (cases_eq m t);
        bits = λ m ge lt. bit_at_clear_other w64 hits t small m lt (λ same. omega arith) ∙ h.bits m (omega arith) lt;
      }

  -- no bit is left
  pub left-end : (hits : ℕ) (pairs : List (ℕ × ℕ)) → hits ≡ 0 → AreHitsLeft l r marks i hits pairs → ArePairsBelow l r (point (i + 1) 0 0) pairs
  left-end hits pairs none h =
      next-left l r i 64 pairs refl
      (left-until hits 64 pairs (omega arith) (λ m lt. ap (λ n. bit_at n m) none ∙ bit_at-zero m) (λ lt. absurd (omega arith)) h)
