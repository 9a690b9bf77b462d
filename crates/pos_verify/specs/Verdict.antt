-- What a verdict on the bytes of a proof says, and which verdict is right.
use Rattle.std.specs.Prelude.{◌≡◌, ◌≢◌, ℕ, ◌-◌, ◌*◌, ◌^◌, ◌<◌, ◌≤◌, List, length, take, drop, Some, None, IsSome}
use Rattle.pos_tuple.specs.Node.{node}
use Rattle.pos_tuple.specs.Proof.{challenge_value, f7, Proof}
use Rattle.pos_order.specs.Values.{WritesValues}
use Rattle.pos_order.specs.Quality.{quality_of}
use Rattle.pos_verify.specs.declared.Verdict.{Verdict}
use Rattle.pos_verify.specs.declared.Verdict.TheVariants.{Accepted, WrongLength, NoMatch, WrongChallenge}

-- group q of the groups of 2 ^ n values
abbrev pub group : ℕ → ℕ → List ℕ → List ℕ
group n q xs = take (2 ^ n) (drop (q * 2 ^ n) xs)

-- the halves of this group of 2 ^ level values are the first that do not match: each group of a level below has a node,
-- and so has each group of this level to the left
pub record FailsFirst (id : List ℕ) (k : ℕ) (xs : List ℕ) (level pair : ℕ) : Type 0 where
  pub from_level : 1 ≤ level
  pub to_level : level ≤ 6
  pub inside : pair < 2 ^ (6 - level)
  pub below : (n q : ℕ) → n < level → q < 2 ^ (6 - n) → IsSome (node id k n (group n q xs))
  pub left : (q : ℕ) → q < pair → IsSome (node id k level (group level q xs))
  pub here : node id k level (group level pair xs) ≡ None

-- the bytes of a proof for this challenge
abbrev pub IsProofBytes : List ℕ → ℕ → List ℕ → List ℕ → Type 0
IsProofBytes id k c proof = (xs : List ℕ) × WritesValues k xs proof × Proof id k c xs

-- the verdict is the right one for these bytes: the first failing test decides, the length in bytes, then the levels,
-- then the challenge; an accepted proof has its quality
abbrev pub IsRight : List ℕ → ℕ → List ℕ → List ℕ → Verdict → Type 0
IsRight id k c proof (Accepted quality) =
    (xs : List ℕ) × WritesValues k xs proof × Proof id k c xs × (quality ≡ quality_of k c xs)
IsRight id k c proof (WrongLength want found) =
    (want ≡ 8 * k) × (found ≡ length proof) × (found ≢ want)
IsRight id k c proof (NoMatch level pair) =
    (xs : List ℕ) × WritesValues k xs proof × FailsFirst id k xs level pair
IsRight id k c proof (WrongChallenge want found) =
    (xs : List ℕ) × WritesValues k xs proof × (f7 id k xs ≡ Some found) × (want ≡ challenge_value k c) × (found ≢ want)

-- the verdict is an acceptance
abbrev pub IsAcceptance : Verdict → Type 0
IsAcceptance (Accepted quality) = Unit {0}
IsAcceptance (WrongLength want found) = ⊥
IsAcceptance (NoMatch level pair) = ⊥
IsAcceptance (WrongChallenge want found) = ⊥

-- at most one verdict is right
abbrev pub OneVerdict : Type 0
OneVerdict =
    (id : List ℕ) (k : ℕ) (c proof : List ℕ) (v w : Verdict) → IsRight id k c proof v → IsRight id k c proof w → v ≡ w
