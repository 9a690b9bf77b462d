-- What a call that judges a proof answers, and when. The same numbers stand in include/hillcrepe.h.
-- Ids, challenges and proofs are lists of bytes; a size k is a number of bits.
use Rattle.std.specs.Prelude.{◌≡◌, ◌≢◌, ◌↔◌, ◌⊎◌, ℕ, ◌*◌, ◌≤◌, List, length, Some, None}
use Rattle.pos_tuple.specs.Node.{node}
use Rattle.pos_tuple.specs.Proof.{challenge_value, f7}
use Rattle.pos_order.specs.Values.{WritesValues}
use Rattle.pos_verify.specs.Verdict.{IsProofBytes, IsRight}
use Rattle.pos_verify.specs.declared.Verdict.{Verdict}
use Rattle.pos_verify.specs.declared.Verdict.TheVariants.{Accepted, WrongLength, NoMatch, WrongChallenge}
use Rattle.pos_c.specs.declared.answer.Answer.{Answer}

-- a proof
abbrev pub accepted_answer : ℕ
accepted_answer = 0

-- other than 8k bytes
abbrev pub length_answer : ℕ
length_answer = 1

-- a pair does not match
abbrev pub match_answer : ℕ
match_answer = 2

-- a proof for other challenges
abbrev pub challenge_answer : ℕ
challenge_answer = 3

-- arguments that no plot has; nothing was judged
abbrev pub arguments_answer : ℕ
arguments_answer = 4

-- an id, a size and a challenge that a plot may have
pub record AreArguments (id : List ℕ) (k : ℕ) (c : List ℕ) : Type 0 where
  pub id_bytes : length id ≡ 32
  pub from_size : 10 ≤ k
  pub to_size : k ≤ 50
  pub challenge_bytes : length c ≡ 32

-- beside room for a quality
pub record FitsCall (id : List ℕ) (k : ℕ) (c room : List ℕ) : Type 0 where
  pub arguments : AreArguments id k c
  pub room_bytes : length room ≡ 32

-- bytes of 64 values of which some pair does not match
abbrev pub HasBadPair : List ℕ → ℕ → List ℕ → Type 0
HasBadPair id k proof = (xs : List ℕ) × WritesValues k xs proof × (node id k 6 xs ≡ None)

-- bytes of 64 values whose pairs all match, and that answer challenges with another number
abbrev pub AnswersOthers : List ℕ → ℕ → List ℕ → List ℕ → Type 0
AnswersOthers id k c proof =
    (xs : List ℕ) × WritesValues k xs proof × (found : ℕ) × (f7 id k xs ≡ Some found) × (found ≢ challenge_value k c)

-- the answer to a call, whose arguments are right exactly where `fits`: each number comes in its case, and in no other
pub record IsAnswer (fits : Type 0) (id : List ℕ) (k : ℕ) (c proof : List ℕ) (answer : ℕ) : Type 0 where
  pub accepted : (answer ≡ accepted_answer) ↔ (fits × IsProofBytes id k c proof)
  pub wrong_length : (answer ≡ length_answer) ↔ (fits × (length proof ≢ 8 * k))
  pub no_match : (answer ≡ match_answer) ↔ (fits × HasBadPair id k proof)
  pub wrong_challenge : (answer ≡ challenge_answer) ↔ (fits × AnswersOthers id k c proof)
  pub wrong_arguments : (answer ≡ arguments_answer) ↔ (fits → ⊥)

-- the number of a verdict
abbrev pub answer_number : Verdict → ℕ
answer_number (Accepted quality) = accepted_answer
answer_number (WrongLength want found) = length_answer
answer_number (NoMatch level pair) = match_answer
answer_number (WrongChallenge want found) = challenge_answer

-- the answer that tells a verdict, and keeps the quality that stood there where it has none
abbrev pub telling : Verdict → Answer → Answer
telling (Accepted quality) old =
    record { want = 0; found = 0; verdict = accepted_answer; level = 0; pair = 0; quality = quality }
telling (WrongLength want found) old =
    record { want = want; found = found; verdict = length_answer; level = 0; pair = 0; quality = old.quality }
telling (NoMatch level pair) old =
    record { want = 0; found = 0; verdict = match_answer; level = level; pair = pair; quality = old.quality }
telling (WrongChallenge want found) old =
    record { want = want; found = found; verdict = challenge_answer; level = 0; pair = 0; quality = old.quality }

-- the answer that tells of wrong arguments
abbrev pub telling_none : Answer → Answer
telling_none old =
    record { want = 0; found = 0; verdict = arguments_answer; level = 0; pair = 0; quality = old.quality }

-- the new answer tells the right verdict, or that the arguments are wrong
abbrev pub Tells : Type 0 → List ℕ → ℕ → List ℕ → List ℕ → Answer → Answer → Type 0
Tells fits id k c proof old new =
    (fits × ((v : Verdict) × IsRight id k c proof v × (new ≡ telling v old))) ⊎ ((fits → ⊥) × (new ≡ telling_none old))

-- at most one answer to a call tells the right verdict
abbrev pub OneAnswer : Type 0
OneAnswer =
    (id : List ℕ) (k : ℕ) (c proof : List ℕ) (old a b : Answer) → Tells (AreArguments id k c) id k c proof old a
    → Tells (AreArguments id k c) id k c proof old b → a ≡ b
