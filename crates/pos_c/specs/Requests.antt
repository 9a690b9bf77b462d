-- The answers to many requests of one call.
use Rattle.std.specs.Prelude.{◌≡◌, ℕ, ◌+◌, ◌≤◌, List, length, take, drop, Some}
use Rattle.std.specs.List.{slice_get}
use Rattle.pos_c.specs.declared.answer.Answer.{Answer}
use Rattle.pos_c.specs.declared.request.Request.{Request}
use Rattle.pos_c.specs.Answers.{AreArguments, Tells}

-- the bytes of a request's proof, among the bytes of all proofs
abbrev pub proof_of_request : Request → List ℕ → List ℕ
proof_of_request r proofs = take r.length (drop r.start proofs)

-- its arguments may be those of a plot, and its proof lies inside
pub record IsRequest (r : Request) (proofs : List ℕ) : Type 0 where
  pub arguments : AreArguments r.id r.size r.challenge
  pub inside : r.start + r.length ≤ length proofs

-- the answer to a request is that of a call for it alone
abbrev pub TellsRequest : Request → List ℕ → Answer → Answer → Type 0
TellsRequest r proofs old new =
    Tells (IsRequest r proofs) r.id r.size r.challenge (proof_of_request r proofs) old new

-- each request has its answer in its place
abbrev pub TellsEach : List Request → List ℕ → List Answer → List Answer → Type 0
TellsEach requests proofs olds news =
    (i : ℕ) (r : Request) (old new : Answer) → slice_get requests i ≡ Some r → slice_get olds i ≡ Some old
    → slice_get news i ≡ Some new → TellsRequest r proofs old new

-- at most one answer to a request tells the right verdict
abbrev pub OneRequestAnswer : Type 0
OneRequestAnswer =
    (r : Request) (proofs : List ℕ) (old a b : Answer) → TellsRequest r proofs old a → TellsRequest r proofs old b → a ≡ b
