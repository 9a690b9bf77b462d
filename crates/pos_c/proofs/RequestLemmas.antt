-- The answers to the requests in front.
use Rattle.std.proofs.Common.{◌≡◌, ℕ, ◌+◌, ◌<◌, ◌≤◌, List, length, sym, ◌∙◌, arith, ◌⊎◌, inl, inr, ⊎_elim}
use Rattle.std.specs.Prelude.{Option, Some}
use Rattle.std.specs.List.{slice_get}
use Rattle.std.proofs.lemmas.Option.{slice_get_within}
use Rattle.std.proofs.lemmas.Bool.{cases_order}
use Rattle.pos_c.specs.declared.answer.Answer.{Answer}
use Rattle.pos_c.specs.declared.request.Request.{Request}
use Rattle.pos_c.specs.Requests.{TellsEach, TellsRequest}

-- the first i requests have their answers, and the other answers are as they were
pub record AnsweredSoFar (requests : List Request) (proofs : List ℕ) (olds news : List Answer) (i : ℕ) : Type 0 where
  pub count : length news ≡ length olds
  pub front :
      (j : ℕ) (r : Request) (old new : Answer) → j < i → slice_get requests j ≡ Some r → slice_get olds j ≡ Some old
      → slice_get news j ≡ Some new → TellsRequest r proofs old new
  pub rest : (j : ℕ) → i ≤ j → slice_get news j ≡ slice_get olds j

this_or_before : (j i : ℕ) → j < i + 1 → (j ≡ i) ⊎ (j < i)
this_or_before j i h =
    ⊎_elim (λ (e : j ≡ i). inl e) (⊎_elim (λ (e : j < i). inr e) (λ (e : i < j). absurd (omega arith))) (cases_order j i)

same_some : {X : Type 0} (a b : X) (o : Option X) → o ≡ Some a → o ≡ Some b → a ≡ b
same_some a b o e f =
    let both : Some a ≡ Some b = sym e ∙ f in
    let same : a ≡ b = cc in same

pub tells_each :
    (requests : List Request) (proofs : List ℕ) (olds news : List Answer) (i : ℕ) → length requests ≤ i
    → AnsweredSoFar requests proofs olds news i → TellsEach requests proofs olds news
tells_each requests proofs olds news i all so j r old new asked stood told =
    let inside : j < length requests = slice_get_within requests j r asked in
    so.front j r old new (omega (arith, inside, all)) asked stood told
