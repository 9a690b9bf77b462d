-- The answer of `verify ID K CHALLENGE PROOF`.
use Rattle.std.specs.Prelude.{ℕ, ◌≡◌, ◌⊎◌, List}
use Rattle.pos_verify.specs.Verdict.{IsProofBytes, IsRight}
use Rattle.pos_verify.specs.declared.Verdict.{Verdict}
use Rattle.pos_verify.specs.declared.Verdict.TheVariants.{Accepted, WrongLength, NoMatch, WrongChallenge}
use Rattle.pos_app.specs.Statuses.{done_status, refused_status}
use Rattle.pos_edge.specs.Sinks.{Heard}
use Rattle.pos_app.specs.Answers.{EndsWith, IsUnsaid, Speaks}
use Rattle.pos_app.specs.Texts.{verdict_line}

-- the status of a verdict
abbrev pub verdict_status : Verdict → ℕ
verdict_status (Accepted quality) = done_status
verdict_status (WrongLength want found) = refused_status
verdict_status (NoMatch level pair) = refused_status
verdict_status (WrongChallenge want found) = refused_status

-- the answer of `verify ID K CHALLENGE PROOF`: the right verdict is said, with its status, but for want of memory
abbrev pub SaysVerdict : List ℕ → ℕ → List ℕ → List ℕ → ℕ → Heard → Heard → Type 0
SaysVerdict id k challenge proof result old new =
    ((verdict : Verdict) × IsRight id k challenge proof verdict
    × Speaks (verdict_status verdict) (verdict_line verdict) result old new)
    ⊎ IsUnsaid result old new

-- It ends with that of what is done exactly for the bytes of a proof, and with that of a refusal exactly for all others,
-- but for a fault of the sink and want of memory.
pub record TellsProofs (id : List ℕ) (k : ℕ) (challenge proof : List ℕ) (result : ℕ) : Type 0 where
  pub accepted : result ≡ done_status → IsProofBytes id k challenge proof
  pub accepts : IsProofBytes id k challenge proof → EndsWith done_status result
  pub refused : result ≡ refused_status → IsProofBytes id k challenge proof → ⊥
  pub refuses : (IsProofBytes id k challenge proof → ⊥) → EndsWith refused_status result
