-- The answer of `check FILE N`: over a file whose bytes are anything, over a whole file, and over the plot of an id. Challenges
-- and places count from 0.
use Rattle.std.specs.Prelude.{ℕ, ◌+◌, ◌*◌, ◌<◌, ◌≤◌, ◌≡◌, ◌⊎◌, true, List, Some}
use Rattle.pos_edge.specs.Sinks.{Heard, followed_by}
use Rattle.pos_edge.specs.View.{View}
use Rattle.pos_layout.specs.Fields.{layout_in}
use Rattle.pos_layout.specs.declared.damage.Damage.{Damage}
use Rattle.pos_layout.specs.Causes.{OpeningCause}
use Rattle.pos_layout.specs.Rules.{Opens}
use Rattle.pos_harvest.specs.PlotDamage.{IsDamage}
use Rattle.pos_check.specs.declared.summary.Summary.{Summary}
use Rattle.pos_check.specs.Summaries.{IsSummary, StopsCheck, challenge_of}
use Rattle.pos_check.specs.SummaryLaws.{IsPlaceWithoutProof, SumsUp}
use Rattle.pos_app.specs.Statuses.{done_status, damage_status}
use Rattle.pos_app.specs.Answers.{IsUnsaid, Speaks}
use Rattle.pos_app.specs.FileAnswers.{IsOpeningDamage, SaysOfFile, ShowsDiskFault, ShowsText}
use Rattle.pos_app.specs.PlotAnswers.{HoldsWholeFile}
use Rattle.pos_app.specs.Texts.{checked_line, damage_line}

-- the file's bytes open, and this is the summary of their first n challenges
pub record HasSummary (file : List ℕ) (n : ℕ) (disk : View) (summary : Summary) : Type 0 where
  pub bytes : List ℕ
  pub contents : disk.contents file ≡ Some bytes
  pub opens : Opens (layout_in bytes) bytes
  pub summed : IsSummary (layout_in bytes) bytes n summary

-- the text is the line of a summary, by 2 reads, 100 for each challenge and 128 for each proof
pub record IsCheckedText (file : List ℕ) (n : ℕ) (before after : View) (text : List ℕ) : Type 0 where
  pub summary : Summary
  pub lines : text ≡ checked_line n summary.proofs summary.digest
  pub reads : after.reads ≤ before.reads + (2 + 100 * n + 128 * summary.proofs)
  pub told : before.tells ≡ true → HasSummary file n before summary

-- a damage of a file that is tested: the first that opening finds, or what there is in place of the summary
abbrev pub IsCheckDamage : ℕ → List ℕ → Damage → Type 0
IsCheckDamage n b d = IsOpeningDamage b d ⊎ (Opens (layout_in b) b × StopsCheck (layout_in b) b n d)

-- the answer of `check FILE N`
abbrev pub SaysCheck : List ℕ → ℕ → View → View → ℕ → Heard → Heard → Type 0
SaysCheck file n before after result old new =
    SaysOfFile (IsCheckedText file n before after) (IsCheckDamage n) file before after result old new

-- ---- what follows

-- Over a whole file it shows its text, or, with 4, a place whose values are no proof for one of the challenges; but for a fault
-- of the disk or of the sink and want of memory.
pub record ShowsPlaceWithoutProof (file : List ℕ) (n : ℕ) (disk : View) (held : HoldsWholeFile file disk) (result : ℕ) (old new : Heard) : Type 0 where
  pub damage : Damage
  pub place : IsPlaceWithoutProof held.bytes held.lists n damage
  pub first : StopsCheck (layout_in held.bytes) held.bytes n damage
  pub said : Speaks damage_status (damage_line damage) result old new

abbrev pub ShowsSummaryOrNone : (file : List ℕ) (n : ℕ) (before : View) → HoldsWholeFile file before → View → ℕ → Heard → Heard → Type 0
ShowsSummaryOrNone file n before held after result old new =
    ShowsText (IsCheckedText file n before after) result old new
    ⊎ (ShowsPlaceWithoutProof file n before held result old new
    ⊎ (ShowsDiskFault before after result old new ⊎ IsUnsaid result old new))

-- Over the plot of an id it writes the summary of all its proofs for these challenges, but for the same.
abbrev pub SaysTheSummary : List ℕ → ℕ → ℕ → View → View → ℕ → Heard → Heard → Type 0
SaysTheSummary id k n before after result old new =
    ((s : Summary) × SumsUp id k n s × Speaks done_status (checked_line n s.proofs s.digest) result old new)
    ⊎ (ShowsDiskFault before after result old new ⊎ IsUnsaid result old new)

-- Where it is done, over every disk: it has counted so many proofs, by 2 reads, 100 for each challenge and 128 for each proof.
pub record ReadsForCheck (n : ℕ) (before after : View) (old new : Heard) : Type 0 where
  pub summary : Summary
  pub text : new.text ≡ followed_by old.text (checked_line n summary.proofs summary.digest)
  pub reads : after.reads ≤ before.reads + (2 + 100 * n + 128 * summary.proofs)

-- the damage is one that opening finds, or one of the file for one of its first n challenges
abbrev pub IsDamageForCheck : ℕ → List ℕ → Damage → Type 0
IsDamageForCheck n b d = OpeningCause (layout_in b) b d ⊎ ((i : ℕ) × (i < n) × IsDamage (layout_in b) b (challenge_of b i) d)

-- Over a disk that tells, the damage that was said is such a one.
pub record NamesCheckDamage (file : List ℕ) (n : ℕ) (disk : View) (old new : Heard) : Type 0 where
  pub damage : Damage
  pub text : new.text ≡ followed_by old.text (damage_line damage)
  pub bytes : List ℕ
  pub contents : disk.contents file ≡ Some bytes
  pub cause : IsDamageForCheck n bytes damage
