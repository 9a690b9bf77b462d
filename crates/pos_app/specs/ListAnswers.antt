-- The answers of `prove FILE CHALLENGE` and `quality FILE CHALLENGE`, over a file whose bytes are anything.
use Rattle.std.specs.Prelude.{ℕ, ◌+◌, ◌*◌, ◌≤◌, ◌≡◌, ◌⊎◌, true, All, List, length, Some}
use Rattle.pos_edge.specs.Sinks.{Heard, followed_by, AppendsPartOf}
use Rattle.pos_edge.specs.View.{View}
use Rattle.pos_tuple.specs.Proof.{Proof}
use Rattle.pos_layout.specs.declared.damage.Damage.{Damage}
use Rattle.pos_layout.specs.Fields.{header_in, layout_in}
use Rattle.pos_layout.specs.Rules.{Opens}
use Rattle.pos_harvest.specs.Listings.{ListsProofs, ListsQualities}
pub use Rattle.pos_harvest.specs.PlotDamage.{IsProveDamage, IsQualityDamage}
use Rattle.pos_app.specs.FileAnswers.{SaysOfFile}
use Rattle.pos_app.specs.Texts.{absent_line, damage_line, disk_fault_line, proofs_text, qualities_text}

-- the file's bytes open, are of this id and this size, and list these proofs
pub record HasProofs (file c : List ℕ) (disk : View) (id : List ℕ) (k : ℕ) (proofs : List (List ℕ)) : Type 0 where
  pub bytes : List ℕ
  pub contents : disk.contents file ≡ Some bytes
  pub opens : Opens (layout_in bytes) bytes
  pub same_id : id ≡ (header_in bytes).id.0
  pub same_size : k ≡ (header_in bytes).size
  pub listed : ListsProofs (layout_in bytes) bytes c proofs

-- the text lists proofs of one id and one size for the challenge, by 102 reads and 128 for each
pub record IsProofsText (file c : List ℕ) (before after : View) (text : List ℕ) : Type 0 where
  pub id : List ℕ
  pub k : ℕ
  pub proofs : List (List ℕ)
  pub lines : text ≡ proofs_text k proofs
  pub true_ones : All (λ xs. Proof id k c xs) proofs
  pub reads : after.reads ≤ before.reads + (102 + 128 * length proofs)
  pub told : before.tells ≡ true → HasProofs file c before id k proofs

-- the file's bytes open, and list these qualities
pub record HasQualities (file c : List ℕ) (disk : View) (qualities : List (List ℕ)) : Type 0 where
  pub bytes : List ℕ
  pub contents : disk.contents file ≡ Some bytes
  pub opens : Opens (layout_in bytes) bytes
  pub listed : ListsQualities (layout_in bytes) bytes c qualities

-- the text lists qualities, by 102 reads and 14 for each
pub record IsQualitiesText (file c : List ℕ) (before after : View) (text : List ℕ) : Type 0 where
  pub qualities : List (List ℕ)
  pub lines : text ≡ qualities_text qualities
  pub reads : after.reads ≤ before.reads + (102 + 14 * length qualities)
  pub told : before.tells ≡ true → HasQualities file c before qualities

-- the answer of `prove FILE CHALLENGE`
abbrev pub SaysProofs : List ℕ → List ℕ → View → View → ℕ → Heard → Heard → Type 0
SaysProofs file c before after result old new =
    SaysOfFile (IsProofsText file c before after) (IsProveDamage c) file before after result old new

-- the answer of `quality FILE CHALLENGE`
abbrev pub SaysQualities : List ℕ → List ℕ → View → View → ℕ → Heard → Heard → Type 0
SaysQualities file c before after result old new =
    SaysOfFile (IsQualitiesText file c before after) (IsQualityDamage c) file before after result old new

-- ---- what follows of the two

-- the line of a refusal
abbrev pub IsRefusalLine : List ℕ → List ℕ → Type 0
IsRefusalLine file text = (text ≡ absent_line file) ⊎ ((text ≡ disk_fault_line) ⊎ ((d : Damage) × (text ≡ damage_line d)))

-- Whatever `prove` answers, over every disk: what it has written is a front part of the lines of proofs of one id and one
-- size for the challenge, or of the line of a refusal.
abbrev pub WritesNoFalseProof : List ℕ → List ℕ → Heard → Heard → Type 0
WritesNoFalseProof file c old new =
    ((id : List ℕ) × (k : ℕ) × (proofs : List (List ℕ)) × All (λ xs. Proof id k c xs) proofs
    × AppendsPartOf (proofs_text k proofs) old.text new.text)
    ⊎ ((text : List ℕ) × IsRefusalLine file text × AppendsPartOf text old.text new.text)

-- Where it is done, over every disk: it has listed so many proofs, by 102 reads and 128 for each.
pub record ReadsForProofs (before after : View) (old new : Heard) : Type 0 where
  pub k : ℕ
  pub proofs : List (List ℕ)
  pub text : new.text ≡ followed_by old.text (proofs_text k proofs)
  pub reads : after.reads ≤ before.reads + (102 + 128 * length proofs)

-- Where `quality` is done, over every disk: it has listed so many qualities, by 102 reads and 14 for each.
pub record ReadsForQualities (before after : View) (old new : Heard) : Type 0 where
  pub qualities : List (List ℕ)
  pub text : new.text ≡ followed_by old.text (qualities_text qualities)
  pub reads : after.reads ≤ before.reads + (102 + 14 * length qualities)
