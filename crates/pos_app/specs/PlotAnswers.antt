-- What `prove` and `quality` answer over a whole file, and over the plot of an id.
use Rattle.std.specs.Prelude.{ℕ, ◌≡◌, ◌⊎◌, true, List, map, Some}
use Rattle.pos_edge.specs.View.{View}
use Rattle.pos_order.specs.Quality.{pair_quality, quality_of}
use Rattle.pos_lists.specs.PlotLists.{PlotLists}
use Rattle.pos_laws.specs.PlotOf.{PlotOf}
use Rattle.pos_laws.specs.Listing.{Lists, quality_pairs}
use Rattle.pos_layout.specs.Fields.{layout_in}
use Rattle.pos_layout.specs.declared.damage.Damage.{Damage}
use Rattle.pos_layout.specs.Rules.{Well}
use Rattle.pos_harvest.specs.ListLaws.{IsFirstWithoutProof}
use Rattle.pos_app.specs.Statuses.{done_status, damage_status}
use Rattle.pos_edge.specs.Sinks.{Heard}
use Rattle.pos_app.specs.Answers.{IsUnsaid, Speaks}
use Rattle.pos_app.specs.FileAnswers.{ShowsDiskFault, ShowsText}
use Rattle.pos_app.specs.ListAnswers.{IsProofsText, IsQualitiesText}
use Rattle.pos_app.specs.Texts.{damage_line, proofs_text, qualities_text}

-- the disk tells that the file of this name is a whole file
pub record HoldsWholeFile (file : List ℕ) (disk : View) : Type 0 where
  pub tells : disk.tells ≡ true
  pub bytes : List ℕ
  pub contents : disk.contents file ≡ Some bytes
  pub lists : PlotLists
  pub well : Well (layout_in bytes) bytes lists

-- and that of the plot of this id and this size
pub record HoldsPlotOf (id : List ℕ) (k : ℕ) (file : List ℕ) (disk : View) : Type 0 where
  pub whole : HoldsWholeFile file disk
  pub plot : PlotOf whole.lists id k

-- the qualities of the pairs that a challenge chooses in the trees of a plot's lists
abbrev pub pair_qualities : PlotLists → List ℕ → List (List ℕ)
pair_qualities p c = map (λ (pair : ℕ × ℕ). pair_quality p.k c pair.0 pair.1) (quality_pairs p c)

-- a text of qualities that has these
pub record IsPairsText (file c : List ℕ) (lists : PlotLists) (before after : View) (text : List ℕ) : Type 0 where
  pub shown : IsQualitiesText file c before after text
  pub listed : text ≡ qualities_text (pair_qualities lists c)

-- Over a whole file `quality` shows exactly the qualities of the plot's own lists, but for a fault of the disk or of the sink
-- and want of memory.
abbrev pub ShowsQualities : List ℕ → PlotLists → List ℕ → View → View → ℕ → Heard → Heard → Type 0
ShowsQualities file lists c before after result old new =
    ShowsText (IsPairsText file c lists before after) result old new
    ⊎ (ShowsDiskFault before after result old new ⊎ IsUnsaid result old new)

-- `prove` shows its text or, with 4, the first place of the plot's span whose values are in no order a proof; but for the same.
pub record ShowsFirstWithoutProof (bytes : List ℕ) (lists : PlotLists) (c : List ℕ) (result : ℕ) (old new : Heard) : Type 0 where
  pub damage : Damage
  pub first : IsFirstWithoutProof bytes lists c damage
  pub said : Speaks damage_status (damage_line damage) result old new

abbrev pub ShowsProofsOrNone : List ℕ → List ℕ → PlotLists → List ℕ → View → View → ℕ → Heard → Heard → Type 0
ShowsProofsOrNone file bytes lists c before after result old new =
    ShowsText (IsProofsText file c before after) result old new
    ⊎ (ShowsFirstWithoutProof bytes lists c result old new
    ⊎ (ShowsDiskFault before after result old new ⊎ IsUnsaid result old new))

-- `prove` writes exactly the one list of the proofs, each once, by rising plot order, but for a fault of the disk or of the
-- sink and want of memory
abbrev pub SaysTheProofs : List ℕ → ℕ → List ℕ → View → View → ℕ → Heard → Heard → Type 0
SaysTheProofs id k c before after result old new =
    ((proofs : List (List ℕ)) × Lists id k c proofs × Speaks done_status (proofs_text k proofs) result old new)
    ⊎ (ShowsDiskFault before after result old new ⊎ IsUnsaid result old new)

-- and `quality` exactly the qualities of these proofs, in the same order
abbrev pub SaysTheQualities : List ℕ → ℕ → List ℕ → View → View → ℕ → Heard → Heard → Type 0
SaysTheQualities id k c before after result old new =
    ((proofs : List (List ℕ)) × Lists id k c proofs
    × Speaks done_status (qualities_text (map (quality_of k c) proofs)) result old new)
    ⊎ (ShowsDiskFault before after result old new ⊎ IsUnsaid result old new)
