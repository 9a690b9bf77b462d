-- The answer of `inspect FILE`.
use Rattle.std.specs.Prelude.{ℕ, ◌≡◌, true, List, Some}
use Rattle.pos_edge.specs.View.{View}
use Rattle.pos_layout.specs.declared.header.Header.{Header}
use Rattle.pos_layout.specs.Fields.{header_in, layout_in, memo_in}
use Rattle.pos_layout.specs.Rules.{Opens}
use Rattle.pos_edge.specs.Sinks.{Heard}
use Rattle.pos_app.specs.FileAnswers.{IsOpeningDamage, SaysOfFile, SaysUnlessFault}
use Rattle.pos_app.specs.Statuses.{done_status}
use Rattle.pos_app.specs.Texts.{inspect_text}

-- the file's bytes open, and have this header and this memo
pub record HasHeader (file : List ℕ) (disk : View) (header : Header) (memo : List ℕ) : Type 0 where
  pub bytes : List ℕ
  pub contents : disk.contents file ≡ Some bytes
  pub opens : Opens (layout_in bytes) bytes
  pub header_is : header ≡ header_in bytes
  pub memo_is : memo ≡ memo_in bytes

-- the text shows a header and a memo: over a disk that tells, those of the file's bytes
pub record IsHeaderText (file : List ℕ) (disk : View) (text : List ℕ) : Type 0 where
  pub header : Header
  pub memo : List ℕ
  pub lines : text ≡ inspect_text header memo
  pub told : disk.tells ≡ true → HasHeader file disk header memo

-- the answer of `inspect FILE`: the header, or the first damage that opening finds
abbrev pub SaysInspection : List ℕ → View → View → ℕ → Heard → Heard → Type 0
SaysInspection file before after result old new =
    SaysOfFile (IsHeaderText file before) IsOpeningDamage file before after result old new

-- ---- over a file that opens

-- the disk tells that the bytes of the file of this name open
pub record HoldsOpenFile (file : List ℕ) (disk : View) : Type 0 where
  pub tells : disk.tells ≡ true
  pub bytes : List ℕ
  pub contents : disk.contents file ≡ Some bytes
  pub opens : Opens (layout_in bytes) bytes

-- the header and the memo of these bytes are shown, but for a fault of the disk or of the sink and want of memory
abbrev pub ShowsHeader : List ℕ → View → View → ℕ → Heard → Heard → Type 0
ShowsHeader bytes before after result old new =
    SaysUnlessFault done_status (inspect_text (header_in bytes) (memo_in bytes)) before after result old new
