-- What an audit of a plot file says and does, whatever it answers.
-- Source: this project's own. Sizes are k, levels count from 0 to 6, places in a file from 0, in bytes.
use Rattle.std.specs.Prelude.{ℕ, ◌+◌, ◌^◌, ◌<◌, ◌≤◌, ◌≡◌, true, List, ◌++◌, codes, length, slice_get, Some, None, IsSome, Result, Err, IfErr, IfOk, OnOk}
use Rattle.pos_edge.specs.Faults.{Rose}
use Rattle.pos_edge.specs.View.{View}
use Rattle.pos_edge.specs.Frame.{ChangesOnly, Nothing, SameFaultsBut}
use Rattle.pos_edge.specs.Calls.{WasThere}
use Rattle.pos_edge.specs.ScratchNames.{scratch_name}
use Rattle.pos_edge.specs.ScratchWork.{IsSpared}
use Rattle.pos_laws.specs.Making.{IsAbove, IsFull}
use Rattle.pos_layout.specs.Damages.{opening}
use Rattle.pos_layout.specs.Fields.{header_in, layout_in, memo_in}
use Rattle.pos_layout.specs.Rules.{Opens}
use Rattle.pos_plot.specs.PlotFiles.{IsFileOfPlot, IsFileWith}
use Rattle.pos_plot.specs.PlotRuns.{IsFirstThere, IsRunName}
use Rattle.pos_plot.specs.declared.run.TheConstants.{SCRATCH_FILES}
use Rattle.pos_reader.specs.Plots.{PlotState, IsPlotFile}
use Rattle.pos_relocate.specs.Passes.{IsOutOfRange}
use Rattle.pos_audit.specs.declared.found.Audited.{Audited}
use Rattle.pos_audit.specs.declared.found.Audited.TheVariants.{Same, Differs}
use Rattle.pos_audit.specs.declared.fault.AuditName.TheVariants.{Second, Scratch as ScratchName}
use Rattle.pos_audit.specs.declared.fault.AuditFault.{AuditFault}
use Rattle.pos_audit.specs.declared.fault.AuditFault.TheVariants.{Absent, Lost, Exists, TableFull, DiskFailed, Damage, Scratch, Memory}
use Rattle.pos_audit.specs.Comparisons.{DifferAt}

-- the name of the second file
abbrev pub second_name : List ℕ → List ℕ
second_name base = base ++ codes "-audit"

-- over a disk that tells, the file of this name has bytes of which this holds
abbrev pub TellsBytes : List ℕ → View → (List ℕ → Type 0) → Type 0
TellsBytes name disk Holds = disk.tells ≡ true → (b : List ℕ) × (disk.contents name ≡ Some b) × Holds b

-- the id and the size that a file says
abbrev pub said_id : List ℕ → List ℕ
said_id b = (header_in b).id.0

abbrev pub said_size : List ℕ → ℕ
said_size b = (header_in b).size

-- the bytes are the whole file of the plot of the id and the size that they say
abbrev pub IsOwnPlot : List ℕ → Type 0
IsOwnPlot b = IsFileOfPlot b (said_id b) (said_size b)

-- c is the file of the plot of the id and the size that b says, in b's layout and with b's memo. There is at most one.
abbrev pub IsPlotBeside : List ℕ → List ℕ → Type 0
IsPlotBeside b c = IsFileWith (layout_in b) (memo_in b) c (said_id b) (said_size b)

-- What an audit says of a file: it is its plot, and has so many bytes; or it is not, and this is the first place at which it
-- differs from its plot, with what the plot and the file have there.
abbrev pub IsAuditFor : List ℕ → Audited → Type 0
IsAuditFor b (Same n) = IsOwnPlot b × (n ≡ length b)
IsAuditFor b (Differs at want found) =
    (¬ IsOwnPlot b)
    × ((c : List ℕ) × IsPlotBeside b c × DifferAt b c at × (want ≡ slice_get c at) × (found ≡ slice_get b at))

-- the plot of an id and a size has no table with more entries than a table may have
abbrev pub HasNoFullTable : List ℕ → ℕ → Type 0
HasNoFullTable id k = (m : ℕ) → 0 < m → m ≤ 6 → ¬ IsAbove id k m (2 ^ (k + 1))

-- Why a file was not audited: no file has the name; the second file was not found again, which never comes over a disk that
-- tells; a name that was to be made was there; a table of the plot has too many entries and none before it; the disk failed;
-- the file does not open; a record was read back out of its range, which never comes over a disk that tells. Want of memory
-- is free.
abbrev pub IsAuditCause : List ℕ → List ℕ → AuditFault → View → View → Type 0
IsAuditCause name base Absent old new = old.contents name ≡ None
IsAuditCause name base Lost old new = old.tells ≡ true → ⊥
IsAuditCause name base (Exists Second) old new = WasThere (second_name base) old
IsAuditCause name base (Exists (ScratchName number)) old new = IsFirstThere base number old
IsAuditCause name base (TableFull table) old new = TellsBytes name old (λ b. IsFull (said_id b) (said_size b) (2 ^ (said_size b + 1)) table)
IsAuditCause name base DiskFailed old new = Rose old.faults new.faults
IsAuditCause name base (Damage d) old new = TellsBytes name old (λ b. opening (layout_in b) b (length b) ≡ Some d)
IsAuditCause name base (Scratch damage) old new = IsOutOfRange damage × (old.tells ≡ true → ⊥)
IsAuditCause name base Memory old new = Unit {0}

-- the answers of an audit that finds the name of its second file there
abbrev pub IsStoppedEarly : Result Audited AuditFault → Type 0
IsStoppedEarly (Err Absent) = Unit {0}
IsStoppedEarly (Err (Damage d)) = Unit {0}
IsStoppedEarly (Err (Exists Second)) = Unit {0}
IsStoppedEarly (Err DiskFailed) = Unit {0}
IsStoppedEarly (Err Memory) = Unit {0}
IsStoppedEarly _ = ⊥

-- the answers that show that the file opened
abbrev pub HasOpened : Result Audited AuditFault → Type 0
HasOpened (Err Absent) = ⊥
HasOpened (Err (Damage d)) = ⊥
HasOpened (Err DiskFailed) = ⊥
HasOpened (Err Memory) = ⊥
HasOpened _ = Unit {0}

-- An audit of the file of a name, with a base of scratch names that the name does not begin with, whatever it answered.
pub record IsAudit (name base : List ℕ) (result : Result Audited AuditFault) (old new : View) : Type 0 where
  -- it wrote no name but those of the run, and no file that was open
  pub others : ChangesOnly (IsRunName (second_name base) base) Nothing old new
  -- the file is as it was at each moment, and so is each other name that was there
  pub file : IsSpared name old new
  pub spares : (n : List ℕ) → IsSome (old.contents n) → IsSpared n old new
  -- where the name of the second file was there, it made nothing, and answered so
  pub there : IsSome (old.contents (second_name base)) → ChangesOnly Nothing Nothing old new
  pub stops : IsSome (old.contents (second_name base)) → IsStoppedEarly result
  pub cause : IfErr result (λ fault. IsAuditCause name base fault old new)
  pub quiet : SameFaultsBut DiskFailed result old new
  pub opened : HasOpened result → TellsBytes name old (λ b. Opens (layout_in b) b)
  -- where it went well, this was found, no table of the plot is too long, each name that it made was absent, and each name holds what it
  -- held: the second file and the scratch files are gone
  pub audited : IfOk result (λ audited. TellsBytes name old (λ b. IsAuditFor b audited))
  pub within : OnOk result (TellsBytes name old (λ b. HasNoFullTable (said_id b) (said_size b)))
  pub absent : OnOk result ((m : ℕ) → m < SCRATCH_FILES → old.contents (scratch_name base m) ≡ None)
  pub gone : OnOk result ((n : List ℕ) → new.contents n ≡ old.contents n)

-- ---- the audit of an open plot; this is for a private function

abbrev pub IsPlotAuditCause : PlotState → List ℕ → AuditFault → View → View → Type 0
IsPlotAuditCause p base Absent old new = ⊥
IsPlotAuditCause p base (Damage d) old new = ⊥
IsPlotAuditCause p base Lost old new = old.tells ≡ true → ⊥
IsPlotAuditCause p base (Exists Second) old new = WasThere (second_name base) old
IsPlotAuditCause p base (Exists (ScratchName number)) old new = IsFirstThere base number old
IsPlotAuditCause p base (TableFull table) old new = old.tells ≡ true → IsFull p.header.id.0 p.header.size (2 ^ (p.header.size + 1)) table
IsPlotAuditCause p base DiskFailed old new = Rose old.faults new.faults
IsPlotAuditCause p base (Scratch damage) old new = IsOutOfRange damage × (old.tells ≡ true → ⊥)
IsPlotAuditCause p base Memory old new = Unit {0}

pub record IsPlotAudit (p : PlotState) (base : List ℕ) (result : Result Audited AuditFault) (old new : View) : Type 0 where
  pub others : ChangesOnly (IsRunName (second_name base) base) Nothing old new
  pub spares : (n : List ℕ) → IsSome (old.contents n) → IsSpared n old new
  pub there : IsSome (old.contents (second_name base)) → ChangesOnly Nothing Nothing old new
  pub stops : IsSome (old.contents (second_name base)) → IsStoppedEarly result
  pub cause : IfErr result (λ fault. IsPlotAuditCause p base fault old new)
  pub quiet : SameFaultsBut DiskFailed result old new
  pub audited : IfOk result (λ audited. old.tells ≡ true → (b : List ℕ) → IsPlotFile p b old → IsAuditFor b audited)
  pub within : OnOk result (old.tells ≡ true → HasNoFullTable p.header.id.0 p.header.size)
  pub absent : OnOk result ((m : ℕ) → m < SCRATCH_FILES → old.contents (scratch_name base m) ≡ None)
  pub gone : OnOk result ((n : List ℕ) → new.contents n ≡ old.contents n)
