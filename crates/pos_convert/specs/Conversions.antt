-- What a conversion of a plot file says and does, whatever it answers.
-- Source: this project's own. Tables count from 1 to 7, places in a table from 0.
use Rattle.std.specs.Prelude.{ℕ, ◌-◌, ◌<◌, ◌≤◌, ◌≡◌, ◌⊎◌, List, length, Option, Some, None, IsSome, Result, Ok, Err, IfErr, IfOk}
use Rattle.pos_bits.specs.Bits.{AreBytes}
use Rattle.pos_edge.specs.Faults.{Rose}
use Rattle.pos_edge.specs.View.{View}
use Rattle.pos_edge.specs.Frame.{ChangesOnly, Just, Nothing, SameFaultsBut}
use Rattle.pos_edge.specs.Images.{EachImage, IsOnlyImage}
use Rattle.pos_edge.specs.Calls.{WasThere}
use Rattle.pos_lists.specs.PlotLists.{PlotLists, count, number_at}
use Rattle.pos_layout.specs.declared.damage.Damage.{Damage}
use Rattle.pos_layout.specs.declared.damage.Damage.TheVariants.{Order}
use Rattle.pos_layout.specs.declared.layout.Layout.{Layout}
use Rattle.pos_layout.specs.declared.layout.Layout.TheVariants.{Two}
use Rattle.pos_layout.specs.Fields.{count_of, header_in, layout_in, memo_in}
use Rattle.pos_layout.specs.Reading.{num}
use Rattle.pos_layout.specs.Rules.{Opens, Well}
use Rattle.pos_reader.specs.Plots.{PlotState, IsOpen, IsPlotFile}
use Rattle.pos_convert.specs.declared.fault.ConvertFault.{ConvertFault}
use Rattle.pos_convert.specs.declared.fault.ConvertFault.TheVariants.{Exists, DiskFailed, Damage as IsDamaged, Memory}

-- ---- what a file shows, place by place

-- The number at a place is read without a damage, and is above the one before it.
pub record IsSoundPlace (l : Layout) (b : List ℕ) (t i : ℕ) : Type 0 where
  pub number : ℕ
  pub reads : num l b t i ≡ Ok number
  pub above : (before : ℕ) → 0 < i → num l b t (i - 1) ≡ Ok before → before < number

-- The numbers at a place and before it are read, and do not rise.
pub record DoesNotRise (l : Layout) (b : List ℕ) (t i : ℕ) : Type 0 where
  pub before : ℕ
  pub number : ℕ
  pub later : 0 < i
  pub reads_before : num l b t (i - 1) ≡ Ok before
  pub reads : num l b t i ≡ Ok number
  pub falls : number ≤ before

-- a place shows this damage: reading finds it, or the place is out of order
abbrev pub ShowsAt : Layout → List ℕ → ℕ → ℕ → Damage → Type 0
ShowsAt l b t i d = (num l b t i ≡ Err d) ⊎ ((d ≡ Order t i) × DoesNotRise l b t i)

-- The first place of a table that is not sound shows this damage.
pub record IsTableStop (l : Layout) (b : List ℕ) (t : ℕ) (d : Damage) : Type 0 where
  pub place : ℕ
  pub inside : place < count_of (header_in b) t
  pub before : (i : ℕ) → i < place → IsSoundPlace l b t i
  pub shows : ShowsAt l b t place d

-- So does the first of a file, by table and then by place.
pub record IsFileStop (l : Layout) (b : List ℕ) (d : Damage) : Type 0 where
  pub table : ℕ
  pub first : 1 ≤ table
  pub last : table ≤ 7
  pub before : (t i : ℕ) → 1 ≤ t → t < table → i < count_of (header_in b) t → IsSoundPlace l b t i
  pub stop : IsTableStop l b table d

-- ---- the new file

-- c is the whole file of the lists that b shows, of b's id and size, in the second layout with this memo. There is at most one.
pub record IsConverted (memo b c : List ℕ) : Type 0 where
  pub bytes : AreBytes c
  pub plot : PlotLists
  pub well : Well Two c plot
  pub memo_is : memo_in c ≡ memo
  pub id : plot.id ≡ (header_in b).id.0
  pub size : plot.k ≡ (header_in b).size
  pub counts : (t : ℕ) → 1 ≤ t → t ≤ 7 → count plot t ≡ count_of (header_in b) t
  pub reads : (t i : ℕ) → 1 ≤ t → t ≤ 7 → i < count plot t → num (layout_in b) b t i ≡ Ok (number_at plot t i)

-- what opens is that file
abbrev pub OpensConverted : List ℕ → List ℕ → Option (List ℕ) → Type 0
OpensConverted memo b None = Unit {0}
OpensConverted memo b (Some c) = Opens (layout_in c) c → IsConverted memo b c

-- That file stands under this name, of so many bytes, and a crash leaves just it.
pub record IsLeftConverted (memo b name : List ℕ) (total : ℕ) (view : View) : Type 0 where
  pub file : List ℕ
  pub contents : view.contents name ≡ Some file
  pub only : IsOnlyImage name (Some file) view
  pub converted : IsConverted memo b file
  pub as_long : total ≡ length file

-- ---- a conversion

-- Why a file was not converted: the name of the new file was there, and nothing was done; the disk failed; the old file has
-- a damage, of which this is the first. Want of memory is free.
abbrev pub IsConvertCause : PlotState → List ℕ → View → View → ConvertFault → Type 0
IsConvertCause p name old new Exists = WasThere name old × ChangesOnly Nothing Nothing old new
IsConvertCause p name old new DiskFailed = Rose old.faults new.faults
IsConvertCause p name old new (IsDamaged d) = (b : List ℕ) → IsPlotFile p b old → IsFileStop (layout_in b) b d
IsConvertCause p name old new Memory = Unit {0}

-- the answers of a conversion that finds the name of its new file there
abbrev pub StopsAtName : Result ℕ ConvertFault → Type 0
StopsAtName (Err Exists) = Unit {0}
StopsAtName (Err DiskFailed) = Unit {0}
StopsAtName (Err Memory) = Unit {0}
StopsAtName _ = ⊥

-- A conversion of an open plot to a new file of a name, with a memo, whatever it answered. What it says of the old file is
-- said of the bytes that the file holds when the conversion begins.
pub record IsConversion (p q : PlotState) (memo name : List ℕ) (result : Result ℕ ConvertFault) (old new : View) : Type 0 where
  -- it wrote no other name, and no file that was open
  pub others : ChangesOnly (Just name) Nothing old new
  -- the plot is as it was and open, and its file has the bytes that it had
  pub same : q ≡ p
  pub stays_open : IsOpen q new
  pub stays_file : (b : List ℕ) → IsPlotFile p b old → IsPlotFile q b new
  -- where the name was there, it changed and made nothing, and answered so
  pub there : IsSome (old.contents name) → ChangesOnly Nothing Nothing old new
  pub stops : IsSome (old.contents name) → StopsAtName result
  -- where that name was absent, at each moment what opens under it is the converted file
  pub images : old.contents name ≡ None → (b : List ℕ) → IsPlotFile p b old → EachImage name (OpensConverted memo b) old new
  pub cause : IfErr result (IsConvertCause p name old new)
  pub quiet : SameFaultsBut DiskFailed result old new
  -- where it went well, the converted file stands
  pub left : IfOk result (λ total. (b : List ℕ) → IsPlotFile p b old → IsLeftConverted memo b name total new)
