-- The steps of a conversion; these are for private functions.
-- Tables count from 1 to 7, parks and places in a table from 0.
use Rattle.std.specs.Prelude.{ℕ, suc, ◌+◌, ◌-◌, ◌*◌, ◌<◌, ◌≤◌, ◌≡◌, ◌⊎◌, true, false, All, List, [], ◌∷◌, length, take, slice_index, slice_index_or, Option, Some, None, IsSome, Result, Ok, Err, IfErr, IsErrOf}
use Rattle.pos_edge.specs.Faults.{Rose}
use Rattle.pos_edge.specs.View.{View}
use Rattle.pos_edge.specs.Frame.{ChangesOnly, Just, NameOf, Nothing, SameFaultsBut}
use Rattle.pos_edge.specs.Images.{EachImage}
use Rattle.pos_edge.specs.Calls.{WasThere}
use Rattle.pos_layout.specs.declared.damage.Damage.{Damage}
use Rattle.pos_layout.specs.declared.damage.Damage.TheVariants.{Order, Pointer}
use Rattle.pos_layout.specs.declared.layout.Layout.{Layout}
use Rattle.pos_layout.specs.declared.layout.Layout.TheVariants.{Two}
use Rattle.pos_layout.specs.Drafts.{Draft, Stands, WriterState, begun}
use Rattle.pos_layout.specs.Fields.{count_of, layout_in}
use Rattle.pos_layout.specs.Images.{IsTinyOrShut}
use Rattle.pos_layout.specs.Layouts.{full_of, park_count}
use Rattle.pos_layout.specs.Lists.{points_inside}
use Rattle.pos_layout.specs.Reading.{num, read_park}
use Rattle.pos_layout.specs.Writing.{Goes, IsBegun, OpensNext, SameFile, WritesOnly, with_numbers, with_table}
use Rattle.pos_reader.specs.Plots.{PlotState, IsPlotFile}
use Rattle.pos_reader.specs.Readings.{CountsFaults}
use Rattle.pos_convert.specs.declared.fault.ConvertFault.{ConvertFault}
use Rattle.pos_convert.specs.declared.fault.ConvertFault.TheVariants.{Exists, DiskFailed, Damage as IsDamaged, Memory}

-- ---- every step

-- The plot's file is another one than the writer's.
pub record IsApart (p : PlotState) (w : WriterState) (view : View) : Type 0 where
  pub file : p.file ≡ w.file → ⊥
  pub names : (n : List ℕ) → NameOf p.file view n → NameOf w.file view n → ⊥

-- Some of a plot was copied, whatever was answered: the plot is as it was, and of all files the writer's alone was written,
-- behind its closed gate.
pub record IsCopying {X : Type 0} (p q : PlotState) (before after : WriterState) (result : Result X ConvertFault) (old new : View) : Type 0 where
  pub same : q ≡ p
  pub writes : WritesOnly before.file old new
  pub file : SameFile before after
  pub faults : CountsFaults DiskFailed result old new
  pub begun : IsErrOf result Exists → ⊥

-- ---- numbers

-- each is above the one before it, and the first is not below this number
unfoldable pub Rises : ℕ → List ℕ → Type 0
Rises least [] = Unit {0}
Rises least (n ∷ ns) = (least ≤ n) × Rises (n + 1) ns

-- the least number that may come after these
unfoldable pub least_after : ℕ → List ℕ → ℕ
least_after least [] = least
least_after least (n ∷ ns) = least_after (n + 1) ns

-- whether a number of table t points inside
abbrev pub PointsInside : PlotState → ℕ → ℕ → Type 0
PointsInside p t n = points_inside p.header.size t (count_of p.header (t - 1)) n ≡ true

abbrev pub PointsOutside : PlotState → ℕ → ℕ → Type 0
PointsOutside p t n = points_inside p.header.size t (count_of p.header (t - 1)) n ≡ false

-- a number at a place of table t, which may not be below `least`, shows this damage
abbrev pub NumberShows : PlotState → ℕ → ℕ → ℕ → ℕ → Damage → Type 0
NumberShows p t at least n d =
    ((d ≡ Pointer t at) × PointsOutside p t n) ⊎ ((d ≡ Order t at) × PointsInside p t n × (n < least))

-- what a number shows
abbrev pub NumberAnswer : PlotState → ℕ → ℕ → ℕ → ℕ → Option Damage → Type 0
NumberAnswer p t at least n None = PointsInside p t n × (least ≤ n)
NumberAnswer p t at least n (Some d) = NumberShows p t at least n d

-- Numbers of table t point inside and rise.
pub record AreSound (p : PlotState) (t least : ℕ) (ns : List ℕ) : Type 0 where
  pub inside : All (λ n. PointsInside p t n) ns
  pub rise : Rises least ns

-- The first of the numbers from place `at` of table t on that is not sound shows this damage.
pub record IsListStop (p : PlotState) (t at least : ℕ) (ns : List ℕ) (d : Damage) : Type 0 where
  pub place : ℕ
  pub inside : place < length ns
  pub before : AreSound p t least (take place ns)
  pub shows : NumberShows p t (at + place) (least_after least (take place ns)) (slice_index ns place) d

-- Sound numbers of table t were added to the open table; `next` is the least that may come after them.
pub record HasAdded (p : PlotState) (t : ℕ) (ns : List ℕ) (next : ℕ) (before after : WriterState) (old new : View) : Type 0 where
  pub sound : AreSound p t before.least ns
  pub next_is : next ≡ least_after before.least ns
  pub least : after.least ≡ next
  pub columns : after.columns ≡ before.columns
  pub count : after.count ≡ before.count + length ns
  pub goes : Goes (with_numbers ns) before after old new

-- ---- a park

-- The numbers of a park of table t, as many as it has to have, were read from these bytes.
pub record IsParkRead (p : PlotState) (t park : ℕ) (ns b : List ℕ) : Type 0 where
  pub as_many : length ns ≡ park_count p.header.layout (count_of p.header t) park
  pub reads : read_park (layout_in b) b t park ≡ Ok ns

-- A park was read and its numbers added.
pub record HasCopiedPark (p : PlotState) (t park next : ℕ) (before after : WriterState) (old new : View) : Type 0 where
  pub numbers : List ℕ
  pub as_many : length numbers ≡ park_count p.header.layout (count_of p.header t) park
  pub reads : (b : List ℕ) → IsPlotFile p b old → read_park (layout_in b) b t park ≡ Ok numbers
  pub added : HasAdded p t numbers next before after old new

-- reading a park finds this damage
abbrev pub IsParkDamaged : ℕ → ℕ → List ℕ → Damage → Type 0
IsParkDamaged t park b d = read_park (layout_in b) b t park ≡ Err d

-- Or it was read, and the first of its numbers that is not sound shows it.
pub record IsParkStop (p : PlotState) (t park least : ℕ) (b : List ℕ) (d : Damage) : Type 0 where
  pub numbers : List ℕ
  pub read : IsParkRead p t park numbers b
  pub stop : IsListStop p t (full_of p.header.layout * park) least numbers d

-- ---- tables

-- the first places of table t of these bytes read as these numbers
abbrev pub ReadAs : List ℕ → ℕ → List ℕ → Type 0
ReadAs b t ns = (i : ℕ) → i < length ns → num (layout_in b) b t i ≡ Ok (slice_index ns i)

-- They rise, and the plot's file reads so.
pub record AreRead (p : PlotState) (t : ℕ) (ns : List ℕ) (view : View) : Type 0 where
  pub rise : Rises 0 ns
  pub reads : (b : List ℕ) → IsPlotFile p b view → ReadAs b t ns

-- Table t was read, and a table of its numbers added and ended.
pub record HasCopiedTable (p : PlotState) (t : ℕ) (before after : WriterState) (old new : View) : Type 0 where
  pub numbers : List ℕ
  pub as_many : length numbers ≡ count_of p.header t
  pub are_read : AreRead p t numbers old
  pub goes : Goes (with_table numbers) before after old new
  pub next : OpensNext before after

-- a draft of these tables, all ended
abbrev pub filled : Layout → List ℕ → List ℕ → ℕ → List (List ℕ) → Draft
filled l memo id k tables = record { layout = l; memo = memo; id = id; k = k; ended = tables; numbers = [] }

-- The first tables of a plot, so many, were read as these lists.
pub record AreTablesRead (p : PlotState) (n : ℕ) (tables : List (List ℕ)) (view : View) : Type 0 where
  pub as_many : length tables ≡ n
  pub counts : (j : ℕ) → j < n → length (slice_index_or tables j []) ≡ count_of p.header (suc j)
  pub each : (j : ℕ) → j < n → AreRead p (suc j) (slice_index_or tables j []) view

-- A writer just began a plot in its file.
pub record HasBegun (w : WriterState) (view : View) : Type 0 where
  pub layout : Layout
  pub memo : List ℕ
  pub id : List ℕ
  pub k : ℕ
  pub stands : Stands w (begun layout memo id k) view
  pub columns : w.columns ≡ []
  pub count : w.count ≡ 0
  pub least : w.least ≡ 0

-- So many tables were read and added to a writer that had just begun.
pub record HasCopiedTables (p : PlotState) (n : ℕ) (before after : WriterState) (old new : View) : Type 0 where
  pub tables : List (List ℕ)
  pub are_read : AreTablesRead p n tables old
  pub columns : length after.columns ≡ n
  pub count : after.count ≡ 0
  pub least : after.least ≡ 0
  pub stands : (l : Layout) (memo id : List ℕ) (k : ℕ) → Stands before (begun l memo id k) old → Stands after (filled l memo id k tables) new

-- ---- the start

-- why the new file was not begun
abbrev pub IsCopyStartCause : List ℕ → View → View → ConvertFault → Type 0
IsCopyStartCause name old new Exists = WasThere name old × ChangesOnly Nothing Nothing old new
IsCopyStartCause name old new DiskFailed = Rose old.faults new.faults
IsCopyStartCause name old new (IsDamaged d) = ⊥
IsCopyStartCause name old new Memory = Unit {0}

-- The file of this name was made and begun, or was not. Whatever was answered, each image of it is tiny or has a closed gate.
pub record IsCopyStart {X : Type 0} (name : List ℕ) (result : Result X ConvertFault) (old new : View) : Type 0 where
  pub kept : ChangesOnly (Just name) Nothing old new
  pub there : IsSome (old.contents name) → ChangesOnly Nothing Nothing old new
  pub images : old.contents name ≡ None → EachImage name IsTinyOrShut old new
  pub cause : IfErr result (IsCopyStartCause name old new)
  pub quiet : SameFaultsBut DiskFailed result old new

-- The name was absent, and a writer stands for the plot's id and size with no numbers, in a file of this name that was not
-- open before.
pub record HasStartedCopy (p : PlotState) (memo name : List ℕ) (w : WriterState) (old new : View) : Type 0 where
  pub absent : old.contents name ≡ None
  pub fresh : old.is_live w.file ≡ false
  pub begins : IsBegun w.file Two p.header.size w
  pub stands : Stands w (begun Two memo p.header.id.0 p.header.size) new
  pub named : (n : List ℕ) → NameOf w.file new n → n ≡ name
  pub told : new.tells ≡ true → NameOf w.file new name
