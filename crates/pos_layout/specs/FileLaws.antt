-- What is proved between the plots and the files: a plot has a file, one file alone, and a file has one plot; opening finds
-- nothing exactly where a file opens; nothing that a crash may leave opens but the finished file.
use Rattle.std.specs.Prelude.{◌≡◌, ◌≢◌, ◌↔◌, ℕ, ◌-◌, ◌*◌, ◌/◌, ◌<◌, ◌≤◌, ◌⊎◌, List, [], length, replicate, Some, None}
use Rattle.pos_bits.specs.Bits.{AreBytes}
use Rattle.pos_lists.specs.Pairs.{greater}
use Rattle.pos_layout.specs.declared.header.TheConstants.{LEAST_SIZE, GREATEST_SIZE}
use Rattle.pos_layout.specs.Layouts.{Layout, IsMemo, name_of}
use Rattle.pos_layout.specs.Fields.{name_in, layout_in, header_in, memo_in}
use Rattle.pos_layout.specs.Lists.{IsPlot}
use Rattle.pos_lists.specs.PlotLists.{PlotLists}
use Rattle.pos_lists.specs.Trees.{IsInRange}
use Rattle.pos_layout.specs.Rules.{Opens, Stores, Well}
use Rattle.pos_layout.specs.Files.{file_of}
use Rattle.pos_layout.specs.declared.damage.Damage.{Damage}
use Rattle.pos_layout.specs.Causes.{OpeningCause}
use Rattle.pos_layout.specs.Damages.{opening}
use Rattle.pos_layout.specs.Images.{IsTiny, IsShut, IsTinyOrShut, IsButGate, IsShutOr}

-- ---- the laws speak of something

-- in each layout a file may have no memo
abbrev pub NoMemoIsAMemo : Type 0
NoMemoIsAMemo = (l : Layout) → IsMemo l []

-- an id with no number in any table
abbrev pub bare : List ℕ → ℕ → PlotLists
bare id k = record { id = id; k = k; tables = replicate 7 [] }

-- it is a plot at each size, and in range
abbrev pub BareIsAPlot : Type 0
BareIsAPlot = (id : List ℕ) (k : ℕ) → length id ≡ 32 → AreBytes id → LEAST_SIZE ≤ k → k ≤ GREATEST_SIZE → IsPlot (bare id k) × IsInRange (bare id k)

-- ---- a plot and its file

-- the file of a plot stores it: each park is within its limit, each offset and length fits its field
abbrev pub AFileStoresItsPlot : Type 0
AFileStoresItsPlot = (l : Layout) (memo : List ℕ) (p : PlotLists) → IsMemo l memo → IsPlot p → Stores l (file_of l memo p) p

-- so it is well where the numbers point inside
abbrev pub AFileIsWell : Type 0
AFileIsWell = (l : Layout) (memo : List ℕ) (p : PlotLists) → IsMemo l memo → IsPlot p → IsInRange p → Well l (file_of l memo p) p

-- the memo that it says is the one that it was made with
abbrev pub AFileHasItsMemo : Type 0
AFileHasItsMemo = (l : Layout) (memo : List ℕ) (p : PlotLists) → IsMemo l memo → IsPlot p → memo_in (file_of l memo p) ≡ memo

-- and what it has are bytes
abbrev pub AFileIsBytes : Type 0
AFileIsBytes = (l : Layout) (memo : List ℕ) (p : PlotLists) → IsMemo l memo → IsPlot p → AreBytes (file_of l memo p)

-- what a file of bytes stores is a plot
abbrev pub AStoredPlotIsAPlot : Type 0
AStoredPlotIsAPlot = (l : Layout) (b : List ℕ) (p : PlotLists) → AreBytes b → Stores l b p → IsPlot p

-- a file stores at most one plot
abbrev pub OneStoredPlot : Type 0
OneStoredPlot = (l : Layout) (b : List ℕ) (p q : PlotLists) → Stores l b p → Stores l b q → p ≡ q

-- what stores a plot is the file of the plot with its memo
abbrev pub OneFile : Type 0
OneFile = (l : Layout) (b : List ℕ) (p : PlotLists) → AreBytes b → Stores l b p → b ≡ file_of l (memo_in b) p

-- so at most one file of a layout stores it with a memo
abbrev pub OneFileOfAPlot : Type 0
OneFileOfAPlot = (l : Layout) (b c : List ℕ) (p : PlotLists) → AreBytes b → AreBytes c → Stores l b p → Stores l c p → memo_in b ≡ memo_in c → b ≡ c

-- ---- the layout and the memo

-- the name says the layout
abbrev pub TheNameSaysTheLayout : Type 0
TheNameSaysTheLayout = (l : Layout) (b : List ℕ) → name_in b ≡ name_of l → layout_in b ≡ l

-- a name that is not that of the layout it is read as is the name of none
abbrev pub AnotherNameIsNone : Type 0
AnotherNameIsNone = (l : Layout) (b : List ℕ) → name_in b ≢ name_of (layout_in b) → name_in b ≢ name_of l

-- so what opens in a layout says it in its header
abbrev pub AnOpenFileSaysItsLayout : Type 0
AnOpenFileSaysItsLayout = (l : Layout) (b : List ℕ) → Opens l b → (header_in b).layout ≡ l

-- and its memo is one that the layout allows, as long as the header says
abbrev pub AnOpenFileHasAMemo : Type 0
AnOpenFileHasAMemo = (l : Layout) (b : List ℕ) → AreBytes b → Opens l b → IsMemo l (memo_in b) × (length (memo_in b) ≡ (header_in b).memo_length)

-- ---- opening

-- opening a file as one of a layout, by its own length, finds nothing exactly where it opens in that layout
abbrev pub OpeningFindsNothing : Type 0
OpeningFindsNothing = (l : Layout) (b : List ℕ) → (opening l b (length b) ≡ None) ↔ Opens l b

-- opening a file finds each damage exactly where its cause holds
abbrev pub OpeningFindsTheCause : Type 0
OpeningFindsTheCause = (l : Layout) (b : List ℕ) (d : Damage) → (opening l b (length b) ≡ Some d) ↔ OpeningCause l b d

-- ---- what a crash may leave

-- what opens and is the file of a plot but for the gate is that file
abbrev pub OpensIsTheFile : Type 0
OpensIsTheFile = (l m : Layout) (b memo : List ℕ) (p : PlotLists) → IsButGate (file_of l memo p) (Some b) → Opens m b → b ≡ file_of l memo p

-- with a closed gate nothing opens
abbrev pub ShutDoesNotOpen : Type 0
ShutDoesNotOpen = (l : Layout) (b : List ℕ) → IsShut (Some b) → Opens l b → ⊥

-- nothing of at most one byte opens
abbrev pub TinyDoesNotOpen : Type 0
TinyDoesNotOpen = (l : Layout) (b : List ℕ) → IsTiny (Some b) → Opens l b → ⊥

-- So of all that the calls of a writer may leave of a plot's file, absent, of at most one byte, with a closed gate, or the
-- finished file but for the gate, what opens is the finished file.
abbrev pub OpenImageIsTheFile : Type 0
OpenImageIsTheFile =
    (l m : Layout) (b memo : List ℕ) (p : PlotLists) → IsTinyOrShut (Some b) ⊎ IsShutOr (file_of l memo p) (Some b) → Opens m b → b ≡ file_of l memo p

-- ---- pointers

-- The greater of a line point's pair is below m exactly where the line point is below the count of pairs of numbers below m.
abbrev pub PointsInsideByPairs : Type 0
PointsInsideByPairs = (n m : ℕ) → (greater n < m) ↔ (n < m * (m - 1) / 2)
