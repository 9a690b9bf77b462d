-- The bytes of the plot file of an id, and what a crash may leave of it that opens.
-- Source: this project's plot file format. Sizes are k, tables count from 1 to 7.
use Rattle.std.specs.Prelude.{ℕ, ◌-◌, ◌≤◌, ◌≡◌, List, [], length, slice_index, Option, Some, None}
use Rattle.pos_bits.specs.Bits.{AreBytes}
use Rattle.pos_edge.specs.View.{View}
use Rattle.pos_edge.specs.Images.{IsOnlyImage}
use Rattle.pos_lists.specs.PlotLists.{PlotLists, count}
use Rattle.pos_layout.specs.Fields.{layout_in, memo_in}
use Rattle.pos_layout.specs.declared.layout.Layout.{Layout}
use Rattle.pos_layout.specs.declared.layout.Layout.TheVariants.{Two}
use Rattle.pos_layout.specs.Rules.{Opens, Well}
use Rattle.pos_laws.specs.PlotOf.{PlotOf}
use Rattle.pos_plot.specs.declared.run.Counts.{Counts}

-- these are the bytes of a whole file of the plot of an id and a size, in its own layout
pub record IsFileOfPlot (b id : List ℕ) (k : ℕ) : Type 0 where
  pub bytes : AreBytes b
  pub plot : PlotLists
  pub well : Well (layout_in b) b plot
  pub plot_of : PlotOf plot id k

-- so, in this layout and with this memo
pub record IsFileWith (l : Layout) (memo b id : List ℕ) (k : ℕ) : Type 0 where
  pub of_plot : IsFileOfPlot b id k
  pub layout : layout_in b ≡ l
  pub memo_is : memo_in b ≡ memo

-- in the second layout without a memo, which is what new plots have
abbrev pub IsNew : List ℕ → List ℕ → ℕ → Type 0
IsNew b id k = IsFileWith Two [] b id k

-- what opens is the file of the plot of this id and size, in this layout and with this memo
abbrev pub OpensAs : Layout → List ℕ → List ℕ → ℕ → Option (List ℕ) → Type 0
OpensAs l memo id k None = Unit {0}
OpensAs l memo id k (Some b) = Opens (layout_in b) b → IsFileWith l memo b id k

-- Under this name stands the file of the plot of an id and a size in a layout, with a memo, and a crash leaves just it. The
-- counts are how many numbers each of its tables has, and how many bytes it has.
pub record IsLeftPlot (l : Layout) (memo id : List ℕ) (k : ℕ) (name : List ℕ) (counts : Counts) (view : View) : Type 0 where
  pub file : List ℕ
  pub contents : view.contents name ≡ Some file
  pub only : IsOnlyImage name (Some file) view
  pub of_plot : IsFileWith l memo file id k
  pub numbers : (t : ℕ) → 1 ≤ t → t ≤ 7 → slice_index counts.tables (t - 1) ≡ count of_plot.of_plot.plot t
  pub bytes : counts.length ≡ length file
