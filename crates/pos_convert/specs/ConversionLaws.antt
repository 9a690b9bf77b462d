-- What follows from the contract of a conversion, whatever the code.
use Rattle.std.specs.Prelude.{ℕ, ◌≡◌, List, None, Result, Ok, Err}
use Rattle.pos_edge.specs.Faults.{Rose}
use Rattle.pos_edge.specs.View.{View}
use Rattle.pos_lists.specs.PlotLists.{PlotLists}
use Rattle.pos_layout.specs.declared.damage.Damage.{Damage}
use Rattle.pos_layout.specs.Fields.{layout_in}
use Rattle.pos_layout.specs.Rules.{Well}
use Rattle.pos_reader.specs.Plots.{PlotState, IsPlotFile}
use Rattle.pos_convert.specs.declared.fault.ConvertFault.{ConvertFault}
use Rattle.pos_convert.specs.declared.fault.ConvertFault.TheVariants.{Damage as IsDamaged, Memory}
use Rattle.pos_convert.specs.Conversions.{IsConversion, IsConverted, IsFileStop}

-- at most one file is that which another one is converted to with a memo
abbrev pub OneConverted : Type 0
OneConverted = (memo b c d : List ℕ) → IsConverted memo b c → IsConverted memo b d → c ≡ d

-- what a whole file is converted to has the same lists
abbrev pub KeepsLists : Type 0
KeepsLists = (memo b c : List ℕ) (p : PlotLists) → Well (layout_in b) b p → (is : IsConverted memo b c) → is.plot ≡ p

-- a file has at most one first damage,
abbrev pub OneStop : Type 0
OneStop = (b : List ℕ) (d e : Damage) → IsFileStop (layout_in b) b d → IsFileStop (layout_in b) b e → d ≡ e

-- and one that has a damage is converted to nothing
abbrev pub NoneWhereDamaged : Type 0
NoneWhereDamaged = (memo b c : List ℕ) (d : Damage) → IsConverted memo b c → ¬ IsFileStop (layout_in b) b d

-- A plot's file is the whole file of some lists, and a name is absent.
pub record CanConvert (p : PlotState) (name b : List ℕ) (view : View) : Type 0 where
  pub holds : IsPlotFile p b view
  pub lists : PlotLists
  pub well : Well (layout_in b) b lists
  pub absent : view.contents name ≡ None

-- a conversion went well, or there was not enough memory
abbrev pub IsDone : Result ℕ ConvertFault → Type 0
IsDone (Ok total) = Unit {0}
IsDone (Err Memory) = Unit {0}
IsDone _ = ⊥

-- such a file is converted where the disk did not fail and there was enough memory
abbrev pub CanConvertIsConverted : View → View → Type 0
CanConvertIsConverted old new = (p q : PlotState) (memo name b : List ℕ) (result : Result ℕ ConvertFault) → CanConvert p name b old
    → IsConversion p q memo name result old new → (¬ Rose old.faults new.faults) → IsDone result

-- the answers where a file has a damage, if the disk did not fail
abbrev pub SaysDamage : List ℕ → Result ℕ ConvertFault → Type 0
SaysDamage b (Err (IsDamaged d)) = IsFileStop (layout_in b) b d
SaysDamage b (Err Memory) = Unit {0}
SaysDamage b _ = ⊥

-- just these are given of a file that has one, over an absent name
abbrev pub DamageIsSaid : View → View → Type 0
DamageIsSaid old new = (p q : PlotState) (memo name b : List ℕ) (d : Damage) (result : Result ℕ ConvertFault) → IsPlotFile p b old
    → IsFileStop (layout_in b) b d → old.contents name ≡ None → IsConversion p q memo name result old new
    → (¬ Rose old.faults new.faults) → SaysDamage b result
