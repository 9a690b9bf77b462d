-- Of what a crash may leave of a file that is written, nothing opens but the finished file.
use Rattle.std.proofs.Common.{◌≡◌, ℕ, zero, suc, ◌<◌, ◌⊎◌, inl, inr, List, length, get_or, Some, refl, sym, ◌∙◌, arith}
use Rattle.std.proofs.lemmas.List.{ext_get_or}
use Rattle.pos_layout.specs.Layouts.{Layout}
use Rattle.pos_lists.specs.PlotLists.{PlotLists}
use Rattle.pos_layout.specs.Fields.{header_bytes}
use Rattle.pos_layout.specs.Rules.{Opens}
use Rattle.pos_layout.specs.Files.{file_with, file_of}
use Rattle.pos_layout.specs.Images.{IsTiny, IsShut, IsTinyOrShut, IsButGate, IsShutOr}

pub tiny_is_closed : (l : Layout) (b : List ℕ) → IsTiny (Some b) → Opens l b → ⊥
tiny_is_closed l b tiny opens = let n = opens.long in omega arith

pub shut_is_closed : (l : Layout) (b : List ℕ) → IsShut (Some b) → Opens l b → ⊥
shut_is_closed l b shut opens = let g = opens.gate in let z = shut.1 in omega arith

gate_of_file : (l : Layout) (memo : List ℕ) (p : PlotLists) → get_or (file_of l memo p) 0 0 ≡ 1
unfolding file_with header_bytes
gate_of_file l memo p = refl

pub but_gate_is_the_file : (l m : Layout) (b memo : List ℕ) (p : PlotLists) → IsButGate (file_of l memo p) (Some b) → Opens m b → b ≡ file_of l memo p
but_gate_is_the_file l m b memo p but opens = ext_get_or 0 b (file_of l memo p) but.0 same
  where
    same : (i : ℕ) → i < length b → get_or b i 0 ≡ get_or (file_of l memo p) i 0
    same zero less = opens.gate ∙ sym (gate_of_file l memo p)
    same (suc i) less = but.1 (suc i) (omega arith)

pub image_is_the_file : (l m : Layout) (b memo : List ℕ) (p : PlotLists) → IsTinyOrShut (Some b) ⊎ IsShutOr (file_of l memo p) (Some b) → Opens m b → b ≡ file_of l memo p
image_is_the_file l m b memo p (inl (inl tiny)) opens = absurd (tiny_is_closed m b tiny opens)
image_is_the_file l m b memo p (inl (inr shut)) opens = absurd (shut_is_closed m b shut opens)
image_is_the_file l m b memo p (inr (inl shut)) opens = absurd (shut_is_closed m b shut opens)
image_is_the_file l m b memo p (inr (inr but)) opens = but_gate_is_the_file l m b memo p but opens
