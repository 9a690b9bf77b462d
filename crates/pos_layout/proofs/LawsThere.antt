-- A plot with no number is a plot.
use Rattle.std.proofs.Common.{◌≡◌, ℕ, zero, suc, ◌+◌, ◌*◌, ◌^◌, ◌<◌, ◌≤◌, List, [], length, replicate, All, refl, ap, arith}
use Rattle.std.proofs.lemmas.List.{get_or-replicate}
use Rattle.std.proofs.lemmas.List.Elements.{All-nil, All-cons}
use Rattle.pos_bits.specs.Bits.{AreBytes}
use Rattle.pos_layout.specs.declared.header.TheConstants.{LEAST_SIZE, GREATEST_SIZE}
use Rattle.pos_layout.specs.Lists.{IsTable, IsPlot}
use Rattle.pos_lists.specs.Trees.{IsInRange}
use Rattle.pos_lists.specs.PlotLists.{count, numbers}
use Rattle.pos_layout.specs.FileLaws.{bare}

no_table : (k : ℕ) → IsTable k []
no_table k = record { few = omega arith; rising = λ i l. absurd (omega arith); below = All-nil (λ n. n < 2 ^ (2 * k + 2)) }

no_tables : (k n : ℕ) → All (IsTable k) (replicate n [])
no_tables k zero = All-nil (IsTable k)
no_tables k (suc n) = All-cons (IsTable k) [] (replicate n []) (no_table k) (no_tables k n)

none_in : (id : List ℕ) (k t : ℕ) → t < 7 → count (bare id k) (suc t) ≡ 0
unfolding numbers
none_in id k t h = let nothing : List ℕ = [] in ap length (get_or-replicate 7 t nothing nothing h)

pub bare_is_a_plot : (id : List ℕ) (k : ℕ) → length id ≡ 32 → AreBytes id → LEAST_SIZE ≤ k → k ≤ GREATEST_SIZE → IsPlot (bare id k) × IsInRange (bare id k)
bare_is_a_plot id k n bytes_ low high = (
  record { id_length = n; id_bytes = bytes_; least = low; greatest = high; seven = refl; tables = no_tables k 7 },
  record {
    points = λ t i h less. absurd (let e = none_in id k t (omega arith) in omega arith);
    answers = λ i less. absurd (let e = none_in id k 6 (omega arith) in omega arith);
    places = λ i less. absurd (let e = none_in id k 6 (omega arith) in omega arith);
  },
)
