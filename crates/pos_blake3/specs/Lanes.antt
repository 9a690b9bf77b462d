-- Several hashes side by side: each word of a state or a message is a vector, with one lane for each block.
use Rattle.std.specs.Prelude.{ℕ, List, map, slice_index}

-- the state or message of block j: lane j of each vector
unfoldable pub lane : ℕ → List (List ℕ) → List ℕ
lane j x = map (λ (w : List ℕ). slice_index w j) x
