-- The bytes of a proof. Source: the Construction document, "proof format"; chiapos, `DiskProver`.
-- A proof has 64 values, each below 2 ^ k; as bits they are 64 * k, which are 8 * k whole bytes.
use Rattle.std.specs.Prelude.{ℕ, ◌≡◌, ◌^◌, ◌<◌, Bool, List, [], ◌∷◌, ◌++◌, length, All}
use Rattle.pos_bits.specs.Bits.{bits, bytes}

-- the values as strings of k bits each, joined
unfoldable pub value_bits : ℕ → List ℕ → List Bool
value_bits k [] = []
value_bits k (x ∷ xs) = bits x k ++ value_bits k xs

-- and as bytes
unfoldable pub value_bytes : ℕ → List ℕ → List ℕ
value_bytes k xs = bytes (value_bits k xs)

-- these bytes write these 64 values of k bits
pub record WritesValues (k : ℕ) (xs : List ℕ) (proof : List ℕ) : Type 0 where
  pub count : length xs ≡ 64
  pub small : All (λ x. x < 2 ^ k) xs
  pub written : proof ≡ value_bytes k xs
