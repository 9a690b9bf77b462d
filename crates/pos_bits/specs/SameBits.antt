-- What `==` of bit strings answers.
use Rattle.std.specs.Prelude.{◌≡◌, Bool, true, List}
use Rattle.std.specs.Bool.{beq}
use Rattle.std.specs.Cmp.{IsEquivalence, booleans_Decides, decided}
use lib.Pointwise.{pointwise, pointwise_decides}

-- two strings are as long, and have the same bit at each place
abbrev pub same_bits : List Bool → List Bool → Bool
same_bits s t = pointwise beq s t

-- it tells exactly whether two strings are equal
pub same_bits_decides : (s t : List Bool) → (same_bits s t ≡ true → s ≡ t) × (s ≡ t → same_bits s t ≡ true)
same_bits_decides = pointwise_decides booleans_Decides

pub same_bits_equiv : IsEquivalence same_bits
same_bits_equiv = decided same_bits same_bits_decides
