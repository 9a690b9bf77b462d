-- The numbers of a table's entries, in 32 bits or in 64. Source: this project's own. Places count from 0.
use Rattle.std.specs.Prelude.{ℕ, ◌^◌, List}
use Rattle.pos_relocate.specs.declared.numbers.Numbers.{Numbers}
use Rattle.pos_relocate.specs.declared.numbers.Numbers.TheVariants.{Short, Long}

-- the numbers by place
abbrev pub numbers_of : Numbers → List ℕ
numbers_of (Short short) = short.items
numbers_of (Long long) = long.items

-- what each is below
abbrev pub bound_of : Numbers → ℕ
bound_of (Short short) = 2 ^ 32
bound_of (Long long) = 2 ^ 64
