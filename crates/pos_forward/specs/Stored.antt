-- The records that rows and drafts are kept as.
use Rattle.std.specs.Prelude.{ℕ}
use Rattle.pos_record.specs.declared.kinds.First.{First}
use Rattle.pos_record.specs.declared.kinds.Value.{Value}
use Rattle.pos_record.specs.declared.kinds.Row.{Row}
use Rattle.pos_record.specs.declared.kinds.Pair.{Pair}
use Rattle.pos_record.specs.declared.kinds.Number.{Number}
use Rattle.pos_forward.specs.declared.drafts.Draft.{Draft}

-- the value of a row of table 1
abbrev pub first_value : First → Value
first_value r = record { x = r.x }

-- the places that a draft is made of, its y, and the whole of it as a row of table t
abbrev pub draft_pair_record : Draft → Pair
draft_pair_record d = record { left = d.left; right = d.right }

abbrev pub draft_number : Draft → Number
draft_number d = record { number = d.y }

abbrev pub draft_row : (t : ℕ) → Draft → Row t
draft_row t d = record { y = d.y; high = d.high; low = d.low; left = d.left; right = d.right }
