-- Eight lists of one base of scratch names, side by side.
use Rattle.std.specs.Prelude.{ℕ, ◌+◌, ◌<◌, ◌≡◌, false, List}
use Rattle.pos_edge.specs.View.{View}
use Rattle.pos_record.specs.Kinds.{value_read, pair_read, pair_width, number_read, number_width}
use Rattle.pos_record.specs.declared.kinds.Value.{Value}
use Rattle.pos_record.specs.declared.kinds.Pair.{Pair}
use Rattle.pos_record.specs.declared.kinds.Number.{Number}
use Rattle.pos_runs.specs.Pages.{ListPages}
use Rattle.pos_runs.specs.Lists.{ListKept}
use Rattle.pos_list_uses.specs.declared.eight.EightLists.{EightLists}

-- the records that eight lists stand for
pub record EightPlainLists : Type 0 where
  pub values : List Value
  pub p2 : List Pair
  pub p3 : List Pair
  pub p4 : List Pair
  pub p5 : List Pair
  pub p6 : List Pair
  pub p7 : List Pair
  pub last : List Number

-- each list was made after the one before it, so that no two numbers of scratch files are one
pub record AreMadeInTurn {K : ℕ} (s : EightLists K) : Type 0 where
  pub second : s.values.number < s.p2.number
  pub third : s.p2.number < s.p3.number
  pub fourth : s.p3.number < s.p4.number
  pub fifth : s.p4.number < s.p5.number
  pub sixth : s.p5.number < s.p6.number
  pub seventh : s.p6.number < s.p7.number
  pub eighth : s.p7.number < s.last.number

-- Each list stands on the disk and holds its records.
pub record AreAllKept (K : ℕ) (base : List ℕ) (s : EightLists K) (xs : EightPlainLists) (view : View) : Type 0 where
  pub in_turn : AreMadeInTurn s
  pub values : ListKept base (value_read K) K s.values xs.values view
  pub p2 : ListKept base (pair_read K) (pair_width K) s.p2 xs.p2 view
  pub p3 : ListKept base (pair_read K) (pair_width K) s.p3 xs.p3 view
  pub p4 : ListKept base (pair_read K) (pair_width K) s.p4 xs.p4 view
  pub p5 : ListKept base (pair_read K) (pair_width K) s.p5 xs.p5 view
  pub p6 : ListKept base (pair_read K) (pair_width K) s.p6 xs.p6 view
  pub p7 : ListKept base (pair_read K) (pair_width K) s.p7 xs.p7 view
  pub last : ListKept base (number_read K) (number_width K) s.last xs.last view

-- so many more records were pushed
pub record HasMore (n : ℕ) (s t : ListPages) : Type 0 where
  pub count : t.count ≡ s.count + n
  pub unsealed : t.is_sealed ≡ false
