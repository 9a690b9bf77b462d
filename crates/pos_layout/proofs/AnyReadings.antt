-- Whatever the bytes of a file are, a number that is read points inside.
use Rattle.std.proofs.Common.{◌≡◌, ℕ, ◌-◌, ◌/◌, ◌%◌, ◌^◌, ◌<◌, Bool, true, false, slice_index, Result, Ok, Err, refl, ap, subst, ltb-true}
use Rattle.std.proofs.lemmas.Bool.{false≢true}
use Rattle.pos_lists.specs.Pairs.{greater}
use Rattle.pos_layout.specs.declared.damage.Damage.{Damage}
use Rattle.pos_layout.specs.declared.damage.Damage.TheVariants.{Pointer}
use Rattle.pos_layout.specs.Fields.{count_of, header_in}
use Rattle.pos_layout.specs.Layouts.{full_of}
use Rattle.pos_layout.specs.Lists.{points_inside}
use Rattle.pos_layout.specs.Reading.{tested, then_read, read_park, num}
use Rattle.pos_layout.specs.ReadingLaws.{NumbersPointInside, AnyFileReadsValues}

-- whether a result is Ok
went_well : {X : Type 0} → Result X Damage → Bool
went_well (Ok x) = true
went_well (Err d) = false

-- what was read after another thing was read after it
read_before : {X Y : Type 0} (r : Result X Damage) (f : X → Result Y Damage) (y : Y) → then_read r f ≡ Ok y → (x : X) × (f x ≡ Ok y)
unfolding went_well
read_before (Ok x) f y e = (x, e)
read_before (Err d) f y e = absurd (false≢true (ap went_well e))

-- a value that passed a test
passed : (holds : Bool) (d : Damage) (n m : ℕ) → tested holds d n ≡ Ok m → (holds ≡ true) × (n ≡ m)
unfolding went_well
passed true d n m e = (refl, cc)
passed false d n m e = absurd (false≢true (ap went_well e))

pub numbers_point_inside : NumbersPointInside
unfolding num
numbers_point_inside l b t i n e =
    let found = read_before (read_park l b t (i / full_of l))
    (λ ns. tested (points_inside (header_in b).size t (count_of (header_in b) (t - 1)) (slice_index ns (i % full_of l))) (Pointer t i) (slice_index ns (i % full_of l)))
    n e in
    let test = passed (points_inside (header_in b).size t (count_of (header_in b) (t - 1)) (slice_index found.0 (i % full_of l))) (Pointer t i)
    (slice_index found.0 (i % full_of l)) n found.1 in
    subst (λ v. points_inside (header_in b).size t (count_of (header_in b) (t - 1)) v ≡ true) test.1 test.0

-- of table 1
below_values : (k before n : ℕ) → points_inside k 1 before n ≡ true → greater n < 2 ^ k
unfolding points_inside
below_values k before n e = ltb-true _ _ e

pub any_file_reads_values : AnyFileReadsValues
any_file_reads_values l b i n e =
    below_values (header_in b).size (count_of (header_in b) (1 - 1)) n (numbers_point_inside l b 1 i n e)
