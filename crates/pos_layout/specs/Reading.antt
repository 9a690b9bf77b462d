-- What reading a file that opens finds: a number, a park's head, how many numbers of a park lie below a limit, or the
-- first damage on the way. Whatever the other bytes are.
-- Source: this project's plot file format. Offsets and lengths are in bytes, tables count from 1 to 7, parks and places from 0.
use Rattle.std.specs.Prelude.{ℕ, ◌+◌, ◌-◌, ◌*◌, ◌/◌, ◌%◌, ◌^◌, ◌==◌, ◌&&◌, ◌||◌, not, nat_le, nat_lt, Bool, if◌then◌else◌, List, take, slice_index, count_by, Result, Ok, Err}
use Rattle.std.specs.Option.{ok_or}
use Rattle.std.specs.Str.{bytes_eq}
use Rattle.sha2.specs.Sha256.{sha256}
use Rattle.pos_rice.specs.Reading.{numbers_in}
use Rattle.pos_layout.specs.declared.header.Header.{Header}
use Rattle.pos_layout.specs.declared.entry.ParkEntry.{ParkEntry}
use Rattle.pos_layout.specs.declared.damage.Damage.{Damage}
use Rattle.pos_layout.specs.declared.damage.Damage.TheVariants.{Directory, Digest, Form as WrongForm, Pointer}
use Rattle.pos_layout.specs.Layouts.{Layout, full_of, digest_of, longest_park, park_count}
use Rattle.pos_layout.specs.Lists.{points_inside}
use Rattle.pos_lists.specs.PlotLists.{f7_in}
use Rattle.pos_layout.specs.Fields.{header_in, count_of, directory_of, end_of, entry_in, park_in}

-- a value that passed a test, or the damage that the test shows
abbrev pub tested : {X : Type 0} → Bool → Damage → X → Result X Damage
tested holds d x = if holds then Ok x else Err d

-- what is done with a value, where there was no damage on the way to it
abbrev pub then_read : {X Y : Type 0} → Result X Damage → (X → Result Y Damage) → Result Y Damage
then_read (Ok x) f = f x
then_read (Err d) f = Err d

-- Whether an entry can be that of a park of table t: its length can be that of a park, its park is inside the table, its
-- count is that of the park, and its head is 0 but in table 7.
unfoldable pub is_listed : Layout → Header → ℕ → ℕ → ParkEntry → Bool
is_listed l h t park e =
    nat_le 1 e.park_length && nat_le e.park_length (longest_park l h.size)
    && (nat_le (end_of l h (t - 1)) e.offset && nat_le (e.offset + e.park_length) (directory_of h t))
    && (e.count == park_count l (count_of h t) park) && ((t == 7) || (e.head == 0))

-- the entry of a park of table t
unfoldable pub read_entry : Layout → List ℕ → ℕ → ℕ → Result ParkEntry Damage
read_entry l b t park = tested (is_listed l (header_in b) t park (entry_in l b t park)) (Directory t park) (entry_in l b t park)

-- whether the head of table 7's park is the f7 of its first number
abbrev pub is_headed : Header → ℕ → ParkEntry → List ℕ → Bool
is_headed h t e ns = not (t == 7) || (e.head == f7_in h.size (slice_index ns 0))

-- the numbers of a park by its entry: the digest is tested, then the park itself, then the head
unfoldable pub numbers_by : Layout → Header → ℕ → ℕ → ParkEntry → List ℕ → Result (List ℕ) Damage
numbers_by l h t park e s =
    then_read (tested (bytes_eq (take (digest_of l) (sha256 s)) e.digest) (Digest t park) s) (λ s.
    then_read (ok_or (numbers_in h.size e.count s) (WrongForm t park)) (λ ns.
    tested (is_headed h t e ns) (Directory t park) ns))

-- the numbers of a park of table t
unfoldable pub read_park : Layout → List ℕ → ℕ → ℕ → Result (List ℕ) Damage
read_park l b t park =
    then_read (read_entry l b t park) (λ e. numbers_by l (header_in b) t park e (park_in b e))

-- number i of table t
unfoldable pub num : Layout → List ℕ → ℕ → ℕ → Result ℕ Damage
num l b t i =
    let h = header_in b in
    then_read (read_park l b t (i / full_of l)) (λ ns. let n = slice_index ns (i % full_of l) in
    tested (points_inside h.size t (count_of h (t - 1)) n) (Pointer t i) n)

-- the head of a park of table 7
unfoldable pub head : Layout → List ℕ → ℕ → Result ℕ Damage
head l b park = then_read (read_entry l b 7 park) (λ e. Ok e.head)

-- how many numbers of a park of table 7 have an f7 below this one
unfoldable pub under : Layout → List ℕ → ℕ → ℕ → Result ℕ Damage
under l b park f7 =
    then_read (read_park l b 7 park) (λ ns. Ok (count_by (λ n. nat_lt n (f7 * 2 ^ ((header_in b).size + 1))) ns))
