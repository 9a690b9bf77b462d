-- What reading finds, by what the tests on the way to it find.
use Rattle.std.proofs.Common.{◌≡◌, ◌≢◌, ℕ, ◌+◌, ◌-◌, ◌*◌, ◌/◌, ◌%◌, ◌^◌, ◌≤◌, ◌==◌, ◌&&◌, ◌||◌, nat_lt, nat_le, Bool, true, false, List, take, slice_index, count_by, Some, Ok, refl, sym, arith}
use Rattle.std.specs.Str.{bytes_eq}
use Rattle.std.proofs.lemmas.Bool.{false≢true}
use Rattle.std.proofs.lemmas.Bool.Decides.{nat_tests}
use Rattle.std.proofs.lemmas.Slice.Eq.{bytes_eq-Decides}
use Rattle.sha2.specs.Sha256.{sha256}
use Rattle.pos_rice.specs.Reading.{numbers_in}
use Rattle.pos_lists.specs.Pairs.{greater}
use Rattle.pos_lists.specs.PlotLists.{f7_in}
use Rattle.pos_layout.specs.declared.header.Header.{Header}
use Rattle.pos_layout.specs.declared.entry.ParkEntry.{ParkEntry}
use Rattle.pos_layout.specs.declared.damage.Damage.{Damage}
use Rattle.pos_layout.specs.declared.damage.Damage.TheVariants.{Pointer}
use Rattle.pos_layout.specs.Bytes.{part}
use Rattle.pos_layout.specs.Layouts.{Layout, full_of, digest_of, longest_park, park_count}
use Rattle.pos_layout.specs.Fields.{count_of, directory_of, end_of, header_in}
use Rattle.pos_layout.specs.Lists.{points_inside}
use Rattle.pos_layout.specs.Reading.{tested, is_listed, is_headed, numbers_by, read_entry, read_park, num, head, under}

pub eq_true : (m n : ℕ) → m ≡ n → (m == n) ≡ true
eq_true m n e = grind (arith, nat_tests)

pub eq_false : (m n : ℕ) → m ≢ n → (m == n) ≡ false
eq_false m n e = grind (arith, nat_tests)

pub eq_means : (m n : ℕ) → (m == n) ≡ true → m ≡ n
eq_means m n e = grind (arith, nat_tests)

pub le_true : (m n : ℕ) → m ≤ n → nat_le m n ≡ true
le_true m n e = grind (arith, nat_tests)

pub both : (a b : Bool) → a ≡ true → b ≡ true → (a && b) ≡ true
both true b x y = y
both false b x y = x

and_true : (a b : Bool) → a ≡ true → (a && b) ≡ b
and_true true b e = refl
and_true false b e = absurd (false≢true e)

pub or_true : (a b : Bool) → a ≡ true → (a || b) ≡ a
or_true true b e = refl
or_true false b e = absurd (false≢true e)

pub or_false : (a b : Bool) → a ≡ false → (a || b) ≡ b
or_false true b e = absurd (false≢true (sym e))
or_false false b e = refl

-- where all else holds, the head decides
pub listed_by_head : (l : Layout) (h : Header) (t park : ℕ) (e : ParkEntry) → 1 ≤ e.park_length → e.park_length ≤ longest_park l h.size
    → end_of l h (t - 1) ≤ e.offset → e.offset + e.park_length ≤ directory_of h t → e.count ≡ park_count l (count_of h t) park
    → is_listed l h t park e ≡ ((t == 7) || (e.head == 0))
unfolding is_listed
listed_by_head l h t park e some short after inside count =
    and_true _ _ (both _ _ (both _ _ (both _ _ (le_true _ _ some) (le_true _ _ short)) (both _ _ (le_true _ _ after) (le_true _ _ inside))) (eq_true _ _ count))

pub park_found : (l : Layout) (b s : List ℕ) (h : Header) (t park : ℕ) (e : ParkEntry) → h ≡ header_in b → read_entry l b t park ≡ Ok e → s ≡ part b e.offset e.park_length → read_park l b t park ≡ numbers_by l h t park e s
unfolding read_park
park_found l b s h t park e same found are = rw (found, same, are) refl

pub same_bytes : (xs ys : List ℕ) → xs ≡ ys → bytes_eq xs ys ≡ true
same_bytes xs ys e = (bytes_eq-Decides xs ys).1 e

pub numbers-all : (l : Layout) (h : Header) (t park : ℕ) (e : ParkEntry) (s ns : List ℕ) → bytes_eq (take (digest_of l) (sha256 s)) e.digest ≡ true → numbers_in h.size e.count s ≡ Some ns → is_headed h t e ns ≡ true → numbers_by l h t park e s ≡ Ok ns
unfolding numbers_by
numbers-all l h t park e s ns right some headed = rw (right, some, headed) refl

pub headed_elsewhere : (h : Header) (t : ℕ) (e : ParkEntry) (ns : List ℕ) → t ≢ 7 → is_headed h t e ns ≡ true
headed_elsewhere h t e ns apart = rw (eq_false t 7 apart) refl

pub headed_right : (h : Header) (t : ℕ) (e : ParkEntry) (ns : List ℕ) → e.head ≡ f7_in h.size (slice_index ns 0) → is_headed h t e ns ≡ true
headed_right h t e ns same = or_last _ _ (eq_true _ _ same)
  where
    or_last : (a b : Bool) → b ≡ true → (a || b) ≡ true
    or_last true b e = refl
    or_last false b e = e

pub pointed_first : (k t before n : ℕ) → t ≡ 1 → points_inside k t before n ≡ nat_lt (greater n) (2 ^ k)
unfolding points_inside
pointed_first k t before n one = rw one refl

pub head_found : (l : Layout) (b : List ℕ) (park : ℕ) (e : ParkEntry) → read_entry l b 7 park ≡ Ok e → head l b park ≡ Ok e.head
unfolding head
head_found l b park e found = rw found refl

pub num_found : (l : Layout) (b ns : List ℕ) (h : Header) (t i : ℕ) → h ≡ header_in b → read_park l b t (i / full_of l) ≡ Ok ns
    → num l b t i ≡ tested (points_inside h.size t (count_of h (t - 1)) (slice_index ns (i % full_of l))) (Pointer t i) (slice_index ns (i % full_of l))
unfolding num
num_found l b ns h t i same found = rw (found, same) refl

pub under_found : (l : Layout) (b ns : List ℕ) (h : Header) (park f7 : ℕ) → h ≡ header_in b → read_park l b 7 park ≡ Ok ns
    → under l b park f7 ≡ Ok (count_by (λ n. nat_lt n (f7 * 2 ^ (h.size + 1))) ns)
unfolding under
under_found l b ns h park f7 same found = rw (found, same) refl

pub tested_true : {X : Type 0} (holds : Bool) (d : Damage) (x : X) → holds ≡ true → tested holds d x ≡ Ok x
tested_true true d x e = refl
tested_true false d x e = absurd (false≢true e)
