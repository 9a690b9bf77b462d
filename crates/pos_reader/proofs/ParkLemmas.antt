-- The tests of a park, one after another, and line points below a limit.
use Rattle.std.proofs.Common.{◌≡◌, ℕ, ◌+◌, ◌-◌, ◌*◌, ◌/◌, ◌%◌, ◌^◌, ◌<◌, ◌≤◌, ◌≢◌, nat_lt, ◌||◌, refl, sym, ◌∙◌, arith, Bool, true, false, ◌&&◌, List, take, slice_index, Some, None, Ok, Err, inl, inr, add-one, pow-suc}
use Rattle.std.specs.Str.{bytes_eq}
use Rattle.std.proofs.lemmas.Bool.{false≢true, cases_lt}
use Rattle.std.proofs.lemmas.Bool.Decides.{nat_tests}
use Rattle.sha2.specs.Sha256.{sha256}
use Rattle.pos_lists.specs.Pairs.{greater}
use Rattle.pos_layout.proofs.LawsPoints.{inside_by_count}
use Rattle.pos_rice.specs.Reading.{numbers_in}
use Rattle.pos_layout.specs.declared.header.Header.{Header}
use Rattle.pos_layout.specs.declared.entry.ParkEntry.{ParkEntry}
use Rattle.pos_layout.specs.declared.damage.Damage.TheVariants.{Directory, Digest, Form as WrongForm}
use Rattle.pos_layout.specs.declared.layout.Layout.{Layout}
use Rattle.pos_layout.specs.Layouts.{digest_of}
use Rattle.pos_layout.specs.Lists.{points_inside}
use Rattle.pos_lists.specs.PlotLists.{f7_in}
use Rattle.pos_reader.proofs.HeaderLemmas.{eq_true, eq_false}
use Rattle.pos_layout.specs.Reading.{is_headed, numbers_by}

-- ---- the numbers of a park by its entry

-- the park's digest is the entry's
abbrev pub is_digest : Layout → ParkEntry → List ℕ → Bool
is_digest l e s = bytes_eq (take (digest_of l) (sha256 s)) e.digest

pub numbers-digest : (h : Header) (t park : ℕ) (e : ParkEntry) (s : List ℕ) → is_digest h.layout e s ≡ false → numbers_by h.layout h t park e s ≡ Err (Digest t park)
unfolding numbers_by
numbers-digest h t park e s wrong = rw wrong refl

pub numbers-form : (h : Header) (t park : ℕ) (e : ParkEntry) (s : List ℕ) → is_digest h.layout e s ≡ true → numbers_in h.size e.count s ≡ None → numbers_by h.layout h t park e s ≡ Err (WrongForm t park)
unfolding numbers_by
numbers-form h t park e s right none = rw (right, none) refl

pub numbers-head : (h : Header) (t park : ℕ) (e : ParkEntry) (s ns : List ℕ) → is_digest h.layout e s ≡ true → numbers_in h.size e.count s ≡ Some ns → is_headed h t e ns ≡ false → numbers_by h.layout h t park e s ≡ Err (Directory t park)
unfolding numbers_by
numbers-head h t park e s ns right some wrong = rw (right, some, wrong) refl

pub numbers-all : (h : Header) (t park : ℕ) (e : ParkEntry) (s ns : List ℕ) → is_digest h.layout e s ≡ true → numbers_in h.size e.count s ≡ Some ns → is_headed h t e ns ≡ true → numbers_by h.layout h t park e s ≡ Ok ns
unfolding numbers_by
numbers-all h t park e s ns right some headed = rw (right, some, headed) refl

-- ---- line points below a limit

pub lt_true : (m n : ℕ) → m < n → nat_lt m n ≡ true
lt_true m n e = grind (arith, nat_tests)

pub lt_false : (m n : ℕ) → n ≤ m → nat_lt m n ≡ false
lt_false m n e = grind (arith, nat_tests)

-- the greater number of a line point's pair is below the limit exactly where the point is below the first point of the limit
pub point_below : (s limit : ℕ) → nat_lt s (limit * (limit - 1) / 2) ≡ nat_lt (greater s) limit
point_below s limit = elim (cases_lt (greater s) limit) [
  | inl less ↦ lt_true _ _ ((inside_by_count s limit).0 less) ∙ sym (lt_true _ _ less)
  | inr most ↦ lt_false _ _ (above most) ∙ sym (lt_false _ _ most)
]
  where
    above : limit ≤ greater s → limit * (limit - 1) / 2 ≤ s
    above most = elim (cases_lt s (limit * (limit - 1) / 2)) [
      | inl less ↦ let below = (inside_by_count s limit).1 less in absurd (omega arith)
      | inr more ↦ more
    ]

-- ---- the head of a park

pub headed_elsewhere : (h : Header) (t : ℕ) (e : ParkEntry) (ns : List ℕ) → t ≢ 7 → is_headed h t e ns ≡ true
headed_elsewhere h t e ns apart = rw (eq_false t 7 apart) refl

pub headed_right : (h : Header) (t : ℕ) (e : ParkEntry) (ns : List ℕ) → e.head ≡ f7_in h.size (slice_index ns 0) → is_headed h t e ns ≡ true
headed_right h t e ns same = or_last _ _ (eq_true _ _ same)
  where
    or_last : (a b : Bool) → b ≡ true → (a || b) ≡ true
    or_last true b e = refl
    or_last false b e = e

pub headed_wrong : (h : Header) (t : ℕ) (e : ParkEntry) (ns : List ℕ) → t ≡ 7 → e.head ≢ f7_in h.size (slice_index ns 0) → is_headed h t e ns ≡ false
headed_wrong h t e ns seven wrong = rw (eq_true t 7 seven) (eq_false _ _ wrong)

-- ---- where a number points

pub twice_values : (k : ℕ) → 2 * 2 ^ k ≡ 2 ^ (k + 1)
twice_values k = let e = pow-suc 2 k in rw add-one (omega arith)

pub pointed_first : (k t before n : ℕ) → t ≡ 1 → points_inside k t before n ≡ nat_lt (greater n) (2 ^ k)
unfolding points_inside
pointed_first k t before n one = rw one refl

pub pointed_middle : (k t before n : ℕ) → t ≢ 1 → t ≢ 7 → points_inside k t before n ≡ nat_lt (greater n) before
unfolding points_inside
pointed_middle k t before n first last = rw (eq_false t 7 last, eq_false t 1 first) refl

pub pointed_last : (k t before n values : ℕ) → t ≡ 7 → values ≡ 2 ^ k → points_inside k t before n ≡ (nat_lt (n / (2 * values)) values && nat_lt (n % (2 * values)) before)
unfolding points_inside
pointed_last k t before n values last are = rw (last, are, twice_values k) refl

pub and_first : (a b : Bool) → a ≡ true → (a && b) ≡ b
and_first true b e = refl
and_first false b e = absurd (false≢true e)

pub and_fails : (a b : Bool) → a ≡ false → (a && b) ≡ a
and_fails true b e = absurd (false≢true (sym e))
and_fails false b e = refl
