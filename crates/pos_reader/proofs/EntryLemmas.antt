-- What makes an entry one that a park can have.
use Rattle.std.proofs.Common.{◌≡◌, ℕ, suc, ◌+◌, ◌-◌, ◌*◌, ◌<◌, ◌≤◌, ◌==◌, ◌||◌, refl, sym, arith, Bool, true, false, ◌&&◌, List, [], ◌∷◌, length, Ok, Err}
use Rattle.std.proofs.lemmas.Bool.{false≢true}
use Rattle.std.proofs.Math.Nat.{mul-le-mul_left, mul-suc}
use Rattle.std.proofs.lemmas.Bool.Decides.{nat_tests}
use Rattle.pos_layout.specs.declared.header.Header.{Header}
use Rattle.pos_layout.specs.declared.entry.ParkEntry.{ParkEntry}
use Rattle.pos_layout.specs.declared.layout.Layout.TheVariants.{One, Two}
use Rattle.pos_layout.specs.declared.layout.Layout.{Layout}
use Rattle.pos_layout.specs.Layouts.{full_of, entry_bytes, longest_park, park_count, parks_of}
use Rattle.pos_layout.proofs.LayoutLemmas.{full_few, header_layout}
use Rattle.pos_rice.specs.declared.TheConstants.{MOST_NUMBERS}
use Rattle.pos_layout.specs.declared.damage.Damage.{Damage}
use Rattle.pos_layout.specs.Bytes.{part}
use Rattle.pos_layout.specs.Fields.{count_of, directory_of, end_of, entry_in, header_in, layout_in, memo_in}
use Rattle.pos_layout.specs.Reading.{is_listed, numbers_by, read_entry, read_park}
use Rattle.pos_layout.specs.Rules.{IsLaidOut}
use Rattle.pos_reader.specs.ReadingCauses.{IsListed}
use Rattle.pos_reader.specs.Steps.{IsPark, listed}
use Rattle.pos_reader.proofs.HeaderLemmas.{both_left, both_right, end_of-at, end_of-zero, eq_true, eq_means, le_means, le_true}

-- the tests of an entry, each by what it means
pub listed_means : (h : Header) (t park : ℕ) (e : ParkEntry) → is_listed h.layout h t park e ≡ true → IsListed h.layout h t park e
unfolding is_listed
listed_means h t park e all = record {
  some = le_means _ _ (both_left _ _ (both_left _ _ (both_left _ _ (both_left _ _ all))));
  short = le_means _ _ (both_right _ _ (both_left _ _ (both_left _ _ (both_left _ _ all))));
  after = le_means _ _ (both_left _ _ (both_right _ _ (both_left _ _ (both_left _ _ all))));
  inside = le_means _ _ (both_right _ _ (both_right _ _ (both_left _ _ (both_left _ _ all))));
  count = eq_means _ _ (both_right _ _ (both_left _ _ all));
  head = λ apart. eq_means _ _ (either (t == 7) (e.head == 0) (both_right _ _ all) (λ seven. apart (eq_means _ _ seven)));
}
  where
    either : (a b : Bool) → (a || b) ≡ true → (a ≡ true → ⊥) → b ≡ true
    either true b h k = absurd (k refl)
    either false b h k = h

pub both : (a b : Bool) → a ≡ true → b ≡ true → (a && b) ≡ true
both true b x y = y
both false b x y = x

and_true : (a b : Bool) → a ≡ true → (a && b) ≡ b
and_true true b e = refl
and_true false b e = absurd (false≢true e)

pub or_true : (a b : Bool) → a ≡ true → (a || b) ≡ a
or_true true b e = refl
or_true false b e = absurd (false≢true e)

pub or_false : (a b : Bool) → a ≡ false → (a || b) ≡ b
or_false true b e = absurd (false≢true (sym e))
or_false false b e = refl

-- where all else holds, the head decides
pub listed_by_head : (h : Header) (t park : ℕ) (e : ParkEntry) → 1 ≤ e.park_length → e.park_length ≤ longest_park h.layout h.size
    → end_of h.layout h (t - 1) ≤ e.offset → e.offset + e.park_length ≤ directory_of h t → e.count ≡ park_count h.layout (count_of h t) park
    → is_listed h.layout h t park e ≡ ((t == 7) || (e.head == 0))
unfolding is_listed
listed_by_head h t park e some short after inside count =
    and_true _ _ (both _ _ (both _ _ (both _ _ (le_true _ _ some) (le_true _ _ short)) (both _ _ (le_true _ _ after) (le_true _ _ inside))) (eq_true _ _ count))

pub not_true : (b : Bool) → (b ≡ true → ⊥) → b ≡ false
not_true true fails = absurd (fails refl)
not_true false fails = refl

-- ---- a laid out header

-- the memo lies inside the file
pub memo_inside : (h : Header) → IsLaidOut h.layout h → 176 + h.memo_length ≤ h.file_length
memo_inside h laid =
    let placed = laid.placed 1 (omega arith) (omega arith) in
    let after = placed.after in
    let inside = placed.inside in
    let start = end_of-zero h in
    let stop = end_of-at h 1 (omega arith) in
    omega arith

-- no bytes are the memo of a file that has none
pub no_memo_in : (memo b : List ℕ) → length memo ≡ 0 → (header_in b).memo_length ≡ 0 → memo ≡ memo_in b
unfolding part
no_memo_in [] b none zero = rw zero refl
no_memo_in (x ∷ memo) b none zero = absurd (omega arith)

-- the entry of a park that is there lies inside the file
pub entry_inside : (h : Header) (t park : ℕ) → IsLaidOut h.layout h → IsPark h.layout h t park
    → directory_of h t + entry_bytes h.layout * park + entry_bytes h.layout ≤ h.file_length
entry_inside h t park laid is =
    let inside = (laid.placed t is.first is.last).inside in
    let stop = end_of-at h t is.first in
    let there = entries_before h.layout (count_of h t) park is.there in
    omega arith
  where
    entries_before : (l : Layout) (n park : ℕ) → park < parks_of l n → entry_bytes l * park + entry_bytes l ≤ entry_bytes l * parks_of l n
    entries_before l n park there =
        let less : entry_bytes l * suc park ≤ entry_bytes l * parks_of l n = mul-le-mul_left (entry_bytes l) (omega arith) in
        let next : entry_bytes l * suc park ≡ entry_bytes l * park + entry_bytes l = mul-suc (entry_bytes l) park in
        omega arith

-- and it has some numbers, and not too many
pub park_some : (l : Layout) (n park : ℕ) → park < parks_of l n → 1 ≤ park_count l n park
unfolding full_of
park_some One n park there = omega arith
park_some Two n park there = omega arith

pub park_few : (l : Layout) (n park : ℕ) → park_count l n park ≤ MOST_NUMBERS
park_few l n park = let few = full_few l in omega arith

-- ---- an entry in the file

-- what reading an entry finds, by the bytes that were read
pub entry_read : (b s : List ℕ) (h : Header) (t park : ℕ) → h ≡ header_in b → s ≡ part b (directory_of h t + entry_bytes h.layout * park) (entry_bytes h.layout)
    → read_entry (layout_in b) b t park ≡ listed h.layout h t park s
unfolding read_entry entry_in
entry_read b s h t park same are = rw (are, same, header_layout b) refl

-- ---- a park in the file

pub park_refused : (b : List ℕ) (t park : ℕ) (d : Damage) → read_entry (layout_in b) b t park ≡ Err d → read_park (layout_in b) b t park ≡ Err d
unfolding read_park
park_refused b t park d refused = rw refused refl

pub park_found : (b s : List ℕ) (h : Header) (t park : ℕ) (e : ParkEntry) → h ≡ header_in b → read_entry (layout_in b) b t park ≡ Ok e → s ≡ part b e.offset e.park_length → read_park (layout_in b) b t park ≡ numbers_by h.layout h t park e s
unfolding read_park
park_found b s h t park e same found are = rw (found, same, are, header_layout b) refl

pub longest_small : (l : Layout) (k : ℕ) → longest_park l k ≤ 57344
longest_small l k = let few = full_few l in grind (arith, nat_tests)
