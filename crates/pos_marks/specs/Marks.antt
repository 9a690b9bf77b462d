-- What marks stand for: a test of places, which is true at exactly the marked ones. Places count from 0.
-- A page has 65,536 bytes, a bit for each of 524,288 places; marks are counted before every 4,096 places.
use Rattle.std.specs.Prelude.{ℕ, ◌+◌, ◌*◌, ◌/◌, ◌^◌, ◌<◌, ◌≤◌, ◌≡◌, Bool, true, false, List, length, slice_index, Some, None}
use Rattle.pos_edge.specs.View.{View}
use Rattle.pos_edge.specs.Frame.{NameOf}
use Rattle.pos_edge.specs.Calls.{IsThere}
use Rattle.pos_lists.specs.Places.{no_place}
use Rattle.pos_lists.specs.Rank.{rank}
use Rattle.pos_marks.specs.declared.set.Marks.{Marks}
use Rattle.pos_marks.specs.Bits.{has_bit}

-- the limit of the places; the number in the scratch file's name, and its FileId
abbrev pub place_count : Marks → ℕ
place_count m = m.places

abbrev pub marks_number : Marks → ℕ
marks_number m = m.number

abbrev pub marks_file : Marks → ℕ
marks_file m = m.file.0

abbrev pub AreUnsealed : Marks → Type 0
AreUnsealed m = m.is_sealed ≡ false

abbrev pub AreSealed : Marks → Type 0
AreSealed m = m.is_sealed ≡ true

-- the same limit and the same file
pub record SameMarks (old new : Marks) : Type 0 where
  pub places : place_count new ≡ place_count old
  pub number : marks_number new ≡ marks_number old
  pub file : marks_file new ≡ marks_file old

-- how many pages n places fill
abbrev pub page_count : ℕ → ℕ
page_count n = (n + 524287) / 524288

-- marks that are not sealed: all bits are in memory
pub record AreInMemory (m : Marks) (p : ℕ → Bool) : Type 0 where
  pub room : length m.bits.items ≡ 65536 * page_count m.places
  pub bits : (i : ℕ) → has_bit m.bits.items i ≡ p i
  pub none : m.loaded ≡ None

-- marks that are sealed: over a disk that tells, the bits are in the file, and one page of them is in memory
pub record AreOnPages (m : Marks) (p : ℕ → Bool) (view : View) : Type 0 where
  pub size : 65536 * page_count m.places ≤ view.size_of m.file.0
  pub file : (name bytes : List ℕ) → NameOf m.file.0 view name → view.contents name ≡ Some bytes
      → (i : ℕ) → i < 524288 * page_count m.places → has_bit bytes i ≡ p i
  pub room : length m.page.items ≡ 65536
  pub page : view.tells ≡ true → (q i : ℕ) → m.loaded ≡ Some q → i < 524288 → has_bit m.page.items i ≡ p (524288 * q + i)
  pub counted : 128 * page_count m.places < length m.counts.items
  pub counts : (j : ℕ) → j ≤ 128 * page_count m.places → slice_index m.counts.items j ≡ rank p (4096 * j)

-- The marks are on the disk, and the test is what they stand for. Sealed marks over a disk that doesn't tell may stand for
-- any test of the same ranks at the multiples of 4,096.
pub record Marked (m : Marks) (p : ℕ → Bool) (view : View) : Type 0 where
  pub few : m.places ≤ 2 ^ 52
  pub inside : (i : ℕ) → p i ≡ true → i < m.places
  pub live : view.is_live m.file.0 ≡ true
  pub there : IsThere m.file.0 view
  pub memory : m.is_sealed ≡ false → AreInMemory m p
  pub pages : m.is_sealed ≡ true → AreOnPages m p view

-- marks of n places, none of them marked, in the scratch file of this number
pub record AreNewMarks (n made : ℕ) (m : Marks) (view : View) : Type 0 where
  pub places : place_count m ≡ n
  pub number : marks_number m ≡ made
  pub unsealed : AreUnsealed m
  pub marked : Marked m no_place view
