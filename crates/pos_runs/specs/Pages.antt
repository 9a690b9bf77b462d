-- The pages of a list: its records stand bit-packed on pages of 65,536 bytes, one after another in a scratch file.
-- Source: this project's own. Units: a page's place in bytes, a record's in bits.
use Rattle.std.specs.Prelude.{ℕ, ◌+◌, ◌*◌, ◌/◌, ◌^◌, ◌≡◌, ◌≤◌, ◌<◌, Bool, true, false, List, length, take, drop, slice_get, Some}
use Rattle.pos_bits.specs.Bits.{bits_of}
use Rattle.pos_record.specs.Fields.{part_at}
use Rattle.pos_edge.specs.View.{View}
use Rattle.pos_edge.specs.Frame.{NameOf}
use Rattle.pos_edge.specs.Calls.{IsThere}

-- how many records of w bits a page has
abbrev pub per_page : ℕ → ℕ
per_page w = 524288 / w

-- the bytes of page p of a file
abbrev pub page_of : ℕ → List ℕ → List ℕ
page_of p bytes = take 65536 (drop (65536 * p) bytes)

-- A list on pages: its file, the number in that file's name, how many records it has, whether it is sealed, how many
-- pages are written, which page is in memory with how many records of its own, and the bytes of that page.
pub record ListPages : Type 0 where
  pub file : ℕ
  pub number : ℕ
  pub count : ℕ
  pub is_sealed : Bool
  pub written : ℕ
  pub page : ℕ
  pub used : ℕ
  pub bytes : List ℕ

-- while records are pushed, the page in memory is the one behind those that are written
pub record IsFilling (w : ℕ) (s : ListPages) : Type 0 where
  pub page : s.page ≡ s.written
  pub count : s.count ≡ per_page w * s.written + s.used
  pub used : s.used ≤ per_page w

-- What every later call of a list needs: its file is live and there, with the pages that were written. It says nothing
-- of the records.
pub record ListStands (w : ℕ) (s : ListPages) (view : View) : Type 0 where
  pub live : view.is_live s.file ≡ true
  pub there : IsThere s.file view
  pub size : 65536 * s.written ≤ view.size_of s.file
  pub bytes : length s.bytes ≡ 65536
  pub few : s.count ≤ 2 ^ 52
  pub few_pages : per_page w * s.written ≤ s.count + per_page w
  pub filling : s.is_sealed ≡ false → IsFilling w s
  pub sealed : s.is_sealed ≡ true → s.count ≤ per_page w * s.written

-- page p has the records of its places of the list
abbrev pub PageHolds : {R : Type 0} → (List Bool → R) → ℕ → ℕ → List R → List ℕ → Type 0
PageHolds {R} read w p xs bytes = (j : ℕ) (x : R) → j < per_page w → slice_get xs (per_page w * p + j) ≡ Some x → read (part_at (j * w) w (bits_of bytes)) ≡ x

-- the pages of the file that were written have their records
abbrev pub FileHolds : {R : Type 0} → (List Bool → R) → ℕ → ℕ → ℕ → List R → View → Type 0
FileHolds read w file written xs view = (name bytes : List ℕ) → NameOf file view name → view.contents name ≡ Some bytes →
    (p : ℕ) → p < written → PageHolds read w p xs (page_of p bytes)

-- What a list on pages stands for: these records in this order. Of a disk that doesn't tell, their number alone.
pub record ListHolds {R : Type 0} (read : List Bool → R) (w : ℕ) (s : ListPages) (xs : List R) (view : View) : Type 0 where
  pub count : length xs ≡ s.count
  pub file : FileHolds read w s.file s.written xs view
  pub memory : view.tells ≡ true → PageHolds read w s.page xs s.bytes
