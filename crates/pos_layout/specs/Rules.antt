-- What the bytes of a plot file have to meet, rule by rule.
-- Source: this project's plot file format. Offsets and lengths are in bytes, tables count from 1 to 7, parks from 0.
use Rattle.std.specs.Prelude.{◌≡◌, ℕ, zero, suc, ◌+◌, ◌-◌, ◌*◌, ◌^◌, ◌<◌, ◌≤◌, ◌==◌, if◌then◌else◌, List, length, replicate, take, slice_index}
use Rattle.std.specs.List.Sorted.{IsStrictlyIncreasing}
use Rattle.sha2.specs.Sha256.{sha256}
use Rattle.pos_rice.specs.Park.{Park}
use Rattle.pos_layout.specs.declared.header.Header.{Header}
use Rattle.pos_layout.specs.declared.entry.ParkEntry.{ParkEntry}
use Rattle.pos_layout.specs.declared.header.TheConstants.{HEADER_BYTES, LEAST_SIZE, GREATEST_SIZE}
use Rattle.pos_layout.specs.Bytes.{part}
use Rattle.pos_layout.specs.Layouts.{Layout, name_of, full_of, digest_of, memo_of, zeros_of, longest_park, parks_of}
use Rattle.pos_lists.specs.PlotLists.{PlotLists, numbers, f7_in}
use Rattle.pos_lists.specs.Trees.{IsInRange}
use Rattle.pos_layout.specs.Fields.{gate_in, name_in, zeros_in, header_in, count_of, directory_of, end_of, entry_in, park_in}

-- table t's directory lies after the table before and ends inside the file; a table without numbers has no park
pub record IsPlaced (l : Layout) (h : Header) (t : ℕ) : Type 0 where
  pub after : end_of l h (t - 1) ≤ directory_of h t
  pub inside : end_of l h t ≤ h.file_length
  pub empty : count_of h t ≡ 0 → directory_of h t ≡ end_of l h (t - 1)

-- a header that says of size, memo, counts, offsets and length what can be
pub record IsLaidOut (l : Layout) (h : Header) : Type 0 where
  pub least : LEAST_SIZE ≤ h.size
  pub greatest : h.size ≤ GREATEST_SIZE
  pub memo : h.memo_length ≤ memo_of l
  pub counts : (t : ℕ) → 1 ≤ t → t ≤ 7 → count_of h t ≤ 2 ^ (h.size + 1)
  pub placed : (t : ℕ) → 1 ≤ t → t ≤ 7 → IsPlaced l h t
  pub whole : end_of l h 7 ≡ h.file_length

-- the bytes are a plot file as far as the header shows
pub record Opens (l : Layout) (b : List ℕ) : Type 0 where
  pub long : HEADER_BYTES ≤ length b
  pub gate : gate_in b ≡ 1
  pub name : name_in b ≡ name_of l
  pub zeros : zeros_in l b ≡ replicate (zeros_of l) 0
  pub said : (header_in b).file_length ≡ length b
  pub laid_out : IsLaidOut l (header_in b)

-- the head of a park of table t: the f7 of its first number in table 7, and 0 in the others
abbrev pub head_of : ℕ → ℕ → List ℕ → ℕ
head_of k t ns = if t == 7 then f7_in k (slice_index ns 0) else 0

-- where a park has to begin: at the end of the one before it, and the first at the end of the table before
unfoldable pub park_start : Layout → List ℕ → ℕ → ℕ → ℕ
park_start l b t zero = end_of l (header_in b) (t - 1)
park_start l b t (suc park) = (entry_in l b t park).offset + (entry_in l b t park).park_length

-- the entry of a park of table t says, and its bytes are, the park of these numbers
pub record StoresPark (l : Layout) (b : List ℕ) (t : ℕ) (ns : List ℕ) (e : ParkEntry) : Type 0 where
  pub some : 1 ≤ e.park_length
  pub short : e.park_length ≤ longest_park l (header_in b).size
  pub count : e.count ≡ length ns
  pub head : e.head ≡ head_of (header_in b).size t ns
  pub digest : e.digest ≡ take (digest_of l) (sha256 (park_in b e))
  pub park : Park (header_in b).size ns (park_in b e)

-- table t's parks follow one another up to its directory, and hold these numbers in order
pub record StoresTable (l : Layout) (b : List ℕ) (t : ℕ) (ns : List ℕ) : Type 0 where
  pub count : length ns ≡ count_of (header_in b) t
  pub rising : IsStrictlyIncreasing ns
  pub starts : (park : ℕ) → park < parks_of l (length ns) → (entry_in l b t park).offset ≡ park_start l b t park
  pub ends : park_start l b t (parks_of l (length ns)) ≡ directory_of (header_in b) t
  pub parks : (park : ℕ) → park < parks_of l (length ns) → StoresPark l b t (part ns (full_of l * park) (full_of l)) (entry_in l b t park)

-- the bytes are the whole file of these lists
pub record Stores (l : Layout) (b : List ℕ) (p : PlotLists) : Type 0 where
  pub opens : Opens l b
  pub id : p.id ≡ (header_in b).id.0
  pub size : p.k ≡ (header_in b).size
  pub seven : length p.tables ≡ 7
  pub tables : (t : ℕ) → 1 ≤ t → t ≤ 7 → StoresTable l b t (numbers p t)

-- and no number points outside
pub record Well (l : Layout) (b : List ℕ) (p : PlotLists) : Type 0 where
  pub stores : Stores l b p
  pub in_range : IsInRange p
