-- The whole file of a plot, as a function of its lists.
-- Source: this project's plot file format. Offsets and lengths are in bytes, tables count from 1 to 7.
use Rattle.std.specs.Prelude.{ℕ, zero, suc, ◌+◌, ◌-◌, ◌/◌, nat_eq, if◌then◌else◌, List, [], ◌∷◌, ◌++◌, length, take, drop}
use Rattle.sha2.specs.Sha256.{sha256}
use Rattle.pos_bits.specs.Bits.{bytes}
use Rattle.pos_rice.specs.Park.{mean_step, park_bits}
use Rattle.pos_layout.specs.declared.header.Column.{Column}
use Rattle.pos_layout.specs.declared.header.Header.{Header}
use Rattle.pos_layout.specs.declared.entry.ParkEntry.{ParkEntry}
use Rattle.pos_layout.specs.Layouts.{Layout, full_of, digest_of}
use Rattle.pos_lists.specs.PlotLists.{PlotLists}
use Rattle.pos_layout.specs.Fields.{header_bytes, entry_fields, after_memo}
use Rattle.pos_layout.specs.Rules.{head_of}

-- how many binary digits a number has, up to so many; 0 has none
unfoldable pub digits_to : ℕ → ℕ → ℕ
digits_to zero n = 0
digits_to (suc most) n = if nat_eq n 0 then 0 else suc (digits_to most (n / 2))

-- how many low bits of each difference the park of these numbers writes as they stand
unfoldable pub low_bits : List ℕ → ℕ
low_bits ns = if nat_eq (length ns) 1 then 0 else digits_to (mean_step ns) (mean_step ns) - 1

-- the park of numbers at size k
unfoldable pub park_of : ℕ → List ℕ → List ℕ
park_of k ns = bytes (park_bits k (low_bits ns) ns)

-- numbers cut into lists of so many, the last one perhaps shorter; at most as many lists as the second number says
unfoldable pub cut : ℕ → ℕ → List ℕ → List (List ℕ)
cut full zero ns = []
cut full (suc most) [] = []
cut full (suc most) (n ∷ ns) = take full (n ∷ ns) ∷ cut full most (drop full (n ∷ ns))

-- the numbers of each park of a table
unfoldable pub parks_in : Layout → List ℕ → List (List ℕ)
parks_in l ns = cut (full_of l) (length ns) ns

-- the parks one after another
unfoldable pub park_bytes : ℕ → List (List ℕ) → List ℕ
park_bytes k [] = []
park_bytes k (ns ∷ parks) = park_of k ns ++ park_bytes k parks

-- what the directory says of a park of table t at this offset
unfoldable pub entry_for : Layout → ℕ → ℕ → ℕ → List ℕ → ParkEntry
entry_for l k t at ns = record {
  offset = at;
  park_length = length (park_of k ns);
  count = length ns;
  digest = take (digest_of l) (sha256 (park_of k ns));
  head = head_of k t ns;
}

-- the directory of the parks that stand one after another from this offset on
unfoldable pub directory : Layout → ℕ → ℕ → ℕ → List (List ℕ) → List ℕ
directory l k t at [] = []
directory l k t at (ns ∷ parks) = entry_fields (entry_for l k t at ns) ++ directory l k t (at + length (park_of k ns)) parks

-- a table that begins at this offset: its parks and its directory
unfoldable pub table_bytes : Layout → ℕ → ℕ → ℕ → List ℕ → List ℕ
table_bytes l k t at ns = park_bytes k (parks_in l ns) ++ directory l k t at (parks_in l ns)

-- tables from t on, from this offset on
unfoldable pub tables_bytes : Layout → ℕ → ℕ → ℕ → List (List ℕ) → List ℕ
tables_bytes l k t at [] = []
tables_bytes l k t at (ns ∷ tables) =
    table_bytes l k t at ns ++ tables_bytes l k (suc t) (at + length (table_bytes l k t at ns)) tables

-- what the header says of these tables
unfoldable pub columns_for : Layout → ℕ → ℕ → ℕ → List (List ℕ) → List Column
columns_for l k t at [] = []
columns_for l k t at (ns ∷ tables) =
    record { count = length ns; directory = at + length (park_bytes k (parks_in l ns)) }
    ∷ columns_for l k (suc t) (at + length (table_bytes l k t at ns)) tables

-- all that comes after the memo
unfoldable pub body_of : Layout → List ℕ → PlotLists → List ℕ
body_of l memo p = tables_bytes l p.k 1 (after_memo memo) p.tables

unfoldable pub header_of : Layout → List ℕ → PlotLists → Header
header_of l memo p = record {
  layout = l;
  id = record { 0 = p.id };
  size = p.k;
  memo_length = length memo;
  columns = columns_for l p.k 1 (after_memo memo) p.tables;
  file_length = after_memo memo + length (body_of l memo p);
}

-- the file with its gate closed or open: 0 or 1
unfoldable pub file_with : Layout → List ℕ → ℕ → PlotLists → List ℕ
file_with l memo gate p = header_bytes l gate (header_of l memo p) ++ (memo ++ body_of l memo p)

-- the file of a plot in this layout, with this memo
abbrev pub file_of : Layout → List ℕ → PlotLists → List ℕ
file_of l memo p = file_with l memo 1 p
