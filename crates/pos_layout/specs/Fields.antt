-- The header and the directory entries of a plot file, field by field.
-- Source: this project's plot file format. Offsets and lengths are in bytes, tables count from 1 to 7, parks from 0.
--
-- The header has 176 bytes: gate (byte 0), name (1 to 15), id (16 to 47), size k (48), length of the memo (49 and 50),
-- zeros (51 to 55), for each table the count of its numbers and the offset of its directory (16 bytes each, from 56 on),
-- the file's length (168 to 175). In the first layout the memo is empty, so bytes 49 to 55 are zeros. Behind the header
-- come the memo and then the tables.
-- An entry has the park's offset (bytes 0 to 7), its length (8 to 11), the count of its numbers (12 to 15), the
-- beginning of its SHA-256 (from 16 on), and its head (the last 8 bytes).
use Rattle.std.specs.Prelude.{ℕ, zero, suc, ◌+◌, ◌-◌, ◌*◌, if◌then◌else◌, List, [], ◌∷◌, ◌++◌, length, replicate, slice_index, slice_index_or}
use Rattle.std.specs.Str.{bytes_eq}
use Rattle.pos_layout.specs.declared.layout.Layout.TheVariants.{One, Two}
use Rattle.pos_layout.specs.declared.header.Column.{Column}
use Rattle.pos_layout.specs.declared.header.Header.{Header}
use Rattle.pos_layout.specs.declared.entry.ParkEntry.{ParkEntry}
use Rattle.pos_layout.specs.declared.header.TheConstants.{HEADER_BYTES}
use Rattle.pos_layout.specs.Bytes.{part, two, four, eight, two_at, four_at, eight_at}
use Rattle.pos_layout.specs.Layouts.{Layout, name_of, digest_of, zeros_of, entry_bytes, parks_of}

-- ---- as they are written

unfoldable pub column_bytes : Column → List ℕ
column_bytes c = eight c.count ++ eight c.directory

unfoldable pub columns_bytes : List Column → List ℕ
columns_bytes [] = []
columns_bytes (c ∷ cs) = column_bytes c ++ columns_bytes cs

-- the header of a file of this layout, with this gate
unfoldable pub header_bytes : Layout → ℕ → Header → List ℕ
header_bytes l gate h =
    gate ∷ (name_of l ++ (h.id.0 ++ (h.size ∷ (two h.memo_length ++ (replicate 5 0 ++ (columns_bytes h.columns ++ eight h.file_length))))))

unfoldable pub entry_fields : ParkEntry → List ℕ
entry_fields e = eight e.offset ++ (four e.park_length ++ (four e.count ++ (e.digest ++ eight e.head)))

-- ---- as they are read

abbrev pub gate_in : List ℕ → ℕ
gate_in b = slice_index b 0

abbrev pub name_in : List ℕ → List ℕ
name_in b = part b 1 15

-- the layout that the name says; what has neither name is read as the first one, whose name it then lacks
unfoldable pub layout_in : List ℕ → Layout
layout_in b = if bytes_eq (name_in b) (name_of Two) then Two else One

-- the bytes before the columns that have to be zero in a file of this layout
abbrev pub zeros_in : Layout → List ℕ → List ℕ
zeros_in l b = part b (56 - zeros_of l) (zeros_of l)

-- table t's count and directory offset
unfoldable pub column_in : List ℕ → ℕ → Column
column_in b t = record { count = eight_at b (40 + 16 * t); directory = eight_at b (48 + 16 * t) }

-- the fields of the header, whatever they are
unfoldable pub header_in : List ℕ → Header
header_in b = record {
  layout = layout_in b;
  id = record { 0 = part b 16 32 };
  size = slice_index b 48;
  memo_length = two_at b 49;
  columns = column_in b 1 ∷ column_in b 2 ∷ column_in b 3 ∷ column_in b 4 ∷ column_in b 5 ∷ column_in b 6 ∷ column_in b 7 ∷ [];
  file_length = eight_at b 168;
}

-- the memo, as long as the header says
abbrev pub memo_in : List ℕ → List ℕ
memo_in b = part b HEADER_BYTES (header_in b).memo_length

-- the fields of an entry's bytes, whatever they are
unfoldable pub entry_of : Layout → List ℕ → ParkEntry
entry_of l s = record {
  offset = eight_at s 0;
  park_length = four_at s 8;
  count = four_at s 12;
  digest = part s 16 (digest_of l);
  head = eight_at s (16 + digest_of l);
}

-- ---- what a header says of each table

unfoldable pub column_of : Header → ℕ → Column
column_of h t = slice_index_or h.columns (t - 1) (record { count = 0; directory = 0 })

abbrev pub count_of : Header → ℕ → ℕ
count_of h t = (column_of h t).count

abbrev pub directory_of : Header → ℕ → ℕ
directory_of h t = (column_of h t).directory

-- where the tables begin in a file with this memo
abbrev pub after_memo : List ℕ → ℕ
after_memo memo = HEADER_BYTES + length memo

-- where table t ends, and with it its directory; table 1 begins after the memo
unfoldable pub end_of : Layout → Header → ℕ → ℕ
end_of l h zero = HEADER_BYTES + h.memo_length
end_of l h (suc t) = directory_of h (suc t) + entry_bytes l * parks_of l (count_of h (suc t))

-- the entry of a park of table t
unfoldable pub entry_in : Layout → List ℕ → ℕ → ℕ → ParkEntry
entry_in l b t park = entry_of l (part b (directory_of (header_in b) t + entry_bytes l * park) (entry_bytes l))

-- the bytes of the park of an entry
abbrev pub park_in : List ℕ → ParkEntry → List ℕ
park_in b e = part b e.offset e.park_length
