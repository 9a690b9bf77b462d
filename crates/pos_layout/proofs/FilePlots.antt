-- The tables of a file one after another, the header that says where they are, and the file of a plot.
use Rattle.std.proofs.Common.{◌≡◌, ℕ, zero, suc, ◌+◌, ◌-◌, ◌*◌, ◌^◌, ◌<◌, ◌≤◌, List, [], ◌∷◌, ◌++◌, length, take, drop, get_or, All, refl, sym, ap, ◌∙◌, subst, arith, length-append}
use Rattle.std.proofs.lemmas.List.Elements.{All-nil, All-cons, All-head, All-tail, All-get_or}
use Rattle.std.proofs.Math.Pow.{pow_mono}
use Rattle.pos_layout.specs.declared.header.Column.{Column}
use Rattle.pos_layout.specs.declared.header.Header.{Header}
use Rattle.pos_layout.specs.declared.header.TheConstants.{HEADER_BYTES}
use Rattle.pos_layout.specs.Bytes.{part}
use Rattle.pos_layout.specs.Layouts.{Layout, IsMemo}
use Rattle.pos_layout.specs.Lists.{IsTable, IsPlot}
use Rattle.pos_lists.specs.PlotLists.{PlotLists, numbers}
use Rattle.pos_layout.specs.Fields.{header_bytes, header_in, memo_in, after_memo, column_of, count_of, end_of}
use Rattle.pos_layout.specs.Rules.{IsPlaced, IsLaidOut, StoresTable, Stores}
use Rattle.pos_layout.specs.Files.{parks_in, park_bytes, directory, cut, table_bytes, tables_bytes, columns_for, body_of, header_of, file_with, file_of}
use Rattle.pos_layout.proofs.LayoutLemmas.{memo_few}
use Rattle.pos_layout.proofs.CodecLemmas.{column_from}
use Rattle.pos_layout.proofs.FileParts.{Has, has_all, has_front, has_back, join, has_at, has_none}
use Rattle.pos_layout.proofs.FileFields.{ColumnFits, HeaderFits, HeaderRead, header_read, length-header_bytes}
use Rattle.pos_layout.proofs.FileLemmas.{length-columns_for, tables_bytes-short}
use Rattle.pos_layout.proofs.FileTables.{TableAt, TableAt-end, stores_table}

-- no column, for a place past the last
abbrev pub no_column : Column
no_column = record { count = 0; directory = 0 }

pub column_of-suc : (h : Header) (s : ℕ) → column_of h (suc s) ≡ get_or h.columns s no_column
unfolding column_of
column_of-suc h s = let e : suc s - 1 ≡ s = omega arith in ap (λ j. get_or h.columns j no_column) e

-- ---- tables, where they stand

-- a table that its column tells of
column_there : (l : Layout) (b : List ℕ) (s : ℕ) (ns : List ℕ) (c : Column)
    → get_or (header_in b).columns s no_column ≡ c → c.count ≡ length ns → c.directory ≡ end_of l (header_in b) s + length (park_bytes (header_in b).size (parks_in l ns))
    → Has b (end_of l (header_in b) s) (table_bytes l (header_in b).size (suc s) (end_of l (header_in b) s) ns) → TableAt l b s ns
column_there l b s ns c e n d h =
    let is = column_of-suc (header_in b) s ∙ e in
    record { count = ap (λ (c : Column). c.count) is ∙ n; directory = ap (λ (c : Column). c.directory) is ∙ d; bytes = h }

first_table : (l : Layout) (b : List ℕ) (s : ℕ) (ns : List ℕ) (tables : List (List ℕ))
    → ((j : ℕ) → j < length (ns ∷ tables) → get_or (header_in b).columns (s + j) no_column ≡ get_or (columns_for l (header_in b).size (suc s) (end_of l (header_in b) s) (ns ∷ tables)) j no_column)
    → Has b (end_of l (header_in b) s) (tables_bytes l (header_in b).size (suc s) (end_of l (header_in b) s) (ns ∷ tables)) → TableAt l b s ns
unfolding columns_for tables_bytes
first_table l b s ns tables cs h =
    let e : s ≡ s + 0 = omega arith in
    column_there l b s ns _ (ap (λ j. get_or (header_in b).columns j no_column) e ∙ cs 0 (omega arith)) refl refl (has_front b _ (table_bytes l (header_in b).size (suc s) (end_of l (header_in b) s) ns) _ h)

pub tables_from : (l : Layout) (b : List ℕ) (tables : List (List ℕ)) (s i : ℕ)
    → ((j : ℕ) → j < length tables → get_or (header_in b).columns (s + j) no_column ≡ get_or (columns_for l (header_in b).size (suc s) (end_of l (header_in b) s) tables) j no_column)
    → Has b (end_of l (header_in b) s) (tables_bytes l (header_in b).size (suc s) (end_of l (header_in b) s) tables)
    → i < length tables → TableAt l b (s + i) (get_or tables i [])
unfolding columns_for tables_bytes
tables_from l b [] s i cs h less = absurd (omega arith)
tables_from l b (ns ∷ tables) s zero cs h less =
    let e : s + 0 ≡ s = omega arith in
    subst (λ j. TableAt l b j ns) (sym e) (first_table l b s ns tables cs h)
tables_from l b (ns ∷ tables) s (suc i) cs h less =
    let k = (header_in b).size in
    let at = end_of l (header_in b) s in
    let e : suc s + i ≡ s + suc i = omega arith in
    let first = first_table l b s ns tables cs h in
    let next = TableAt-end l b s ns first in
    let cols : (j : ℕ) → j < length tables → get_or (header_in b).columns (suc s + j) no_column ≡ get_or (columns_for l k (suc (suc s)) (end_of l (header_in b) (suc s)) tables) j no_column =
    λ j less'. let e' : suc s + j ≡ s + suc j = omega arith in
    ap (λ n. get_or (header_in b).columns n no_column) e' ∙ (cs (suc j) (omega arith) ∙ ap (λ n. get_or (columns_for l k (suc (suc s)) n tables) j no_column) (sym next)) in
    let rest : Has b (end_of l (header_in b) (suc s)) (tables_bytes l k (suc (suc s)) (end_of l (header_in b) (suc s)) tables) =
    subst (λ n. Has b n (tables_bytes l k (suc (suc s)) n tables)) (sym next) (has_back b at (table_bytes l k (suc s) at ns) _ h) in
    subst (λ j. TableAt l b j (get_or tables i [])) e (tables_from l b tables (suc s) i cols rest (omega arith))

at_first : (l : Layout) (b : List ℕ) (s : ℕ) (ns : List ℕ) (tables : List (List ℕ)) → ((i : ℕ) → i < length (ns ∷ tables) → TableAt l b (s + i) (get_or (ns ∷ tables) i [])) → TableAt l b s ns
at_first l b s ns tables h = let e : s + 0 ≡ s = omega arith in subst (λ j. TableAt l b j ns) e (h 0 (omega arith))

at_rest : (l : Layout) (b : List ℕ) (s : ℕ) (ns : List ℕ) (tables : List (List ℕ)) → ((i : ℕ) → i < length (ns ∷ tables) → TableAt l b (s + i) (get_or (ns ∷ tables) i []))
    → (i : ℕ) → i < length tables → TableAt l b (suc s + i) (get_or tables i [])
at_rest l b s ns tables h i less = let e : s + suc i ≡ suc s + i = omega arith in subst (λ j. TableAt l b j (get_or tables i [])) e (h (suc i) (omega arith))

-- from the tables back to the bytes after the header, the columns, and the end
pub tables_there : (l : Layout) (b : List ℕ) (tables : List (List ℕ)) (s : ℕ) → ((i : ℕ) → i < length tables → TableAt l b (s + i) (get_or tables i []))
    → Has b (end_of l (header_in b) s) (tables_bytes l (header_in b).size (suc s) (end_of l (header_in b) s) tables)
unfolding tables_bytes
tables_there l b [] s h = has_none b _
tables_there l b (ns ∷ tables) s h =
    let k = (header_in b).size in
    let at = end_of l (header_in b) s in
    let first = at_first l b s ns tables h in
    let next = TableAt-end l b s ns first in
    let rest = tables_there l b tables (suc s) (at_rest l b s ns tables h) in
    join b at (table_bytes l k (suc s) at ns) _ first.bytes (subst (λ n. Has b n (tables_bytes l k (suc (suc s)) n tables)) next rest)

pub columns_are : (l : Layout) (b : List ℕ) (tables : List (List ℕ)) (s : ℕ) → ((i : ℕ) → i < length tables → TableAt l b (s + i) (get_or tables i []))
    → (j : ℕ) → j < length tables → get_or (header_in b).columns (s + j) no_column ≡ get_or (columns_for l (header_in b).size (suc s) (end_of l (header_in b) s) tables) j no_column
unfolding columns_for
columns_are l b [] s h j less = absurd (omega arith)
columns_are l b (ns ∷ tables) s h zero less =
    let e : s + 0 ≡ s = omega arith in
    let first = at_first l b s ns tables h in
    ap (λ j. get_or (header_in b).columns j no_column) e ∙ (sym (column_of-suc (header_in b) s) ∙ column_from _ _ _ _ first.count first.directory)
columns_are l b (ns ∷ tables) s h (suc j) less =
    let e : s + suc j ≡ suc s + j = omega arith in
    let next = TableAt-end l b s ns (at_first l b s ns tables h) in
    ap (λ j. get_or (header_in b).columns j no_column) e ∙ (columns_are l b tables (suc s) (at_rest l b s ns tables h) j (omega arith)
    ∙ ap (λ n. get_or (columns_for l (header_in b).size (suc (suc s)) n tables) j no_column) next)

pub tables_end : (l : Layout) (b : List ℕ) (tables : List (List ℕ)) (s : ℕ) → ((i : ℕ) → i < length tables → TableAt l b (s + i) (get_or tables i []))
    → end_of l (header_in b) (s + length tables) ≡ end_of l (header_in b) s + length (tables_bytes l (header_in b).size (suc s) (end_of l (header_in b) s) tables)
unfolding tables_bytes
tables_end l b [] s h = let e : s + 0 ≡ s = omega arith in ap (end_of l (header_in b)) e ∙ omega arith
tables_end l b (ns ∷ tables) s h =
    let k = (header_in b).size in
    let at = end_of l (header_in b) s in
    let e : s + suc (length tables) ≡ suc s + length tables = omega arith in
    let next = TableAt-end l b s ns (at_first l b s ns tables h) in
    let rest = tables_end l b tables (suc s) (at_rest l b s ns tables h) ∙ ap (λ n. n + length (tables_bytes l k (suc (suc s)) n tables)) next in
    ap (end_of l (header_in b)) e ∙ (rest ∙ simp length-append (omega arith))

-- ---- lengths

columns-fit : (l : Layout) (k t at : ℕ) (tables : List (List ℕ)) → at + length (tables_bytes l k t at tables) < 2 ^ 64 → 2 ^ (k + 1) < 2 ^ 64 → All (IsTable k) tables → All ColumnFits (columns_for l k t at tables)
unfolding columns_for tables_bytes table_bytes
columns-fit l k t at [] room small each = All-nil ColumnFits
columns-fit l k t at (ns ∷ tables) room small each =
    let few = (All-head (IsTable k) ns tables each).few in
    let ps = park_bytes k (parks_in l ns) in
    let n : length (table_bytes l k t at ns) ≡ length ps + length (directory l k t at (parks_in l ns)) = length-append ps (directory l k t at (parks_in l ns)) in
    let m : length (table_bytes l k t at ns ++ tables_bytes l k (suc t) (at + length (table_bytes l k t at ns)) tables) ≡ length (table_bytes l k t at ns) + length (tables_bytes l k (suc t) (at + length (table_bytes l k t at ns)) tables) = length-append (table_bytes l k t at ns) _ in
    All-cons ColumnFits _ _ (record { count = omega arith; directory = omega arith })
    (columns-fit l k (suc t) (at + length (table_bytes l k t at ns)) tables (omega arith) small (All-tail (IsTable k) ns tables each))

-- a table without numbers has no park
no_parks : (l : Layout) (k : ℕ) (ns : List ℕ) → length ns ≡ 0 → length (park_bytes k (parks_in l ns)) ≡ 0
unfolding parks_in park_bytes cut
no_parks l k [] e = refl
no_parks l k (n ∷ ns) e = absurd (omega arith)

-- what holds of tables 1 to 7, one by one
pub each : (P : ℕ → Type 0) → ((s : ℕ) → s < 7 → P (suc s)) → (t : ℕ) → 1 ≤ t → t ≤ 7 → P t
each P h zero low high = absurd (omega arith)
each P h (suc s) low high = h s (omega arith)

-- ---- the file of a plot

module _ (l : Layout) (memo : List ℕ) (p : PlotLists) (allowed : IsMemo l memo) (plot : IsPlot p) where
  powers : 2 ^ (p.k + 1) ≤ 2 ^ 51
  powers = let g = plot.greatest in let h : p.k + 1 ≤ 51 = omega arith in pow_mono h

  size-fits : p.k ≤ 50
  size-fits = let g = plot.greatest in omega arith

  body-short : length (body_of l memo p) ≤ 72 * 2 ^ 51 * 7
  unfolding body_of
  body-short =
      let w = powers in
      let n = plot.seven in
      let s = tables_bytes-short l p.k 1 (after_memo memo) p.tables size-fits plot.tables in
      let m : length p.tables * 2 ^ (p.k + 1) ≡ 7 * 2 ^ (p.k + 1) = ap (λ n. n * 2 ^ (p.k + 1)) plot.seven in
      omega arith

  memo-short : length memo ≤ 256
  memo-short = let a = allowed.few in let b = memo_few l in omega arith

  header-fits : HeaderFits l (header_of l memo p)
  unfolding header_of body_of
  header-fits = record {
    layout = refl;
    memo = allowed.few;
    id = plot.id_length;
    seven = length-columns_for l p.k 1 (after_memo memo) p.tables ∙ plot.seven;
    columns = let s = body-short in let w = powers in let m = memo-short in columns-fit l p.k 1 (after_memo memo) p.tables (omega arith) (omega arith) plot.tables;
    file_length = let s = body-short in let m = memo-short in omega arith;
  }

  header-length : length (header_bytes l 1 (header_of l memo p)) ≡ HEADER_BYTES
  header-length = let f = header-fits in length-header_bytes l 1 (header_of l memo p) f.id f.seven

  in_file : Has (file_of l memo p) 0 (header_bytes l 1 (header_of l memo p) ++ (memo ++ body_of l memo p))
  unfolding file_with
  in_file = has_all (file_of l memo p)

  rest_there : Has (file_of l memo p) HEADER_BYTES (memo ++ body_of l memo p)
  rest_there = has_at (file_of l memo p) _ _ _ (ap (λ n. 0 + n) header-length) (has_back (file_of l memo p) 0 (header_bytes l 1 (header_of l memo p)) (memo ++ body_of l memo p) in_file)

  body_there : Has (file_of l memo p) (after_memo memo) (body_of l memo p)
  body_there = has_back (file_of l memo p) HEADER_BYTES memo (body_of l memo p) rest_there

  pub file-length : length (file_of l memo p) ≡ after_memo memo + length (body_of l memo p)
  unfolding file_with
  file-length =
      let h = header-length in
      omega (arith, length-append (header_bytes l 1 (header_of l memo p)) (memo ++ body_of l memo p), length-append memo (body_of l memo p))

  read : HeaderRead l 1 (header_of l memo p) (file_of l memo p)
  read = header_read l 1 (header_of l memo p) (file_of l memo p) header-fits (has_front (file_of l memo p) 0 (header_bytes l 1 (header_of l memo p)) (memo ++ body_of l memo p) in_file)

  memo_length-is : (header_in (file_of l memo p)).memo_length ≡ length memo
  unfolding header_of
  memo_length-is = ap (λ (h : Header). h.memo_length) read.header

  pub file_memo : memo_in (file_of l memo p) ≡ memo
  unfolding part
  file_memo = ap (λ n. take n (drop HEADER_BYTES (file_of l memo p))) memo_length-is ∙ (has_front (file_of l memo p) HEADER_BYTES memo (body_of l memo p) rest_there).is

  file_columns : (j : ℕ) → j < length p.tables
      → get_or (header_in (file_of l memo p)).columns (0 + j) no_column ≡ get_or (columns_for l (header_in (file_of l memo p)).size 1 (end_of l (header_in (file_of l memo p)) 0) p.tables) j no_column
  unfolding header_of end_of
  file_columns j less =
      let e : 0 + j ≡ j = omega arith in
      subst (λ (h : Header). get_or h.columns (0 + j) no_column ≡ get_or (columns_for l h.size 1 (end_of l h 0) p.tables) j no_column) (sym read.header)
      (ap (λ i. get_or (columns_for l p.k 1 (after_memo memo) p.tables) i no_column) e)

  file_body : Has (file_of l memo p) (end_of l (header_in (file_of l memo p)) 0) (tables_bytes l (header_in (file_of l memo p)).size 1 (end_of l (header_in (file_of l memo p)) 0) p.tables)
  unfolding header_of end_of body_of
  file_body = subst (λ (h : Header). Has (file_of l memo p) (end_of l h 0) (tables_bytes l h.size 1 (end_of l h 0) p.tables)) (sym read.header) body_there

  file_tables : (s : ℕ) → s < 7 → TableAt l (file_of l memo p) s (get_or p.tables s [])
  file_tables s less =
      let e : 0 + s ≡ s = omega arith in
      let n = plot.seven in
      subst (λ j. TableAt l (file_of l memo p) j (get_or p.tables s [])) e (tables_from l (file_of l memo p) p.tables 0 s file_columns file_body (omega arith))

  last-is : end_of l (header_in (file_of l memo p)) 7 ≡ length (file_of l memo p)
  unfolding header_of end_of body_of
  last-is =
      let n = plot.seven in
      let each : (i : ℕ) → i < length p.tables → TableAt l (file_of l memo p) (0 + i) (get_or p.tables i []) =
      λ i less. let e : i ≡ 0 + i = omega arith in subst (λ j. TableAt l (file_of l memo p) j (get_or p.tables i [])) e (file_tables i (omega arith)) in
      let z : 7 ≡ 0 + length p.tables = omega arith in
      ap (end_of l (header_in (file_of l memo p))) z ∙ (tables_end l (file_of l memo p) p.tables 0 each
      ∙ (ap (λ (h : Header). HEADER_BYTES + h.memo_length + length (tables_bytes l h.size 1 (HEADER_BYTES + h.memo_length) p.tables)) read.header ∙ sym file-length))

  said-is : (header_in (file_of l memo p)).file_length ≡ length (file_of l memo p)
  unfolding header_of
  said-is = ap (λ (h : Header). h.file_length) read.header ∙ sym file-length

  size-is : (header_in (file_of l memo p)).size ≡ p.k
  unfolding header_of
  size-is = ap (λ (h : Header). h.size) read.header

  id-is : (header_in (file_of l memo p)).id.0 ≡ p.id
  unfolding header_of
  id-is = ap (λ (h : Header). h.id.0) read.header

  end-le : (d s : ℕ) → s + d ≡ 7 → end_of l (header_in (file_of l memo p)) s ≤ length (file_of l memo p)
  end-le zero s e =
      let seven : s ≡ 7 = omega arith in
      let same = ap (end_of l (header_in (file_of l memo p))) seven ∙ last-is in
      omega arith
  end-le (suc d) s e =
      let next = TableAt-end l (file_of l memo p) s _ (file_tables s (omega arith)) in
      let more = end-le d (suc s) (omega arith) in
      omega arith

  file-short : length (file_of l memo p) < 2 ^ 64
  file-short = let n = file-length in let m = body-short in let s = memo-short in omega arith

  table-is : (s : ℕ) → s < 7 → IsTable p.k (get_or p.tables s [])
  table-is s less = let n = plot.seven in All-get_or (IsTable p.k) p.tables s [] (omega arith) plot.tables

  stored_table : (s : ℕ) → s < 7 → StoresTable l (file_of l memo p) (suc s) (get_or p.tables s [])
  stored_table s less = stores_table l (file_of l memo p) s (get_or p.tables s []) (record {
    table = subst (λ k. IsTable k (get_or p.tables s [])) (sym size-is) (table-is s less);
    small = let e = size-is in let g = size-fits in omega arith;
    room = let e = end-le (7 - suc s) (suc s) (omega arith) in let f = file-short in omega arith;
    at = file_tables s less;
  })

  placed : (s : ℕ) → s < 7 → IsPlaced l (header_in (file_of l memo p)) (suc s)
  placed s less =
      let b = file_of l memo p in
      let e : suc s - 1 ≡ s = omega arith in
      let before = ap (end_of l (header_in b)) e in
      let t = file_tables s less in
      let d = t.directory in
      let last = end-le (7 - suc s) (suc s) (omega arith) in
      let said = said-is in
      record {
        after = omega arith;
        inside = omega arith;
        empty = λ none.
            let z = no_parks l (header_in b).size (get_or p.tables s []) (sym t.count ∙ none) in
            omega arith;
      }

  laid_out : IsLaidOut l (header_in (file_of l memo p))
  laid_out = record {
    least = let e = size-is in let g = plot.least in omega arith;
    greatest = let e = size-is in let g = plot.greatest in omega arith;
    memo = let e = memo_length-is in let g = allowed.few in omega arith;
    counts = each_count;
    placed = λ t low high. each (λ t. IsPlaced l (header_in (file_of l memo p)) t) placed t low high;
    whole = last-is ∙ sym said-is;
  }
    where
      each_count : (t : ℕ) → 1 ≤ t → t ≤ 7 → count_of (header_in (file_of l memo p)) t ≤ 2 ^ ((header_in (file_of l memo p)).size + 1)
      each_count = each (λ t. count_of (header_in (file_of l memo p)) t ≤ 2 ^ ((header_in (file_of l memo p)).size + 1))
          (λ s less. let c = (file_tables s less).count in let few = (table-is s less).few in let e = ap (λ k. 2 ^ (k + 1)) size-is in omega arith)

  pub file_stores : Stores l (file_of l memo p) p
  unfolding numbers
  file_stores = record {
    opens = record {
      long = let n = file-length in omega arith;
      gate = read.gate_is;
      name = read.name;
      zeros = read.zeros;
      said = said-is;
      laid_out = laid_out;
    };
    id = sym id-is;
    size = sym size-is;
    seven = plot.seven;
    tables = each (λ t. StoresTable l (file_of l memo p) t (numbers p t)) stored_table;
  }
