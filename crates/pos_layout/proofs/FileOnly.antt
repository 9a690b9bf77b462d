-- A file of bytes stores at most one plot, and is the file of that plot.
use Rattle.std.proofs.Common.{◌≡◌, ℕ, zero, suc, ◌+◌, ◌-◌, ◌<◌, ◌≤◌, List, [], ◌++◌, length, get_or, refl, sym, ap, ◌∙◌, subst, arith, length-append}
use Rattle.std.proofs.lemmas.List.{ext_get_or}
use Rattle.std.proofs.lemmas.List.Elements.{All-from_get_or}
use Rattle.pos_bits.specs.Bits.{AreBytes}
use Rattle.pos_bits.proofs.BytesLemmas.{AreBytes-part}
use Rattle.pos_layout.specs.declared.header.TheConstants.{HEADER_BYTES}
use Rattle.pos_layout.specs.Bytes.{part}
use Rattle.pos_layout.specs.Layouts.{Layout, IsMemo}
use Rattle.pos_layout.specs.Lists.{IsTable, IsPlot}
use Rattle.pos_lists.specs.PlotLists.{PlotLists, numbers}
use Rattle.pos_layout.specs.Fields.{header_bytes, header_in, memo_in, after_memo, end_of}
use Rattle.pos_layout.specs.declared.header.Header.{Header}
use Rattle.pos_layout.specs.Rules.{IsPlaced, IsLaidOut, Opens, StoresTable, Stores}
use Rattle.pos_layout.specs.Files.{tables_bytes, columns_for, body_of, header_of, file_with, file_of}
use Rattle.pos_layout.proofs.LayoutLemmas.{opens_layout}
use Rattle.pos_layout.proofs.CodecLemmas.{header_from, length-part}
use Rattle.pos_layout.proofs.FileParts.{Has, join, has_at, has_same, has_of, has-whole}
use Rattle.pos_layout.proofs.FileFields.{header_there, length-header_bytes}
use Rattle.pos_layout.proofs.FileTables.{TableAt, end_of-next, table_there, table-numbers, one_table}
use Rattle.pos_layout.proofs.FileLemmas.{length-columns_for}
use Rattle.pos_layout.proofs.FilePlots.{no_column, tables_there, columns_are, tables_end}

plot_from : (i i' : List ℕ) (k k' : ℕ) (ts ts' : List (List ℕ)) → i ≡ i' → k ≡ k' → ts ≡ ts' → ◌≡◌ {A = PlotLists} (record { id = i; k = k; tables = ts }) (record { id = i'; k = k'; tables = ts' })
plot_from i i' k k' ts ts' ei ek et = rw (ei, ek, et) refl

pub one_plot : (l : Layout) (b : List ℕ) (p q : PlotLists) → Stores l b p → Stores l b q → p ≡ q
unfolding numbers
one_plot l b p q x y =
    plot_from p.id q.id p.k q.k p.tables q.tables (x.id ∙ sym y.id) (x.size ∙ sym y.size)
    (ext_get_or [] p.tables q.tables (x.seven ∙ sym y.seven) (λ s less.
    let n = x.seven in
    let g = x.opens.laid_out.greatest in
    one_table l b (suc s) (get_or p.tables s []) (get_or q.tables s []) (omega arith) (x.tables (suc s) (omega arith) (omega arith)) (y.tables (suc s) (omega arith) (omega arith))))

-- where the tables begin, as the header says it
end_of-first : (l : Layout) (h : Header) → end_of l h 0 ≡ HEADER_BYTES + h.memo_length
unfolding end_of
end_of-first l h = refl

-- each table ends at or after the one before
end-rises : (l : Layout) (h : Header) (s : ℕ) → IsPlaced l h (suc s) → end_of l h s ≤ end_of l h (suc s)
end-rises l h s placed =
    let before : suc s - 1 ≡ s = omega arith in
    let same = ap (end_of l h) before in
    let after = placed.after in
    let next = end_of-next l h s in
    omega arith

ends_rise : (l : Layout) (h : Header) → IsLaidOut l h → (n : ℕ) → n ≤ 7 → end_of l h 0 ≤ end_of l h n
ends_rise l h laid zero few = omega arith
ends_rise l h laid (suc n) few =
    let rest = ends_rise l h laid n (omega arith) in
    let more = end-rises l h n (laid.placed (suc n) (omega arith) (omega arith)) in
    omega arith

-- the memo of a file that opens
pub open_memo_length : (l : Layout) (b : List ℕ) → Opens l b → length (memo_in b) ≡ (header_in b).memo_length
open_memo_length l b opens =
    let rise = ends_rise l (header_in b) opens.laid_out 7 (omega arith) in
    let whole = opens.laid_out.whole in
    let said = opens.said in
    let first = end_of-first l (header_in b) in
    length-part b HEADER_BYTES (header_in b).memo_length (omega arith)

pub open_memo : (l : Layout) (b : List ℕ) → AreBytes b → Opens l b → IsMemo l (memo_in b)
unfolding part
open_memo l b bytes_ opens = record {
  few = let e = open_memo_length l b opens in let m = opens.laid_out.memo in omega arith;
  bytes = AreBytes-part b HEADER_BYTES (header_in b).memo_length bytes_;
}

module _ (l : Layout) (b : List ℕ) (p : PlotLists) (bytes_ : AreBytes b) (st : Stores l b p) where
  abbrev memo : List ℕ
  memo = memo_in b

  memo-length : length (memo_in b) ≡ (header_in b).memo_length
  memo-length = open_memo_length l b st.opens

  -- where the tables begin, as the header says it and as the memo shows it
  start_after : end_of l (header_in b) 0 ≡ after_memo (memo_in b)
  start_after = end_of-first l (header_in b) ∙ ap (λ n. HEADER_BYTES + n) (sym memo-length)

  room : (s : ℕ) → s < 7 → end_of l (header_in b) (suc s) ≤ length b
  room s less =
      let placed = (st.opens.laid_out.placed (suc s) (omega arith) (omega arith)).inside in
      let said = st.opens.said in
      omega arith

  stored : (s : ℕ) → s < 7 → StoresTable l b (suc s) (get_or p.tables s [])
  unfolding numbers
  stored s less = st.tables (suc s) (omega arith) (omega arith)

  table_at : (i : ℕ) → i < length p.tables → TableAt l b (0 + i) (get_or p.tables i [])
  table_at i less =
      let e : i ≡ 0 + i = omega arith in
      let n = st.seven in
      let h : i < 7 = omega arith in
      subst (λ j. TableAt l b j (get_or p.tables i [])) e (table_there l b i (get_or p.tables i []) bytes_ (room i h) (stored i h))

  columns-is : (header_in b).columns ≡ columns_for l p.k 1 (after_memo memo) p.tables
  unfolding header_in
  columns-is =
      let n = st.seven in
      let m : length (columns_for l p.k 1 (after_memo memo) p.tables) ≡ 7 = length-columns_for l p.k 1 (after_memo memo) p.tables ∙ n in
      ext_get_or no_column (header_in b).columns (columns_for l p.k 1 (after_memo memo) p.tables) (sym m)
      (λ j less. let e : j ≡ 0 + j = omega arith in
      ap (λ i. get_or (header_in b).columns i no_column) e ∙ (columns_are l b p.tables 0 table_at j (omega arith)
      ∙ ap (λ at. get_or (columns_for l (header_in b).size 1 at p.tables) j no_column) start_after
      ∙ ap (λ k. get_or (columns_for l k 1 (after_memo memo) p.tables) j no_column) (sym st.size)))

  body_there : Has b (after_memo memo) (body_of l memo p)
  unfolding body_of
  body_there =
      subst (λ k. Has b (after_memo memo) (tables_bytes l k 1 (after_memo memo) p.tables)) (sym st.size)
      (subst (λ at. Has b at (tables_bytes l (header_in b).size 1 at p.tables)) start_after (tables_there l b p.tables 0 table_at))

  rest_there : Has b HEADER_BYTES (memo ++ body_of l memo p)
  rest_there = join b HEADER_BYTES memo (body_of l memo p) (has_of b HEADER_BYTES (header_in b).memo_length memo memo-length refl) body_there

  last-is : length b ≡ after_memo memo + length (body_of l memo p)
  unfolding body_of
  last-is =
      let z : 0 + length p.tables ≡ 7 = (let n = st.seven in let g : 0 + length p.tables ≡ 7 = omega arith in g) in
      sym st.opens.said ∙ (sym st.opens.laid_out.whole ∙ (ap (end_of l (header_in b)) (sym z) ∙ (tables_end l b p.tables 0 table_at
      ∙ (ap (λ at. at + length (tables_bytes l (header_in b).size 1 at p.tables)) start_after
      ∙ ap (λ k. after_memo memo + length (tables_bytes l k 1 (after_memo memo) p.tables)) (sym st.size)))))

  header-is : header_in b ≡ header_of l memo p
  unfolding header_of
  header-is =
      let h = header_in b in
      header_from h.layout l h.id.0 _ h.size _ h.memo_length (length memo) h.columns _ h.file_length _ (opens_layout l b st.opens) (sym st.id) (sym st.size) (sym memo-length) columns-is (st.opens.said ∙ last-is)

  header_has : Has b 0 (header_bytes l 1 (header_of l memo p))
  header_has =
      let o = st.opens in
      has_same b 0 _ _ (ap (λ g. header_bytes l g (header_in b)) o.gate ∙ ap (header_bytes l 1) header-is) (header_there l b bytes_ o.long o.name o.zeros)

  id-length : length p.id ≡ 32
  unfolding header_in
  id-length = ap length st.id ∙ length-part b 16 32 (let n = st.opens.long in omega arith)

  id-bytes : AreBytes p.id
  unfolding header_in part
  id-bytes = subst AreBytes (sym st.id) (AreBytes-part b 16 32 bytes_)

  header-length : length (header_bytes l 1 (header_of l memo p)) ≡ HEADER_BYTES
  unfolding header_of
  header-length = length-header_bytes l 1 (header_of l memo p) id-length (length-columns_for l p.k 1 (after_memo memo) p.tables ∙ st.seven)

  pub one_file : b ≡ file_of l memo p
  unfolding file_with
  one_file =
      has-whole b (file_of l memo p) (last-is ∙ sym (length-append (header_bytes l 1 (header_of l memo p)) (memo ++ body_of l memo p) ∙ (ap (λ n. n + length (memo ++ body_of l memo p)) header-length ∙ (ap (λ n. HEADER_BYTES + n) (length-append memo (body_of l memo p)) ∙ omega arith))))
      (join b 0 (header_bytes l 1 (header_of l memo p)) (memo ++ body_of l memo p) header_has (has_at b _ _ _ (sym (ap (λ n. 0 + n) header-length)) rest_there))

  pub stored_is_plot : IsPlot p
  stored_is_plot = record {
    id_length = id-length;
    id_bytes = id-bytes;
    least = let e = st.size in let g = st.opens.laid_out.least in omega arith;
    greatest = let e = st.size in let g = st.opens.laid_out.greatest in omega arith;
    seven = st.seven;
    tables = All-from_get_or (IsTable p.k) p.tables [] (λ s less.
        let n = st.seven in
        let h : s < 7 = omega arith in
        subst (λ k. IsTable k (get_or p.tables s [])) (sym st.size)
        (table-numbers l b s (get_or p.tables s []) bytes_ (room s h) (stored s h) (st.opens.laid_out.counts (suc s) (omega arith) (omega arith))));
  }
