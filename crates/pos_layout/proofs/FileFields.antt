-- The fields of a file's header and of its directory entries, between their bytes and their values.
use Rattle.std.proofs.Common.{◌≡◌, ℕ, zero, suc, ◌+◌, ◌*◌, ◌^◌, ◌<◌, ◌≤◌, ◌⊎◌, inl, inr, List, [], ◌∷◌, ◌++◌, length, get_or, replicate, refl, sym, ap, ◌∙◌, subst, arith, length-append}
use Rattle.std.specs.Prelude.{All}
use Rattle.std.proofs.lemmas.Bool.{cases_lt}
use Rattle.std.proofs.lemmas.List.{get_or_past, drop_more}
use Rattle.std.proofs.lemmas.List.Elements.{All-head, All-tail}
use Rattle.std.proofs.lemmas.Nat.{from_be_bytes-to_be_bytes_2, from_be_bytes-to_be_bytes_4, from_be_bytes-to_be_bytes_8, be_bytes_2, be_bytes_4, be_bytes_8}
use Rattle.std.specs.Int.{w16, w32, w64, to_be_bytes, from_be_bytes}
use Rattle.pos_bits.specs.Bits.{AreBytes}
use Rattle.pos_bits.proofs.BytesLemmas.{AreBytes-part}
use Rattle.pos_layout.specs.declared.header.Column.{Column}
use Rattle.pos_layout.specs.declared.header.Header.{Header}
use Rattle.pos_layout.specs.declared.header.TheConstants.{HEADER_BYTES}
use Rattle.pos_layout.specs.declared.entry.ParkEntry.{ParkEntry}
use Rattle.pos_layout.specs.Bytes.{part, two, four, eight, two_at, four_at, eight_at}
use Rattle.pos_layout.specs.Layouts.{Layout, name_of, digest_of, memo_of, zeros_of, entry_bytes}
use Rattle.pos_layout.specs.Fields.{gate_in, name_in, zeros_in, column_bytes, columns_bytes, entry_fields, entry_of, header_bytes, header_in, column_in}
use Rattle.pos_layout.specs.declared.layout.Layout.TheVariants.{One, Two}
use Rattle.pos_layout.proofs.LayoutLemmas.{name_length, memo_few, layout_named}
use Rattle.pos_layout.proofs.CodecLemmas.{entry_from, column_from, header_from, length-part}
use Rattle.pos_layout.proofs.FileParts.{Has, has_all, has_front, has_back, join, has_at, has_same, has_none, has-get, has_part, has-is, has_of, has-whole}

-- ---- numbers

pub length-eight : (n : ℕ) → length (eight n) ≡ 8
unfolding eight
length-eight n = refl

pub length-two : (n : ℕ) → length (two n) ≡ 2
unfolding two
length-two n = refl

pub length-four : (n : ℕ) → length (four n) ≡ 4
unfolding four
length-four n = refl

pub eight_read : (b : List ℕ) (at n : ℕ) → n < 2 ^ 64 → Has b at (eight n) → eight_at b at ≡ n
unfolding eight_at eight
eight_read b at n small h = ap (from_be_bytes w64) h.is ∙ from_be_bytes-to_be_bytes_8 n small

pub two_read : (b : List ℕ) (at n : ℕ) → n < 2 ^ 16 → Has b at (two n) → two_at b at ≡ n
unfolding two_at two
two_read b at n small h = ap (from_be_bytes w16) h.is ∙ from_be_bytes-to_be_bytes_2 n small

pub four_read : (b : List ℕ) (at n : ℕ) → n < 2 ^ 32 → Has b at (four n) → four_at b at ≡ n
unfolding four_at four
four_read b at n small h = ap (from_be_bytes w32) h.is ∙ from_be_bytes-to_be_bytes_4 n small

-- bytes of a list, also past its end
pub byte-lt : (b : List ℕ) (i : ℕ) → AreBytes b → get_or b i 0 < 256
byte-lt b i h = cases (cases_lt i (length b))
  where
    cases : i < length b ⊎ length b ≤ i → get_or b i 0 < 256
    cases (inl l) = h i 0 l
    cases (inr l) = let e : get_or b i 0 ≡ 0 = get_or_past b i 0 l in omega arith

part-bytes : (b : List ℕ) (at n : ℕ) → AreBytes b → AreBytes (part b at n)
unfolding part
part-bytes b at n h = AreBytes-part b at n h

pub eight_there : (b : List ℕ) (at : ℕ) → AreBytes b → at + 8 ≤ length b → Has b at (eight (eight_at b at))
unfolding eight_at eight
eight_there b at bytes h = has_of b at 8 _ refl (sym (be_bytes_8 (part b at 8) _ (length-part b at 8 h) (λ i. byte-lt (part b at 8) i (part-bytes b at 8 bytes)) refl))

pub two_there : (b : List ℕ) (at : ℕ) → AreBytes b → at + 2 ≤ length b → Has b at (two (two_at b at))
unfolding two_at two
two_there b at bytes h = has_of b at 2 _ refl (sym (be_bytes_2 (part b at 2) _ (length-part b at 2 h) (λ i. byte-lt (part b at 2) i (part-bytes b at 2 bytes)) refl))

pub four_there : (b : List ℕ) (at : ℕ) → AreBytes b → at + 4 ≤ length b → Has b at (four (four_at b at))
unfolding four_at four
four_there b at bytes h = has_of b at 4 _ refl (sym (be_bytes_4 (part b at 4) _ (length-part b at 4 h) (λ i. byte-lt (part b at 4) i (part-bytes b at 4 bytes)) refl))

pub one_there : (b : List ℕ) (at : ℕ) → at < length b → Has b at (get_or b at 0 ∷ [])
unfolding part
one_there b at h = has_of b at 1 _ refl (rw (drop_more b at 0 h) refl)

-- ---- entries

-- fields that an entry's bytes hold
pub record EntryFits (l : Layout) (e : ParkEntry) : Type 0 where
  pub offset : e.offset < 2 ^ 64
  pub park_length : e.park_length < 2 ^ 32
  pub count : e.count < 2 ^ 32
  pub digest : length e.digest ≡ digest_of l
  pub head : e.head < 2 ^ 64

pub length-entry_fields : (l : Layout) (e : ParkEntry) → length e.digest ≡ digest_of l → length (entry_fields e) ≡ entry_bytes l
unfolding entry_fields
length-entry_fields l e d = simp (length-append, length-eight, length-four) (omega arith)

entry_alone-read : (l : Layout) (s : List ℕ) (e : ParkEntry) → EntryFits l e → Has s 0 (entry_fields e) → entry_of l s ≡ e
unfolding entry_of entry_fields four eight
entry_alone-read l s e fits h0 =
    let h8 = has_back s 0 (eight e.offset) _ h0 in
    let h12 = has_back s 8 (four e.park_length) _ h8 in
    let h16 = has_back s 12 (four e.count) _ h12 in
    let hd = has_back s 16 e.digest (eight e.head) h16 in
    let at_head : 16 + length e.digest ≡ 16 + digest_of l = ap (λ n. 16 + n) fits.digest in
    entry_from _ _ _ _ _ _ _ _ _ _
    (eight_read s 0 e.offset fits.offset (has_front s 0 (eight e.offset) _ h0))
    (four_read s 8 e.park_length fits.park_length (has_front s 8 (four e.park_length) _ h8))
    (four_read s 12 e.count fits.count (has_front s 12 (four e.count) _ h12))
    (has-is s 16 (digest_of l) e.digest fits.digest (has_front s 16 e.digest _ h16))
    (eight_read s (16 + digest_of l) e.head fits.head (has_at s (16 + length e.digest) (16 + digest_of l) (eight e.head) at_head hd))

-- the entry that stands somewhere is read there
pub entry_read : (l : Layout) (b : List ℕ) (at : ℕ) (e : ParkEntry) → EntryFits l e → Has b at (entry_fields e) → entry_of l (part b at (entry_bytes l)) ≡ e
entry_read l b at e fits h =
    let s = part b at (entry_bytes l) in
    let same : s ≡ entry_fields e = has-is b at (entry_bytes l) (entry_fields e) (length-entry_fields l e fits.digest) h in
    entry_alone-read l s e fits (has_same s 0 s (entry_fields e) same (has_all s))

digest_read : (l : Layout) (s : List ℕ) → length (entry_of l s).digest ≡ length (part s 16 (digest_of l))
unfolding entry_of
digest_read l s = refl

entry_alone-there : (l : Layout) (s : List ℕ) → AreBytes s → length s ≡ entry_bytes l → Has s 0 (entry_fields (entry_of l s))
unfolding entry_of entry_fields four eight
entry_alone-there l s bytes n =
    let d : length (part s 16 (digest_of l)) ≡ digest_of l = length-part s 16 (digest_of l) (omega arith) in
    let at_head : 16 + digest_of l ≡ 16 + length (part s 16 (digest_of l)) = ap (λ n. 16 + n) (sym d) in
    join s 0 _ _ (eight_there s 0 bytes (omega arith))
    (join s 8 _ _ (four_there s 8 bytes (omega arith))
    (join s 12 _ _ (four_there s 12 bytes (omega arith))
    (join s 16 _ _ (has_part s 16 (digest_of l) (omega arith))
    (has_at s (16 + digest_of l) _ _ at_head (eight_there s (16 + digest_of l) bytes (omega arith))))))

-- and what is read somewhere stands there
pub entry_there : (l : Layout) (b : List ℕ) (at : ℕ) → AreBytes b → at + entry_bytes l ≤ length b → Has b at (entry_fields (entry_of l (part b at (entry_bytes l))))
entry_there l b at bytes h =
    let s = part b at (entry_bytes l) in
    let n : length s ≡ entry_bytes l = length-part b at (entry_bytes l) h in
    let d : length (part s 16 (digest_of l)) ≡ digest_of l = length-part s 16 (digest_of l) (omega arith) in
    let e : length (entry_fields (entry_of l s)) ≡ entry_bytes l = length-entry_fields l (entry_of l s) (digest_read l s ∙ d) in
    has_of b at (entry_bytes l) (entry_fields (entry_of l s)) e (has-whole s _ (n ∙ sym e) (entry_alone-there l s (part-bytes b at (entry_bytes l) bytes) n))

-- ---- columns

-- fields that a column's bytes hold
pub record ColumnFits (c : Column) : Type 0 where
  pub count : c.count < 2 ^ 64
  pub directory : c.directory < 2 ^ 64

pub length-column_bytes : (c : Column) → length (column_bytes c) ≡ 16
unfolding column_bytes eight
length-column_bytes c = refl

pub length-columns_bytes : (cs : List Column) → length (columns_bytes cs) ≡ 16 * length cs
unfolding columns_bytes
length-columns_bytes [] = refl
length-columns_bytes (c ∷ cs) = simp length-append (rw (length-column_bytes c, length-columns_bytes cs) (omega arith))

-- table t's column, where it stands
pub column_read : (b : List ℕ) (t : ℕ) (c : Column) → ColumnFits c → Has b (40 + 16 * t) (column_bytes c) → column_in b t ≡ c
unfolding column_in column_bytes
column_read b t c fits h =
    let e : 40 + 16 * t + 8 ≡ 48 + 16 * t = omega arith in
    column_from _ _ _ _
    (eight_read b (40 + 16 * t) c.count fits.count (has_front b (40 + 16 * t) (eight c.count) _ h))
    (eight_read b (48 + 16 * t) c.directory fits.directory (has_at b _ _ _ (ap (λ n. 40 + 16 * t + n) (length-eight c.count) ∙ e) (has_back b (40 + 16 * t) (eight c.count) _ h)))

pub column_there : (b : List ℕ) (t : ℕ) → AreBytes b → 40 + 16 * t + 16 ≤ length b → Has b (40 + 16 * t) (column_bytes (column_in b t))
unfolding column_in column_bytes
column_there b t bytes h =
    let e : 48 + 16 * t ≡ 40 + 16 * t + 8 = omega arith in
    join b (40 + 16 * t) _ _ (eight_there b (40 + 16 * t) bytes (omega arith))
    (has_at b (48 + 16 * t) _ _ (e ∙ ap (λ n. 40 + 16 * t + n) (sym (length-eight _))) (eight_there b (48 + 16 * t) bytes (omega arith)))

-- columns one after another
pub columns_in : List ℕ → ℕ → ℕ → List Column
columns_in b t zero = []
columns_in b t (suc n) = column_in b t ∷ columns_in b (suc t) n

pub columns_read : (b : List ℕ) (t : ℕ) (cs : List Column) → All ColumnFits cs → Has b (40 + 16 * t) (columns_bytes cs) → columns_in b t (length cs) ≡ cs
unfolding columns_bytes columns_in
columns_read b t [] fits h = refl
columns_read b t (c ∷ cs) fits h =
    let e : 40 + 16 * t + length (column_bytes c) ≡ 40 + 16 * suc t = ap (λ n. 40 + 16 * t + n) (length-column_bytes c) ∙ omega arith in
    let first = column_read b t c (All-head ColumnFits c cs fits) (has_front b (40 + 16 * t) (column_bytes c) _ h) in
    let rest = columns_read b (suc t) cs (All-tail ColumnFits c cs fits) (has_at b _ _ _ e (has_back b (40 + 16 * t) (column_bytes c) _ h)) in
    rw (first, rest) refl

pub columns_there : (b : List ℕ) (t n : ℕ) → AreBytes b → 40 + 16 * t + 16 * n ≤ length b → Has b (40 + 16 * t) (columns_bytes (columns_in b t n))
unfolding columns_bytes columns_in
columns_there b t zero bytes h = has_none b (40 + 16 * t)
columns_there b t (suc n) bytes h =
    let e : 40 + 16 * suc t ≡ 40 + 16 * t + length (column_bytes (column_in b t)) = (let e' : 40 + 16 * suc t ≡ 40 + 16 * t + 16 = omega arith in e') ∙ ap (λ n. 40 + 16 * t + n) (sym (length-column_bytes (column_in b t))) in
    join b (40 + 16 * t) _ _ (column_there b t bytes (omega arith)) (has_at b _ _ _ e (columns_there b (suc t) n bytes (omega arith)))

-- ---- the header

-- fields that a header's bytes hold in this layout
pub record HeaderFits (l : Layout) (h : Header) : Type 0 where
  pub layout : h.layout ≡ l
  pub memo : h.memo_length ≤ memo_of l
  pub id : length h.id.0 ≡ 32
  pub seven : length h.columns ≡ 7
  pub columns : All ColumnFits h.columns
  pub file_length : h.file_length < 2 ^ 64

pub length-header_bytes : (l : Layout) (gate : ℕ) (h : Header) → length h.id.0 ≡ 32 → length h.columns ≡ 7 → length (header_bytes l gate h) ≡ HEADER_BYTES
unfolding header_bytes
length-header_bytes l gate h i c =
    let n = name_length l in
    simp (length-append, length-columns_bytes, length-two, length-eight) (rw (n, i, c) refl)

-- what a header says, as bytes that have it at their front are read
pub record HeaderRead (l : Layout) (gate : ℕ) (h : Header) (b : List ℕ) : Type 0 where
  pub gate_is : gate_in b ≡ gate
  pub name : name_in b ≡ name_of l
  pub zeros : zeros_in l b ≡ replicate (zeros_of l) 0
  pub header : header_in b ≡ h

-- the zeros of a layout, behind a length of the memo that it allows
zeros_read : (l : Layout) (b : List ℕ) (m : ℕ) → m ≤ memo_of l → Has b 49 (two m ++ replicate 5 0) → zeros_in l b ≡ replicate (zeros_of l) 0
unfolding zeros_of memo_of two
zeros_read One b m few h =
    let e : m ≡ 0 = omega arith in
    has-is b 49 7 (replicate 7 0) refl (subst (λ n. Has b 49 (to_be_bytes w16 n ++ replicate 5 0)) e h)
zeros_read Two b m few h = has-is b 51 5 (replicate 5 0) refl (has_back b 49 (to_be_bytes w16 m) (replicate 5 0) h)

-- and the five zeros of both
five_zeros : (l : Layout) (b : List ℕ) → zeros_in l b ≡ replicate (zeros_of l) 0 → Has b 51 (replicate 5 0)
unfolding zeros_of
five_zeros One b zeros = has_back b 49 (replicate 2 0) (replicate 5 0) (has_of b 49 7 (replicate 7 0) refl zeros)
five_zeros Two b zeros = has_of b 51 5 (replicate 5 0) refl zeros

pub header_read : (l : Layout) (gate : ℕ) (h : Header) (b : List ℕ) → HeaderFits l h → Has b 0 (header_bytes l gate h) → HeaderRead l gate h b
unfolding header_bytes header_in columns_in
header_read l gate h b fits h0 =
    let n = name_length l in
    let few = memo_few l in
    let memo = fits.memo in
    let h1 = has_back b 0 (gate ∷ []) _ h0 in
    let h16 = has_at b _ 16 _ (ap (λ j. 1 + j) n) (has_back b 1 (name_of l) _ h1) in
    let h48 = has_at b _ 48 _ (ap (λ j. 16 + j) fits.id) (has_back b 16 h.id.0 _ h16) in
    let h49 = has_back b 48 (h.size ∷ []) _ h48 in
    let h51 = has_at b _ 51 _ (ap (λ j. 49 + j) (length-two h.memo_length)) (has_back b 49 (two h.memo_length) _ h49) in
    let h56 = has_back b 51 (replicate 5 0) _ h51 in
    let said = has_front b 49 (two h.memo_length) _ h49 in
    let name = has-is b 1 15 (name_of l) n (has_front b 1 (name_of l) _ h1) in
    let long : length (columns_bytes h.columns) ≡ 112 = length-columns_bytes h.columns ∙ ap (λ j. 16 * j) fits.seven in
    let h168 = has_at b _ 168 _ (ap (λ j. 56 + j) long) (has_back b 56 (columns_bytes h.columns) _ h56) in
    let columns : columns_in b 1 7 ≡ h.columns = ap (columns_in b 1) (sym fits.seven) ∙ columns_read b 1 h.columns fits.columns (has_front b 56 (columns_bytes h.columns) _ h56) in
    record {
      gate_is = has-get b 0 _ 0 (has_front b 0 (gate ∷ []) _ h0) (omega arith);
      name = name;
      zeros = zeros_read l b h.memo_length fits.memo (join b 49 (two h.memo_length) (replicate 5 0) said (has_at b _ _ _ (ap (λ j. 49 + j) (sym (length-two h.memo_length))) (has_front b 51 (replicate 5 0) _ h51)));
      header = header_from _ _ _ _ _ _ _ _ _ _ _ _
          (layout_named l b name ∙ sym fits.layout)
          (has-is b 16 32 h.id.0 fits.id (has_front b 16 h.id.0 _ h16))
          (has-get b 48 _ 0 (has_front b 48 (h.size ∷ []) _ h48) (omega arith))
          (two_read b 49 h.memo_length (omega arith) said)
          columns
          (eight_read b 168 h.file_length fits.file_length h168);
    }

pub header_there : (l : Layout) (b : List ℕ) → AreBytes b → HEADER_BYTES ≤ length b → name_in b ≡ name_of l → zeros_in l b ≡ replicate (zeros_of l) 0 → Has b 0 (header_bytes l (gate_in b) (header_in b))
unfolding header_bytes header_in columns_in
header_there l b bytes long name zeros =
    let n : length (name_of l) ≡ 15 = ap length (sym name) ∙ length-part b 1 15 (omega arith) in
    let i : length (part b 16 32) ≡ 32 = length-part b 16 32 (omega arith) in
    let cs = columns_in b 1 7 in
    let c : length (columns_bytes cs) ≡ 112 = length-columns_bytes cs in
    join b 0 (gate_in b ∷ []) _ (one_there b 0 (omega arith))
    (join b 1 (name_of l) _ (has_of b 1 15 (name_of l) n name)
    (has_at b 16 _ _ (ap (λ j. 1 + j) (sym n)) (join b 16 (part b 16 32) _ (has_part b 16 32 (omega arith))
    (has_at b 48 _ _ (ap (λ j. 16 + j) (sym i)) (join b 48 (get_or b 48 0 ∷ []) _ (one_there b 48 (omega arith))
    (join b 49 (two (two_at b 49)) _ (two_there b 49 bytes (omega arith))
    (has_at b 51 _ _ (ap (λ j. 49 + j) (sym (length-two (two_at b 49)))) (join b 51 (replicate 5 0) _ (five_zeros l b zeros)
    (join b 56 (columns_bytes cs) _ (columns_there b 1 7 bytes (omega arith))
    (has_at b 168 _ _ (ap (λ j. 56 + j) (sym c)) (eight_there b 168 bytes (omega arith))))))))))))
