-- What the file of a plot has are bytes.
use Rattle.std.proofs.Common.{ℕ, zero, suc, ◌+◌, ◌<◌, List, [], ◌∷◌, ◌++◌, length, take, replicate, arith}
use Rattle.std.proofs.lemmas.List.Elements.{All-nil, All-cons, All-append, All-take}
use Rattle.std.specs.Prelude.{slice_index}
use Rattle.std.specs.Int.{w32, to_be_bytes}
use Rattle.sha2.specs.Sha256.{sha256, digest_bytes, final_hash, initial_hash_256}
use Rattle.pos_bits.specs.Bits.{AreBytes}
use Rattle.pos_bits.proofs.BytesLemmas.{bytes_high_first-are_bytes}
use Rattle.pos_layout.specs.declared.header.Column.{Column}
use Rattle.pos_layout.specs.declared.header.Header.{Header}
use Rattle.pos_layout.specs.Bytes.{two, four, eight}
use Rattle.pos_layout.specs.Layouts.{Layout, IsMemo, name_of, digest_of}
use Rattle.pos_layout.specs.Lists.{IsPlot}
use Rattle.pos_lists.specs.PlotLists.{PlotLists}
use Rattle.pos_layout.specs.Fields.{column_bytes, columns_bytes, header_bytes, after_memo, entry_fields}
use Rattle.pos_layout.specs.Files.{park_of, parks_in, park_bytes, entry_for, directory, table_bytes, tables_bytes, body_of, header_of, file_with, file_of}
use Rattle.pos_layout.proofs.LayoutLemmas.{name_bytes}
use Rattle.pos_layout.proofs.NumberLemmas.{park_of-bytes}

both : (x y : List ℕ) → AreBytes x → AreBytes y → AreBytes (x ++ y)
both x y = All-append (λ b. b < 256) x y

zeros-are_bytes : (n : ℕ) → AreBytes (replicate n 0)
zeros-are_bytes zero = All-nil (λ b. b < 256)
zeros-are_bytes (suc n) = All-cons (λ b. b < 256) 0 (replicate n 0) (omega arith) (zeros-are_bytes n)

two-are_bytes : (n : ℕ) → AreBytes (two n)
unfolding two
two-are_bytes n = bytes_high_first-are_bytes 2 n

eight-are_bytes : (n : ℕ) → AreBytes (eight n)
unfolding eight
eight-are_bytes n = bytes_high_first-are_bytes 8 n

four-are_bytes : (n : ℕ) → AreBytes (four n)
unfolding four
four-are_bytes n = bytes_high_first-are_bytes 4 n

digest-are_bytes : (h : List ℕ) (n : ℕ) → AreBytes (digest_bytes h n)
unfolding digest_bytes
digest-are_bytes h zero = All-nil (λ b. b < 256)
digest-are_bytes h (suc n) = both (digest_bytes h n) (to_be_bytes w32 (slice_index h n)) (digest-are_bytes h n) (bytes_high_first-are_bytes 4 (slice_index h n))

sha256-are_bytes : (s : List ℕ) → AreBytes (sha256 s)
unfolding sha256
sha256-are_bytes s = digest-are_bytes (final_hash initial_hash_256 s) 8

entry-are_bytes : (l : Layout) (k t at : ℕ) (ns : List ℕ) → AreBytes (entry_fields (entry_for l k t at ns))
unfolding entry_fields entry_for
entry-are_bytes l k t at ns =
    both (eight at) _ (eight-are_bytes at)
    (both (four (length (park_of k ns))) _ (four-are_bytes _)
    (both (four (length ns)) _ (four-are_bytes _)
    (both (take (digest_of l) (sha256 (park_of k ns))) _ (All-take (λ b. b < 256) (digest_of l) _ (sha256-are_bytes (park_of k ns))) (eight-are_bytes _))))

parks-are_bytes : (k : ℕ) (parks : List (List ℕ)) → AreBytes (park_bytes k parks)
unfolding park_bytes
parks-are_bytes k [] = All-nil (λ b. b < 256)
parks-are_bytes k (ns ∷ parks) = both (park_of k ns) _ (park_of-bytes k ns) (parks-are_bytes k parks)

directory-are_bytes : (l : Layout) (k t at : ℕ) (parks : List (List ℕ)) → AreBytes (directory l k t at parks)
unfolding directory
directory-are_bytes l k t at [] = All-nil (λ b. b < 256)
directory-are_bytes l k t at (ns ∷ parks) = both (entry_fields (entry_for l k t at ns)) _ (entry-are_bytes l k t at ns) (directory-are_bytes l k t (at + length (park_of k ns)) parks)

tables-are_bytes : (l : Layout) (k t at : ℕ) (tables : List (List ℕ)) → AreBytes (tables_bytes l k t at tables)
unfolding tables_bytes table_bytes
tables-are_bytes l k t at [] = All-nil (λ b. b < 256)
tables-are_bytes l k t at (ns ∷ tables) =
    both (table_bytes l k t at ns) _ (both (park_bytes k (parks_in l ns)) _ (parks-are_bytes k (parks_in l ns)) (directory-are_bytes l k t at (parks_in l ns))) (tables-are_bytes l k (suc t) (at + length (table_bytes l k t at ns)) tables)

columns-are_bytes : (cs : List Column) → AreBytes (columns_bytes cs)
unfolding columns_bytes column_bytes
columns-are_bytes [] = All-nil (λ b. b < 256)
columns-are_bytes (c ∷ cs) = both (column_bytes c) _ (both (eight c.count) _ (eight-are_bytes _) (eight-are_bytes _)) (columns-are_bytes cs)

header-are_bytes : (l : Layout) (h : Header) → AreBytes (name_of l) → AreBytes h.id.0 → h.size < 256 → AreBytes (header_bytes l 1 h)
unfolding header_bytes
header-are_bytes l h name id size =
    let end = columns_bytes h.columns ++ eight h.file_length in
    let zeros = replicate 5 0 ++ end in
    let rest = two h.memo_length ++ zeros in
    let ends : AreBytes end = both (columns_bytes h.columns) (eight h.file_length) (columns-are_bytes h.columns) (eight-are_bytes h.file_length) in
    let rests : AreBytes (h.size ∷ rest) = All-cons (λ b. b < 256) h.size rest size (both (two h.memo_length) zeros (two-are_bytes h.memo_length) (both (replicate 5 0) end (zeros-are_bytes 5) ends)) in
    All-cons (λ b. b < 256) 1 (name_of l ++ (h.id.0 ++ h.size ∷ rest)) (omega arith)
    (both (name_of l) (h.id.0 ++ h.size ∷ rest) name (both h.id.0 (h.size ∷ rest) id rests))

pub file-are_bytes : (l : Layout) (memo : List ℕ) (p : PlotLists) → IsMemo l memo → IsPlot p → AreBytes (file_of l memo p)
unfolding file_with header_of body_of
file-are_bytes l memo p allowed plot =
    both (header_bytes l 1 (header_of l memo p)) _ (header-are_bytes l (header_of l memo p) (name_bytes l) plot.id_bytes (let g = plot.greatest in omega arith)) (both memo _ allowed.bytes (tables-are_bytes l p.k 1 (after_memo memo) p.tables))
