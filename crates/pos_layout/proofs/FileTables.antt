-- A table of a file: its bytes as a function of its numbers, and what its entries say.
use Rattle.std.proofs.Common.{◌≡◌, ℕ, zero, suc, ◌+◌, ◌-◌, ◌*◌, ◌^◌, ◌<◌, ◌≤◌, ◌⊎◌, inl, inr, leb, eqb, cond, true, false, Bool, List, [], ◌∷◌, length, take, get_or, All, refl, sym, ap, ◌∙◌, subst, arith, length-append}
use Rattle.std.specs.List.{concat}
use Rattle.std.proofs.lemmas.Bool.{cases_lt}
use Rattle.std.proofs.lemmas.Bool.Decides.{nat_tests}
use Rattle.std.proofs.lemmas.List.{length-take-le, ext_get_or}
use Rattle.std.proofs.lemmas.List.Elements.{All-nil, All-append}
use Rattle.std.proofs.Math.Nat.{mul-le-mul_left, mul-le-mul_right}
use Rattle.sha2.specs.Sha256.{sha256}
use Rattle.sha2.proofs.Facts256.{length-sha256}
use Rattle.pos_bits.specs.Bits.{AreBytes}
use Rattle.pos_rice.specs.Park.{AreNumbers, Park}
use Rattle.pos_rice.proofs.ParkLemmas.{Park-short, Park-one_list_of_numbers}
use Rattle.pos_layout.specs.declared.header.Header.{Header}
use Rattle.pos_layout.specs.declared.entry.ParkEntry.{ParkEntry}
use Rattle.pos_layout.specs.Layouts.{Layout, full_of, digest_of, entry_bytes, longest_park, parks_of}
use Rattle.pos_layout.specs.Lists.{IsTable}
use Rattle.pos_lists.specs.PlotLists.{f7_in}
use Rattle.pos_layout.specs.Fields.{header_in, count_of, directory_of, end_of, entry_in, entry_fields, park_in}
use Rattle.pos_layout.specs.Rules.{StoresPark, StoresTable, park_start, head_of}
use Rattle.pos_layout.specs.Files.{park_of, parks_in, park_bytes, entry_for, directory, table_bytes}
use Rattle.pos_layout.proofs.CodecLemmas.{entry_from, length-part}
use Rattle.pos_layout.proofs.FileParts.{Has, has_front, has_back, join, has_at, has_same, has_of}
use Rattle.pos_layout.proofs.FileFields.{EntryFits, entry_read, entry_there}
use Rattle.pos_layout.proofs.LayoutLemmas.{full_some, digest_few}
use Rattle.pos_layout.proofs.NumberLemmas.{park_of-is, park_of-only, park_of-some, head_fits}
use Rattle.pos_layout.proofs.FileParks.{parks_in-get, parks_in-numbers, length-parks_in, concat-parks_in, length-part_of, starts, starts-first, starts-next, starts-last, starts-le, parks_from, parks_to, entries_from, entries_to, length-directory}

-- Table s + 1 of b has these numbers: so says the header, and there stand its parks and its directory.
pub record TableAt (l : Layout) (b : List ℕ) (s : ℕ) (ns : List ℕ) : Type 0 where
  pub count : count_of (header_in b) (suc s) ≡ length ns
  pub directory : directory_of (header_in b) (suc s) ≡ end_of l (header_in b) s + length (park_bytes (header_in b).size (parks_in l ns))
  pub bytes : Has b (end_of l (header_in b) s) (table_bytes l (header_in b).size (suc s) (end_of l (header_in b) s) ns)

pub length-table_bytes : (l : Layout) (k t at : ℕ) (ns : List ℕ) → length (table_bytes l k t at ns) ≡ length (park_bytes k (parks_in l ns)) + entry_bytes l * parks_of l (length ns)
unfolding table_bytes
length-table_bytes l k t at ns =
    let some = full_some l in
    length-append (park_bytes k (parks_in l ns)) (directory l k t at (parks_in l ns))
    ∙ ap (λ n. length (park_bytes k (parks_in l ns)) + n) (length-directory l k t at (parks_in l ns) ∙ ap (λ n. entry_bytes l * n) (length-parks_in l ns (omega arith)))

pub end_of-next : (l : Layout) (h : Header) (s : ℕ) → end_of l h (suc s) ≡ directory_of h (suc s) + entry_bytes l * parks_of l (count_of h (suc s))
unfolding end_of
end_of-next l h s = refl

pub TableAt-end : (l : Layout) (b : List ℕ) (s : ℕ) (ns : List ℕ) → TableAt l b s ns
    → end_of l (header_in b) (suc s) ≡ end_of l (header_in b) s + length (table_bytes l (header_in b).size (suc s) (end_of l (header_in b) s) ns)
TableAt-end l b s ns h =
    let h0 = header_in b in
    let n = length-table_bytes l h0.size (suc s) (end_of l h0 s) ns in
    let e = end_of-next l h0 s ∙ ap (λ c. directory_of h0 (suc s) + entry_bytes l * parks_of l c) h.count in
    let d = h.directory in
    omega arith

-- ---- from the bytes to the rules

-- what a table needs for that
pub record TableFits (l : Layout) (b : List ℕ) (s : ℕ) (ns : List ℕ) : Type 0 where
  pub table : IsTable (header_in b).size ns
  pub small : (header_in b).size ≤ 50
  pub room : end_of l (header_in b) (suc s) < 2 ^ 64
  pub at : TableAt l b s ns

fits-numbers : (l : Layout) (b : List ℕ) (s : ℕ) (ns : List ℕ) (j : ℕ) → TableFits l b s ns → j < length (parks_in l ns) → AreNumbers (header_in b).size (get_or (parks_in l ns) j [])
fits-numbers l b s ns j h i = parks_in-numbers l (header_in b).size ns j h.table i

fits-parks : (l : Layout) (b : List ℕ) (s : ℕ) (ns : List ℕ) → TableFits l b s ns → Has b (end_of l (header_in b) s) (park_bytes (header_in b).size (parks_in l ns))
unfolding table_bytes
fits-parks l b s ns h = has_front b _ _ (directory l (header_in b).size (suc s) (end_of l (header_in b) s) (parks_in l ns)) h.at.bytes

fits-directory : (l : Layout) (b : List ℕ) (s : ℕ) (ns : List ℕ) → TableFits l b s ns
    → Has b (directory_of (header_in b) (suc s)) (directory l (header_in b).size (suc s) (end_of l (header_in b) s) (parks_in l ns))
unfolding table_bytes
fits-directory l b s ns h = has_at b _ _ _ (sym h.at.directory) (has_back b _ (park_bytes (header_in b).size (parks_in l ns)) _ h.at.bytes)

head-fits : (k t : ℕ) (ns : List ℕ) → k ≤ 50 → AreNumbers k ns → head_of k t ns < 2 ^ 64
head-fits k t ns h numbers = cases (eqb t 7)
  where
    cases : (b : Bool) → cond b (f7_in k (get_or ns 0 0)) 0 < 2 ^ 64
    cases true = let small = head_fits k ns h numbers in omega arith
    cases false = omega arith

entry_for-fits : (l : Layout) (k t at : ℕ) (ns : List ℕ) → k ≤ 50 → AreNumbers k ns → at < 2 ^ 64 → EntryFits l (entry_for l k t at ns)
unfolding entry_for
entry_for-fits l k t at ns h numbers low =
    let short = Park-short k ns (park_of k ns) (park_of-is k ns numbers) in
    let few = numbers.few in
    let wide : (2 * k + 4) * length ns ≤ 104 * length ns = mul-le-mul_right (length ns) (omega arith) in
    record {
      offset = low;
      park_length = omega arith;
      count = omega arith;
      digest = length-take-le (digest_of l) (sha256 (park_of k ns)) (omega (arith, length-sha256 (park_of k ns), digest_few l));
      head = head-fits k t ns h numbers;
    }

fits-entry : (l : Layout) (b : List ℕ) (s : ℕ) (ns : List ℕ) (j : ℕ) → TableFits l b s ns → j < length (parks_in l ns)
    → entry_in l b (suc s) j ≡ entry_for l (header_in b).size (suc s) (starts (header_in b).size (end_of l (header_in b) s) (parks_in l ns) j) (get_or (parks_in l ns) j [])
unfolding entry_in
fits-entry l b s ns j h i =
    let k = (header_in b).size in
    let at = end_of l (header_in b) s in
    let le = starts-le k at (parks_in l ns) j in
    let dir = h.at.directory in
    let next = end_of-next l (header_in b) s in
    let room = h.room in
    entry_read l b _ _ (entry_for-fits l k (suc s) _ _ h.small (fits-numbers l b s ns j h i) (omega arith))
    (entries_from l b k (suc s) (directory_of (header_in b) (suc s)) at (parks_in l ns) j (fits-directory l b s ns h) i)

-- the park of the entry
fits-park : (l : Layout) (b : List ℕ) (s : ℕ) (ns : List ℕ) (j : ℕ) → TableFits l b s ns → j < length (parks_in l ns)
    → park_in b (entry_in l b (suc s) j) ≡ park_of (header_in b).size (get_or (parks_in l ns) j [])
unfolding entry_for
fits-park l b s ns j h i =
    let k = (header_in b).size in
    ap (park_in b) (fits-entry l b s ns j h i) ∙ at_entry l b k (suc s) _ _ (parks_from b k (end_of l (header_in b) s) (parks_in l ns) j (fits-parks l b s ns h) i)
  where
    at_entry : (l : Layout) (b : List ℕ) (k t at : ℕ) (ns : List ℕ) → Has b at (park_of k ns) → park_in b (entry_for l k t at ns) ≡ park_of k ns
    at_entry l b k t at ns h = h.is

fits-start : (l : Layout) (b : List ℕ) (s : ℕ) (ns : List ℕ) (j : ℕ) → TableFits l b s ns → j ≤ length (parks_in l ns)
    → park_start l b (suc s) j ≡ starts (header_in b).size (end_of l (header_in b) s) (parks_in l ns) j
unfolding park_start entry_for
fits-start l b s ns zero h i =
    let e : suc s - 1 ≡ s = omega arith in
    ap (end_of l (header_in b)) e ∙ sym (starts-first (header_in b).size (end_of l (header_in b) s) (parks_in l ns))
fits-start l b s ns (suc j) h i =
    let k = (header_in b).size in
    let at = end_of l (header_in b) s in
    ap (λ (e : ParkEntry). e.offset + e.park_length) (fits-entry l b s ns j h (omega arith)) ∙ sym (starts-next k at (parks_in l ns) j (omega arith))

-- a park within its limit
pub park_of-within : (l : Layout) (k : ℕ) (ns : List ℕ) → k ≤ 50 → AreNumbers k ns → length ns ≤ full_of l → length (park_of k ns) ≤ longest_park l k
park_of-within l k ns h numbers few =
    let short = Park-short k ns (park_of k ns) (park_of-is k ns numbers) in
    let some = full_some l in
    cases (cases_lt 32 k) short
  where
    cases : 32 < k ⊎ k ≤ 32 → 8 * length (park_of k ns) ≤ (2 * k + 4) * length ns + 12 → length (park_of k ns) ≤ longest_park l k
    cases (inr low) short =
        let t : leb k 32 ≡ true = grind (arith, nat_tests) in
        let some = full_some l in
        let wide : (2 * k + 4) * length ns ≤ 68 * length ns = mul-le-mul_right (length ns) (omega arith) in
        rw t (omega arith)
    cases (inl high) short =
        let t : leb k 32 ≡ false = grind (arith, nat_tests) in
        let some = full_some l in
        let wide : (2 * k + 4) * length ns ≤ 104 * length ns = mul-le-mul_right (length ns) (omega arith) in
        rw t (omega arith)

pub stores_table : (l : Layout) (b : List ℕ) (s : ℕ) (ns : List ℕ) → TableFits l b s ns → StoresTable l b (suc s) ns
unfolding entry_for
stores_table l b s ns h = record {
  count = sym h.at.count;
  rising = h.table.rising;
  starts = λ j i. ap (λ (e : ParkEntry). e.offset) (fits-entry l b s ns j h (inside j i)) ∙ sym (fits-start l b s ns j h (omega (arith, inside j i)));
  ends = ap (park_start l b (suc s)) (sym count) ∙ (fits-start l b s ns (length (parks_in l ns)) h (omega arith) ∙ (starts-last _ _ (parks_in l ns) ∙ sym h.at.directory));
  parks = λ j i. subst (λ ns'. StoresPark l b (suc s) ns' (entry_in l b (suc s) j)) (parks_in-get l ns j some) (park_there j (inside j i));
}
  where
    some : 1 ≤ full_of l
    some = let g = full_some l in omega arith

    count : length (parks_in l ns) ≡ parks_of l (length ns)
    count = length-parks_in l ns some

    inside : (j : ℕ) → j < parks_of l (length ns) → j < length (parks_in l ns)
    inside j i = omega (arith, count)

    park_there : (j : ℕ) → j < length (parks_in l ns) → StoresPark l b (suc s) (get_or (parks_in l ns) j []) (entry_in l b (suc s) j)
    park_there j i =
        let ns' = get_or (parks_in l ns) j [] in
        let k = (header_in b).size in
        let e = fits-entry l b s ns j h i in
        let numbers = fits-numbers l b s ns j h i in
        let p = fits-park l b s ns j h i in
        let few : length ns' ≤ full_of l = omega (arith, ap length (parks_in-get l ns j some), length-part_of ns (full_of l * j) (full_of l)) in
        record {
          some = subst (λ n. 1 ≤ n) (sym (ap (λ (e : ParkEntry). e.park_length) e)) (park_of-some k ns' numbers);
          short = subst (λ n. n ≤ longest_park l k) (sym (ap (λ (e : ParkEntry). e.park_length) e)) (park_of-within l k ns' h.small numbers few);
          count = ap (λ (e : ParkEntry). e.count) e;
          head = ap (λ (e : ParkEntry). e.head) e;
          digest = ap (λ (e : ParkEntry). e.digest) e ∙ ap (λ s. take (digest_of l) (sha256 s)) (sym p);
          park = subst (Park k ns') (sym p) (park_of-is k ns' numbers);
        }

All-concat : (P : ℕ → Type 0) (parks : List (List ℕ)) → ((j : ℕ) → j < length parks → All P (get_or parks j [])) → All P (concat parks)
All-concat P [] h = All-nil P
All-concat P (ns ∷ parks) h = All-append P ns (concat parks) (h 0 (omega arith)) (All-concat P parks (λ j i. h (suc j) (omega arith)))

-- ---- from the rules to the bytes

module _ (l : Layout) (b : List ℕ) (s : ℕ) (ns : List ℕ) (bytes_ : AreBytes b) (room : end_of l (header_in b) (suc s) ≤ length b) (st : StoresTable l b (suc s) ns) where
  some_full : 1 ≤ full_of l
  some_full = let g = full_some l in omega arith

  park_count_is : length (parks_in l ns) ≡ parks_of l (length ns)
  park_count_is = length-parks_in l ns some_full

  stored : (j : ℕ) → j < length (parks_in l ns) → StoresPark l b (suc s) (get_or (parks_in l ns) j []) (entry_in l b (suc s) j)
  stored j i = subst (λ ns'. StoresPark l b (suc s) ns' (entry_in l b (suc s) j)) (sym (parks_in-get l ns j some_full)) (st.parks j (omega (arith, park_count_is)))

  start-next : (j : ℕ) → j < length (parks_in l ns) → park_start l b (suc s) (suc j) ≡ park_start l b (suc s) j + (entry_in l b (suc s) j).park_length
  unfolding park_start
  start-next j i = ap (λ n. n + (entry_in l b (suc s) j).park_length) (st.starts j (omega (arith, park_count_is)))

  start-le : (d j : ℕ) → j + d ≡ length (parks_in l ns) → park_start l b (suc s) j ≤ directory_of (header_in b) (suc s)
  start-le zero j e =
      let same : j ≡ parks_of l (length ns) = omega (arith, park_count_is) in
      let last = ap (park_start l b (suc s)) same ∙ st.ends in
      omega arith
  start-le (suc d) j e =
      let next = start-next j (omega arith) in
      let more = start-le d (suc j) (omega arith) in
      omega arith

  dir-le : directory_of (header_in b) (suc s) + entry_bytes l * parks_of l (length ns) ≤ length b
  dir-le = let e = end_of-next l (header_in b) s ∙ ap (λ c. directory_of (header_in b) (suc s) + entry_bytes l * parks_of l c) (sym st.count) in omega arith

  park-is : (j : ℕ) → j < length (parks_in l ns) → park_in b (entry_in l b (suc s) j) ≡ park_of (header_in b).size (get_or (parks_in l ns) j [])
  park-is j i = park_of-only (header_in b).size (get_or (parks_in l ns) j []) (park_in b (entry_in l b (suc s) j)) (stored j i).park

  length-is : (j : ℕ) → j < length (parks_in l ns) → (entry_in l b (suc s) j).park_length ≡ length (park_of (header_in b).size (get_or (parks_in l ns) j []))
  length-is j i =
      let e = entry_in l b (suc s) j in
      let o = st.starts j (omega (arith, park_count_is)) in
      let next = start-next j i in
      let le = start-le (length (parks_in l ns) - suc j) (suc j) (omega arith) in
      let d = dir-le in
      sym (length-part b e.offset e.park_length (omega arith)) ∙ ap length (park-is j i)

  start-is : (j : ℕ) → j ≤ length (parks_in l ns) → park_start l b (suc s) j ≡ starts (header_in b).size (end_of l (header_in b) s) (parks_in l ns) j
  unfolding park_start
  start-is zero i =
      let e : suc s - 1 ≡ s = omega arith in
      ap (end_of l (header_in b)) e ∙ sym (starts-first (header_in b).size (end_of l (header_in b) s) (parks_in l ns))
  start-is (suc j) i =
      let e = entry_in l b (suc s) j in
      let o : e.offset ≡ starts (header_in b).size (end_of l (header_in b) s) (parks_in l ns) j = st.starts j (omega (arith, park_count_is)) ∙ start-is j (omega arith) in
      ap (λ n. n + e.park_length) o ∙ (ap (λ n. starts (header_in b).size (end_of l (header_in b) s) (parks_in l ns) j + n) (length-is j (omega arith))
      ∙ sym (starts-next (header_in b).size (end_of l (header_in b) s) (parks_in l ns) j (omega arith)))

  offset-is : (j : ℕ) → j < length (parks_in l ns) → (entry_in l b (suc s) j).offset ≡ starts (header_in b).size (end_of l (header_in b) s) (parks_in l ns) j
  offset-is j i = st.starts j (omega (arith, park_count_is)) ∙ start-is j (omega arith)

  parks_there : Has b (end_of l (header_in b) s) (park_bytes (header_in b).size (parks_in l ns))
  parks_there = parks_to b (header_in b).size (end_of l (header_in b) s) (parks_in l ns)
      (λ j i. has_at b _ _ _ (offset-is j i) (has_of b (entry_in l b (suc s) j).offset (entry_in l b (suc s) j).park_length _ (sym (length-is j i)) (park-is j i)))

  directory-is : directory_of (header_in b) (suc s) ≡ end_of l (header_in b) s + length (park_bytes (header_in b).size (parks_in l ns))
  directory-is = sym st.ends ∙ (ap (park_start l b (suc s)) (sym park_count_is) ∙ (start-is (length (parks_in l ns)) (omega arith) ∙ starts-last (header_in b).size (end_of l (header_in b) s) (parks_in l ns)))

  entry-is : (j : ℕ) → j < length (parks_in l ns)
      → entry_in l b (suc s) j ≡ entry_for l (header_in b).size (suc s) (starts (header_in b).size (end_of l (header_in b) s) (parks_in l ns) j) (get_or (parks_in l ns) j [])
  unfolding entry_for
  entry-is j i =
      let e = entry_in l b (suc s) j in
      let p = stored j i in
      entry_from e.offset _ e.park_length _ e.count _ e.digest _ e.head _ (offset-is j i) (length-is j i) p.count (p.digest ∙ ap (λ s. take (digest_of l) (sha256 s)) (park-is j i)) p.head

  entry-there : (j : ℕ) → j < length (parks_in l ns) → Has b (directory_of (header_in b) (suc s) + entry_bytes l * j) (entry_fields (entry_in l b (suc s) j))
  unfolding entry_in
  entry-there j i =
      let more : entry_bytes l * suc j ≤ entry_bytes l * parks_of l (length ns) = mul-le-mul_left (entry_bytes l) (omega (arith, park_count_is)) in
      let d = dir-le in
      entry_there l b (directory_of (header_in b) (suc s) + entry_bytes l * j) bytes_ (omega arith)

  entries_there : Has b (directory_of (header_in b) (suc s)) (directory l (header_in b).size (suc s) (end_of l (header_in b) s) (parks_in l ns))
  entries_there = entries_to l b (header_in b).size (suc s) (directory_of (header_in b) (suc s)) (end_of l (header_in b) s) (parks_in l ns)
      (λ j i. has_same b _ _ _ (ap entry_fields (entry-is j i)) (entry-there j i))

  pub table_there : TableAt l b s ns
  unfolding table_bytes
  table_there = record {
    count = sym st.count;
    directory = directory-is;
    bytes = join b _ _ _ parks_there (has_at b _ _ _ directory-is entries_there);
  }

  -- and its numbers are such as a table has
  pub table-numbers : count_of (header_in b) (suc s) ≤ 2 ^ ((header_in b).size + 1) → IsTable (header_in b).size ns
  table-numbers few = record {
    few = let e = st.count in omega arith;
    rising = st.rising;
    below = subst (All (λ n. n < 2 ^ (2 * (header_in b).size + 2))) (concat-parks_in l ns some_full) (All-concat (λ n. n < 2 ^ (2 * (header_in b).size + 2)) (parks_in l ns) (λ j i. (stored j i).park.numbers.below));
  }

-- ---- one list for a table

pub one_table : (l : Layout) (b : List ℕ) (t : ℕ) (ms ns : List ℕ) → (header_in b).size < 64 → StoresTable l b t ms → StoresTable l b t ns → ms ≡ ns
one_table l b t ms ns small p q =
    sym (concat-parks_in l ms some) ∙ (ap concat (ext_get_or [] (parks_in l ms) (parks_in l ns) count same) ∙ concat-parks_in l ns some)
  where
    some : 1 ≤ full_of l
    some = let g = full_some l in omega arith

    long : length ms ≡ length ns
    long = p.count ∙ sym q.count

    mine : length (parks_in l ms) ≡ parks_of l (length ms)
    mine = length-parks_in l ms some

    count : length (parks_in l ms) ≡ length (parks_in l ns)
    count = mine ∙ (ap (parks_of l) long ∙ sym (length-parks_in l ns some))

    same : (j : ℕ) → j < length (parks_in l ms) → get_or (parks_in l ms) j [] ≡ get_or (parks_in l ns) j []
    same j i =
        let x = p.parks j (omega (arith, mine)) in
        let y = q.parks j (omega (arith, mine, ap (parks_of l) long)) in
        parks_in-get l ms j some ∙ (Park-one_list_of_numbers (header_in b).size _ _ (park_in b (entry_in l b t j)) small (sym x.count ∙ y.count) x.park y.park ∙ sym (parks_in-get l ns j some))
