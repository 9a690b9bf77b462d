-- The parts of a file as it grows: one park more, one table more, how long they are, and how numbers are cut into parks.
use Rattle.std.proofs.Common.{◌≡◌, ℕ, zero, suc, ◌+◌, ◌-◌, ◌*◌, ◌^◌, ◌<◌, ◌≤◌, min, List, [], ◌∷◌, ◌++◌, length, take, drop, All, refl, sym, ap, ◌∙◌, arith, length-append, append_assoc, append-nil}
use Rattle.std.specs.Int.{w64, to_be_bytes}
use Rattle.std.specs.List.{concat}
use Rattle.std.specs.List.Sorted.{IsStrictlyIncreasing}
use Rattle.std.proofs.lemmas.List.{length-take, length-take-le, length-drop, take_all, drop_all, take_at, drop_at, take-append-drop}
use Rattle.std.proofs.lemmas.List.Elements.{All-nil, All-cons, All-head, All-tail}
use Rattle.std.proofs.Math.Nat.{suc-mul}
use Rattle.sha2.specs.Sha256.{sha256}
use Rattle.sha2.proofs.Facts256.{length-sha256}
use Rattle.pos_rice.specs.declared.TheConstants.{MOST_NUMBERS}
use Rattle.pos_rice.specs.Park.{AreNumbers}
use Rattle.pos_layout.specs.declared.header.Column.{Column}
use Rattle.pos_layout.specs.declared.entry.ParkEntry.{ParkEntry}
use Rattle.pos_layout.specs.Bytes.{four, eight}
use Rattle.pos_layout.specs.Layouts.{Layout, full_of, digest_of, entry_bytes}
use Rattle.pos_layout.specs.Fields.{entry_fields}
use Rattle.pos_layout.specs.Lists.{IsTable}
use Rattle.pos_layout.specs.Files.{park_of, cut, parks_in, park_bytes, entry_for, directory, table_bytes, tables_bytes, columns_for}
use Rattle.pos_layout.proofs.LayoutLemmas.{full_some, full_few, digest_few}
use Rattle.pos_layout.proofs.NumberLemmas.{rising-take, rising-drop, All-take, All-drop, park_of-short}

-- ---- one park more

pub park_bytes-push : (k : ℕ) (parks : List (List ℕ)) (ns : List ℕ) → park_bytes k (parks ++ ns ∷ []) ≡ park_bytes k parks ++ park_of k ns
unfolding park_bytes
park_bytes-push k [] ns = append-nil (park_of k ns)
park_bytes-push k (p ∷ parks) ns = ap (λ y. park_of k p ++ y) (park_bytes-push k parks ns) ∙ sym (append_assoc (park_of k p) (park_bytes k parks) (park_of k ns))

pub directory-push : (l : Layout) (k t at : ℕ) (parks : List (List ℕ)) (ns : List ℕ)
    → directory l k t at (parks ++ ns ∷ []) ≡ directory l k t at parks ++ entry_fields (entry_for l k t (at + length (park_bytes k parks)) ns)
unfolding directory park_bytes
directory-push l k t at [] ns =
    let e : at + 0 ≡ at = omega arith in
    rw e (append-nil (entry_fields (entry_for l k t at ns)))
directory-push l k t at (p ∷ parks) ns =
    let e : at + length (park_of k p) + length (park_bytes k parks) ≡ at + length (park_of k p ++ park_bytes k parks) = omega (arith, length-append (park_of k p) (park_bytes k parks)) in
    let more = directory-push l k t (at + length (park_of k p)) parks ns in
    ap (λ y. entry_fields (entry_for l k t at p) ++ y) (more ∙ ap (λ j. directory l k t (at + length (park_of k p)) parks ++ entry_fields (entry_for l k t j ns)) e)
    ∙ sym (append_assoc (entry_fields (entry_for l k t at p)) (directory l k t (at + length (park_of k p)) parks) (entry_fields (entry_for l k t (at + length (park_of k p ++ park_bytes k parks)) ns)))

-- ---- one table more

pub tables_bytes-push : (l : Layout) (k t at : ℕ) (tables : List (List ℕ)) (ns : List ℕ)
    → tables_bytes l k t at (tables ++ ns ∷ []) ≡ tables_bytes l k t at tables ++ table_bytes l k (t + length tables) (at + length (tables_bytes l k t at tables)) ns
unfolding tables_bytes
tables_bytes-push l k t at [] ns =
    let e : at + 0 ≡ at = omega arith in
    let f : t + 0 ≡ t = omega arith in
    rw (e, f) (append-nil (table_bytes l k t at ns))
tables_bytes-push l k t at (p ∷ tables) ns =
    let first = table_bytes l k t at p in
    let rest = tables_bytes l k (suc t) (at + length first) tables in
    let e : at + length first + length rest ≡ at + length (first ++ rest) = omega (arith, length-append first rest) in
    let f : suc t + length tables ≡ t + suc (length tables) = omega arith in
    let more = tables_bytes-push l k (suc t) (at + length first) tables ns in
    ap (λ y. first ++ y) (more ∙ (ap (λ j. rest ++ table_bytes l k (suc t + length tables) j ns) e ∙ ap (λ j. rest ++ table_bytes l k j (at + length (first ++ rest)) ns) f))
    ∙ sym (append_assoc first rest (table_bytes l k (t + suc (length tables)) (at + length (first ++ rest)) ns))

pub columns_for-push : (l : Layout) (k t at : ℕ) (tables : List (List ℕ)) (ns : List ℕ)
    → columns_for l k t at (tables ++ ns ∷ []) ≡ columns_for l k t at tables ++ record { count = length ns; directory = at + length (tables_bytes l k t at tables) + length (park_bytes k (parks_in l ns)) } ∷ []
unfolding columns_for tables_bytes
columns_for-push l k t at [] ns =
    let e : at + 0 ≡ at = omega arith in
    rw e refl
columns_for-push l k t at (p ∷ tables) ns =
    let first = table_bytes l k t at p in
    let rest = tables_bytes l k (suc t) (at + length first) tables in
    let e : at + length first + length rest ≡ at + length (first ++ rest) = omega (arith, length-append first rest) in
    let more = columns_for-push l k (suc t) (at + length first) tables ns in
    let head : Column = record { count = length p; directory = at + length (park_bytes k (parks_in l p)) } in
    ap (λ y. head ∷ y) (more ∙ ap (λ j. columns_for l k (suc t) (at + length first) tables ++ record { count = length ns; directory = j + length (park_bytes k (parks_in l ns)) } ∷ []) e)

pub length-columns_for : (l : Layout) (k t at : ℕ) (tables : List (List ℕ)) → length (columns_for l k t at tables) ≡ length tables
unfolding columns_for
length-columns_for l k t at [] = refl
length-columns_for l k t at (ns ∷ tables) = ap suc (length-columns_for l k (suc t) (at + length (table_bytes l k t at ns)) tables)

-- ---- how numbers are cut into parks

cut-nil : (full most : ℕ) → cut full most [] ≡ []
unfolding cut
cut-nil full zero = refl
cut-nil full (suc most) = refl

cut-one : (full most : ℕ) (ns : List ℕ) → 1 ≤ length ns → cut full (suc most) ns ≡ take full ns ∷ cut full most (drop full ns)
unfolding cut
cut-one full most [] some = absurd (omega arith)
cut-one full most (n ∷ ns) some = refl

-- full parks and what is left
pub cut-full : (full most : ℕ) (parks : List (List ℕ)) (rest : List ℕ) → 1 ≤ full → All (λ (ns : List ℕ). length ns ≡ full) parks → length rest ≤ full → 1 ≤ length rest
    → length (concat parks ++ rest) ≤ most → cut full most (concat parks ++ rest) ≡ parks ++ rest ∷ []
cut-full full zero [] rest f all h some fits = absurd (omega arith)
cut-full full zero (p ∷ parks) rest f all h some fits =
    let e = length-append (concat (p ∷ parks)) rest in absurd (omega arith)
cut-full full (suc most) [] rest f all h some fits =
    let t : take full rest ≡ rest = take_all full rest h in
    let d : drop full rest ≡ [] = drop_all full rest h in
    cut-one full most rest some ∙ (ap (λ y. take full rest ∷ cut full most y) d ∙ (ap (λ y. take full rest ∷ y) (cut-nil full most) ∙ ap (λ y. y ∷ []) t))
cut-full full (suc most) (p ∷ parks) rest f all h some fits =
    let e : length p ≡ full = All-head (λ (ns : List ℕ). length ns ≡ full) p parks all in
    let a : concat (p ∷ parks) ++ rest ≡ p ++ (concat parks ++ rest) = append_assoc p (concat parks) rest in
    let n : length (p ++ (concat parks ++ rest)) ≡ full + length (concat parks ++ rest) = length-append p (concat parks ++ rest) ∙ ap (λ j. j + length (concat parks ++ rest)) e in
    let m : length (concat (p ∷ parks) ++ rest) ≡ full + length (concat parks ++ rest) = ap length a ∙ n in
    ap (cut full (suc most)) a ∙ (cut-one full most (p ++ (concat parks ++ rest)) (omega arith)
    ∙ (ap (λ y. y ∷ cut full most (drop full (p ++ (concat parks ++ rest)))) (take_at p (concat parks ++ rest) full e)
    ∙ ap (λ y. p ∷ y) (ap (cut full most) (drop_at p (concat parks ++ rest) full e)
    ∙ cut-full full most parks rest f (All-tail (λ (ns : List ℕ). length ns ≡ full) p parks all) h some (omega arith))))

pub cut-whole : (full most : ℕ) (parks : List (List ℕ)) → 1 ≤ full → All (λ (ns : List ℕ). length ns ≡ full) parks → length (concat parks) ≤ most → cut full most (concat parks) ≡ parks
cut-whole full most [] f all fits = cut-nil full most
cut-whole full zero (p ∷ parks) f all fits =
    let e : length p ≡ full = All-head (λ (ns : List ℕ). length ns ≡ full) p parks all in
    let n = length-append p (concat parks) in absurd (omega arith)
cut-whole full (suc most) (p ∷ parks) f all fits =
    let e : length p ≡ full = All-head (λ (ns : List ℕ). length ns ≡ full) p parks all in
    let n : length (p ++ concat parks) ≡ full + length (concat parks) = length-append p (concat parks) ∙ ap (λ j. j + length (concat parks)) e in
    cut-one full most (p ++ concat parks) (omega arith)
    ∙ (ap (λ y. y ∷ cut full most (drop full (p ++ concat parks))) (take_at p (concat parks) full e)
    ∙ ap (λ y. p ∷ y) (ap (cut full most) (drop_at p (concat parks) full e)
    ∙ cut-whole full most parks f (All-tail (λ (ns : List ℕ). length ns ≡ full) p parks all) (omega arith)))

-- cut lists joined are the list, and each is the numbers of a park
pub record AreCut (k : ℕ) (ns : List ℕ) (parks : List (List ℕ)) : Type 0 where
  pub whole : concat parks ≡ ns
  pub each : All (AreNumbers k) parks

pub cut-is : (k full most : ℕ) (ns : List ℕ) → 1 ≤ full → full ≤ MOST_NUMBERS → length ns ≤ most → IsStrictlyIncreasing ns → All (λ n. n < 2 ^ (2 * k + 2)) ns
    → AreCut k ns (cut full most ns)
unfolding cut
cut-is k full zero [] f few fits rising below = record { whole = refl; each = All-nil (AreNumbers k) }
cut-is k full zero (n ∷ ns) f few fits rising below = absurd (omega arith)
cut-is k full (suc most) [] f few fits rising below = record { whole = refl; each = All-nil (AreNumbers k) }
cut-is k full (suc most) (n ∷ ns) f few fits rising below =
    let d : length (drop full (n ∷ ns)) ≡ length (n ∷ ns) - full = length-drop full (n ∷ ns) in
    let t : length (take full (n ∷ ns)) ≡ min full (length (n ∷ ns)) = length-take full (n ∷ ns) in
    let rest = cut-is k full most (drop full (n ∷ ns)) f few (omega arith) (rising-drop full (n ∷ ns) rising) (All-drop (λ n. n < 2 ^ (2 * k + 2)) full (n ∷ ns) below) in
    let first : AreNumbers k (take full (n ∷ ns)) = record {
      some = omega arith;
      few = omega arith;
      rising = rising-take full (n ∷ ns) rising;
      below = All-take (λ n. n < 2 ^ (2 * k + 2)) full (n ∷ ns) below;
    } in record {
      whole = ap (λ y. take full (n ∷ ns) ++ y) rest.whole ∙ take-append-drop full (n ∷ ns);
      each = All-cons (AreNumbers k) (take full (n ∷ ns)) (cut full most (drop full (n ∷ ns))) first rest.each;
    }

pub parks_in-are : (l : Layout) (k : ℕ) (ns : List ℕ) → IsTable k ns → AreCut k ns (parks_in l ns)
unfolding parks_in
parks_in-are l k ns table = let s = full_some l in cut-is k (full_of l) (length ns) ns (omega arith) (full_few l) (omega arith) table.rising table.below

-- ---- how long it gets

pub length-entry_fields : (e : ParkEntry) → length (entry_fields e) ≡ 24 + length e.digest
unfolding entry_fields four eight
length-entry_fields e =
    omega (arith, length-append e.digest (to_be_bytes w64 e.head))

pub length-entry_for : (l : Layout) (k t at : ℕ) (ns : List ℕ) → length (entry_fields (entry_for l k t at ns)) ≡ entry_bytes l
unfolding entry_for
length-entry_for l k t at ns =
    let d : length (take (digest_of l) (sha256 (park_of k ns))) ≡ digest_of l = length-take-le (digest_of l) (sha256 (park_of k ns)) (let e = length-sha256 (park_of k ns) in let s = digest_few l in omega arith) in
    length-entry_fields (entry_for l k t at ns) ∙ ap (λ j. 24 + j) d

pub park_bytes-short : (k : ℕ) (parks : List (List ℕ)) → k ≤ 50 → All (AreNumbers k) parks → length (park_bytes k parks) ≤ 15 * length (concat parks)
unfolding park_bytes
park_bytes-short k [] small all = omega arith
park_bytes-short k (p ∷ parks) small all =
    let first = park_of-short k p small (All-head (AreNumbers k) p parks all) in
    let rest = park_bytes-short k parks small (All-tail (AreNumbers k) p parks all) in
    omega (arith, length-append (park_of k p) (park_bytes k parks), length-append p (concat parks))

pub directory-short : (l : Layout) (k t at : ℕ) (parks : List (List ℕ)) → All (AreNumbers k) parks → length (directory l k t at parks) ≤ 56 * length (concat parks)
unfolding directory
directory-short l k t at [] all = omega arith
directory-short l k t at (p ∷ parks) all =
    let first = (All-head (AreNumbers k) p parks all).some in
    let one = length-entry_for l k t at p in
    let small = digest_few l in
    let rest = directory-short l k t (at + length (park_of k p)) parks (All-tail (AreNumbers k) p parks all) in
    omega (arith, length-append (entry_fields (entry_for l k t at p)) (directory l k t (at + length (park_of k p)) parks), length-append p (concat parks))

pub table_bytes-short : (l : Layout) (k t at : ℕ) (ns : List ℕ) → k ≤ 50 → IsTable k ns → length (table_bytes l k t at ns) ≤ 71 * length ns
unfolding table_bytes
table_bytes-short l k t at ns small table =
    let c = parks_in-are l k ns table in
    let n = ap length c.whole in
    let a = park_bytes-short k (parks_in l ns) small c.each in
    let b = directory-short l k t at (parks_in l ns) c.each in
    omega (arith, length-append (park_bytes k (parks_in l ns)) (directory l k t at (parks_in l ns)))

pub tables_bytes-short : (l : Layout) (k t at : ℕ) (tables : List (List ℕ)) → k ≤ 50 → All (IsTable k) tables
    → length (tables_bytes l k t at tables) ≤ 71 * (length tables * 2 ^ (k + 1))
unfolding tables_bytes
tables_bytes-short l k t at [] small all = omega arith
tables_bytes-short l k t at (ns ∷ tables) small all =
    let table = All-head (IsTable k) ns tables all in
    let few = table.few in
    let one = table_bytes-short l k t at ns small table in
    let rest = tables_bytes-short l k (suc t) (at + length (table_bytes l k t at ns)) tables small (All-tail (IsTable k) ns tables all) in
    let m : suc (length tables) * 2 ^ (k + 1) ≡ length tables * 2 ^ (k + 1) + 2 ^ (k + 1) = suc-mul (length tables) (2 ^ (k + 1)) in
    omega (arith, length-append (table_bytes l k t at ns) (tables_bytes l k (suc t) (at + length (table_bytes l k t at ns)) tables))
