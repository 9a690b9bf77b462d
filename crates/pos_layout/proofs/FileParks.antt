-- The numbers of a table cut into parks, and the places of parks and of their entries.
use Rattle.std.proofs.Common.{◌≡◌, ℕ, zero, suc, ◌+◌, ◌-◌, ◌*◌, ◌<◌, ◌≤◌, ◌⊎◌, inl, inr, min, List, [], ◌∷◌, ◌++◌, length, take, drop, get_or, refl, sym, ap, ◌∙◌, arith, length-append}
use Rattle.std.specs.List.{concat}
use Rattle.std.proofs.lemmas.Bool.{cases_lt}
use Rattle.std.proofs.lemmas.List.{take_all, drop_all, drop-drop, length-take, length-drop, take-append-drop}
use Rattle.std.proofs.lemmas.List.Elements.{All-get_or}
use Rattle.std.proofs.Math.Nat.{div-eq_of_lt-le}
use Rattle.pos_rice.specs.Park.{AreNumbers}
use Rattle.pos_layout.specs.Bytes.{part}
use Rattle.pos_layout.specs.Layouts.{Layout, full_of, entry_bytes, parks_of}
use Rattle.pos_layout.specs.Lists.{IsTable}
use Rattle.pos_layout.specs.Fields.{entry_fields}
use Rattle.pos_layout.specs.Files.{park_of, cut, parks_in, park_bytes, entry_for, directory}
use Rattle.pos_layout.proofs.FileParts.{Has, has_front, has_back, join, has_at, has_none}
use Rattle.pos_layout.proofs.FileLemmas.{parks_in-are, length-entry_for}

-- ---- cutting

pub part-past : (xs : List ℕ) (at n : ℕ) → length xs ≤ at → part xs at n ≡ []
unfolding part
part-past xs at n h = ap (take n) (drop_all at xs h) ∙ take_all n [] (omega arith)

pub cut-get : (full most : ℕ) (ns : List ℕ) (j : ℕ) → 1 ≤ full → length ns ≤ most → get_or (cut full most ns) j [] ≡ part ns (full * j) full
unfolding cut part
cut-get full zero [] j some h = sym (part-past [] (full * j) full (omega arith))
cut-get full zero (n ∷ ns) j some h = absurd (omega arith)
cut-get full (suc most) [] j some h = sym (part-past [] (full * j) full (omega arith))
cut-get full (suc most) (n ∷ ns) zero some h = let e : full * 0 ≡ 0 = omega arith in rw e refl
cut-get full (suc most) (n ∷ ns) (suc j) some h =
    let e : full + full * j ≡ full * suc j = omega arith in
    let less : length (drop full (n ∷ ns)) ≤ most = simp length-drop (omega arith) in
    cut-get full most (drop full (n ∷ ns)) j some less ∙ ap (take full) (drop-drop (full * j) full (n ∷ ns) ∙ ap (λ i. drop i (n ∷ ns)) e)

-- how many parks there are
record CutCount (full q n : ℕ) : Type 0 where
  enough : n ≤ full * q
  needed : full * q < n + full
  none : n ≡ 0 → q ≡ 0

cut-count : (full most : ℕ) (ns : List ℕ) → 1 ≤ full → length ns ≤ most → CutCount full (length (cut full most ns)) (length ns)
unfolding cut
cut-count full zero [] some h = record { enough = omega arith; needed = omega arith; none = λ e. refl }
cut-count full zero (n ∷ ns) some h = absurd (omega arith)
cut-count full (suc most) [] some h = record { enough = omega arith; needed = omega arith; none = λ e. refl }
cut-count full (suc most) (n ∷ ns) some h =
    let n' = length-drop full (n ∷ ns) in
    let rest = cut-count full most (drop full (n ∷ ns)) some (omega (arith, n')) in
    next (suc (length ns)) (length (drop full (n ∷ ns))) (length (cut full most (drop full (n ∷ ns)))) (omega arith) n' rest (cases_lt (suc (length ns)) full)
  where
    next : (m m' q : ℕ) → 1 ≤ m → m' ≡ m - full → CutCount full q m' → m < full ⊎ full ≤ m → CutCount full (suc q) m
    next m m' q pos e rest (inl less) =
        let z : q ≡ 0 = rest.none (omega arith) in
        let w : full * q ≡ 0 = ap (λ j. full * j) z ∙ omega arith in
        record { enough = omega arith; needed = omega arith; none = λ e. absurd (omega arith) }
    next m m' q pos e rest (inr more) =
        let a = rest.enough in
        let b = rest.needed in
        record { enough = omega arith; needed = omega arith; none = λ e. absurd (omega arith) }

pub parks_in-get : (l : Layout) (ns : List ℕ) (j : ℕ) → 1 ≤ full_of l → get_or (parks_in l ns) j [] ≡ part ns (full_of l * j) (full_of l)
unfolding parks_in
parks_in-get l ns j some = cut-get (full_of l) (length ns) ns j some (omega arith)

-- ---- numbers of one park

pub length-part_of : (ns : List ℕ) (at n : ℕ) → length (part ns at n) ≡ min n (length ns - at)
unfolding part
length-part_of ns at n = length-take n (drop at ns) ∙ ap (min n) (length-drop at ns)

-- ---- how many parks there are, and how long they are

pub length-parks_in : (l : Layout) (ns : List ℕ) → 1 ≤ full_of l → length (parks_in l ns) ≡ parks_of l (length ns)
unfolding parks_in
length-parks_in l ns some =
    let c = cut-count (full_of l) (length ns) ns some (omega arith) in
    let a = c.enough in
    let b = c.needed in
    sym (div-eq_of_lt-le {k = length (cut (full_of l) (length ns) ns)} (full_of l) {m = length ns + (full_of l - 1)} (omega arith) (omega arith))

-- so each has numbers that a park can hold
pub parks_in-numbers : (l : Layout) (k : ℕ) (ns : List ℕ) (j : ℕ) → IsTable k ns → j < length (parks_in l ns) → AreNumbers k (get_or (parks_in l ns) j [])
parks_in-numbers l k ns j table h = All-get_or (AreNumbers k) (parks_in l ns) j [] h (parks_in-are l k ns table).each

cut-concat : (full most : ℕ) (ns : List ℕ) → 1 ≤ full → length ns ≤ most → concat (cut full most ns) ≡ ns
unfolding cut
cut-concat full zero [] some h = refl
cut-concat full zero (n ∷ ns) some h = absurd (omega arith)
cut-concat full (suc most) [] some h = refl
cut-concat full (suc most) (n ∷ ns) some h =
    let less : length (drop full (n ∷ ns)) ≤ most = simp length-drop (omega arith) in
    ap (λ z. take full (n ∷ ns) ++ z) (cut-concat full most (drop full (n ∷ ns)) some less) ∙ take-append-drop full (n ∷ ns)

pub concat-parks_in : (l : Layout) (ns : List ℕ) → 1 ≤ full_of l → concat (parks_in l ns) ≡ ns
unfolding parks_in
concat-parks_in l ns some = cut-concat (full_of l) (length ns) ns some (omega arith)

-- ---- where parks begin that stand one after another

unfoldable pub starts : ℕ → ℕ → List (List ℕ) → ℕ → ℕ
starts k at [] j = at
starts k at (ns ∷ parks) zero = at
starts k at (ns ∷ parks) (suc j) = starts k (at + length (park_of k ns)) parks j

pub starts-first : (k at : ℕ) (parks : List (List ℕ)) → starts k at parks 0 ≡ at
unfolding starts
starts-first k at [] = refl
starts-first k at (ns ∷ parks) = refl

pub starts-next : (k at : ℕ) (parks : List (List ℕ)) (j : ℕ) → j < length parks → starts k at parks (suc j) ≡ starts k at parks j + length (park_of k (get_or parks j []))
unfolding starts
starts-next k at [] j h = absurd (omega arith)
starts-next k at (ns ∷ parks) zero h = starts-first k (at + length (park_of k ns)) parks
starts-next k at (ns ∷ parks) (suc j) h = starts-next k (at + length (park_of k ns)) parks j (omega arith)

pub starts-last : (k at : ℕ) (parks : List (List ℕ)) → starts k at parks (length parks) ≡ at + length (park_bytes k parks)
unfolding starts park_bytes
starts-last k at [] = omega arith
starts-last k at (ns ∷ parks) = starts-last k (at + length (park_of k ns)) parks ∙ simp length-append (omega arith)

pub starts-le : (k at : ℕ) (parks : List (List ℕ)) (j : ℕ) → starts k at parks j ≤ at + length (park_bytes k parks)
unfolding starts park_bytes
starts-le k at [] j = omega arith
starts-le k at (ns ∷ parks) zero = omega arith
starts-le k at (ns ∷ parks) (suc j) = let h = starts-le k (at + length (park_of k ns)) parks j in simp length-append (omega arith)

-- ---- parks and entries, where they stand

pub parks_from : (b : List ℕ) (k at : ℕ) (parks : List (List ℕ)) (j : ℕ) → Has b at (park_bytes k parks) → j < length parks → Has b (starts k at parks j) (park_of k (get_or parks j []))
unfolding starts park_bytes
parks_from b k at [] j h l = absurd (omega arith)
parks_from b k at (ns ∷ parks) zero h l = has_front b at (park_of k ns) _ h
parks_from b k at (ns ∷ parks) (suc j) h l = parks_from b k (at + length (park_of k ns)) parks j (has_back b at (park_of k ns) _ h) (omega arith)

pub parks_to : (b : List ℕ) (k at : ℕ) (parks : List (List ℕ)) → ((j : ℕ) → j < length parks → Has b (starts k at parks j) (park_of k (get_or parks j []))) → Has b at (park_bytes k parks)
unfolding starts park_bytes
parks_to b k at [] h = has_none b at
parks_to b k at (ns ∷ parks) h =
    join b at (park_of k ns) _ (h 0 (omega arith)) (parks_to b k (at + length (park_of k ns)) parks (λ j l. h (suc j) (omega arith)))

pub entries_from : (l : Layout) (b : List ℕ) (k t dir at : ℕ) (parks : List (List ℕ)) (j : ℕ) → Has b dir (directory l k t at parks) → j < length parks
    → Has b (dir + entry_bytes l * j) (entry_fields (entry_for l k t (starts k at parks j) (get_or parks j [])))
unfolding starts directory
entries_from l b k t dir at [] j h i = absurd (omega arith)
entries_from l b k t dir at (ns ∷ parks) zero h i =
    let e : dir ≡ dir + entry_bytes l * 0 = omega arith in
    has_at b _ _ _ e (has_front b dir (entry_fields (entry_for l k t at ns)) _ h)
entries_from l b k t dir at (ns ∷ parks) (suc j) h i =
    let n = length-entry_for l k t at ns in
    let e : dir + entry_bytes l + entry_bytes l * j ≡ dir + entry_bytes l * suc j = omega arith in
    let back : Has b (dir + entry_bytes l) (directory l k t (at + length (park_of k ns)) parks) = has_at b _ _ _ (ap (λ m. dir + m) n) (has_back b dir (entry_fields (entry_for l k t at ns)) _ h) in
    has_at b _ _ _ e (entries_from l b k t (dir + entry_bytes l) (at + length (park_of k ns)) parks j back (omega arith))

pub entries_to : (l : Layout) (b : List ℕ) (k t dir at : ℕ) (parks : List (List ℕ))
    → ((j : ℕ) → j < length parks → Has b (dir + entry_bytes l * j) (entry_fields (entry_for l k t (starts k at parks j) (get_or parks j []))))
    → Has b dir (directory l k t at parks)
unfolding starts directory
entries_to l b k t dir at [] h = has_none b dir
entries_to l b k t dir at (ns ∷ parks) h =
    let n = length-entry_for l k t at ns in
    let e0 : dir + entry_bytes l * 0 ≡ dir = omega arith in
    let each : (j : ℕ) → j < length parks → Has b (dir + entry_bytes l + entry_bytes l * j) (entry_fields (entry_for l k t (starts k (at + length (park_of k ns)) parks j) (get_or parks j []))) =
    λ j i. let e : dir + entry_bytes l * suc j ≡ dir + entry_bytes l + entry_bytes l * j = omega arith in has_at b _ _ _ e (h (suc j) (omega arith)) in
    let back = entries_to l b k t (dir + entry_bytes l) (at + length (park_of k ns)) parks each in
    join b dir _ _ (has_at b _ _ _ e0 (h 0 (omega arith))) (has_at b _ _ _ (ap (λ m. dir + m) (sym n)) back)

pub length-directory : (l : Layout) (k t at : ℕ) (parks : List (List ℕ)) → length (directory l k t at parks) ≡ entry_bytes l * length parks
unfolding directory
length-directory l k t at [] = omega arith
length-directory l k t at (ns ∷ parks) =
    let n = length-entry_for l k t at ns in
    let m = length-directory l k t (at + length (park_of k ns)) parks in
    simp length-append (omega arith)
