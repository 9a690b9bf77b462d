-- The tables of a run: what they stand for while other files change, and after one of their lists was read.
use Rattle.std.proofs.Common.{◌≡◌, ℕ, zero, suc, ◌<◌, ◌≤◌, true, List, length, map, Option, Some, None, refl, sym, ap, ◌∙◌, subst, inl, inr, arith}
use Rattle.std.specs.Prelude.{slice_get, slice_set}
use Rattle.std.proofs.Common.{get_or-set_same, get_or-set_other}
use Rattle.std.proofs.Math.ListN.{length-set}
use Rattle.std.proofs.lemmas.Bool.{cases_eq}
use Rattle.std.proofs.lemmas.Option.{none-some, slice_get-map}
use Rattle.std.specs.Option.{option_map}
use Rattle.pos_edge.specs.View.{View}
use Rattle.pos_edge.specs.Frame.{ChangesOnly, NameOf, ReadsOnly}
use Rattle.pos_edge.specs.FileSets.{IsOutside}
use Rattle.pos_lists.specs.TableLists.{TableLists, pairs_of}
use Rattle.pos_record.specs.Kinds.{value_read, pair_read, pair_width, number_read, number_width}
use Rattle.pos_record.specs.declared.kinds.Value.{Value}
use Rattle.pos_record.specs.declared.kinds.Pair.{Pair}
use Rattle.pos_record.specs.declared.kinds.Number.{Number}
use Rattle.pos_runs.specs.Pages.{ListPages, ListStands, ListHolds, PageHolds}
use Rattle.pos_runs.specs.Lists.{IsListRead}
use Rattle.pos_runs.specs.Runs.{TablesState, no_pages, pages_at, level_width, value_record, pair_record, number_record, SameTables, StandsSealed, TablesStand, IsTablesFile}
use Rattle.pos_runs.proofs.ListLemmas.{outside-holds, outside-stands, read-holds, read-stands}

-- a sealed list over reads of any file
pub sealed-read : (w : ℕ) (s : ListPages) (a b : View) → ReadsOnly a b → StandsSealed w s a → StandsSealed w s b
sealed-read w s a b only h = record { stands = read-stands w s a b only h.stands; sealed = h.sealed }

-- the tables over reads of any file
pub tables-read : (k : ℕ) (t : TablesState) (ts : TableLists) (a b : View) → ReadsOnly a b → TablesStand k t ts a → TablesStand k t ts b
tables-read k t ts a b only h = record {
  eight = h.eight;
  six = h.six;
  as_long = h.as_long;
  levels = λ n below. sealed-read (level_width k n) (pages_at t n) a b only (h.levels n below);
  last = sealed-read (number_width k) (pages_at t 7) a b only h.last;
  values = read-holds (value_read k) k (pages_at t 0) (map value_record ts.values) a b only h.values;
  pairs = λ n below. read-holds (pair_read k) (pair_width k) (pages_at t (suc n)) (map pair_record (pairs_of ts (suc n))) a b only (h.pairs n below);
  numbers = read-holds (number_read k) (number_width k) (pages_at t 7) (map number_record ts.last) a b only h.numbers;
}

-- the tables past any work that leaves their files alone
pub tables-outside : (k : ℕ) (t : TablesState) (ts : TableLists) (names : List ℕ → Type 0) (ids : ℕ → Type 0) (a b : View) → ChangesOnly names ids a b → IsOutside (IsTablesFile t) names ids a
    → TablesStand k t ts a → TablesStand k t ts b
tables-outside k t ts names ids a b kept outside h = record {
  eight = h.eight;
  six = h.six;
  as_long = h.as_long;
  levels = λ n below. record {
    stands = outside-stands (level_width k n) (pages_at t n) names ids a b kept (not_ids n (omega arith)) (not_names n (omega arith)) (h.levels n below).stands;
    sealed = (h.levels n below).sealed;
  };
  last = record { stands = outside-stands (number_width k) (pages_at t 7) names ids a b kept (not_ids 7 (omega arith)) (not_names 7 (omega arith)) h.last.stands; sealed = h.last.sealed };
  values = outside-holds (value_read k) k (pages_at t 0) (map value_record ts.values) names ids a b kept (not_ids 0 (omega arith)) (not_names 0 (omega arith)) (h.levels 0 (omega arith)).stands h.values;
  pairs = λ n below. outside-holds (pair_read k) (pair_width k) (pages_at t (suc n)) (map pair_record (pairs_of ts (suc n))) names ids a b kept (not_ids (suc n) (omega arith)) (not_names (suc n) (omega arith))
      (h.levels (suc n) (omega arith)).stands (h.pairs n below);
  numbers = outside-holds (number_read k) (number_width k) (pages_at t 7) (map number_record ts.last) names ids a b kept (not_ids 7 (omega arith)) (not_names 7 (omega arith)) h.last.stands h.numbers;
} where
  not_ids : (n : ℕ) → n ≤ 7 → ids (pages_at t n).file → ⊥
  not_ids n below = outside.not_ids (pages_at t n).file (n, below, refl)

  not_names : (n : ℕ) → n ≤ 7 → (name : List ℕ) → NameOf (pages_at t n).file a name → names name → ⊥
  not_names n below name = outside.not_names (pages_at t n).file name (n, below, refl)

-- what holds of each list but one, and of the one that was put there
at-level : (t : TablesState) (s : ListPages) (n : ℕ) (P : ℕ → ListPages → Type 0) (m : ℕ) → n ≤ 7 → length t ≡ 8 → (m ≡ n → P m s) → P m (pages_at t m) → P m (pages_at (slice_set t n s) m)
at-level t s n P m below eight new old = elim (cases_eq m n) [
  | inl same ↦
      let within : n ≤ 7 = below in
      subst (P m) (sym (ap (pages_at (slice_set t n s)) same ∙ get_or-set_same t n s no_pages (omega arith))) (new same)
  | inr other ↦ subst (P m) (sym (get_or-set_other t n m s no_pages other)) old
]

-- tables after one list was read, which stands and holds the same records
tables-with : (k : ℕ) (t : TablesState) (ts : TableLists) (n : ℕ) (s : ListPages) (a b : View) → n ≤ 7 → TablesStand k t ts a → ReadsOnly a b → s.count ≡ (pages_at t n).count
    → (n ≤ 6 → StandsSealed (level_width k n) s b) → (n ≡ 7 → StandsSealed (number_width k) s b)
    → (n ≡ 0 → (xs : List Value) → ListHolds (value_read k) k (pages_at t n) xs a → ListHolds (value_read k) k s xs b)
    → ((m : ℕ) → m ≤ 5 → n ≡ suc m → (xs : List Pair) → ListHolds (pair_read k) (pair_width k) (pages_at t n) xs a → ListHolds (pair_read k) (pair_width k) s xs b)
    → (n ≡ 7 → (xs : List Number) → ListHolds (number_read k) (number_width k) (pages_at t n) xs a → ListHolds (number_read k) (number_width k) s xs b)
    → TablesStand k (slice_set t n s) ts b
tables-with k t ts n s a b below h only count lower upper values pairs numbers =
    let after : TablesStand k t ts b = tables-read k t ts a b only h in
    record {
      eight = length-set t n s ∙ h.eight;
      six = h.six;
      as_long = counts 7 ∙ h.as_long ∙ sym (counts 6);
      levels = λ m few. at-level t s n (λ l x. l ≤ 6 → StandsSealed (level_width k l) x b) m below h.eight (λ same m6. subst (λ l. StandsSealed (level_width k l) s b) (sym same) (lower (omega arith))) (λ m6. after.levels m m6) few;
      last = at-level t s n (λ l x. StandsSealed (number_width k) x b) 7 below h.eight (λ same. upper (sym same)) after.last;
      values = at-level t s n (λ l x. ListHolds (value_read k) k x (map value_record ts.values) b) 0 below h.eight
          (λ same. values (sym same) (map value_record ts.values) (subst (λ l. ListHolds (value_read k) k (pages_at t l) (map value_record ts.values) a) same h.values)) after.values;
      pairs = λ m few. at-level t s n (λ l x. ListHolds (pair_read k) (pair_width k) x (map pair_record (pairs_of ts (suc m))) b) (suc m) below h.eight
          (λ same. pairs m few (sym same) (map pair_record (pairs_of ts (suc m))) (subst (λ l. ListHolds (pair_read k) (pair_width k) (pages_at t l) (map pair_record (pairs_of ts (suc m))) a) same (h.pairs m few))) (after.pairs m few);
      numbers = at-level t s n (λ l x. ListHolds (number_read k) (number_width k) x (map number_record ts.last) b) 7 below h.eight
          (λ same. numbers (sym same) (map number_record ts.last) (subst (λ l. ListHolds (number_read k) (number_width k) (pages_at t l) (map number_record ts.last) a) same h.numbers)) after.numbers;
    }
  where
    counts : (m : ℕ) → (pages_at (slice_set t n s) m).count ≡ (pages_at t m).count
    counts m = at-level t s n (λ l x. x.count ≡ (pages_at t l).count) m below h.eight (λ same. count ∙ ap (λ l. (pages_at t l).count) (sym same)) refl

-- ---- what one call answers

unrecorded : {A B : Type 0} (f : A → B) (back : B → A) → ((x : A) → back (f x) ≡ x) → (found : Option A) (y : B) → option_map f found ≡ Some y → found ≡ Some (back y)
unrecorded f back undo None y is = absurd (none-some y is)
unrecorded f back undo (Some x) y is = let same : f x ≡ y = cc in ap (λ z. Some z) (sym (undo x) ∙ ap back same)

pub value-got : (xs : List ℕ) (i : ℕ) (r : Value) → slice_get (map value_record xs) i ≡ Some r → slice_get xs i ≡ Some r.x
value-got xs i r is = unrecorded value_record (λ v. v.x) (λ x. refl) (slice_get xs i) r (sym (slice_get-map value_record xs i) ∙ is)

pub pair-got : (xs : List (ℕ × ℕ)) (i : ℕ) (r : Pair) → slice_get (map pair_record xs) i ≡ Some r → slice_get xs i ≡ Some (r.left, r.right)
pair-got xs i r is = unrecorded pair_record (λ p. (p.left, p.right)) (λ x. refl) (slice_get xs i) r (sym (slice_get-map pair_record xs i) ∙ is)

pub number-got : (xs : List ℕ) (i : ℕ) (r : Number) → slice_get (map number_record xs) i ≡ Some r → slice_get xs i ≡ Some r.number
number-got xs i r is = unrecorded number_record (λ n. n.number) (λ x. refl) (slice_get xs i) r (sym (slice_get-map number_record xs i) ∙ is)

-- the pairs of a level above the first
pub pairs-level : (k : ℕ) (t : TablesState) (ts : TableLists) (m : ℕ) (view : View) → 1 ≤ m → m ≤ 6 → TablesStand k t ts view
    → ListHolds (pair_read k) (pair_width k) (pages_at t m) (map pair_record (pairs_of ts m)) view
pairs-level k t ts zero view above below h = absurd (omega arith)
pairs-level k t ts (suc n) view above below h = h.pairs n (omega arith)

-- a pair that was read from the page in memory
pub pair-here : (k : ℕ) (t : TablesState) (ts : TableLists) (m i page : ℕ) (found : Pair) (view : View) → 1 ≤ m → m ≤ 6 → i < (pages_at t m).count → (pages_at t m).page ≡ page → view.tells ≡ true → TablesStand k t ts view
    → ((xs : List Pair) → PageHolds (pair_read k) (pair_width k) page xs (pages_at t m).bytes → i < length xs → slice_get xs i ≡ Some found)
    → slice_get (pairs_of ts m) i ≡ Some (found.left, found.right)
pair-here k t ts m i page found view above below there is tells h value =
    let holds : ListHolds (pair_read k) (pair_width k) (pages_at t m) (map pair_record (pairs_of ts m)) view = pairs-level k t ts m view above below h in
    let memory : PageHolds (pair_read k) (pair_width k) page (map pair_record (pairs_of ts m)) (pages_at t m).bytes =
    subst (λ p. PageHolds (pair_read k) (pair_width k) p (map pair_record (pairs_of ts m)) (pages_at t m).bytes) is (holds.memory tells) in
    let count : length (map pair_record (pairs_of ts m)) ≡ (pages_at t m).count = holds.count in
    pair-got (pairs_of ts m) i found (value (map pair_record (pairs_of ts m)) memory (omega arith))

-- ---- tables after one call

pub value-read : (k : ℕ) (t new : TablesState) (s : ListPages) (a b : View) → new ≡ slice_set t 0 s → IsListRead (pages_at t 0) s a b → ListStands k s b
    → ((xs : List Value) → ListHolds (value_read k) k (pages_at t 0) xs a → ListHolds (value_read k) k s xs b)
    → (ts : TableLists) → TablesStand k t ts a → TablesStand k new ts b
value-read k t new s a b is read stands holds ts h =
    subst (λ (x : TablesState). TablesStand k x ts b) (sym is)
    (tables-with k t ts 0 s a b (omega arith) h read.only read.count
    (λ _. record { stands = stands; sealed = read.is_sealed ∙ (h.levels 0 (omega arith)).sealed }) (λ e. absurd (omega arith))
    (λ _. holds) (λ m few e. absurd (omega arith)) (λ e. absurd (omega arith)))

pub pair-read : (k : ℕ) (t new : TablesState) (n : ℕ) (s : ListPages) (a b : View) → n ≤ 5 → new ≡ slice_set t (suc n) s → IsListRead (pages_at t (suc n)) s a b → ListStands (pair_width k) s b
    → ((xs : List Pair) → ListHolds (pair_read k) (pair_width k) (pages_at t (suc n)) xs a → ListHolds (pair_read k) (pair_width k) s xs b)
    → (ts : TableLists) → TablesStand k t ts a → TablesStand k new ts b
pair-read k t new n s a b below is read stands holds ts h =
    subst (λ (x : TablesState). TablesStand k x ts b) (sym is)
    (tables-with k t ts (suc n) s a b (omega arith) h read.only read.count
    (λ _. record { stands = stands; sealed = read.is_sealed ∙ (h.levels (suc n) (omega arith)).sealed }) (λ e. absurd (omega arith))
    (λ e. absurd (omega arith)) (λ m few e. holds) (λ e. absurd (omega arith)))

pub last-read : (k : ℕ) (t new : TablesState) (s : ListPages) (a b : View) → new ≡ slice_set t 7 s → IsListRead (pages_at t 7) s a b → ListStands (number_width k) s b
    → ((xs : List Number) → ListHolds (number_read k) (number_width k) (pages_at t 7) xs a → ListHolds (number_read k) (number_width k) s xs b)
    → (ts : TableLists) → TablesStand k t ts a → TablesStand k new ts b
last-read k t new s a b is read stands holds ts h =
    subst (λ (x : TablesState). TablesStand k x ts b) (sym is)
    (tables-with k t ts 7 s a b (omega arith) h read.only read.count
    (λ few. absurd (omega arith)) (λ _. record { stands = stands; sealed = read.is_sealed ∙ h.last.sealed })
    (λ e. absurd (omega arith)) (λ m few e. absurd (omega arith)) (λ _. holds))

-- ---- tables that are the same but for their pages in memory

pub same_none : (k : ℕ) (t : TablesState) (v : View) → SameTables k t t v v
same_none k t v = record { stand = λ ts h. h; counts = λ n. refl; files = λ n. refl; numbers = λ n. refl }

pub same_then : (k : ℕ) (s t u : TablesState) (a b c : View) → SameTables k s t a b → SameTables k t u b c → SameTables k s u a c
same_then k s t u a b c p q = record {
  stand = λ ts h. q.stand ts (p.stand ts h);
  counts = λ n. q.counts n ∙ p.counts n;
  files = λ n. q.files n ∙ p.files n;
  numbers = λ n. q.numbers n ∙ p.numbers n;
}

-- while other files are read
pub same_beside : (k : ℕ) (t : TablesState) (a b : View) → ReadsOnly a b → SameTables k t t a b
same_beside k t a b only = record { stand = λ ts h. tables-read k t ts a b only h; counts = λ n. refl; files = λ n. refl; numbers = λ n. refl }

-- what holds of a list that was put in the place of another, and of the others
at_list : {Y : Type 0} (f : ListPages → Y) (t : TablesState) (s : ListPages) (n m : ℕ) → n < length t → f s ≡ f (pages_at t n) → f (pages_at (slice_set t n s) m) ≡ f (pages_at t m)
at_list f t s n m inside same = elim (cases_eq m n) [
  | inl is ↦ ap (λ j. f (pages_at (slice_set t n s) j)) is ∙ ap f (get_or-set_same t n s no_pages inside) ∙ same ∙ sym (ap (λ j. f (pages_at t j)) is)
  | inr other ↦ ap f (get_or-set_other t n m s no_pages other)
]

-- after one of the lists was read
pub same_read : (k : ℕ) (t new : TablesState) (n : ℕ) (a b : View) → n < length t → new ≡ slice_set t n (pages_at new n) → IsListRead (pages_at t n) (pages_at new n) a b
    → ((ts : TableLists) → TablesStand k t ts a → TablesStand k new ts b) → SameTables k t new a b
same_read k t new n a b inside is read stand =
    let s = pages_at new n in record {
      stand = stand;
      counts = λ m. ap (λ (x : TablesState). (pages_at x m).count) is ∙ at_list (λ x. x.count) t s n m inside read.count;
      files = λ m. ap (λ (x : TablesState). (pages_at x m).file) is ∙ at_list (λ x. x.file) t s n m inside read.same.file;
      numbers = λ m. ap (λ (x : TablesState). (pages_at x m).number) is ∙ at_list (λ x. x.number) t s n m inside read.same.number;
    }
