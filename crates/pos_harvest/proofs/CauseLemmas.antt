-- What reading a park answers, test by test, and that each damage has its cause.
use Rattle.std.proofs.Common.{◌≡◌, ◌≢◌, ℕ, ◌+◌, ◌-◌, ◌/◌, ◌%◌, ◌<◌, ◌*◌, ◌^◌, nat_lt, count_by, ◌⊎◌, ⊎_elim, inl, inr, ◌==◌, ◌&&◌, ◌||◌, not, nat_le, Bool, true, false, List, length, take, slice_index, Option, Some, None, Result, Ok, Err, refl, sym, ap, ◌∙◌, subst, arith}
use Rattle.std.specs.Str.{bytes_eq}
use Rattle.std.proofs.lemmas.Bool.{true≢false}
use Rattle.std.proofs.lemmas.Slice.Eq.{bytes_eq-Decides}
use Rattle.sha2.specs.Sha256.{sha256}
use Rattle.pos_rice.specs.Reading.{numbers_in}
use Rattle.pos_rice.specs.Park.{Park}
use Rattle.pos_rice.proofs.ReadingLemmas.{found_exactly}
use Rattle.pos_lists.specs.PlotLists.{f7_in}
use Rattle.pos_layout.specs.declared.damage.Damage.{Damage}
use Rattle.pos_layout.specs.declared.damage.Damage.TheVariants.{NotOpen, Header as WrongHeader, Length, Directory, Digest, Form as WrongForm, Pointer, Order, NotAProof}
use Rattle.pos_layout.specs.declared.header.Header.{Header}
use Rattle.pos_layout.specs.declared.entry.ParkEntry.{ParkEntry}
use Rattle.pos_layout.specs.Fields.{count_of, directory_of, end_of, entry_in, header_in, park_in}
use Rattle.pos_layout.specs.declared.layout.Layout.{Layout}
use Rattle.pos_layout.specs.Layouts.{longest_park, park_count, full_of, digest_of}
use Rattle.pos_layout.specs.Lists.{points_inside}
use Rattle.pos_layout.specs.Reading.{head, is_headed, is_listed, num, numbers_by, read_entry, read_park, tested, then_read, under}
use Rattle.pos_layout.specs.Rules.{Opens}
use Rattle.pos_reader.specs.ReadingCauses.{EntryCause, HoldsPark, IsDigested, IsListed, NumberCause, ParkCause, ReadsAs}
use Rattle.pos_reader.proofs.HeaderLemmas.{both_left, both_right, eq_false, eq_means, eq_true, le_means, le_true}
use Rattle.pos_harvest.specs.CauseLaws.{NumberDamageHasItsCause, HeadDamageHasItsCause, CountDamageHasItsCause}

-- ---- tests

pub err_same : {X : Type 0} (r : Result X Damage) (d e : Damage) → r ≡ Err d → r ≡ Err e → d ≡ e
err_same (Ok x) d e a b = cc
err_same (Err f) d e a b = let one : f ≡ d = cc in let two : f ≡ e = cc in sym one ∙ two

both_hold : (a b : Bool) → a ≡ true → b ≡ true → (a && b) ≡ true
both_hold true b x y = y
both_hold false b x y = x

either_holds : (a b : Bool) → (a || b) ≡ true → (a ≡ false) → b ≡ true
either_holds true b e f = absurd (true≢false f)
either_holds false b e f = e

either_first : (a b : Bool) → a ≡ true → (a || b) ≡ true
either_first true b e = refl
either_first false b e = absurd (true≢false (sym e))

either_second : (a b : Bool) → b ≡ true → (a || b) ≡ true
either_second true b e = refl
either_second false b e = e

neither : (a b : Bool) → (a || b) ≡ false → (a ≡ false) × (b ≡ false)
neither true b e = absurd (true≢false e)
neither false b e = (refl, e)

not_false : (a : Bool) → not a ≡ false → a ≡ true
not_false true e = refl
not_false false e = absurd (true≢false e)

bool_cases : (a : Bool) → (a ≡ true) ⊎ (a ≡ false)
bool_cases true = inl refl
bool_cases false = inr refl

-- whether an entry is listed, by its rule
listed_means : (l : Layout) (h : Header) (t park : ℕ) (e : ParkEntry) → is_listed l h t park e ≡ true → IsListed l h t park e
unfolding is_listed
listed_means l h t park e ok =
    let long = nat_le 1 e.park_length && nat_le e.park_length (longest_park l h.size) in
    let placed = nat_le (end_of l h (t - 1)) e.offset && nat_le (e.offset + e.park_length) (directory_of h t) in
    let counted = e.count == park_count l (count_of h t) park in
    let headed = (t == 7) || (e.head == 0) in
    let a : (long && placed && counted) ≡ true = both_left (long && placed && counted) headed ok in
    let b : headed ≡ true = both_right (long && placed && counted) headed ok in
    let c : (long && placed) ≡ true = both_left (long && placed) counted a in
    let d : long ≡ true = both_left long placed c in
    let f : placed ≡ true = both_right long placed c in
    record {
      some = le_means 1 e.park_length (both_left (nat_le 1 e.park_length) (nat_le e.park_length (longest_park l h.size)) d);
      short = le_means e.park_length (longest_park l h.size) (both_right (nat_le 1 e.park_length) (nat_le e.park_length (longest_park l h.size)) d);
      after = le_means (end_of l h (t - 1)) e.offset (both_left (nat_le (end_of l h (t - 1)) e.offset) (nat_le (e.offset + e.park_length) (directory_of h t)) f);
      inside = le_means (e.offset + e.park_length) (directory_of h t) (both_right (nat_le (end_of l h (t - 1)) e.offset) (nat_le (e.offset + e.park_length) (directory_of h t)) f);
      count = eq_means e.count (park_count l (count_of h t) park) (both_right (long && placed) counted a);
      head = λ other. eq_means e.head 0 (either_holds (t == 7) (e.head == 0) b (eq_false t 7 other));
    }

listed_holds : (l : Layout) (h : Header) (t park : ℕ) (e : ParkEntry) → IsListed l h t park e → is_listed l h t park e ≡ true
unfolding is_listed
listed_holds l h t park e is =
    both_hold _ _
    (both_hold _ _
    (both_hold _ _
    (both_hold (nat_le 1 e.park_length) (nat_le e.park_length (longest_park l h.size)) (le_true _ _ is.some) (le_true _ _ is.short))
    (both_hold (nat_le (end_of l h (t - 1)) e.offset) (nat_le (e.offset + e.park_length) (directory_of h t)) (le_true _ _ is.after) (le_true _ _ is.inside)))
    (eq_true _ _ is.count))
    (⊎_elim
    (λ (seven : (t == 7) ≡ true). either_first (t == 7) (e.head == 0) seven)
    (λ (other : (t == 7) ≡ false). either_second (t == 7) (e.head == 0) (eq_true e.head 0 (is.head (λ s. true≢false (sym (eq_true t 7 s) ∙ other)))))
    (bool_cases (t == 7)))

unlisted : (l : Layout) (h : Header) (t park : ℕ) (e : ParkEntry) → (IsListed l h t park e → ⊥) → is_listed l h t park e ≡ false
unlisted l h t park e never = ⊎_elim
    (λ (ok : is_listed l h t park e ≡ true). absurd (never (listed_means l h t park e ok)))
    (λ (no : is_listed l h t park e ≡ false). no)
    (bool_cases (is_listed l h t park e))

-- ---- the entry of a park

entry_listed : (l : Layout) (b : List ℕ) (t park : ℕ) → is_listed l (header_in b) t park (entry_in l b t park) ≡ true → read_entry l b t park ≡ Ok (entry_in l b t park)
unfolding read_entry
entry_listed l b t park e = rw e refl

entry_unlisted : (l : Layout) (b : List ℕ) (t park : ℕ) → is_listed l (header_in b) t park (entry_in l b t park) ≡ false → read_entry l b t park ≡ Err (Directory t park)
unfolding read_entry
entry_unlisted l b t park e = rw e refl

pub entry_cause : (l : Layout) (b : List ℕ) (t park : ℕ) (d : Damage) → read_entry l b t park ≡ Err d → EntryCause l b t park d
entry_cause l b t park d refused = ⊎_elim
    (λ (ok : is_listed l (header_in b) t park (entry_in l b t park) ≡ true). absurd (good (entry_listed l b t park ok) refused))
    (λ (no : is_listed l (header_in b) t park (entry_in l b t park) ≡ false).
    subst (λ d. EntryCause l b t park d) (err_same _ (Directory t park) d (entry_unlisted l b t park no) refused)
    (refl, refl, λ is. true≢false (sym (listed_holds l (header_in b) t park (entry_in l b t park) is) ∙ no)))
    (bool_cases (is_listed l (header_in b) t park (entry_in l b t park)))
  where
    good : {x : ParkEntry} {d : Damage} {r : Result ParkEntry Damage} → r ≡ Ok x → r ≡ Err d → ⊥
    good a b = let e : true ≡ false = cc in true≢false e

pub entry_caused : (l : Layout) (b : List ℕ) (t park : ℕ) (d : Damage) → EntryCause l b t park d → read_entry l b t park ≡ Err d
entry_caused l b t park (Directory u q) cause =
    entry_unlisted l b t park (unlisted l (header_in b) t park (entry_in l b t park) cause.2)
    ∙ ap (λ t. Err (Directory t park)) (sym cause.0) ∙ ap (λ q. Err (Directory u q)) (sym cause.1)
entry_caused l b t park d cause = absurd cause

-- ---- the park itself

-- what reading a park answers, by the tests that it passed
data ParkAnswer (l : Layout) (b : List ℕ) (t park : ℕ) : Type 0 where
  is_unlisted : (IsListed l (header_in b) t park (entry_in l b t park) → ⊥) → read_park l b t park ≡ Err (Directory t park) → ParkAnswer l b t park
  is_undigested : IsListed l (header_in b) t park (entry_in l b t park) → (IsDigested l b (entry_in l b t park) → ⊥) → read_park l b t park ≡ Err (Digest t park) → ParkAnswer l b t park
  is_formless : IsListed l (header_in b) t park (entry_in l b t park) → IsDigested l b (entry_in l b t park)
      → ((ns : List ℕ) → length ns ≡ (entry_in l b t park).count → Park (header_in b).size ns (park_in b (entry_in l b t park)) → ⊥)
      → read_park l b t park ≡ Err (WrongForm t park) → ParkAnswer l b t park
  is_headless : (ns : List ℕ) → HoldsPark l b t park ns → t ≡ 7 → (entry_in l b t park).head ≢ f7_in (header_in b).size (slice_index ns 0)
      → read_park l b t park ≡ Err (Directory t park) → ParkAnswer l b t park
  is_read : (ns : List ℕ) → ReadsAs l b t park ns → read_park l b t park ≡ Ok ns → ParkAnswer l b t park

by_entry : (l : Layout) (b : List ℕ) (t park : ℕ) → read_entry l b t park ≡ Ok (entry_in l b t park)
    → read_park l b t park ≡ numbers_by l (header_in b) t park (entry_in l b t park) (park_in b (entry_in l b t park))
unfolding read_park
by_entry l b t park e = rw e refl

by_no_entry : (l : Layout) (b : List ℕ) (t park : ℕ) (d : Damage) → read_entry l b t park ≡ Err d → read_park l b t park ≡ Err d
unfolding read_park
by_no_entry l b t park d e = rw e refl

numbers-digest : (l : Layout) (h : Header) (t park : ℕ) (e : ParkEntry) (s : List ℕ) → bytes_eq (take (digest_of l) (sha256 s)) e.digest ≡ false → numbers_by l h t park e s ≡ Err (Digest t park)
unfolding numbers_by
numbers-digest l h t park e s wrong = rw wrong refl

numbers-form : (l : Layout) (h : Header) (t park : ℕ) (e : ParkEntry) (s : List ℕ) → bytes_eq (take (digest_of l) (sha256 s)) e.digest ≡ true → numbers_in h.size e.count s ≡ None
    → numbers_by l h t park e s ≡ Err (WrongForm t park)
unfolding numbers_by
numbers-form l h t park e s right none = rw (right, none) refl

numbers-head : (l : Layout) (h : Header) (t park : ℕ) (e : ParkEntry) (s ns : List ℕ) → bytes_eq (take (digest_of l) (sha256 s)) e.digest ≡ true → numbers_in h.size e.count s ≡ Some ns
    → is_headed h t e ns ≡ false → numbers_by l h t park e s ≡ Err (Directory t park)
unfolding numbers_by
numbers-head l h t park e s ns right some headed = rw (right, some, headed) refl

numbers-right : (l : Layout) (h : Header) (t park : ℕ) (e : ParkEntry) (s ns : List ℕ) → bytes_eq (take (digest_of l) (sha256 s)) e.digest ≡ true → numbers_in h.size e.count s ≡ Some ns
    → is_headed h t e ns ≡ true → numbers_by l h t park e s ≡ Ok ns
unfolding numbers_by
numbers-right l h t park e s ns right some headed = rw (right, some, headed) refl

option_cases : {X : Type 0} (o : Option X) → (o ≡ None) ⊎ ((x : X) × (o ≡ Some x))
option_cases None = inl refl
option_cases (Some x) = inr (x, refl)

some_not_none : {X : Type 0} (o : Option X) (x : X) → o ≡ Some x → o ≡ None → ⊥
some_not_none None x a b = let e : true ≡ false = cc in true≢false e
some_not_none (Some y) x a b = let e : true ≡ false = cc in true≢false e

small_size : (l : Layout) (b : List ℕ) → Opens l b → (header_in b).size < 64
small_size l b opens = let most = opens.laid_out.greatest in omega arith

module _ (l : Layout) (b : List ℕ) (t park : ℕ) (listed : is_listed l (header_in b) t park (entry_in l b t park) ≡ true) where
  is_in : IsListed l (header_in b) t park (entry_in l b t park)
  is_in = listed_means l (header_in b) t park (entry_in l b t park) listed

  reads_as : (r : Result (List ℕ) Damage) → numbers_by l (header_in b) t park (entry_in l b t park) (park_in b (entry_in l b t park)) ≡ r → read_park l b t park ≡ r
  reads_as r is = by_entry l b t park (entry_listed l b t park listed) ∙ is

  digests : IsDigested l b (entry_in l b t park) → bytes_eq (take (digest_of l) (sha256 (park_in b (entry_in l b t park)))) (entry_in l b t park).digest ≡ true
  digests same = (bytes_eq-Decides (take (digest_of l) (sha256 (park_in b (entry_in l b t park)))) (entry_in l b t park).digest).1 same

  digested : bytes_eq (take (digest_of l) (sha256 (park_in b (entry_in l b t park)))) (entry_in l b t park).digest ≡ true → IsDigested l b (entry_in l b t park)
  digested right = (bytes_eq-Decides (take (digest_of l) (sha256 (park_in b (entry_in l b t park)))) (entry_in l b t park).digest).0 right

  -- with the numbers of the park
  with_numbers : (ns : List ℕ) → Opens l b → bytes_eq (take (digest_of l) (sha256 (park_in b (entry_in l b t park)))) (entry_in l b t park).digest ≡ true
      → numbers_in (header_in b).size (entry_in l b t park).count (park_in b (entry_in l b t park)) ≡ Some ns → ParkAnswer l b t park
  with_numbers ns opens right some =
      let e = entry_in l b t park in
      let k = (header_in b).size in
      let found = (found_exactly k e.count (park_in b e) ns (small_size l b opens)).0 some in
      let holds : HoldsPark l b t park ns = record { listed = is_in; digested = digested right; count = found.1; are = found.0 } in
      ⊎_elim
      (λ (good : is_headed (header_in b) t e ns ≡ true).
      is_read ns
      (record { holds = holds; head = λ seven. eq_means e.head (f7_in k (slice_index ns 0)) (either_holds (not (t == 7)) (e.head == f7_in k (slice_index ns 0)) good (not_true (t == 7) (eq_true t 7 seven))) })
      (reads_as (Ok ns) (numbers-right l (header_in b) t park e (park_in b e) ns right some good)))
      (λ (bad : is_headed (header_in b) t e ns ≡ false).
      let parts = neither (not (t == 7)) (e.head == f7_in k (slice_index ns 0)) bad in
      is_headless ns holds (eq_means t 7 (not_false (t == 7) parts.0)) (λ same. true≢false (sym (eq_true e.head (f7_in k (slice_index ns 0)) same) ∙ parts.1))
      (reads_as (Err (Directory t park)) (numbers-head l (header_in b) t park e (park_in b e) ns right some bad)))
      (bool_cases (is_headed (header_in b) t e ns))
    where
      not_true : (a : Bool) → a ≡ true → not a ≡ false
      not_true true e = refl
      not_true false e = absurd (true≢false (sym e))

  -- with the digest
  with_digest : Opens l b → bytes_eq (take (digest_of l) (sha256 (park_in b (entry_in l b t park)))) (entry_in l b t park).digest ≡ true → ParkAnswer l b t park
  with_digest opens right =
      let e = entry_in l b t park in
      let k = (header_in b).size in
      ⊎_elim
      (λ (none : numbers_in k e.count (park_in b e) ≡ None).
      is_formless is_in (digested right)
      (λ ns len park. some_not_none _ ns ((found_exactly k e.count (park_in b e) ns (small_size l b opens)).1 (park, len)) none)
      (reads_as (Err (WrongForm t park)) (numbers-form l (header_in b) t park e (park_in b e) right none)))
      (λ (some : (ns : List ℕ) × (numbers_in k e.count (park_in b e) ≡ Some ns)). with_numbers some.0 opens right some.1)
      (option_cases (numbers_in k e.count (park_in b e)))

  -- with the entry
  with_entry : Opens l b → ParkAnswer l b t park
  with_entry opens =
      let e = entry_in l b t park in
      ⊎_elim
      (λ (right : bytes_eq (take (digest_of l) (sha256 (park_in b e))) e.digest ≡ true). with_digest opens right)
      (λ (wrong : bytes_eq (take (digest_of l) (sha256 (park_in b e))) e.digest ≡ false).
      is_undigested is_in (λ same. true≢false (sym (digests same) ∙ wrong))
      (reads_as (Err (Digest t park)) (numbers-digest l (header_in b) t park e (park_in b e) wrong)))
      (bool_cases (bytes_eq (take (digest_of l) (sha256 (park_in b e))) e.digest))

park_answer : (l : Layout) (b : List ℕ) (t park : ℕ) → Opens l b → ParkAnswer l b t park
park_answer l b t park opens =
    let e = entry_in l b t park in
    ⊎_elim
    (λ (ok : is_listed l (header_in b) t park e ≡ true). with_entry l b t park ok opens)
    (λ (no : is_listed l (header_in b) t park e ≡ false).
    is_unlisted (λ is. true≢false (sym (listed_holds l (header_in b) t park e is) ∙ no)) (by_no_entry l b t park (Directory t park) (entry_unlisted l b t park no)))
    (bool_cases (is_listed l (header_in b) t park e))

good_not_bad : {X : Type 0} (r : Result X Damage) (x : X) (d : Damage) → r ≡ Ok x → r ≡ Err d → ⊥
good_not_bad (Ok y) x d good bad = let e : true ≡ false = cc in true≢false e
good_not_bad (Err f) x d good bad = let e : true ≡ false = cc in true≢false e

-- each damage has its cause
pub park_cause : (l : Layout) (b : List ℕ) (t park : ℕ) (d : Damage) → Opens l b → read_park l b t park ≡ Err d → ParkCause l b t park d
park_cause l b t park d opens refused = by (park_answer l b t park opens)
  where
    by : ParkAnswer l b t park → ParkCause l b t park d
    by (is_unlisted never is) = subst (λ d. ParkCause l b t park d) (err_same (read_park l b t park) (Directory t park) d is refused) (refl, refl, inl never)
    by (is_undigested listed never is) = subst (λ d. ParkCause l b t park d) (err_same (read_park l b t park) (Digest t park) d is refused) (refl, refl, listed, never)
    by (is_formless listed digested none is) = subst (λ d. ParkCause l b t park d) (err_same (read_park l b t park) (WrongForm t park) d is refused) (refl, refl, listed, digested, none)
    by (is_headless ns holds seven other is) =
        subst (λ d. ParkCause l b t park d) (err_same (read_park l b t park) (Directory t park) d is refused) (refl, refl, inr (seven, (ns, holds, other)))
    by (is_read ns reads is) = absurd (good_not_bad (read_park l b t park) ns d is refused)

-- and each cause is answered
same_numbers : (l : Layout) (b : List ℕ) (t park : ℕ) (ms ns : List ℕ) → Opens l b → HoldsPark l b t park ms → HoldsPark l b t park ns → ms ≡ ns
same_numbers l b t park ms ns opens first second =
    let e = entry_in l b t park in
    let k = (header_in b).size in
    some_same ms ns (sym ((found_exactly k e.count (park_in b e) ms (small_size l b opens)).1 (first.are, first.count))
    ∙ (found_exactly k e.count (park_in b e) ns (small_size l b opens)).1 (second.are, second.count))
  where
    some_same : (ms ns : List ℕ) → Some ms ≡ Some ns → ms ≡ ns
    some_same ms ns e = cc

pub park_reads : (l : Layout) (b : List ℕ) (t park : ℕ) (ns : List ℕ) → Opens l b → ReadsAs l b t park ns → read_park l b t park ≡ Ok ns
park_reads l b t park ns opens reads = by (park_answer l b t park opens)
  where
    by : ParkAnswer l b t park → read_park l b t park ≡ Ok ns
    by (is_unlisted never is) = absurd (never reads.holds.listed)
    by (is_undigested listed never is) = absurd (never reads.holds.digested)
    by (is_formless listed digested none is) = absurd (none ns reads.holds.count reads.holds.are)
    by (is_headless ms holds seven other is) =
        absurd (other (reads.head seven ∙ ap (λ xs. f7_in (header_in b).size (slice_index xs 0)) (same_numbers l b t park ns ms opens reads.holds holds)))
    by (is_read ms others is) = is ∙ ap (λ xs. Ok xs) (same_numbers l b t park ms ns opens others.holds reads.holds)

pub park_caused : (l : Layout) (b : List ℕ) (t park : ℕ) (d : Damage) → Opens l b → ParkCause l b t park d → read_park l b t park ≡ Err d
park_caused l b t park (Directory u q) opens cause =
    by (park_answer l b t park opens) ∙ ap (λ t. Err (Directory t park)) (sym cause.0) ∙ ap (λ q. Err (Directory u q)) (sym cause.1)
  where
    unread : (ns : List ℕ) → ReadsAs l b t park ns
        → (IsListed l (header_in b) t park (entry_in l b t park) → ⊥)
        ⊎ ((t ≡ 7) × ((ns : List ℕ) × HoldsPark l b t park ns × ((entry_in l b t park).head ≢ f7_in (header_in b).size (slice_index ns 0)))) → ⊥
    unread ns reads (inl never) = never reads.holds.listed
    unread ns reads (inr found) =
        found.1.2 (reads.head found.0 ∙ ap (λ xs. f7_in (header_in b).size (slice_index xs 0)) (same_numbers l b t park ns found.1.0 opens reads.holds found.1.1))

    undone : (IsListed l (header_in b) t park (entry_in l b t park) → (IsDigested l b (entry_in l b t park) → ⊥) → ⊥)
        × (IsListed l (header_in b) t park (entry_in l b t park) → ((ns : List ℕ) → length ns ≡ (entry_in l b t park).count → Park (header_in b).size ns (park_in b (entry_in l b t park)) → ⊥) → ⊥)
    undone = (
      λ listed never. ⊎_elim (λ (n : IsListed l (header_in b) t park (entry_in l b t park) → ⊥). n listed) (λ (f : (t ≡ 7) × ((ns : List ℕ) × HoldsPark l b t park ns × ((entry_in l b t park).head ≢ f7_in (header_in b).size (slice_index ns 0)))). never f.1.1.digested) cause.2,
      λ listed none. ⊎_elim (λ (n : IsListed l (header_in b) t park (entry_in l b t park) → ⊥). n listed) (λ (f : (t ≡ 7) × ((ns : List ℕ) × HoldsPark l b t park ns × ((entry_in l b t park).head ≢ f7_in (header_in b).size (slice_index ns 0)))). none f.1.0 f.1.1.count f.1.1.are) cause.2,
    )

    by : ParkAnswer l b t park → read_park l b t park ≡ Err (Directory t park)
    by (is_unlisted never is) = is
    by (is_undigested listed never is) = absurd (undone.0 listed never)
    by (is_formless listed digested none is) = absurd (undone.1 listed none)
    by (is_headless ns holds seven other is) = is
    by (is_read ns reads is) = absurd (unread ns reads cause.2)
park_caused l b t park (Digest u q) opens cause =
    by (park_answer l b t park opens) ∙ ap (λ t. Err (Digest t park)) (sym cause.0) ∙ ap (λ q. Err (Digest u q)) (sym cause.1)
  where
    by : ParkAnswer l b t park → read_park l b t park ≡ Err (Digest t park)
    by (is_unlisted never is) = absurd (never cause.2)
    by (is_undigested listed never is) = is
    by (is_formless listed digested none is) = absurd (cause.3 digested)
    by (is_headless ns holds seven other is) = absurd (cause.3 holds.digested)
    by (is_read ns reads is) = absurd (cause.3 reads.holds.digested)
park_caused l b t park (WrongForm u q) opens cause =
    by (park_answer l b t park opens) ∙ ap (λ t. Err (WrongForm t park)) (sym cause.0) ∙ ap (λ q. Err (WrongForm u q)) (sym cause.1)
  where
    by : ParkAnswer l b t park → read_park l b t park ≡ Err (WrongForm t park)
    by (is_unlisted never is) = absurd (never cause.2)
    by (is_undigested listed never is) = absurd (never cause.3)
    by (is_formless listed digested none is) = is
    by (is_headless ns holds seven other is) = absurd (cause.4 ns holds.count holds.are)
    by (is_read ns reads is) = absurd (cause.4 ns reads.holds.count reads.holds.are)
park_caused l b t park d opens cause = absurd cause

-- ---- a number, a head, a count

num_refused : (l : Layout) (b : List ℕ) (t i : ℕ) (d : Damage) → read_park l b t (i / (full_of l)) ≡ Err d → num l b t i ≡ Err d
unfolding num
num_refused l b t i d e = rw e refl

num_read : (l : Layout) (b : List ℕ) (t i : ℕ) (ns : List ℕ) → read_park l b t (i / (full_of l)) ≡ Ok ns
    → num l b t i ≡ tested (points_inside (header_in b).size t (count_of (header_in b) (t - 1)) (slice_index ns (i % (full_of l)))) (Pointer t i) (slice_index ns (i % (full_of l)))
unfolding num
num_read l b t i ns e = rw e refl

pub park_to_number : (l : Layout) (b : List ℕ) (t i : ℕ) (d : Damage) → ParkCause l b t (i / (full_of l)) d → NumberCause l b t i d
park_to_number l b t i (Pointer u at) cause = absurd cause
park_to_number l b t i (NotOpen n gate) cause = cause
park_to_number l b t i (WrongHeader field) cause = cause
park_to_number l b t i (Length said found) cause = cause
park_to_number l b t i (Directory u q) cause = cause
park_to_number l b t i (Digest u q) cause = cause
park_to_number l b t i (WrongForm u q) cause = cause
park_to_number l b t i (Order u at) cause = cause
park_to_number l b t i (NotAProof at) cause = cause

tested_true : {X : Type 0} (holds : Bool) (d : Damage) (x : X) → holds ≡ true → tested holds d x ≡ Ok x
tested_true true d x e = refl
tested_true false d x e = absurd (true≢false (sym e))

tested_false : {X : Type 0} (holds : Bool) (d : Damage) (x : X) → holds ≡ false → tested holds d x ≡ Err d
tested_false true d x e = absurd (true≢false e)
tested_false false d x e = refl

number_cause : (l : Layout) (b : List ℕ) (t i : ℕ) (d : Damage) → Opens l b → num l b t i ≡ Err d → NumberCause l b t i d
number_cause l b t i d opens refused = by (park_answer l b t (i / (full_of l)) opens)
  where
    of_park : (e : Damage) → read_park l b t (i / (full_of l)) ≡ Err e → NumberCause l b t i d
    of_park e is = park_to_number l b t i d (park_cause l b t (i / (full_of l)) d opens (is ∙ ap (λ d. Err d) (err_same (num l b t i) e d (num_refused l b t i e is) refused)))

    by : ParkAnswer l b t (i / (full_of l)) → NumberCause l b t i d
    by (is_unlisted never is) = of_park (Directory t (i / (full_of l))) is
    by (is_undigested listed never is) = of_park (Digest t (i / (full_of l))) is
    by (is_formless listed digested none is) = of_park (WrongForm t (i / (full_of l))) is
    by (is_headless ns holds seven other is) = of_park (Directory t (i / (full_of l))) is
    by (is_read ns reads is) =
        let n = slice_index ns (i % (full_of l)) in
        let inside = points_inside (header_in b).size t (count_of (header_in b) (t - 1)) n in
        ⊎_elim
        (λ (good : inside ≡ true). absurd (good_not_bad (num l b t i) n d (num_read l b t i ns is ∙ tested_true inside (Pointer t i) n good) refused))
        (λ (bad : inside ≡ false).
        subst (λ d. NumberCause l b t i d) (err_same (num l b t i) (Pointer t i) d (num_read l b t i ns is ∙ tested_false inside (Pointer t i) n bad) refused)
        (refl, refl, (ns, reads, bad)))
        (bool_cases inside)

number_caused : (l : Layout) (b : List ℕ) (t i : ℕ) (d : Damage) → Opens l b → NumberCause l b t i d → num l b t i ≡ Err d
number_caused l b t i (Pointer u at) opens cause =
    let ns = cause.2.0 in
    num_read l b t i ns (park_reads l b t (i / (full_of l)) ns opens cause.2.1)
    ∙ tested_false _ (Pointer t i) (slice_index ns (i % (full_of l))) cause.2.2
    ∙ ap (λ t. Err (Pointer t i)) (sym cause.0) ∙ ap (λ i. Err (Pointer u i)) (sym cause.1)
number_caused l b t i (NotOpen n gate) opens cause = absurd cause
number_caused l b t i (WrongHeader field) opens cause = absurd cause
number_caused l b t i (Length said found) opens cause = absurd cause
number_caused l b t i (Directory u q) opens cause = num_refused l b t i (Directory u q) (park_caused l b t (i / (full_of l)) (Directory u q) opens cause)
number_caused l b t i (Digest u q) opens cause = num_refused l b t i (Digest u q) (park_caused l b t (i / (full_of l)) (Digest u q) opens cause)
number_caused l b t i (WrongForm u q) opens cause = num_refused l b t i (WrongForm u q) (park_caused l b t (i / (full_of l)) (WrongForm u q) opens cause)
number_caused l b t i (Order u at) opens cause = absurd cause
number_caused l b t i (NotAProof at) opens cause = absurd cause

pub number_damage_has_its_cause : NumberDamageHasItsCause
number_damage_has_its_cause l b t i d opens = (number_cause l b t i d opens, number_caused l b t i d opens)

-- what comes after an answer that is no damage is none
passes : {X Y : Type 0} (r : Result X Damage) (f : X → Y) (d : Damage) → then_read r (λ x. Ok (f x)) ≡ Err d → r ≡ Err d
passes (Ok x) f d e = absurd (good_not_bad (Ok (f x)) (f x) d refl e)
passes (Err e) f d is = cc

refuses : {X Y : Type 0} (r : Result X Damage) (f : X → Result Y Damage) (d : Damage) → r ≡ Err d → then_read r f ≡ Err d
refuses r f d e = rw e refl

pub head_damage_has_its_cause : HeadDamageHasItsCause
unfolding head
head_damage_has_its_cause l b park d = (
  λ refused. entry_cause l b 7 park d (passes (read_entry l b 7 park) (λ e. e.head) d refused),
  λ cause. refuses (read_entry l b 7 park) (λ e. Ok e.head) d (entry_caused l b 7 park d cause),
)

pub count_damage_has_its_cause : CountDamageHasItsCause
unfolding under
count_damage_has_its_cause l b park f7 d opens = (
  λ refused. park_cause l b 7 park d opens (passes (read_park l b 7 park) (λ ns. count_by (λ n. nat_lt n (f7 * 2 ^ ((header_in b).size + 1))) ns) d refused),
  λ cause. refuses (read_park l b 7 park) (λ ns. Ok (count_by (λ n. nat_lt n (f7 * 2 ^ ((header_in b).size + 1))) ns)) d (park_caused l b 7 park d opens cause),
)
