-- One table made of the one below: rows are read, given up, and two lists are made.
use Rattle.std.proofs.Common.{◌≡◌, ◌⊎◌, ℕ, ◌+◌, ◌-◌, ◌*◌, ◌/◌, ◌^◌, ◌≤◌, ◌<◌, min, Bool, true, false, List, length, map, Err, refl, sym, ap, ◌∙◌, subst, inl, inr, arith, All}
use Rattle.std.specs.Prelude.{IsErrOf}
use Rattle.std.specs.List.Sorted.{IsPermutation}
use Rattle.std.proofs.Math.Nat.{pow-le-pow_right}
use Rattle.std.proofs.lemmas.Bool.{cases_eq, true≢false, false≢true}
use Rattle.std.proofs.lemmas.List.Sorted.{length_permutation}
use Rattle.std.proofs.lemmas.List.Elements.{All-weaker}
use Rattle.pos_edge.specs.Faults.{Rose}
use Rattle.pos_edge.specs.View.{View, IsDisk}
use Rattle.pos_edge.specs.Frame.{NameOf, Nothing, Just, ReadsOnly, SameFaults}
use Rattle.pos_edge.specs.Calls.{IsThere}
use Rattle.pos_edge.specs.ScratchNames.{ScratchState, with_file, without_file, IsLeft}
use Rattle.pos_edge.specs.ScratchWork.{IsNameBetween, IsScratchWork, IsScratchDone, HasWorked}
use Rattle.pos_edge.specs.declared.scratch.WorkFault.{WorkFault}
use Rattle.pos_edge.specs.declared.scratch.WorkFault.TheVariants.{DiskFailed, Exists}
use Rattle.pos_edge.proofs.FaultLemmas.{Rose-since}
use Rattle.pos_edge.proofs.ScratchWorkLemmas.{between_wider, done_beside, done_then, ended_behind, work_read, work_then, worked_behind}
use Rattle.pos_tuple.specs.declared.entry.Entry.{Entry}
use Rattle.pos_tuple.specs.Node.{metadata_units}
use Rattle.pos_record.specs.Kinds.{pair_read, pair_width, PairFits}
use Rattle.pos_runs.specs.Pages.{ListPages}
use Rattle.pos_runs.specs.Lists.{IsListRead, ListKept}
use Rattle.pos_runs.proofs.KeptLemmas.{kept-read}
use Rattle.pos_forward.specs.declared.drafts.Draft.{Draft}
use Rattle.pos_forward.specs.declared.faults.ForwardFault.{ForwardFault}
use Rattle.pos_forward.specs.declared.faults.ForwardFault.TheVariants.{Work}
use Rattle.pos_forward.specs.Drafts.{IsPairDraft}
use Rattle.pos_forward.specs.Eights.{CountsEights}
use Rattle.pos_forward.specs.Gathering.{IsGatherAnswer, IsGathered}
use Rattle.pos_forward.specs.NextTables.{AreDrafted, HasGivenRows, IsLastList}
use Rattle.pos_forward.proofs.MadeTables.{IsNextMade}
use Rattle.pos_forward.specs.Stored.{draft_pair_record}
use Rattle.pos_forward.specs.Storing.{AreKept, AreStored, IsWorkAnswer}
use Rattle.pos_forward.specs.Tables.{AreUnsorted, IsSortedTable}
use Rattle.pos_forward.specs.TablesSoFar.{AreEntriesOf, IsMoreFault}
use Rattle.pos_forward.proofs.OneLemmas.{stored_ended}
use Rattle.pos_forward.proofs.SoFarLemmas.{gathered_cause, stored_cause}
use Rattle.pos_forward.proofs.WayLemmas.{kept_name}

-- the names of the rows' file
row_name : {R : Type 0} (read : List Bool → R) (w : ℕ) (s : ScratchState) (rows : ListPages) (xs : List R) (file : ℕ) (a b : View) → IsDisk b → IsLastList s rows a → ListKept s.base read w rows xs a → ReadsOnly a b → file ≡ rows.file
    → (n : List ℕ) → NameOf file b n → IsNameBetween s.base rows.number s.made n
row_name read w s rows xs file a b disk list kept only same n named =
    let last = list.last in
    (rows.number, omega arith, omega arith, kept_name s.base read w rows xs n b disk (kept-read s.base read w rows xs a b only kept) (subst (λ f. NameOf f b n) same named))

-- the file of the rows can be removed after they were read
pub row_left : (s : ScratchState) (rows now : ListPages) (a : View) → IsLastList s rows a → now.file ≡ rows.file → IsLeft s now.file
row_left s rows now a list same = subst (IsLeft s) (sym same) list.left

pub row_live : {R : Type 0} (base : List ℕ) (read : List Bool → R) (w : ℕ) (rows now : ListPages) (xs : List R) (a b : View) → ListKept base read w rows xs a → IsListRead rows now a b → b.is_live now.file ≡ true
row_live base read w rows now xs a b kept got = subst (λ f. b.is_live f ≡ true) (sym got.same.file) (kept-read base read w rows xs a b got.only kept).stands.live

pub row_there : {R : Type 0} (base : List ℕ) (read : List Bool → R) (w : ℕ) (rows now : ListPages) (xs : List R) (a b : View) → ListKept base read w rows xs a → IsListRead rows now a b → IsThere now.file b
row_there base read w rows now xs a b kept got = subst (λ f. IsThere f b) (sym got.same.file) (kept-read base read w rows xs a b got.only kept).stands.there

-- and then removed, whatever was answered
given_work : {R : Type 0} (read : List Bool → R) (w : ℕ) (s t : ScratchState) (rows : ListPages) (xs : List R) (file : ℕ) (a b c : View) → IsDisk b → IsLastList s rows a → ListKept s.base read w rows xs a → ReadsOnly a b
    → file ≡ rows.file → t ≡ without_file s file → IsScratchWork (NameOf file b) (Just file) s t b c → IsScratchWork (IsNameBetween s.base rows.number (t.made + 1)) (Just rows.file) s t a c
given_work read w s t rows xs file a b c disk list kept only same is work =
    let made : t.made ≡ s.made = ap (λ (z : ScratchState). z.made) is in
    work_then (IsNameBetween s.base rows.number (t.made + 1)) Nothing (NameOf file b) (Just rows.file) Nothing (Just file) s s t a b c
    (λ n x. absurd x) (λ n x. between_wider s.base rows.number s.made rows.number (t.made + 1) n (omega arith) (omega arith) (row_name read w s rows xs file a b disk list kept only same n x)) (λ f l x. absurd x) (λ f l x. x ∙ same) (λ f l x. absurd x) (omega arith)
    (work_read Nothing Nothing s a b only) work

-- and where that went well
pub given_worked : {R : Type 0} (read : List Bool → R) (w : ℕ) (s t : ScratchState) (rows : ListPages) (xs : List R) (file : ℕ) (a b c : View) → IsDisk b → IsLastList s rows a → ListKept s.base read w rows xs a → ReadsOnly a b
    → file ≡ rows.file → t ≡ without_file s file → IsScratchWork (NameOf file b) (Just file) s t b c → IsScratchDone (NameOf file b) (Just file) s t b c → SameFaults a c → HasWorked 0 rows.number (Just rows.file) s t a c
given_worked read w s t rows xs file a b c disk list kept only same is work done quiet =
    let made : t.made ≡ s.made = ap (λ (z : ScratchState). z.made) is in
    record {
      work = given_work read w s t rows xs file a b c disk list kept only same is work;
      done = done_then (IsNameBetween s.base rows.number t.made) Nothing (NameOf file b) (Just rows.file) Nothing (Just file) s s t a b c
          (λ n x. absurd x) (λ n x. between_wider s.base rows.number s.made rows.number t.made n (omega arith) (omega arith) (row_name read w s rows xs file a b disk list kept only same n x)) (λ f l x. absurd x) (λ f l x. x ∙ same) refl (λ m from to x. x)
          (done_beside Nothing Nothing s a b only.kept (λ n x none. x)) done;
      made = omega arith;
      quiet = quiet;
    }

-- ---- faults

-- the rows could not be gathered
as_gathered : (X : Type 0) (e f : ForwardFault) → IsErrOf {T = Unit {0}} (Err e) f → IsErrOf {T = X} (Err e) f
as_gathered X e f is = let same : e ≡ f = cc in ap (λ x. Err x) same

pub gathered_fault : {X R : Type 0} (f : ForwardFault) (k c n t : ℕ) (entry : R → Entry) (read : List Bool → R) (w : ℕ) (rows : ListPages) (s : ScratchState) (a b : View)
    → n + 2 ≡ t → n < 6 → rows.number + 1 ≡ s.made → ReadsOnly a b → IsGatherAnswer {X = X} (Err f) k t c entry read w rows a b → IsMoreFault k c n 2 (AreEntriesOf entry) read w rows s s a b f
gathered_fault {X} f k c n t entry read w rows s a b level less last only h = record {
  ended = record {
    work = work_read (IsNameBetween s.base rows.number (s.made + 1)) (Just rows.file) s a b only;
    few = omega arith;
    exists = λ file p. absurd (h.no_exists file (as_gathered X f (Work (Exists file)) p));
    failed = λ p. h.failed (as_gathered X f (Work DiskFailed) p);
    quiet = h.quiet;
  };
  cause = gathered_cause f k c n t entry read w rows s a b level less last h;
}

-- the rows could not be removed
pub removed_fault : {R : Type 0} (e : WorkFault) (k c n : ℕ) (entry : R → Entry) (read : List Bool → R) (w : ℕ) (s u : ScratchState) (rows : ListPages) (xs : List R) (file : ℕ) (a b d : View)
    → e ≡ DiskFailed → Rose b.faults d.faults → IsDisk b → IsLastList s rows a → ListKept s.base read w rows xs a → ReadsOnly a b → file ≡ rows.file → u ≡ without_file s file → IsScratchWork (NameOf file b) (Just file) s u b d
    → IsMoreFault k c n 2 (AreEntriesOf entry) read w rows s u a d (Work e)
removed_fault e k c n entry read w s u rows xs file a b d is rose disk list kept only same left work =
    let made : u.made ≡ s.made = ap (λ (z : ScratchState). z.made) left in
    subst (λ z. IsMoreFault k c n 2 (AreEntriesOf entry) read w rows s u a d (Work z)) (sym is) (record {
      ended = record {
        work = given_work read w s u rows xs file a b d disk list kept only same left work;
        few = omega arith;
        exists = λ number p. absurd (true≢false (let z : true ≡ false = cc in z));
        failed = λ p. Rose-since a.faults b.faults d.faults only.kept.faults rose;
        quiet = λ other. absurd (other refl);
      };
      cause = tt;
    })

number_same : (s v : ScratchState) (file : ℕ) → v ≡ without_file s file → v.made ≡ s.made
number_same s v file is = ap (λ (z : ScratchState). z.made) is

-- the module's arguments: the rows were given up, and then two lists were to be made
module _ (s v u : ScratchState) (rows : ListPages) (a b d : View) (list : IsLastList s rows a) (given : HasGivenRows s v rows a b) (room : s.made + 2 ≤ 10000) where
  list_above : rows.number ≤ v.made
  list_above = let last = list.last in let same = number_same s v rows.file given.left in omega arith

  abbrev old_rows : (f : ℕ) → a.is_live f ≡ true → f ≡ rows.file → IsLeft s f ⊎ (b.is_live f ≡ true)
  old_rows f live is = inl (subst (IsLeft s) (sym is) list.left)

  -- they were made
  pub next_worked : HasWorked 2 v.made Nothing v u b d → HasWorked 2 rows.number (Just rows.file) s u a d
  next_worked q = worked_behind 0 2 rows.number v.made (Just rows.file) Nothing s v u a b d list_above (omega arith) room (λ f live x. absurd x) old_rows given.worked q

  -- or not
  pub stored_fault : {X R : Type 0} (e : WorkFault) (k c n : ℕ) (tie : List Entry → List R → Type 0) (read : List Bool → R) (w : ℕ) → IsScratchWork (IsNameBetween v.base v.made (u.made + 1)) Nothing v u b d → u.made ≤ v.made + 2
      → IsWorkAnswer {X = X} (Err e) v u b d → IsMoreFault k c n 2 tie read w rows s u a d (Work e)
  stored_fault {X} e k c n tie read w work most h = record {
    ended = ended_behind 0 2 rows.number v.made (Just rows.file) Nothing s v u a b d list_above (omega arith) room (λ f live x. absurd x) old_rows given.worked Work (Err (Work e)) (stored_ended {X = X} e v u b d work most h);
    cause = stored_cause e k c n tie read w rows s u a (λ damage is. h.no_damage damage (ap (λ x. Err x) is));
  }

-- ---- what was made

-- the drafts in order
pub drafted : {R : Type 0} (k t most : ℕ) (entry : R → Entry) (read : List Bool → R) (w : ℕ) (rows : ListPages) (drafts sorted : List Draft) (a : View)
    → 2 ≤ t → IsGathered k t entry read w rows drafts a → ((n : ℕ) (es : List Entry) → AreUnsorted k (n + 2) es drafts → IsSortedTable k n es sorted) → length drafts ≤ most → IsPermutation drafts sorted
    → AreDrafted k t most entry read w rows sorted a
drafted {R} k t most entry read w rows drafts sorted a second gathered sorts within moved =
    let level : t ≡ t - 2 + 2 = omega arith in
    let long : length sorted ≡ length drafts = length_permutation drafts sorted moved in
    record {
      es = gathered.es;
      count = gathered.count;
      sorted = sorts (t - 2) gathered.es (subst (λ m. AreUnsorted k m gathered.es drafts) level gathered.unsorted);
      same = gathered.same;
      within = omega arith;
    }

-- the count of eights does not depend on the order
pub counts_sorted : (base lanes : ℕ) (drafts sorted : List Draft) → IsPermutation drafts sorted → CountsEights base lanes drafts → CountsEights base lanes sorted
counts_sorted base lanes drafts sorted moved counts =
    let long : length sorted ≡ length drafts = length_permutation drafts sorted moved in
    subst (λ n. min (base + n / 8) (2 ^ 64 - 1) ≤ lanes) (sym long) counts

-- their number is below the largest of a list
pub few_drafts : (k c n : ℕ) → k ≤ 50 → c ≤ 2 ^ (k + 1) → n ≤ c → n < 2 ^ 52
few_drafts k c n small most within =
    let pow : 2 ^ (k + 1) ≤ 2 ^ 51 = pow-le-pow_right {n = 2} (omega arith) {i = k + 1} {j = 51} (omega arith) in
    omega arith

-- the drafts' places are among the rows, so they fit
pub drafts_fit : {R : Type 0} (k t most : ℕ) (entry : R → Entry) (read : List Bool → R) (w : ℕ) (rows : ListPages) (drafts : List Draft) (a : View) → 2 ≤ t → rows.count ≤ 2 ^ (k + 1)
    → AreDrafted k t most entry read w rows drafts a → All (IsPairDraft k t (2 ^ (k + 1))) drafts
drafts_fit {R} k t most entry read w rows drafts a second few made =
    let level : t - 2 + 2 ≡ t = omega arith in
    let count = made.count in
    let long : length made.es ≤ 2 ^ (k + 1) = omega arith in
    All-weaker (IsPairDraft k (t - 2 + 2) (length made.es)) (IsPairDraft k t (2 ^ (k + 1)))
    (λ d h. record { y = h.y; low = h.low; meta = subst (λ m. d.high * 2 ^ 128 + d.low < 2 ^ (k * metadata_units m)) level h.meta; left = let x = h.left in omega arith; right = let x = h.right in omega arith })
    drafts made.sorted.fit

pub pairs_fit : (k t : ℕ) (drafts : List Draft) → All (IsPairDraft k t (2 ^ (k + 1))) drafts → All (λ d. PairFits k (draft_pair_record d)) drafts
pairs_fit k t drafts fit = All-weaker (IsPairDraft k t (2 ^ (k + 1))) (λ d. PairFits k (draft_pair_record d)) (λ d h. (h.left, h.right)) drafts fit

-- and so do the rows of the new table
pub next_fit : {S : Type 0} (k t : ℕ) (fits : S → Type 0) (made_of : Draft → S) (drafts : List Draft) → ((d : Draft) → IsPairDraft k t (2 ^ (k + 1)) d → fits (made_of d)) → All (IsPairDraft k t (2 ^ (k + 1))) drafts → All (λ d. fits (made_of d)) drafts
next_fit k t fits made_of drafts each fit = All-weaker (IsPairDraft k t (2 ^ (k + 1))) (λ d. fits (made_of d)) each drafts fit

pub next_made : {R S : Type 0} (k t most : ℕ) (entry : R → Entry) (read : List Bool → R) (w : ℕ) (made_of : Draft → S) (next_read_of : List Bool → S) (x : ℕ) (s v u : ScratchState) (rows pairs next : ListPages) (items drafts : List Draft) (a c d : View)
    → HasGivenRows s v rows a c
    → AreDrafted k t most entry read w rows drafts a → items ≡ drafts
    → AreStored (pair_read k) (pair_width k) next_read_of x v u pairs next (map draft_pair_record items) (map made_of items) c d
    → IsNextMade k t most entry read w made_of next_read_of x s u rows pairs next drafts a d
next_made {R} {S} k t most entry read w made_of next_read_of x s v u rows pairs next items drafts a c d gave made same given =
    let is = gave.left in
    let stored : AreStored (pair_read k) (pair_width k) next_read_of x v u pairs next (map draft_pair_record drafts) (map made_of drafts) c d =
    subst (λ ds. AreStored (pair_read k) (pair_width k) next_read_of x v u pairs next (map draft_pair_record ds) (map made_of ds) c d) same given in
    let count : v.made ≡ s.made = ap (λ (z : ScratchState). z.made) is in
    let base : v.base ≡ s.base = ap (λ (z : ScratchState). z.base) is in
    record {
      es = made.es;
      count = made.count;
      sorted = made.sorted;
      same = made.same;
      within = made.within;
      pairs_sealed = stored.first;
      next_sealed = stored.second;
      next_page = stored.second_page;
      files = record {
        is = stored.files.is ∙ ap (λ z. with_file (with_file z pairs.file) next.file) is;
        pairs_number = stored.files.first_number ∙ count;
        next_number = stored.files.second_number ∙ ap (λ m. m + 1) count;
        pairs_new = was_row pairs.file stored.files.first_new;
        next_new = was_row next.file stored.files.second_new;
      };
      kept = subst (λ b. AreKept b (pair_read k) (pair_width k) next_read_of x pairs next (map draft_pair_record drafts) (map made_of drafts) d) base stored.kept;
    } where
      was_row : (f : ℕ) → c.is_live f ≡ false → a.is_live f ≡ true → f ≡ rows.file
      was_row f gone live = elim (cases_eq f rows.file) [
        | inl same ↦ same
        | inr other ↦ absurd (false≢true (sym gone ∙ gave.worked.done.kept.live f live other))
      ]
