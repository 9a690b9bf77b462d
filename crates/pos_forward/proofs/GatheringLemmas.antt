-- Rows that are read one after another, and the refusals on the way.
use Rattle.std.proofs.Common.{◌≡◌, ℕ, ◌+◌, ◌-◌, ◌*◌, ◌/◌, ◌^◌, ◌≤◌, ◌<◌, cond, Bool, true, false, List, [], ◌∷◌, ◌++◌, length, map, take, drop, get_or, Result, Ok, Err, Some, refl, sym, ap, ◌∙◌, subst, inl, inr, arith, All, Any}
use Rattle.std.specs.Prelude.{IsErrOf, IfErr, slice_get}
use Rattle.std.proofs.Math.Nat.{div-le_self}
use Rattle.std.proofs.lemmas.Bool.{cases_eq, ne_eqb, true≢false}
use Rattle.std.proofs.lemmas.List.{get_or-map, get_or-take, get_or_push, length_push, length-map, map-append, take-append-drop, take-map, take_all}
use Rattle.std.proofs.lemmas.List.Elements.{All-get_or, All-nil, All-push, All-weaker}
use Rattle.std.proofs.lemmas.Option.{get_or_from_slice_get}
use Rattle.pos_edge.specs.Faults.{Rose, counted}
use Rattle.pos_edge.specs.View.{View}
use Rattle.pos_edge.specs.Frame.{Nothing, ReadsOnly, SameFaults}
use Rattle.pos_edge.specs.declared.scratch.ScratchDamage.{ScratchDamage}
use Rattle.pos_edge.specs.declared.scratch.WorkFault.{WorkFault}
use Rattle.pos_edge.specs.declared.scratch.WorkFault.TheVariants.{DiskFailed, Exists, Scratch, Memory}
use Rattle.pos_edge.proofs.FaultLemmas.{Rose-since}
use Rattle.pos_edge.proofs.Frames.{frame_none, frame_then}
use Rattle.pos_tuple.specs.declared.entry.Entry.{Entry}
use Rattle.pos_runs.specs.Pages.{ListPages, ListStands, ListHolds, per_page}
use Rattle.pos_runs.specs.Lists.{IsListRead, reads_after}
use Rattle.pos_runs.specs.Runs.{StandsSealed}
use Rattle.pos_laws.specs.Making.{AreMatching, NeverFalls}
use Rattle.pos_forward.specs.declared.drafts.Draft.{Draft}
use Rattle.pos_forward.specs.declared.faults.ForwardFault.{ForwardFault}
use Rattle.pos_forward.specs.declared.faults.ForwardFault.TheVariants.{TableFull, Work}
use Rattle.pos_forward.specs.declared.matcher.Matcher.{Matcher}
use Rattle.pos_tuple.specs.Node.{IsEntry}
use Rattle.pos_forward.specs.SevenTables.{IsOutOfOrder}
use Rattle.pos_forward.specs.Tables.{AreUnsorted}
use Rattle.pos_forward.specs.Matched.{IsMatched, IsOverfull}
use Rattle.pos_forward.specs.Gathering.{HasMorePairs, HasSameRecords, IsEntryAt, IsGatherAnswer, IsGathered, IsGathering, IsMatchRefusal, IsReadRefusal, IsYDamage}
use Rattle.pos_forward.proofs.StoreLemmas.{take_more}

-- reads after reads
pub only_then : (a b c : View) → ReadsOnly a b → ReadsOnly b c → ReadsOnly a c
only_then a b c p q = record {
  kept = frame_then Nothing Nothing Nothing Nothing Nothing Nothing a b c (λ n x. x) (λ n x. x) (λ f l x. x) (λ f l x. x) p.kept q.kept;
  ids = record { live = λ f x. q.ids.live f x ∙ p.ids.live f x; name = λ f x. q.ids.name f x ∙ p.ids.name f x };
}

pub read_then : (s t u : ListPages) (a b c : View) → IsListRead s t a b → IsListRead t u b c → IsListRead s u a c
read_then s t u a b c p q = record {
  only = only_then a b c p.only q.only;
  same = record { file = q.same.file ∙ p.same.file; number = q.same.number ∙ p.same.number };
  count = q.count ∙ p.count;
  is_sealed = q.is_sealed ∙ p.is_sealed;
  written = q.written ∙ p.written;
}

read_none : (s : ListPages) (a : View) → IsListRead s s a a
read_none s a = record {
  only = record { kept = frame_none Nothing Nothing a; ids = record { live = λ f x. refl; name = λ f x. refl } };
  same = record { file = refl; number = refl };
  count = refl;
  is_sealed = refl;
  written = refl;
}

-- nothing was read yet
pub gathering_none : {R : Type 0} (k t : ℕ) (entry : R → Entry) (read : List Bool → R) (w : ℕ) (s : ListPages) (m : Matcher) (drafts : List Draft) (a : View)
    → ListStands w s a → drafts ≡ [] → IsMatched k t [] m [] → IsGathering k t entry read w s s 0 0 m drafts a a
gathering_none k t entry read w s m drafts a stands none ready = record {
  read_only = read_none s a;
  records = record { stands = stands; holds = λ xs h. h };
  quiet = refl;
  es = [];
  count = refl;
  matched = subst (λ ds. IsMatched k t [] m ds) (sym none) ready;
  rise = All-nil (λ b. b.y ≤ 0);
  last = λ h. absurd (omega arith);
  same = λ xs h tells. refl;
  first = λ h. refl;
  reads = λ h page. absurd (omega arith);
}

-- the first row of a list that was just sealed is read from the disk
first_read : (w i : ℕ) (s now : ListPages) (a b c : View) → ListStands w s a → s.is_sealed ≡ true → i < s.count → i ≡ 0 → now.page ≡ s.page → s.page ≡ s.written → a.reads ≤ b.reads → c.reads ≡ reads_after w i now b
    → Rose a.reads c.reads
first_read w i s now a b c stands sealed there none same page before reads =
    let pages : s.count ≤ per_page w * s.written = stands.sealed sealed in
    let low : i / per_page w ≤ i = div-le_self i (per_page w) in
    let other : now.page ≡ i / per_page w → ⊥ = (λ e. no_pages (per_page w) s.written (omega arith) (omega arith)) in
    let read : c.reads ≡ counted b.reads = reads ∙ ap (λ (x : Bool). cond x b.reads (counted b.reads)) (ne_eqb now.page (i / per_page w) other) in
    omega arith
  where
    no_pages : (n written : ℕ) → written ≡ 0 → 0 < n * written → ⊥
    no_pages n written none some = let e : n * written ≡ n * 0 = ap (λ x. n * x) none in omega arith

-- one more row
pub gathering_more : {R : Type 0} (k t : ℕ) (entry : R → Entry) (read : List Bool → R) (w : ℕ) (s now next : ListPages) (i least : ℕ) (m n : Matcher) (drafts more : List Draft) (e : Entry) (a b c : View)
    → StandsSealed w s a → i < s.count → IsGathering k t entry read w s now i least m drafts a b
    → IsListRead now next b c → HasSameRecords read w now next b c → SameFaults b c → c.reads ≡ reads_after w i now b
    → least ≤ e.y → IsEntryAt entry read w now i e b
    → ((es : List Entry) → IsMatched k t es m drafts → All (λ x. x.y ≤ e.y) es → IsMatched k t (es ++ e ∷ []) n more)
    → IsGathering k t entry read w s next (i + 1) e.y n more a c
gathering_more {R} k t entry read w s now next i least m n drafts more e a b c stands there g got records quiet reads above at taken =
    let lower : All (λ x. x.y ≤ e.y) g.es = All-weaker (λ x. x.y ≤ least) (λ x. x.y ≤ e.y) (λ x h. omega arith) g.es g.rise in
    record {
      read_only = read_then s now next a b c g.read_only got;
      records = record { stands = records.stands; holds = λ xs h. records.holds xs (g.records.holds xs h) };
      quiet = quiet ∙ g.quiet;
      es = g.es ++ e ∷ [];
      count = length_push g.es e ∙ ap (λ x. x + 1) g.count;
      matched = taken g.es g.matched lower;
      rise = All-push (λ x. x.y ≤ e.y) g.es e lower (omega arith);
      last = λ h. (length g.es, e, (let l = length_push g.es e in omega arith), get_or-last g.es e, refl);
      same = λ xs h tells.
          let row = at xs (g.records.holds xs h) (g.read_only.only.kept.tells ∙ tells) in
          let count = h.count in
          ap (λ (ys : List Entry). ys ++ e ∷ []) (g.same xs h tells)
          ∙ sym (take_more entry xs i row.0 e (omega arith) (sym (get_or_from_slice_get xs i row.0 row.0 row.1)) row.2);
      first = λ h. absurd (omega arith);
      reads = λ h page. elim (cases_eq i 0) [
        | inl none ↦ first_read w i s now a b c stands.stands stands.sealed there none (g.first none) page g.read_only.only.kept.reads reads
        | inr some ↦ let rose = g.reads (omega arith) page in let later = got.only.kept.reads in omega arith
      ];
    } where
      get_or-last : (es : List Entry) (e : Entry) → get_or (es ++ e ∷ []) (length es) e ≡ e
      get_or-last es e = get_or_push es e e (length es) refl

-- all rows were read
pub gathering_all : {R : Type 0} (k t : ℕ) (entry : R → Entry) (read : List Bool → R) (w : ℕ) (s now : ListPages) (i least : ℕ) (m : Matcher) (drafts made : List Draft) (a b : View)
    → i ≡ s.count → IsGathering k t entry read w s now i least m drafts a b → ((es : List Entry) → IsMatched k t es m drafts → AreUnsorted k t es made) → IsGathered k t entry read w s made a
gathering_all k t entry read w s now i least m drafts made a b all g unsorted = record {
  es = g.es;
  count = g.count ∙ all;
  unsorted = unsorted g.es g.matched;
  same = λ xs h tells. g.same xs h tells ∙ ap (map entry) (take_all i xs (let c = h.count in omega arith));
}

-- ---- refusals

turned : (X Y : Type 0) (e f : ForwardFault) → IsErrOf {T = Y} (Err e) f → IsErrOf {T = X} (Err e) f
turned X Y e f is = let same : e ≡ f = cc in ap (λ x. Err x) same

-- a y below the last one, where the y never fall
never_below : {R : Type 0} (k t : ℕ) (entry : R → Entry) (read : List Bool → R) (w : ℕ) (s now : ListPages) (i least : ℕ) (m : Matcher) (drafts : List Draft) (a b : View) (e : Entry)
    → i < s.count → IsGathering k t entry read w s now i least m drafts a b → e.y < least → IsEntryAt entry read w s i e a
    → (xs : List R) → ListHolds read w s xs a → a.tells ≡ true → NeverFalls (map entry xs) → ⊥
never_below k t entry read w s now i least m drafts a b e there g below at xs h tells rise = from (g.last (omega arith)) (at xs h tells) where
  from : Any (λ x. x.y ≡ least) g.es → (row : _) × (slice_get xs i ≡ Some row) × (e ≡ entry row) → ⊥
  from (j, x, inside, is, y) (row, got, same) =
      let count = g.count in
      let long = h.count in
      let es : g.es ≡ take i (map entry xs) = g.same xs h tells ∙ sym (take-map entry i xs) in
      let earlier : get_or (map entry xs) j x ≡ x = sym (get_or-take i (map entry xs) j x (omega arith)) ∙ sym (ap (λ (ys : List Entry). get_or ys j x) es) ∙ is in
      let here : get_or (map entry xs) i x ≡ entry row = get_or-map entry xs i row x (omega arith) ∙ ap entry (get_or_from_slice_get xs i row row got) in
      let step = rise j i x (omega arith) (let l = length-map xs entry in omega arith) in
      let low : (get_or (map entry xs) j x).y ≡ x.y = ap (λ (z : Entry). z.y) earlier in
      let high : (get_or (map entry xs) i x).y ≡ (entry row).y = ap (λ (z : Entry). z.y) here in
      let last : e.y ≡ (entry row).y = ap (λ (z : Entry). z.y) same in
      omega arith

-- the y that stands before a damage was read, and has the bits of a y
order_at : {R : Type 0} (k n t : ℕ) (entry : R → Entry) (read : List Bool → R) (w : ℕ) (s now : ListPages) (i least : ℕ) (m : Matcher) (drafts : List Draft) (d : ScratchDamage) (a b : View)
    → n ≡ k → IsGathering n t entry read w s now i least m drafts a b → IsYDamage k entry read w s i least d a → IsOutOfOrder k s.number (s.number + 1) d
order_at k n t entry read w s now i least m drafts d a b size g damage = subst (IsOutOfOrder k s.number (s.number + 1)) (sym damage.is) (from (g.last (let h = damage.below in omega arith))) where
  from : Any (λ x. x.y ≡ least) g.es → IsOutOfOrder k s.number (s.number + 1) (record { file = s.number; at = i; found = damage.e.y; least = least; limit = 2 ^ (k + 6) })
  from (j, x, inside, is, y) =
      let each : IsEntry n (t - 1) (get_or g.es j x) = All-get_or (IsEntry n (t - 1)) g.es j x inside g.matched.has.taken.entries in
      let same : (get_or g.es j x).y ≡ least = ap (λ (z : Entry). z.y) is ∙ y in
      record {
        earliest = omega arith;
        last = refl;
        behind = let count = g.count in omega arith;
        below = damage.below;
        least = subst (λ z. least < 2 ^ (z + 6)) size (subst (λ z. z < 2 ^ (n + 6)) same each.y);
        limit = refl;
      }

-- a row that was not read
pub answer_read : {X Y R : Type 0} (r : Result Y ForwardFault) (y f : ForwardFault) (k n t cap : ℕ) (entry : R → Entry) (read : List Bool → R) (w : ℕ) (s now : ListPages) (i least : ℕ) (m : Matcher) (drafts : List Draft) (a b c : View)
    → r ≡ Err y → y ≡ f → n ≡ k → i < s.count → IsGathering n t entry read w s now i least m drafts a b → IsReadRefusal {X = X} (Err f) k entry read w now i least b c
    → IsGatherAnswer r k t cap entry read w s a c
answer_read {X} {Y} {R} r y f k n t cap entry read w s now i least m drafts a b c is same size there g h = subst (λ (z : Result Y ForwardFault). IsGatherAnswer z k t cap entry read w s a c) (sym (is ∙ ap (λ x. Err x) same)) (record {
  failed = λ p. Rose-since a.faults b.faults c.faults g.read_only.only.kept.faults (h.failed (turned X Y f (Work DiskFailed) p));
  quiet = λ other. h.quiet other ∙ g.quiet;
  no_exists = λ file p. h.no_exists file (turned X Y f (Work (Exists file)) p);
  table = λ table p. absurd (h.not_full table (turned X Y f (TableFull table) p));
  full = λ table p. absurd (h.not_full table (turned X Y f (TableFull table) p));
  damage = λ d p. (i, least, before d (h.damage d (turned X Y f (Work (Scratch d)) p)));
  range = λ d p. order_at k n t entry read w s now i least m drafts d a b size g (before d (h.damage d (turned X Y f (Work (Scratch d)) p)));
  never = λ d p. let y_damage = before d (h.damage d (turned X Y f (Work (Scratch d)) p)) in never_below n t entry read w s now i least m drafts a b y_damage.e there g y_damage.below y_damage.same;
}) where
  before : (d : ScratchDamage) → IsYDamage k entry read w now i least d b → IsYDamage k entry read w s i least d a
  before d p = record {
    e = p.e;
    below = p.below;
    same = λ xs holds tells. p.same xs (g.records.holds xs holds) (g.read_only.only.kept.tells ∙ tells);
    is = p.is ∙ ap (λ (file : ℕ). let x : ScratchDamage = record { file = file; at = i; found = p.e.y; least = least; limit = 2 ^ (k + 6) } in x) g.read_only.same.number;
  }

-- a table that would be too large, or no memory for it
match_answer : {X Y R : Type 0} (f : ForwardFault) (k n t cap : ℕ) (entry : R → Entry) (read : List Bool → R) (w : ℕ) (s now : ListPages) (i least : ℕ) (m : Matcher) (drafts : List Draft) (a b c : View)
    → IsGathering n t entry read w s now i least m drafts a b → SameFaults b c → IsMatchRefusal t f → (IsErrOf {T = X} (Err f) (TableFull t) → (es : List Entry) → IsMatched n t es m drafts → IsOverfull cap es)
    → IsGatherAnswer {X = Y} (Err f) k t cap entry read w s a c
match_answer {X} {Y} {R} f k n t cap entry read w s now i least m drafts a b c g quiet refusal overfull = record {
  failed = λ p. absurd (not_work DiskFailed refusal p (λ e. true≢false (let z : true ≡ false = cc in z)));
  quiet = λ other. quiet ∙ g.quiet;
  no_exists = λ file p. not_work (Exists file) refusal p (λ e. true≢false (let z : true ≡ false = cc in z));
  table = λ table p. is_table table refusal p;
  full = λ table p xs holds tells. pairs xs holds tells (overfull (full_of table refusal p) g.es g.matched);
  damage = λ d p. absurd (not_work (Scratch d) refusal p (λ e. true≢false (let z : true ≡ false = cc in z)));
  range = λ d p. absurd (not_work (Scratch d) refusal p (λ e. true≢false (let z : true ≡ false = cc in z)));
  never = λ d p. absurd (not_work (Scratch d) refusal p (λ e. true≢false (let z : true ≡ false = cc in z)));
} where
  not_work : (e : WorkFault) → IsMatchRefusal t f → IsErrOf {T = Y} (Err f) (Work e) → (e ≡ Memory → ⊥) → ⊥
  not_work e (inl full) p other = true≢false (let z : true ≡ false = cc in z)
  not_work e (inr memory) p other = other (cc)

  is_table : (table : ℕ) → IsMatchRefusal t f → IsErrOf {T = Y} (Err f) (TableFull table) → table ≡ t
  is_table table (inl full) p = cc
  is_table table (inr memory) p = absurd (true≢false (let z : true ≡ false = cc in z))

  full_of : (table : ℕ) → IsMatchRefusal t f → IsErrOf {T = Y} (Err f) (TableFull table) → IsErrOf {T = X} (Err f) (TableFull t)
  full_of table (inl full) p = ap (λ x. Err x) full
  full_of table (inr memory) p = absurd (true≢false (let z : true ≡ false = cc in z))

  pairs : (xs : List R) → ListHolds read w s xs a → a.tells ≡ true → IsOverfull cap g.es → HasMorePairs cap (map entry xs)
  pairs xs holds tells (found, many, matching) =
      let whole : g.es ++ map entry (drop i xs) ≡ map entry xs =
      ap (λ (ys : List Entry). ys ++ map entry (drop i xs)) (g.same xs holds tells) ∙ sym (map-append entry (take i xs) (drop i xs)) ∙ ap (map entry) (take-append-drop i xs) in
      (found, many, subst (λ es. AreMatching es found) whole (matching (map entry (drop i xs))))

pub answer_match : {X Y R : Type 0} (r : Result Y ForwardFault) (y f : ForwardFault) (k n t cap : ℕ) (entry : R → Entry) (read : List Bool → R) (w : ℕ) (s now : ListPages) (i least : ℕ) (m : Matcher) (drafts : List Draft) (a b c : View)
    → r ≡ Err y → y ≡ f → IsGathering n t entry read w s now i least m drafts a b → SameFaults b c → IsMatchRefusal t f → (IsErrOf {T = X} (Err f) (TableFull t) → (es : List Entry) → IsMatched n t es m drafts → IsOverfull cap es)
    → IsGatherAnswer r k t cap entry read w s a c
answer_match {X} {Y} r y f k n t cap entry read w s now i least m drafts a b c is same g quiet refusal overfull =
    subst (λ (z : Result Y ForwardFault). IsGatherAnswer z k t cap entry read w s a c) (sym (is ∙ ap (λ x. Err x) same)) (match_answer {X = X} {Y = Y} f k n t cap entry read w s now i least m drafts a b c g quiet refusal overfull)

-- the last call's answer is handed on
pub answer_last : {Y R : Type 0} (r : Result Y ForwardFault) (k n t cap : ℕ) (entry : R → Entry) (read : List Bool → R) (w : ℕ) (s now : ListPages) (i least : ℕ) (m : Matcher) (drafts : List Draft) (a b : View)
    → IsGathering n t entry read w s now i least m drafts a b → IfErr r (IsMatchRefusal t) → (IsErrOf r (TableFull t) → (es : List Entry) → IsMatched n t es m drafts → IsOverfull cap es)
    → IsGatherAnswer r k t cap entry read w s a b
answer_last {Y} (Err f) k n t cap entry read w s now i least m drafts a b g refusal overfull = match_answer {X = Y} {Y = Y} f k n t cap entry read w s now i least m drafts a b b g refl refusal overfull
answer_last {Y} (Ok x) k n t cap entry read w s now i least m drafts a b g refusal overfull = record {
  failed = λ p. absurd (not_err (Work DiskFailed) p);
  quiet = g.quiet;
  no_exists = λ file p. not_err (Work (Exists file)) p;
  table = λ table p. absurd (not_err (TableFull table) p);
  full = λ table p. absurd (not_err (TableFull table) p);
  damage = λ d p. absurd (not_err (Work (Scratch d)) p);
  range = λ d p. absurd (not_err (Work (Scratch d)) p);
  never = λ d p. absurd (not_err (Work (Scratch d)) p);
} where
  not_err : (e : ForwardFault) → IsErrOf {T = Y} (Ok x) e → ⊥
  not_err e p = true≢false (let z : true ≡ false = cc in z)
