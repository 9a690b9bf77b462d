-- Pieces of work on scratch files, one after another: none, one call of a `Scratch`, a call on other files, and two pieces as one.
use Rattle.std.proofs.Common.{ℕ, ◌+◌, ◌≤◌, ◌<◌, ◌≡◌, ◌⊎◌, ◌^◌, ◌==◌, not, cond, Bool, true, false, zero, suc, List, [], ◌∷◌, ◌++◌, length, Option, Some, None, refl, sym, ap, ◌∙◌, subst, inl, inr, arith, Any, filter}
use Rattle.std.specs.Prelude.{IsErrOf, IsSome, OnErr, Result, Ok, Err}
use Rattle.std.proofs.lemmas.Bool.{cases_Bool, cases_eq, cases_lt, false≢true, ne_eqb}
use Rattle.std.proofs.lemmas.List.{get_or_append_left, get_or_push, length_push}
use Rattle.std.proofs.lemmas.Option.{none-some}
use Rattle.pos_edge.specs.declared.scratch.ScratchDamage.{ScratchDamage}
use Rattle.pos_edge.specs.declared.scratch.ScratchFile.{ScratchFile}
use Rattle.pos_edge.specs.declared.scratch.WorkFault.{WorkFault}
use Rattle.pos_edge.specs.declared.scratch.WorkFault.TheVariants.{DiskFailed, Exists, Memory, Scratch}
use Rattle.pos_edge.specs.View.{View, IsDisk}
use Rattle.pos_edge.specs.Frame.{ChangesOnly, KeepsIds, IsUntouched, ReadsOnly, Nothing, Just, NameOf}
use Rattle.pos_edge.specs.Calls.{IsCreated, IsHalfCreated, IsGone, IsAsItWasOrGone, WasThere}
use Rattle.pos_edge.specs.ScratchNames.{ScratchState, scratch_name, next_name, with_file, without_file, IsLeft, StandsOn}
use Rattle.pos_edge.specs.ScratchWork.{IsNameBetween, IsSpared, SparesOthers, IsScratchWork, IsScratchDone, HasWorked, HasEnded}
use Rattle.pos_edge.proofs.FaultLemmas.{Rose-since, faults_then}
use Rattle.pos_edge.proofs.FileSetLemmas.{left_name}
use Rattle.pos_edge.proofs.Frames.{frame_none, frame_then, frame_wider, iff_then}
use Rattle.pos_edge.proofs.ScratchFiles.{Stand-kept, cases_name, same_number, same_or_gone, scratch_name-same}

-- fewer numbers are among more
pub between_wider : (base : List ℕ) (low high less more : ℕ) (name : List ℕ) → less ≤ low → high ≤ more → IsNameBetween base low high name → IsNameBetween base less more name
between_wider base low high less more name p q (m, from, to, is) = (m, omega arith, omega arith, is)

-- a FileId is one of those that are left, or not
pub cases_left : (files : List ScratchFile) (file : ℕ) → Any (λ kept. kept.file.0 ≡ file) files ⊎ (Any (λ kept. kept.file.0 ≡ file) files → ⊥)
cases_left [] file = inr (λ (k, x, h, e, p). omega arith)
cases_left (first ∷ others) file = elim (cases_eq first.file.0 file) [
  | inl same ↦ inl (0, first, omega arith, refl, same)
  | inr other ↦ elim (cases_left others file) [
    | inl (k, x, h, e, p) ↦ inl (suc k, x, omega arith, e, p)
    | inr none ↦ inr (not_either other none)
  ]
] where
  not_either : (first.file.0 ≡ file → ⊥) → (Any (λ kept. kept.file.0 ≡ file) others → ⊥) → Any (λ kept. kept.file.0 ≡ file) (first ∷ others) → ⊥
  not_either other none (zero, x, h, e, p) = other (ap (λ (y : ScratchFile). y.file.0) e ∙ p)
  not_either other none (suc k, x, h, e, p) = none (k, x, omega arith, e, p)

-- ---- files of others

-- nothing was done yet
pub spared_none : (name : List ℕ) (v : View) → IsSpared name v v
spared_none name v = record { contents = refl; images = λ t i from to. (frame_none Nothing Nothing v).images name t i (λ x. x) from to }

-- a name outside the frame
pub spared_beside : (names : List ℕ → Type 0) (ids : ℕ → Type 0) (name : List ℕ) (a b : View) → ChangesOnly names ids a b → (names name → ⊥) → IsSpared name a b
spared_beside names ids name a b kept other = record { contents = kept.contents name other; images = λ t i from to. kept.images name t i other from to }

-- two pieces of work that spared it
pub spared_then : (first second : List ℕ → Type 0) (first_ids second_ids : ℕ → Type 0) (name : List ℕ) (a b c : View)
    → ChangesOnly first first_ids a b → ChangesOnly second second_ids b c → IsSpared name a b → IsSpared name b c → IsSpared name a c
spared_then first second first_ids second_ids name a b c one two p q = record {
  contents = q.contents ∙ p.contents;
  images = λ t i from to. elim (cases_lt b.clock t) [
    | inl later ↦ iff_then (q.images t i (omega arith) to) (p.images b.clock i one.clock (omega arith))
    | inr earlier ↦ iff_then (two.past name t i earlier) (p.images t i from earlier)
  ];
}

-- a name that was there is there
pub spared_there : (name : List ℕ) (a b : View) → IsSpared name a b → IsSome (a.contents name) → IsSome (b.contents name)
spared_there name a b p there = subst (λ (o : Option (List ℕ)). IsSome o) (sym p.contents) there

none_there : (o : Option (List ℕ)) → o ≡ None → IsSome o → ⊥
none_there o none there = false≢true (subst (λ (x : Option (List ℕ)). IsSome x) none there)

-- Work that made nothing and changed no file with a number from `made` on.
spares_beside : (names : List ℕ → Type 0) (ids : ℕ → Type 0) (s t : ScratchState) (a b : View) → t.made ≡ s.made → ChangesOnly names ids a b
    → ((m : ℕ) → s.made ≤ m → m < 2 ^ 64 → names (scratch_name s.base m) → ⊥) → SparesOthers s t a b
spares_beside names ids s t a b same kept apart = λ m from few there. (spared_beside names ids (scratch_name s.base m) a b kept (apart m from few), omega arith)

-- The next name alone may have changed, and not if it was there.
spares_next : (s t : ScratchState) (a b : View) → s.made ≤ 10000 → t.made ≤ s.made + 1 → ChangesOnly (Just (next_name s)) Nothing a b
    → (IsSome (a.contents (next_name s)) → ChangesOnly Nothing Nothing a b × (t.made ≤ s.made)) → SparesOthers s t a b
spares_next s t a b few most kept untouched = λ m from low there. elim (cases_eq m s.made) [
  | inl same ↦
      let name : scratch_name s.base m ≡ next_name s = ap (scratch_name s.base) same in
      let still = untouched (subst (λ n. IsSome (a.contents n)) name there) in
      (spared_beside Nothing Nothing (scratch_name s.base m) a b still.0 (λ x. x), let fits = still.1 in omega arith)
  | inr other ↦ (spared_beside (Just (next_name s)) Nothing (scratch_name s.base m) a b kept (λ is. other (scratch_name-same s.base m s.made low (omega arith) is)), omega arith)
]

-- no name of a file that is left is that of a number to be made
pub left_below : (s : ScratchState) (file : ℕ) (v : View) → IsDisk v → IsLeft s file → StandsOn s v → (m : ℕ) → s.made ≤ m → m < 2 ^ 64 → NameOf file v (scratch_name s.base m) → ⊥
left_below s file v disk left stands m from few named =
    let (k, x, h, e, is) = left_name s file (scratch_name s.base m) v disk stands left named in
    let small = stands.below k x h in
    let same : m ≡ x.number = scratch_name-same s.base m x.number few (let most = stands.few in let at = ap (λ (y : ScratchFile). y.number) e in omega arith) is in
    let at = ap (λ (y : ScratchFile). y.number) e in
    omega arith

-- ---- pieces of work

-- nothing was done yet
pub work_none : (names : List ℕ → Type 0) (ids : ℕ → Type 0) (s : ScratchState) (v : View) → IsScratchWork names ids s s v v
work_none names ids s v = record {
  base = refl;
  more = omega arith;
  most = omega arith;
  kept = frame_none names ids v;
  stands = λ stands. stands;
  left = λ f left. inl left;
  spares = λ stands m from few there. (spared_none (scratch_name s.base m) v, from);
}

pub done_none : (names : List ℕ → Type 0) (ids : ℕ → Type 0) (s : ScratchState) (v : View) → IsScratchDone names ids s s v v
done_none names ids s v = record {
  kept = frame_none names ids v;
  absent = λ m from to. absurd (omega arith);
  gone = λ gone. gone;
}

-- Two pieces of work are one. A FileId that the first may change is one that was left, or is live after it.
pub work_then : (names first second : List ℕ → Type 0) (ids first_ids second_ids : ℕ → Type 0) (s t u : ScratchState) (a b c : View)
    → ((n : List ℕ) → first n → names n) → ((n : List ℕ) → second n → names n)
    → ((f : ℕ) → a.is_live f ≡ true → first_ids f → ids f) → ((f : ℕ) → a.is_live f ≡ true → second_ids f → ids f)
    → ((f : ℕ) → a.is_live f ≡ true → first_ids f → IsLeft s f ⊎ (b.is_live f ≡ true)) → u.made ≤ s.made + 40
    → IsScratchWork first first_ids s t a b → IsScratchWork second second_ids t u b c → IsScratchWork names ids s u a c
work_then names first second ids first_ids second_ids s t u a b c n1 n2 i1 i2 stay few p q = record {
  base = q.base ∙ p.base;
  more = let x = p.more in let y = q.more in omega arith;
  most = few;
  kept = frame_then names first second ids first_ids second_ids a b c n1 n2 i1 i2 p.kept q.kept;
  stands = λ stands. q.stands (p.stands stands);
  left = λ f left. elim (q.left f left) [ inl before ↦ p.left f before | inr dead ↦ was_dead f dead (cases_Bool (a.is_live f)) (cases_left s.left f) ];
  spares = λ stands m from small there.
      let one = p.spares stands m from small there in
      let there_then : IsSome (b.contents (scratch_name t.base m)) = subst (λ base. IsSome (b.contents (scratch_name base m))) (sym p.base) (spared_there (scratch_name s.base m) a b one.0 there) in
      let two = q.spares (p.stands stands) m one.1 small there_then in
      (spared_then first second first_ids second_ids (scratch_name s.base m) a b c p.kept q.kept one.0 (subst (λ base. IsSpared (scratch_name base m) b c) p.base two.0), two.1);
} where
  was_dead : (f : ℕ) → b.is_live f ≡ false → (a.is_live f ≡ true) ⊎ (a.is_live f ≡ false) → IsLeft s f ⊎ (IsLeft s f → ⊥) → IsLeft s f ⊎ (a.is_live f ≡ false)
  was_dead f dead (inr before) c = inr before
  was_dead f dead (inl live) (inl left) = inl left
  was_dead f dead (inl live) (inr not_left) = absurd (false≢true (sym dead ∙ p.kept.live f live (λ may. elim (stay f live may) [ inl left ↦ not_left left | inr lives ↦ false≢true (sym dead ∙ lives) ])))

-- The same of work that went well. The first piece changed no file of a name that the second made.
pub done_then : (names first second : List ℕ → Type 0) (ids first_ids second_ids : ℕ → Type 0) (s t u : ScratchState) (a b c : View)
    → ((n : List ℕ) → first n → names n) → ((n : List ℕ) → second n → names n)
    → ((f : ℕ) → a.is_live f ≡ true → first_ids f → ids f) → ((f : ℕ) → a.is_live f ≡ true → second_ids f → ids f)
    → t.base ≡ s.base → ((m : ℕ) → t.made ≤ m → m < u.made → first (scratch_name s.base m) → ⊥)
    → IsScratchDone first first_ids s t a b → IsScratchDone second second_ids t u b c → IsScratchDone names ids s u a c
done_then names first second ids first_ids second_ids s t u a b c n1 n2 i1 i2 base apart p q = record {
  kept = frame_then names first second ids first_ids second_ids a b c n1 n2 i1 i2 p.kept q.kept;
  absent = λ m from to. elim (cases_lt m t.made) [
    | inl before ↦ p.absent m from before
    | inr later ↦ sym (p.kept.contents (scratch_name s.base m) (apart m later to)) ∙ subst (λ x. b.contents (scratch_name x m) ≡ None) base (q.absent m later to)
  ];
  gone = λ gone. q.gone (p.gone gone);
}

-- Two pieces that changed files of their own numbers alone: every answer, up to the number that would be made next.
pub between_then : (s t u : ScratchState) (a b c : View) → u.made ≤ s.made + 40
    → IsScratchWork (IsNameBetween s.base s.made (t.made + 1)) Nothing s t a b → IsScratchWork (IsNameBetween t.base t.made (u.made + 1)) Nothing t u b c
    → IsScratchWork (IsNameBetween s.base s.made (u.made + 1)) Nothing s u a c
between_then s t u a b c few p q =
    work_then (IsNameBetween s.base s.made (u.made + 1)) (IsNameBetween s.base s.made (t.made + 1)) (IsNameBetween t.base t.made (u.made + 1)) Nothing Nothing Nothing s t u a b c
    (λ n x. between_wider s.base s.made (t.made + 1) s.made (u.made + 1) n (omega arith) (let y = q.more in omega arith) x)
    (λ n x. between_wider s.base t.made (u.made + 1) s.made (u.made + 1) n p.more (omega arith) (subst (λ base. IsNameBetween base t.made (u.made + 1) n) p.base x))
    (λ f l x. x) (λ f l x. x) (λ f l x. absurd x) few p q

-- and work that went well, up to the last number that was made
pub between_done : (s t u : ScratchState) (a b c : View) → t.base ≡ s.base → s.made ≤ t.made → t.made ≤ u.made → u.made ≤ 10000
    → IsScratchDone (IsNameBetween s.base s.made t.made) Nothing s t a b → IsScratchDone (IsNameBetween t.base t.made u.made) Nothing t u b c
    → IsScratchDone (IsNameBetween s.base s.made u.made) Nothing s u a c
between_done s t u a b c base first second few p q =
    done_then (IsNameBetween s.base s.made u.made) (IsNameBetween s.base s.made t.made) (IsNameBetween t.base t.made u.made) Nothing Nothing Nothing s t u a b c
    (λ n x. between_wider s.base s.made t.made s.made u.made n (omega arith) second x)
    (λ n x. between_wider s.base t.made u.made s.made u.made n first (omega arith) (subst (λ base. IsNameBetween base t.made u.made n) base x))
    (λ f l x. x) (λ f l x. x) base
    (λ m from to (k, low, high, is). let same : k ≡ m = same_number s.base u.made k m few (omega arith) to (sym is) in omega arith) p q

-- a name that `create` may have touched, among those of the work
pub next_between : (s : ScratchState) (name : List ℕ) → Just (next_name s) name → IsNameBetween s.base s.made (s.made + 1) name
next_between s name is = (s.made, omega arith, omega arith, is)

-- A refusal of `create` changes nothing where the next name was there.
pub refused_untouched : {X : Type 0} (r : Result X WorkFault) (s : ScratchState) (a b : View)
    → ((file : ℕ) → IsErrOf r (Exists file) → (file ≡ s.made) × WasThere (next_name s) a × IsUntouched a b) → (IsErrOf r DiskFailed → IsHalfCreated (next_name s) a b)
    → ((damage : ScratchDamage) → IsErrOf r (Scratch damage) → ⊥) → (IsErrOf r Memory → IsUntouched a b) → OnErr r (IsSome (a.contents (next_name s)) → ChangesOnly Nothing Nothing a b)
refused_untouched (Ok x) s a b exists failed no_damage memory = tt
refused_untouched (Err (Exists file)) s a b exists failed no_damage memory = λ there. (exists file refl).2.kept
refused_untouched (Err DiskFailed) s a b exists failed no_damage memory = λ there. (failed refl).there there
refused_untouched (Err (Scratch damage)) s a b exists failed no_damage memory = λ there. absurd (no_damage damage refl)
refused_untouched (Err Memory) s a b exists failed no_damage memory = λ there. (memory refl).kept

-- a refusal of `create` leaves the `Scratch`, and a file that was there
pub work_refused : (s : ScratchState) (a b : View) → ChangesOnly (Just (next_name s)) Nothing a b → (StandsOn s a → StandsOn s b) → (IsSome (a.contents (next_name s)) → ChangesOnly Nothing Nothing a b)
    → IsScratchWork (IsNameBetween s.base s.made (s.made + 1)) Nothing s s a b
work_refused s a b kept stands untouched = record {
  base = refl;
  more = omega arith;
  most = omega arith;
  kept = frame_wider (IsNameBetween s.base s.made (s.made + 1)) (Just (next_name s)) Nothing Nothing a b (next_between s) (λ f l x. x) kept;
  stands = stands;
  left = λ f left. inl left;
  spares = λ standing. spares_next s s a b standing.few (omega arith) kept (λ there. (untouched there, omega arith));
}

-- one of a list with one more
any_more : (P : ScratchFile → Type 0) (files : List ScratchFile) (last : ScratchFile) → Any P files → Any P (files ++ last ∷ [])
any_more P files last (k, x, h, e, p) = (k, x, let l = length_push files last in omega arith, get_or_append_left files (last ∷ []) x k h ∙ e, p)

any_last : (P : ScratchFile → Type 0) (files : List ScratchFile) (last : ScratchFile) → P last → Any P (files ++ last ∷ [])
any_last P files last p = (length files, last, let l = length_push files last in omega arith, get_or_push files last last (length files) refl, p)

any_cases : (P : ScratchFile → Type 0) (files : List ScratchFile) (last : ScratchFile) → Any P (files ++ last ∷ []) → Any P files ⊎ P last
any_cases P [] last (zero, x, h, e, p) = inr (subst P (sym e) p)
any_cases P [] last (suc k, x, h, e, p) = absurd (omega arith)
any_cases P (y ∷ ys) last (zero, x, h, e, p) = inl (0, x, omega arith, e, p)
any_cases P (y ∷ ys) last (suc k, x, h, e, p) = elim (any_cases P ys last (k, x, omega arith, e, p)) [
  | inl (j, z, hj, ej, pj) ↦ inl (suc j, z, omega arith, ej, pj)
  | inr q ↦ inr q
]

-- a file that was made
pub work_made : (s : ScratchState) (file : ℕ) (a b : View) → ChangesOnly (Just (next_name s)) Nothing a b → IsCreated (next_name s) file a b → (StandsOn s a → StandsOn (with_file s file) b)
    → IsScratchWork (IsNameBetween s.base s.made ((with_file s file).made + 1)) Nothing s (with_file s file) a b
work_made s file a b kept new stands = record {
  base = refl;
  more = omega arith;
  most = omega arith;
  kept = frame_wider (IsNameBetween s.base s.made (s.made + 1 + 1)) (Just (next_name s)) Nothing Nothing a b (λ n is. (s.made, omega arith, omega arith, is)) (λ f l x. x) kept;
  stands = stands;
  left = λ f left. elim (any_cases (λ kept. kept.file.0 ≡ f) s.left (record { number = s.made; file = record { 0 = file } }) left) [
    | inl before ↦ inl before
    | inr same ↦ inr (subst (λ x. a.is_live x ≡ false) same new.fresh)
  ];
  spares = λ standing. spares_next s (with_file s file) a b standing.few (omega arith) kept (λ there. absurd (none_there (a.contents (next_name s)) new.was_absent there));
}

pub done_made : (s : ScratchState) (file : ℕ) (a b : View) → s.made < 10000 → ChangesOnly (Just (next_name s)) Nothing a b → IsCreated (next_name s) file a b
    → IsScratchDone (IsNameBetween s.base s.made (with_file s file).made) Nothing s (with_file s file) a b
done_made s file a b few kept new = record {
  kept = frame_wider (IsNameBetween s.base s.made (s.made + 1)) (Just (next_name s)) Nothing Nothing a b (next_between s) (λ f l x. x) kept;
  absent = λ m from to. let same : m ≡ s.made = omega arith in subst (λ k. a.contents (scratch_name s.base k) ≡ None) (sym same) new.was_absent;
  gone = λ gone m h. elim (cases_eq m s.made) [
    | inl same ↦ inl (any_last (λ kept. kept.number ≡ m) s.left (record { number = s.made; file = record { 0 = file } }) (sym same))
    | inr other ↦ elim (gone m (omega arith)) [
      | inl left ↦ inl (any_more (λ kept. kept.number ≡ m) s.left (record { number = s.made; file = record { 0 = file } }) left)
      | inr none ↦ inr (kept.contents (scratch_name s.base m) (λ is. other (scratch_name-same s.base m s.made (omega arith) (omega arith) is)) ∙ none)
    ]
  ];
}

-- a wider frame
pub work_wider : (names first : List ℕ → Type 0) (ids first_ids : ℕ → Type 0) (s t : ScratchState) (a b : View) → ((n : List ℕ) → first n → names n) → ((f : ℕ) → a.is_live f ≡ true → first_ids f → ids f)
    → IsScratchWork first first_ids s t a b → IsScratchWork names ids s t a b
work_wider names first ids first_ids s t a b n1 i1 p = record {
  base = p.base;
  more = p.more;
  most = p.most;
  kept = frame_wider names first ids first_ids a b n1 i1 p.kept;
  stands = p.stands;
  left = p.left;
  spares = p.spares;
}

-- a call that leaves the `Scratch` and the life and name of each FileId, as a write or a read of any file but those of others
pub work_beside : (names : List ℕ → Type 0) (ids : ℕ → Type 0) (s : ScratchState) (a b : View) → ChangesOnly names ids a b → KeepsIds Nothing a b
    → (StandsOn s a → (m : ℕ) → s.made ≤ m → m < 2 ^ 64 → names (scratch_name s.base m) → ⊥) → IsScratchWork names ids s s a b
work_beside names ids s a b kept same apart = record {
  base = refl;
  more = omega arith;
  most = omega arith;
  kept = kept;
  stands = λ stands. Stand-kept s.base s.made s.left a b kept.tells same stands;
  left = λ f left. inl left;
  spares = λ stands. spares_beside names ids s s a b refl kept (apart stands);
}

-- a call that only read
pub work_read : (names : List ℕ → Type 0) (ids : ℕ → Type 0) (s : ScratchState) (a b : View) → ReadsOnly a b → IsScratchWork names ids s s a b
work_read names ids s a b only = work_wider names Nothing ids Nothing s s a b (λ n x. absurd x) (λ f l x. absurd x) (work_beside Nothing Nothing s a b only.kept only.ids (λ stands m from few x. x))

-- a write of a file that is left
pub work_written : (s : ScratchState) (file : ℕ) (a b : View) → IsDisk a → IsLeft s file → ChangesOnly (NameOf file a) (Just file) a b → KeepsIds Nothing a b → IsScratchWork (NameOf file a) (Just file) s s a b
work_written s file a b disk left kept same = work_beside (NameOf file a) (Just file) s a b kept same (λ stands. left_below s file a disk left stands)

-- The same where all went well. The names of the frame were there.
pub done_beside : (names : List ℕ → Type 0) (ids : ℕ → Type 0) (s : ScratchState) (a b : View) → ChangesOnly names ids a b → ((n : List ℕ) → names n → a.contents n ≡ None → ⊥)
    → IsScratchDone names ids s s a b
done_beside names ids s a b kept there = record {
  kept = kept;
  absent = λ m from to. absurd (omega arith);
  gone = λ gone m h. elim (gone m h) [
    | inl left ↦ inl left
    | inr none ↦ inr (kept.contents (scratch_name s.base m) (λ is. there (scratch_name s.base m) is none) ∙ none)
  ];
}

-- the name of a FileId is there
pub name_is_there : (file : ℕ) (n : List ℕ) (v : View) → IsDisk v → NameOf file v n → v.contents n ≡ None → ⊥
name_is_there file n v disk is none = let t = (disk.named file n is).there in none-some t.0 (sym none ∙ t.1)

any_later : (P : ScratchFile → Type 0) (x : ScratchFile) (xs : List ScratchFile) → Any P xs → Any P (x ∷ xs)
any_later P x xs (k, y, h, e, q) = (suc k, y, omega arith, e, q)

any_filter : (p : ScratchFile → Bool) (P : ScratchFile → Type 0) (files : List ScratchFile) → Any P (filter p files) → Any P files
any_filter p P [] any = any
any_filter p P (x ∷ xs) any = at (p x) (λ more. any_filter p P xs more) any where
  at : (b : Bool) → (Any P (filter p xs) → Any P xs) → Any P (cond b (x ∷ filter p xs) (filter p xs)) → Any P (x ∷ xs)
  at true more (zero, y, h, e, q) = (0, y, omega arith, e, q)
  at true more (suc k, y, h, e, q) = any_later P x xs (more (k, y, omega arith, e, q))
  at false more any = any_later P x xs (more any)

any_passes : (p : ScratchFile → Bool) (P : ScratchFile → Type 0) (files : List ScratchFile) → Any (λ x. P x × (p x ≡ true)) files → Any P (filter p files)
any_passes p P [] (k, x, h, e, q) = absurd (omega arith)
any_passes p P (y ∷ ys) (zero, x, h, e, q) =
    let passes : p y ≡ true = ap p e ∙ q.1 in
    subst (λ b. Any P (cond b (y ∷ filter p ys) (filter p ys))) (sym passes) (0, y, omega arith, refl, subst P (sym e) q.0)
any_passes p P (y ∷ ys) (suc k, x, h, e, q) = at (p y) (any_passes p P ys (k, x, omega arith, e, q)) where
  at : (b : Bool) → Any P (filter p ys) → Any P (cond b (y ∷ filter p ys) (filter p ys))
  at true any = any_later P y (filter p ys) any
  at false any = any

-- a file that was removed
pub work_removed : (s : ScratchState) (file : ℕ) (a b : View) → IsDisk a → IsLeft s file → ChangesOnly (NameOf file a) (Just file) a b → (StandsOn s a → StandsOn (without_file s file) b)
    → IsScratchWork (NameOf file a) (Just file) s (without_file s file) a b
work_removed s file a b disk among kept stands = record {
  base = refl;
  more = omega arith;
  most = omega arith;
  kept = kept;
  stands = stands;
  left = λ f left. inl (any_filter (λ kept. not (kept.file.0 == file)) (λ kept. kept.file.0 ≡ f) s.left left);
  spares = λ standing. spares_beside (NameOf file a) (Just file) s (without_file s file) a b refl kept (left_below s file a disk among standing);
}

pub done_removed : (s : ScratchState) (file : ℕ) (a b : View) → IsDisk b → StandsOn s a → ChangesOnly (NameOf file a) (Just file) a b → IsAsItWasOrGone file a b → IsGone file a b
    → IsScratchDone (NameOf file a) (Just file) s (without_file s file) a b
done_removed s file a b disk stands kept as_was is_gone = record {
  kept = kept;
  absent = λ m from to. absurd (omega arith);
  gone = λ gone m h. elim (gone m h) [ inl left ↦ after m left | inr none ↦ inr (still m none) ];
} where
  still : (m : ℕ) → a.contents (scratch_name s.base m) ≡ None → b.contents (scratch_name s.base m) ≡ None
  still m none = elim (same_or_gone file (Just file) a b kept as_was (scratch_name s.base m)) [ inl same ↦ same ∙ none | inr gone ↦ gone ]

  after : (m : ℕ) → Any (λ kept. kept.number ≡ m) s.left → Any (λ kept. kept.number ≡ m) (without_file s file).left ⊎ (b.contents (scratch_name s.base m) ≡ None)
  after m (k, x, h, e, is) = elim (cases_eq x.file.0 file) [
    | inr other ↦ inl (any_passes (λ kept. not (kept.file.0 == file)) (λ kept. kept.number ≡ m) s.left (k, x, h, e, (is, ap not (ne_eqb x.file.0 file other))))
    | inl same ↦ inr (elim (cases_Bool a.tells) [
      | inr silent ↦ disk.no_contents (scratch_name s.base m) (kept.tells ∙ silent)
      | inl told ↦ (is_gone (scratch_name s.base m) (subst (λ n. NameOf file a (scratch_name s.base n)) is (subst (λ f. NameOf f a (scratch_name s.base x.number)) same (subst (λ (y : ScratchFile). NameOf y.file.0 a (scratch_name s.base y.number)) e (stands.named told k x h))))).0
    ])
  ]

-- ---- what whole work means for others

-- a name is that of a number from `low` to below `high`, or not
pub cases_between : (base : List ℕ) (low high : ℕ) (name : List ℕ) → IsNameBetween base low high name ⊎ (IsNameBetween base low high name → ⊥)
cases_between base low zero name = inr (λ (m, from, to, is). omega arith)
cases_between base low (suc high) name = elim (cases_between base low high name) [
  | inl (m, from, to, is) ↦ inl (m, from, omega arith, is)
  | inr before ↦ elim (cases_name name (scratch_name base high)) [
    | inl same ↦ elim (cases_lt high low) [
      | inl less ↦ inr (λ (m, from, to, is). omega arith)
      | inr not_less ↦ inl (high, omega arith, omega arith, same)
    ]
    | inr other ↦ inr (λ (m, from, to, is). elim (cases_eq m high) [
      | inl last ↦ other (is ∙ ap (scratch_name base) last)
      | inr earlier ↦ before (m, from, omega arith, is)
    ])
  ]
]

-- Whatever the work answered, each name that was there is as it was.
pub work_spares : (s t : ScratchState) (a b : View) → StandsOn s a → IsScratchWork (IsNameBetween s.base s.made (t.made + 1)) Nothing s t a b → (name : List ℕ) → IsSome (a.contents name) → IsSpared name a b
work_spares s t a b stands work name there = elim (cases_between s.base s.made (t.made + 1) name) [
  | inl (m, from, to, is) ↦
      let few = stands.few in
      let most = work.most in
      subst (λ n. IsSpared n a b) (sym is) (work.spares stands m from (omega arith) (subst (λ n. IsSome (a.contents n)) is there)).0
  | inr outside ↦ spared_beside (IsNameBetween s.base s.made (t.made + 1)) Nothing name a b work.kept outside
]

-- and no name of a number that was made was there
pub work_absent : (names : List ℕ → Type 0) (ids : ℕ → Type 0) (s t : ScratchState) (a b : View) → StandsOn s a → IsScratchWork names ids s t a b
    → (m : ℕ) → s.made ≤ m → m < t.made → a.contents (scratch_name s.base m) ≡ None
work_absent names ids s t a b stands work m from to = at (a.contents (scratch_name s.base m)) refl where
  at : (o : Option (List ℕ)) → a.contents (scratch_name s.base m) ≡ o → o ≡ None
  at None is = refl
  at (Some bytes) is =
      let few = stands.few in
      let most = work.most in
      let beyond = (work.spares stands m from (omega arith) (subst (λ (o : Option (List ℕ)). IsSome o) (sym is) refl)).1 in
      absurd (omega arith)

-- ---- an exit behind pieces of work

pub worked_none : (ids : ℕ → Type 0) (s : ScratchState) (v : View) → HasWorked 0 s.made ids s s v v
worked_none ids s v = record { work = work_none (IsNameBetween s.base s.made (s.made + 1)) ids s v; done = done_none (IsNameBetween s.base s.made s.made) ids s v; made = omega arith; quiet = refl }

-- A name of a number that was not made yet, which was there behind work that went well, was there before it.
pub there_before : (low : ℕ) (ids : ℕ → Type 0) (s t : ScratchState) (m : ℕ) (a b : View) → m < 2 ^ 64 → t.made ≤ m → t.base ≡ s.base → IsScratchDone (IsNameBetween s.base low t.made) ids s t a b
    → WasThere (scratch_name t.base m) b → WasThere (scratch_name s.base m) a
there_before low ids s t m a b small later base done there told =
    let same : b.contents (scratch_name s.base m) ≡ a.contents (scratch_name s.base m) =
    done.kept.contents (scratch_name s.base m) (λ (i, from, high, is). let e : m ≡ i = scratch_name-same s.base m i small (omega arith) is in omega arith) in
    subst (λ (o : Option (List ℕ)). IsSome o) same (subst (λ base. WasThere (scratch_name base m) b) base there (done.kept.tells ∙ told))

-- Two pieces, of which the second may have changed FileIds that the first made.
module _ (c d low next : ℕ) (ids next_ids : ℕ → Type 0) (s t u : ScratchState) (a b e : View) (above : low ≤ next) (few : c + d ≤ 40) (room : s.made + (c + d) ≤ 10000)
    (new : (f : ℕ) → a.is_live f ≡ true → next_ids f → ids f) (stay : (f : ℕ) → a.is_live f ≡ true → ids f → IsLeft s f ⊎ (b.is_live f ≡ true)) (p : HasWorked c low ids s t a b) where
  behind_work : u.made ≤ t.made + d → IsScratchWork (IsNameBetween t.base next (u.made + 1)) next_ids t u b e → IsScratchWork (IsNameBetween s.base low (u.made + 1)) ids s u a e
  behind_work most q =
      let made = p.made in
      let more = q.more in
      work_then (IsNameBetween s.base low (u.made + 1)) (IsNameBetween s.base low (t.made + 1)) (IsNameBetween t.base next (u.made + 1)) ids ids next_ids s t u a b e
      (λ n x. between_wider s.base low (t.made + 1) low (u.made + 1) n (omega arith) (omega arith) x)
      (λ n x. between_wider s.base next (u.made + 1) low (u.made + 1) n above (omega arith) (subst (λ base. IsNameBetween base next (u.made + 1) n) p.work.base x))
      (λ f l x. x) new stay (omega arith) p.work q

  pub worked_behind : HasWorked d next next_ids t u b e → HasWorked (c + d) low ids s u a e
  worked_behind q =
      let first = p.made in
      let second = q.made in
      record {
        work = behind_work (omega arith) q.work;
        done = done_then (IsNameBetween s.base low u.made) (IsNameBetween s.base low t.made) (IsNameBetween t.base next u.made) ids ids next_ids s t u a b e
            (λ n x. between_wider s.base low t.made low u.made n (omega arith) (omega arith) x)
            (λ n x. between_wider s.base next u.made low u.made n above (omega arith) (subst (λ base. IsNameBetween base next u.made n) p.work.base x))
            (λ f l x. x) new p.work.base
            (λ m from to (i, from_low, high, same). let is : i ≡ m = scratch_name-same s.base i m (omega arith) (omega arith) (sym same) in omega arith) p.done q.done;
        made = omega arith;
        quiet = q.quiet ∙ p.quiet;
      }

  pub ended_behind : {X E : Type 0} (of_work : WorkFault → E) (r : Result X E) → HasEnded of_work d next next_ids r t u b e → HasEnded of_work (c + d) low ids r s u a e
  ended_behind of_work r q =
      let made = p.made in
      let most = q.few in
      let more = q.work.more in
      record {
        work = behind_work most q.work;
        few = omega arith;
        exists = λ file is. let was = q.exists file is in let last = was.0 in (last, there_before low ids s t file a b (omega arith) (omega arith) p.work.base p.done was.1);
        failed = λ is. Rose-since a.faults b.faults e.faults p.done.kept.faults (q.failed is);
        quiet = faults_then (of_work DiskFailed) r a b e p.quiet q.quiet;
      }

-- Pieces that changed files of their own numbers alone.
module _ (c d : ℕ) (s t u : ScratchState) (a b e : View) (few : c + d ≤ 40) (room : s.made + (c + d) ≤ 10000) (p : HasWorked c s.made Nothing s t a b) where
  later : s.made ≤ t.made
  later = p.work.more

  pub worked_then : HasWorked d t.made Nothing t u b e → HasWorked (c + d) s.made Nothing s u a e
  worked_then = worked_behind c d s.made t.made Nothing Nothing s t u a b e later few room (λ f l x. x) (λ f l x. absurd x) p

  pub ended_then : {X E : Type 0} (of_work : WorkFault → E) (r : Result X E) → HasEnded of_work d t.made Nothing r t u b e → HasEnded of_work (c + d) s.made Nothing r s u a e
  ended_then = ended_behind c d s.made t.made Nothing Nothing s t u a b e later few room (λ f l x. x) (λ f l x. absurd x) p

not_an_error : {X E : Type 0} (x : X) (e : E) → IsErrOf {T = X} (Ok x) e → ⊥
not_an_error x e is = false≢true (let turned : false ≡ true = cc in turned)

-- the end of work that went well
pub ended_well : {X E : Type 0} (of_work : WorkFault → E) (c low : ℕ) (ids : ℕ → Type 0) (x : X) (s t : ScratchState) (a b : View) → HasWorked c low ids s t a b → HasEnded of_work c low ids (Ok x) s t a b
ended_well of_work c low ids x s t a b p = record {
  work = p.work;
  few = let made = p.made in omega arith;
  exists = λ file is. absurd (not_an_error x (of_work (Exists file)) is);
  failed = λ is. absurd (not_an_error x (of_work DiskFailed) is);
  quiet = p.quiet;
}

same_error : {X Y E : Type 0} (e f : E) → IsErrOf {T = X} (Err e) f → IsErrOf {T = Y} (Err e) f
same_error {X} {Y} e f is = let same : e ≡ f = cc in ap (λ x. Err x) same

-- the same error at another type, with more files allowed
pub ended_turned : {X Y E : Type 0} (of_work : WorkFault → E) (c most low : ℕ) (ids : ℕ → Type 0) (fault : E) (s t : ScratchState) (a b : View) → c ≤ most
    → HasEnded {X = X} of_work c low ids (Err fault) s t a b → HasEnded {X = Y} of_work most low ids (Err fault) s t a b
ended_turned {X} {Y} of_work c most low ids fault s t a b within h = record {
  work = h.work;
  few = let few = h.few in omega arith;
  exists = λ file is. h.exists file (same_error {X = Y} {Y = X} fault (of_work (Exists file)) is);
  failed = λ is. h.failed (same_error {X = Y} {Y = X} fault (of_work DiskFailed) is);
  quiet = h.quiet;
}
