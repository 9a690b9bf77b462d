-- The files of a `Scratch`: their names differ, and they stay on the disk while other files change.
use Rattle.std.proofs.Common.{ℕ, ◌+◌, ◌≤◌, ◌<◌, ◌≡◌, ◌≢◌, ◌⊎◌, ◌==◌, ◌^◌, not, Bool, true, false, cond, ◌&&◌, zero, suc, List, [], ◌∷◌, ◌++◌, length, get_or, length-append, Option, Some, None, refl, sym, ap, ◌∙◌, subst, inl, inr, arith, All, Any, filter}
use Rattle.std.specs.Prelude.{Result, Ok, Err, is_ok, OnOk, OnErr}
use Rattle.std.specs.Fmt.{decimal}
use Rattle.std.proofs.lemmas.Fmt.{decimal_injective}
use Rattle.std.proofs.lemmas.Bool.{cases_Bool, cases_eq, cases_order, false≢true, both_ways, not-true, eq-eqb, and_parts, and_cases}
use Rattle.std.proofs.lemmas.List.{append_cancel_left, get_or_append_left, get_or_at, get_or_default, length_push}
use Rattle.std.proofs.lemmas.List.Elements.{All-nil, All-push, All-head, All-tail, All-filter, filter_passes, All-cons}
use Rattle.std.proofs.lemmas.Option.{none-some, same_Some}
use Rattle.std.proofs.lemmas.Slice.Eq.{bytes_eq-Decides}
use Rattle.std.specs.Str.{bytes_eq}
use Rattle.pos_edge.specs.declared.scratch.ScratchFile.{ScratchFile}
use Rattle.pos_edge.specs.Faults.{Rose}
use Rattle.pos_edge.specs.View.{View, IsDisk}
use Rattle.pos_edge.specs.Frame.{ChangesOnly, SameFaults, KeepsIds, Nothing, Just, NameOf}
use Rattle.pos_edge.specs.Calls.{IsCreated, Ends, IsGone, IsAsItWasOrGone}
use Rattle.pos_edge.specs.ScratchNames.{scratch_name, IsNameIn, IsMadeBefore, AllApart, Stand, SameOrGone}
use Rattle.pos_edge.proofs.Frames.{frame_none, frame_then}
use Rattle.pos_edge.proofs.FaultLemmas.{Rose-since, Rose-until}

-- two names are equal or not
pub cases_name : (m n : List ℕ) → (m ≡ n) ⊎ (m ≡ n → ⊥)
cases_name m n = elim (cases_Bool (bytes_eq m n)) [
  | inl same ↦ inl ((bytes_eq-Decides m n).0 same)
  | inr other ↦ inr (λ e. false≢true (sym other ∙ (bytes_eq-Decides m n).1 e))
]

cons_tail : (x : ℕ) (xs ys : List ℕ) → x ∷ xs ≡ x ∷ ys → xs ≡ ys
cons_tail x xs ys e = cc

-- two numbers with one name are one
pub scratch_name-same : (base : List ℕ) (m n : ℕ) → m < 2 ^ 64 → n < 2 ^ 64 → scratch_name base m ≡ scratch_name base n → m ≡ n
scratch_name-same base m n hm hn e =
    decimal_injective m n hm hn (cons_tail 46 (decimal m) (decimal n) (append_cancel_left base (46 ∷ decimal m) (46 ∷ decimal n) e))

-- all of two lists joined is all of the first, and of the last
pub All-front : {X : Type 0} (P : X → Type 0) (xs ys : List X) → All P (xs ++ ys) → All P xs
All-front P xs ys all k d h = subst P (get_or_append_left xs ys d k h) (all k d (simp length-append (omega arith)))

pub All-last : {X : Type 0} (P : X → Type 0) (xs : List X) (y : X) → All P (xs ++ y ∷ []) → P y
All-last P xs y all = subst P (get_or_at xs y [] y (length xs) refl) (all (length xs) y (simp length_push (omega arith)))

pub apart_at : (xs : List ScratchFile) → AllApart xs → (i j : ℕ) (d : ScratchFile) → i < j → j < length xs → IsMadeBefore (get_or xs i d) (get_or xs j d)
apart_at [] a i j d lt b = absurd (omega arith)
apart_at (x ∷ xs) a zero zero d lt b = absurd (omega arith)
apart_at (x ∷ xs) a zero (suc j) d lt b = a.0 j d (omega arith)
apart_at (x ∷ xs) a (suc i) zero d lt b = absurd (omega arith)
apart_at (x ∷ xs) a (suc i) (suc j) d lt b = apart_at xs a.1 i j d (omega arith) (omega arith)

AllApart-filter : (p : ScratchFile → Bool) (xs : List ScratchFile) → AllApart xs → AllApart (filter p xs)
AllApart-filter p [] a = tt
AllApart-filter p (x ∷ xs) a = elim (p x) as (λ b. AllApart (cond b (x ∷ filter p xs) (filter p xs))) [
  | true ↦ (All-filter p (IsMadeBefore x) xs a.0, AllApart-filter p xs a.1)
  | false ↦ AllApart-filter p xs a.1
]

AllApart-push : (xs : List ScratchFile) (y : ScratchFile) → AllApart xs → All (λ x. IsMadeBefore x y) xs → AllApart (xs ++ y ∷ [])
AllApart-push [] y a b = (All-nil (IsMadeBefore y), tt)
AllApart-push (x ∷ xs) y a b = (All-push (IsMadeBefore x) xs y a.0 (All-head (λ z. IsMadeBefore z y) x xs b), AllApart-push xs y a.1 (All-tail (λ z. IsMadeBefore z y) x xs b))

AllApart-front : (xs ys : List ScratchFile) → AllApart (xs ++ ys) → AllApart xs
AllApart-front [] ys a = tt
AllApart-front (x ∷ xs) ys a = (All-front (IsMadeBefore x) xs ys a.0, AllApart-front xs ys a.1)

AllApart-last : (xs : List ScratchFile) (y : ScratchFile) → AllApart (xs ++ y ∷ []) → All (λ x. IsMadeBefore x y) xs
AllApart-last [] y a = All-nil (λ x. IsMadeBefore x y)
AllApart-last (x ∷ xs) y a = All-cons (λ z. IsMadeBefore z y) x xs (All-last (IsMadeBefore x) xs y a.0) (AllApart-last xs y a.1)

-- the names of the files in the list are those of their numbers, whether the disk tells or not
pub named_by : (base : List ℕ) (made : ℕ) (left : List ScratchFile) (v : View) → IsDisk v → Stand base made left v
    → All (λ kept. (n : List ℕ) → NameOf kept.file.0 v n → n ≡ scratch_name base kept.number) left
named_by base made left v disk s = elim (cases_Bool v.tells) [
  | inl told ↦ λ k d h n is. same_Some n _ (sym is ∙ s.named told k d h)
  | inr silent ↦ λ k d h n is.
      let t = (disk.named _ n is).there in
      absurd (none-some t.0 (sym (disk.no_contents n silent) ∙ t.1))
]

-- a call that keeps each FileId keeps where the files stand
pub Stand-kept : (base : List ℕ) (made : ℕ) (left : List ScratchFile) (a b : View) → b.tells ≡ a.tells → KeepsIds Nothing a b → Stand base made left a → Stand base made left b
Stand-kept base made left a b tells ids s = record {
  few = s.few;
  below = s.below;
  apart = s.apart;
  live = λ k d h. ids.live _ (λ x. x) ∙ s.live k d h;
  named = λ told k d h. ids.name _ (λ x. x) ∙ s.named (sym tells ∙ told) k d h;
}

-- the file that is made next stands beside those that are left
pub Stand-create : (base : List ℕ) (made : ℕ) (left : List ScratchFile) (file : ScratchFile) (a b : View) → made < 10000
    → file.number ≡ made → b.tells ≡ a.tells → IsCreated (scratch_name base made) file.file.0 a b → Stand base made left a → Stand base (made + 1) (left ++ file ∷ []) b
Stand-create base made left file a b few number tells new s = record {
  few = omega arith;
  below = All-push (λ kept. kept.number < made + 1) left file (λ k d h. let x = s.below k d h in omega arith) (omega arith);
  apart = AllApart-push left file s.apart (λ k d h. record { earlier = subst (λ n. (get_or left k d).number < n) (sym number) (s.below k d h); ids = other k d h });
  live = All-push (λ kept. b.is_live kept.file.0 ≡ true) left file (λ k d h. new.others.live _ (other k d h) ∙ s.live k d h) new.live;
  named = λ told. All-push (λ kept. NameOf kept.file.0 b (scratch_name base kept.number)) left file
      (λ k d h. new.others.name _ (other k d h) ∙ s.named (sym tells ∙ told) k d h)
      (subst (λ n. NameOf file.file.0 b (scratch_name base n)) (sym number) (new.named told));
} where
  other : (k : ℕ) (d : ScratchFile) → k < length left → (get_or left k d).file.0 ≡ file.file.0 → ⊥
  other k d h e = false≢true (sym new.fresh ∙ (ap a.is_live (sym e) ∙ s.live k d h))

-- two numbers below the number of files made, of one name, are one
pub same_number : (base : List ℕ) (made m n : ℕ) → made ≤ 10000 → m < made → n < made → scratch_name base m ≡ scratch_name base n → m ≡ n
same_number base made m n few hm hn e = scratch_name-same base m n (omega arith) (omega arith) e

-- files that are not the removed one, nor of its number, still stand
stands_after : (base : List ℕ) (made number file : ℕ) (left : List ScratchFile) (a b : View) → IsDisk a → number < made
    → b.tells ≡ a.tells → ((n : List ℕ) → NameOf file a n → n ≡ scratch_name base number) → Ends file a b
    → All (λ kept. (kept.file.0 ≢ file) × (kept.number ≢ number)) left → Stand base made left a → Stand base made left b
stands_after base made number file left a b disk small tells of_file ends others s = record {
  few = s.few;
  below = s.below;
  apart = s.apart;
  live = λ k d h. ends.others _ (others k d h).0 ∙ s.live k d h;
  named = λ told k d h.
      ends.names _ (others k d h).0
      (λ n is gone. (others k d h).1 (same_number base made _ number s.few (s.below k d h) small (sym (named_by base made left a disk s k d h n is) ∙ of_file n gone)))
      ∙ s.named (sym tells ∙ told) k d h;
}

Stand-filter : (p : ScratchFile → Bool) (base : List ℕ) (made : ℕ) (left : List ScratchFile) (v : View) → Stand base made left v → Stand base made (filter p left) v
Stand-filter p base made left v s = record {
  few = s.few;
  below = All-filter p (λ kept. kept.number < made) left s.below;
  apart = AllApart-filter p left s.apart;
  live = All-filter p (λ kept. v.is_live kept.file.0 ≡ true) left s.live;
  named = λ told. All-filter p (λ kept. NameOf kept.file.0 v (scratch_name base kept.number)) left (s.named told);
}

-- a file of the list with another FileId has another number
other_number : (left : List ScratchFile) (file k₀ : ℕ) (x : ScratchFile) → AllApart left → k₀ < length left → get_or left k₀ x ≡ x → x.file.0 ≡ file
    → All (λ kept. kept.file.0 ≢ file → kept.number ≢ x.number) left
other_number left file k₀ x apart in₀ at₀ is = λ k d h other e. elim (cases_order k k₀) [
  | inl same ↦ other (ap (λ (y : ScratchFile). y.file.0) (ap (λ i. get_or left i d) same ∙ (get_or_default left k₀ d x in₀ ∙ at₀)) ∙ is)
  | inr (inl less) ↦
      let a = apart_at left apart k k₀ d less in₀ in
      let f = ap (λ (y : ScratchFile). y.number) (get_or_default left k₀ d x in₀ ∙ at₀) in
      let g = a.earlier in
      omega arith
  | inr (inr more) ↦
      let a = apart_at left apart k₀ k d more h in
      let f = ap (λ (y : ScratchFile). y.number) (get_or_default left k₀ d x in₀ ∙ at₀) in
      let g = a.earlier in
      omega arith
]

-- the FileId is one of this list's
abbrev pub IsIn : List ScratchFile → ℕ → Type 0
IsIn files file = Any (λ kept. kept.file.0 ≡ file) files

-- without a file that was removed, those that are left stand
pub Stand-remove : (base : List ℕ) (made file : ℕ) (left : List ScratchFile) (a b : View) → IsDisk a → IsIn left file → b.tells ≡ a.tells
    → Ends file a b → Stand base made left a → Stand base made (filter (λ kept. not (kept.file.0 == file)) left) b
Stand-remove base made file left a b disk among tells ends s =
    let p : ScratchFile → Bool = λ kept. not (kept.file.0 == file) in
    let x : ScratchFile = among.1 in
    let small : x.number < made = subst (λ (y : ScratchFile). y.number < made) among.3 (s.below among.0 x among.2) in
    let names : (n : List ℕ) → NameOf file a n → n ≡ scratch_name base x.number = λ n is.
    ap (λ y. y) (named_by base made left a disk s among.0 x among.2 n (subst (λ f. NameOf f a n) (sym (ap (λ (y : ScratchFile). y.file.0) among.3 ∙ among.4)) is)) ∙ ap (λ (y : ScratchFile). scratch_name base y.number) among.3 in
    let differ = All-filter p (λ kept. kept.file.0 ≢ file → kept.number ≢ x.number) left (other_number left file among.0 x s.apart among.2 among.3 among.4) in
    let others : All (λ kept. (kept.file.0 ≢ file) × (kept.number ≢ x.number)) (filter p left) = λ k d h.
    let ne : (get_or (filter p left) k d).file.0 ≢ file = λ e. both_ways _ (not-true _ (filter_passes p left k d h)) (eq-eqb _ _ e) in
    (ne, differ k d h ne) in
    stands_after base made x.number file (filter p left) a b disk small tells names ends others (Stand-filter p base made left a s)

-- the files but the last one stand after its removal
pub Stand-pop : (base : List ℕ) (made : ℕ) (left : List ScratchFile) (file : ScratchFile) (a b : View) → IsDisk a → b.tells ≡ a.tells
    → Ends file.file.0 a b → Stand base made (left ++ file ∷ []) a → Stand base made left b
Stand-pop base made left file a b disk tells ends s =
    let front : Stand base made left a = record {
      few = s.few;
      below = All-front (λ kept. kept.number < made) left (file ∷ []) s.below;
      apart = AllApart-front left (file ∷ []) s.apart;
      live = All-front (λ kept. a.is_live kept.file.0 ≡ true) left (file ∷ []) s.live;
      named = λ told. All-front (λ kept. NameOf kept.file.0 a (scratch_name base kept.number)) left (file ∷ []) (s.named told);
    } in
    let apart = AllApart-last left file s.apart in
    stands_after base made file.number file.file.0 left a b disk (All-last (λ kept. kept.number < made) left file s.below) tells
    (All-last (λ kept. (n : List ℕ) → NameOf kept.file.0 a n → n ≡ scratch_name base kept.number) left file (named_by base made (left ++ file ∷ []) a disk s))
    ends (λ k d h. ((apart k d h).ids, λ e. let x = (apart k d h).earlier in omega arith)) front

-- a removal leaves each name as it was, or gone
pub same_or_gone : (file : ℕ) (ids : ℕ → Type 0) (a b : View) → ChangesOnly (NameOf file a) ids a b → IsAsItWasOrGone file a b → SameOrGone a b
same_or_gone file ids a b kept left n = at (a.name_of file) refl where
  at : (o : Option (List ℕ)) → a.name_of file ≡ o → (b.contents n ≡ a.contents n) ⊎ (b.contents n ≡ None)
  at None e = inl (kept.contents n (λ is. none-some n (sym e ∙ is)))
  at (Some m) e = elim (cases_name m n) [
    | inl same ↦ elim (left n (e ∙ ap (λ x. Some x) same)) [ inl was ↦ inl was.0 | inr gone ↦ inr gone.0 ]
    | inr other ↦ inl (kept.contents n (λ is. other (same_Some m n (sym e ∙ is))))
  ]

same_or_gone_then : (a b c : View) → SameOrGone a b → SameOrGone b c → SameOrGone a c
same_or_gone_then a b c p q n = elim (q n) [
  | inl same ↦ elim (p n) [ inl was ↦ inl (same ∙ was) | inr gone ↦ inr (same ∙ gone) ]
  | inr gone ↦ inr gone
]

-- What removing these files did: none of them is live, each other FileId stays, other names are as they were,
-- and the files are gone if all went well.
pub record HasCleared (base : List ℕ) (files : List ScratchFile) (all : Bool) (old new : View) : Type 0 where
  pub kept : ChangesOnly (IsNameIn base files) (IsIn files) old new
  pub quiet : all ≡ true → SameFaults old new
  pub reads : new.reads ≡ old.reads
  pub ended : (file : ℕ) → IsIn files file → new.is_live file ≡ true → ⊥
  pub others : (file : ℕ) → (IsIn files file → ⊥) → new.is_live file ≡ old.is_live file
  pub gone : all ≡ true → All (λ kept. new.contents (scratch_name base kept.number) ≡ None) files
  pub rose : all ≡ false → Rose old.faults new.faults
  pub was_or_gone : SameOrGone old new

pub cleared_none : (base : List ℕ) (v : View) → HasCleared base [] true v v
cleared_none base v = record {
  kept = frame_none (IsNameIn base []) (IsIn []) v;
  quiet = λ t. refl;
  reads = refl;
  ended = λ f among l. omega (arith, among.2);
  others = λ f k. refl;
  gone = λ t. All-nil (λ kept. v.contents (scratch_name base kept.number) ≡ None);
  rose = λ e. absurd (false≢true (sym e));
  was_or_gone = λ n. inl refl;
}

in_tail : (x : ScratchFile) (xs : List ScratchFile) (f : ℕ) → IsIn xs f → IsIn (x ∷ xs) f
in_tail x xs f (k, y, h, e, p) = (suc k, y, omega arith, e, p)

in_head : (x : ScratchFile) (xs : List ScratchFile) → IsIn (x ∷ xs) x.file.0
in_head x xs = (0, x, omega arith, refl, refl)

in_cases : (x : ScratchFile) (xs : List ScratchFile) (f : ℕ) → IsIn (x ∷ xs) f → (x.file.0 ≡ f) ⊎ IsIn xs f
in_cases x xs f (zero, y, h, e, p) = inl (ap (λ (z : ScratchFile). z.file.0) e ∙ p)
in_cases x xs f (suc k, y, h, e, p) = inr (k, y, omega arith, e, p)

-- one file more
pub cleared_more : (base : List ℕ) (made : ℕ) (left rest : List ScratchFile) (file : ScratchFile) (all removed : Bool) (a b c : View)
    → IsDisk b → IsDisk c → Stand base made (left ++ file ∷ []) b → HasCleared base rest all a b
    → ChangesOnly (NameOf file.file.0 b) (Just file.file.0) b c → c.reads ≡ b.reads → Ends file.file.0 b c
    → (removed ≡ true → IsGone file.file.0 b c) → (removed ≡ true → SameFaults b c) → (removed ≡ false → Rose b.faults c.faults) → IsAsItWasOrGone file.file.0 b c
    → HasCleared base (file ∷ rest) (all && removed) a c
cleared_more base made left rest file all removed a b c disk_b disk_c s was kept reads ends gone quiet rose left_as = record {
  quiet = λ t. let both = and_parts all removed t in quiet both.1 ∙ was.quiet both.0;
  kept = frame_then (IsNameIn base (file ∷ rest)) (IsNameIn base rest) (NameOf file.file.0 b) (IsIn (file ∷ rest)) (IsIn rest) (Just file.file.0) a b c
      (λ n x. (suc x.0, x.1, omega (arith, x.2), x.3, x.4)) (λ n is. (0, file, omega arith, refl, name n is)) (λ f l x. in_tail file rest f x) (λ f l x. subst (IsIn (file ∷ rest)) (sym x) (in_head file rest)) was.kept kept;
  reads = reads ∙ was.reads;
  ended = λ f among l. elim (cases_eq f file.file.0) [
    | inl same ↦ false≢true (sym ends.ended ∙ (ap c.is_live (sym same) ∙ l))
    | inr other ↦ elim (in_cases file rest f among) [
      | inl same ↦ other (sym same)
      | inr more ↦ was.ended f more (sym (ends.others f other) ∙ l)
    ]
  ];
  others = λ f k. ends.others f (λ e. k (subst (IsIn (file ∷ rest)) (sym e) (in_head file rest))) ∙ was.others f (λ x. k (in_tail file rest f x));
  gone = λ t. let both = and_parts all removed t in
      All-cons (λ kept. c.contents (scratch_name base kept.number) ≡ None) file rest (file_gone both.1)
      (λ k d h. elim (step (scratch_name base (get_or rest k d).number)) [ inl same ↦ same ∙ was.gone both.0 k d h | inr none ↦ none ]);
  rose = λ t. elim (and_cases all removed t) [
    | inl first ↦ Rose-until a.faults b.faults c.faults (was.rose first) kept.faults
    | inr second ↦ Rose-since a.faults b.faults c.faults was.kept.faults (rose second)
  ];
  was_or_gone = same_or_gone_then a b c was.was_or_gone step;
} where
  name : (n : List ℕ) → NameOf file.file.0 b n → n ≡ scratch_name base file.number
  name = All-last (λ kept. (n : List ℕ) → NameOf kept.file.0 b n → n ≡ scratch_name base kept.number) left file (named_by base made (left ++ file ∷ []) b disk_b s)

  step : SameOrGone b c
  step = same_or_gone file.file.0 (Just file.file.0) b c kept left_as

  file_gone : removed ≡ true → c.contents (scratch_name base file.number) ≡ None
  file_gone t = elim (cases_Bool b.tells) [
    | inl told ↦ (gone t (scratch_name base file.number) (All-last (λ kept. NameOf kept.file.0 b (scratch_name base kept.number)) left file (s.named told))).0
    | inr silent ↦ disk_c.no_contents (scratch_name base file.number) (kept.tells ∙ silent)
  ]

pub at_is_ok : {T E : Type 0} (P : Type 0) (r : Result T E) (b : Bool) → b ≡ is_ok r → OnOk r P → b ≡ true → P
at_is_ok P (Ok x) b e p t = p
at_is_ok P (Err x) b e p t = absurd (false≢true (sym e ∙ t))

pub at_is_err : {T E : Type 0} (P : Type 0) (r : Result T E) (b : Bool) → b ≡ is_ok r → OnErr r P → b ≡ false → P
at_is_err P (Ok x) b e p t = absurd (false≢true (sym t ∙ e))
at_is_err P (Err x) b e p t = p
