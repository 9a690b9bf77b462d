-- Files in memory stay what their history says, through each act.
use Rattle.std.proofs.Common.{ℕ, ◌+◌, ◌≤◌, ◌<◌, ◌≡◌, ◌≢◌, zero, suc, Bool, true, false, cond, ◌&&◌, List, [], ◌∷◌, ◌++◌, length, get_or, set, map, fold, All, Option, Some, None, string_bytes, count_by, refl, sym, ap, ◌∙◌, subst, inl, inr, arith}
use Rattle.std.specs.Prelude.{slice_get, option_map}
use Rattle.std.specs.declared.string.String.{String}
use Rattle.std.specs.declared.alloc.Global.{Global}
use Rattle.std.proofs.lemmas.Bool.{cases_eq, false≢true, true≢false}
use Rattle.std.proofs.lemmas.List.{length-set, length-map, length_push, map-append, get_or_append_left, get_or-set_same, get_or-set_other, get_or_push}
use Rattle.std.proofs.lemmas.List.Sums.{sum_by_push, sum_by-set}
use Rattle.std.proofs.lemmas.List.Elements.{All-head, All-tail, All-push, All-weaker}
use Rattle.std.proofs.lemmas.Option.{none-some, same_Some}
use Rattle.pos_edge.specs.declared.doubles.history.Entry.{Entry}
use Rattle.pos_edge.specs.declared.doubles.history.Handle.{Handle}
use Rattle.pos_edge.specs.declared.doubles.history.MemoryFile.{MemoryFile}
use Rattle.pos_edge.specs.Images.{written}
use Rattle.pos_edge.specs.Log.{Act, Making, Writing, Syncing, Removing, Event, File, NameState, state_of, bytes_of, with_write, as_synced, acted, happened, never, is_clean, is_none_left}
use Rattle.pos_edge.specs.MemoryDisks.{OpenFile, IsSoundHandle, HistoryState}
use Rattle.pos_edge.specs.Histories.{Cache, cache_of, no_file, act_of, event_of, open_of, IsCachedFile, IsCached, Backs, is_dirty, HoldsTogether, made_file, written_file, synced_file, gone_file, KeepsOrAdds}
use Rattle.pos_edge.proofs.Events.{happened-other, happened-own, state_of-beside, state_of-own}
use Rattle.pos_edge.proofs.ScratchFiles.{cases_name}
use Rattle.pos_edge.proofs.MemoryFrames.{bytes_of-with_write}

-- an element of a mapped list, by what was read
pub map_read : {A B : Type 0} (f : A → B) (xs : List A) (i : ℕ) (x : A) (d : B) → i < length xs → x ≡ get_or xs i x → get_or (map f xs) i d ≡ f x
map_read f [] i x d h e = absurd (omega arith)
map_read f (y ∷ xs) zero x d h e = ap f (sym e)
map_read f (y ∷ xs) (suc i) x d h e = map_read f xs i x d (omega arith) e

pub map_get : {A B : Type 0} (f : A → B) (xs : List A) (i : ℕ) (x : A) (y : B) → slice_get (map f xs) i ≡ Some y → x ≡ get_or xs i x → (i < length xs) × (y ≡ f x)
map_get f [] i x y e r = absurd (none-some y e)
map_get f (z ∷ xs) zero x y e r = (omega arith, sym (same_Some (f z) y e) ∙ ap f (sym r))
map_get f (z ∷ xs) (suc i) x y e r = let k = map_get f xs i x y e r in (omega (arith, k.0), k.1)

pub map-push : {A B : Type 0} (f : A → B) (xs : List A) (x : A) → map f (xs ++ x ∷ []) ≡ map f xs ++ f x ∷ []
map-push f xs x = map-append f xs (x ∷ [])

pub map-set_at : {A B : Type 0} (f : A → B) (xs : List A) (i : ℕ) (x : A) → map f (set xs i x) ≡ set (map f xs) i (f x)
map-set_at f [] i x = refl
map-set_at f (y ∷ xs) zero x = refl
map-set_at f (y ∷ xs) (suc i) x = ap (λ l. f y ∷ l) (map-set_at f xs i x)

-- a history by its two parts
pub same_history : (l m : List Event) (o p : List OpenFile) → l ≡ m → o ≡ p → ◌≡◌ {A = HistoryState} (record { log = l; open_files = o }) (record { log = m; open_files = p })
same_history l m o p e f = cc

fold-unknown : (n : List ℕ) (s : NameState) (log : List Event) → All (λ e. e.name ≢ n) log → fold (happened n) s log ≡ s
fold-unknown n s [] all = refl
fold-unknown n s (e ∷ log) all =
    ap (λ t. fold (happened n) t log) (happened-other n s e (All-head (λ x. x.name ≢ n) e log all)) ∙ fold-unknown n s log (All-tail (λ x. x.name ≢ n) e log all)

-- a name that no event has stands for nothing
pub state_of-unknown : (n : List ℕ) (log : List Event) → All (λ e. e.name ≢ n) log → state_of n log ≡ never
state_of-unknown n log all = fold-unknown n never log all

pub unknown_name : (names : List (List ℕ)) (files : List Cache) (log : List Event) (n : List ℕ) → Backs names files log → ((i : ℕ) → i < length names → get_or names i [] ≢ n) → state_of n log ≡ never
unknown_name names files log n b new = state_of-unknown n log (λ k d h e. let w = b.known k d h in new w.0 w.1 (w.2 ∙ e))

acted_one : (a : Act) (s : NameState) → (acted a s).removals ≤ s.removals + 1
acted_one Making s = omega arith
acted_one (Writing at piece) s = omega arith
acted_one Syncing s = omega arith
acted_one Removing s = omega arith

happened_one : (n : List ℕ) (s : NameState) (e : Event) → (happened n s e).removals ≤ s.removals + 1
happened_one n s e = elim (cases_name e.name n) [
  | inl own ↦ subst (λ m. (happened m s e).removals ≤ s.removals + 1) own (subst (λ (t : NameState). t.removals ≤ s.removals + 1) (sym (own_is s e)) (acted_one e.act s))
  | inr other ↦ subst (λ (t : NameState). t.removals ≤ s.removals + 1) (sym (happened-other n s e other)) (omega arith)
] where
  own_is : (s : NameState) (e : Event) → happened e.name s e ≡ acted e.act s
  own_is s e = happened-own e.name s e.act

fold_removals : (n : List ℕ) (s : NameState) (log : List Event) → (fold (happened n) s log).removals ≤ s.removals + length log
fold_removals n s [] = omega arith
fold_removals n s (e ∷ log) = let one = happened_one n s e in let more = fold_removals n (happened n s e) log in omega (arith, one, more)

-- no name was removed more often than there are events
pub removals_le : (n : List ℕ) (log : List Event) → (state_of n log).removals ≤ length log
removals_le n log = let r = fold_removals n never log in omega (arith, r)

-- the kept file after an act
pub IsCached-made : (s : NameState) (c : Cache) → IsCached s c → IsCached (acted Making s) (made_file c)
IsCached-made s c k = record { removals = k.removals; file = (refl, refl, refl) }

none_left-push : (ws : List (ℕ × List ℕ)) (w : ℕ × List ℕ) → is_none_left (ws ++ w ∷ []) ≡ false
none_left-push [] w = refl
none_left-push (x ∷ ws) w = refl

and_false : (b c : Bool) → c ≡ false → (b && c) ≡ false
and_false true c e = e
and_false false c e = refl

there_file : (o : Option File) (c : Cache) → IsCachedFile o c → c.there ≡ true → (f : File) × (o ≡ Some f) × (bytes_of f ≡ c.bytes) × (is_clean f ≡ c.clean)
there_file None c k t = absurd (false≢true (sym k ∙ t))
there_file (Some f) c k t = (f, refl, k.1, k.2)

pub IsCached-written : (at : ℕ) (piece : List ℕ) (s : NameState) (c : Cache) → c.there ≡ true → IsCached s c → IsCached (acted (Writing at piece) s) (written_file at piece c)
IsCached-written at piece s c t k =
    let f = there_file s.file c k.file t in
    record {
      removals = k.removals;
      file = subst (λ o. IsCachedFile (option_map (with_write at piece) o) (written_file at piece c)) (sym f.1)
          (t, bytes_of-with_write at piece f.0 ∙ ap (written at piece) f.2, and_false f.0.synced (is_none_left (f.0.writes ++ (at, piece) ∷ [])) (none_left-push f.0.writes (at, piece)));
    }

pub IsCached-synced : (s : NameState) (c : Cache) → c.there ≡ true → IsCached s c → IsCached (acted Syncing s) (synced_file c)
IsCached-synced s c t k =
    let f = there_file s.file c k.file t in
    record { removals = k.removals; file = subst (λ o. IsCachedFile (option_map as_synced o) (synced_file c)) (sym f.1) (t, f.2, refl) }

pub IsCached-gone : (s : NameState) (c : Cache) → IsCached s c → IsCached (acted Removing s) (gone_file c)
IsCached-gone s c k = record { removals = ap (λ n. n + 1) k.removals; file = refl }

-- what is kept of a name's contents
pub kept_there : (s : NameState) (c : Cache) → IsCached s c → c.there ≡ true → option_map bytes_of s.file ≡ Some c.bytes
kept_there s c k t = let f = there_file s.file c k.file t in ap (option_map bytes_of) f.1 ∙ ap (λ b. Some b) f.2

kept_none : (o : Option File) (c : Cache) → IsCachedFile o c → c.there ≡ false → option_map bytes_of o ≡ None
kept_none None c k t = refl
kept_none (Some f) c k t = absurd (true≢false (sym k.0 ∙ t))

pub kept_absent : (s : NameState) (c : Cache) → IsCached s c → c.there ≡ false → option_map bytes_of s.file ≡ None
kept_absent s c k t = kept_none s.file c k.file t

kept_some : (o : Option File) (c : Cache) (bytes : List ℕ) → IsCachedFile o c → option_map bytes_of o ≡ Some bytes → (c.there ≡ true) × (c.bytes ≡ bytes)
kept_some None c bytes k e = absurd (none-some bytes e)
kept_some (Some f) c bytes k e = (k.0, sym k.1 ∙ same_Some (bytes_of f) bytes e)

pub kept_bytes : (s : NameState) (c : Cache) (bytes : List ℕ) → IsCached s c → option_map bytes_of s.file ≡ Some bytes → (c.there ≡ true) × (c.bytes ≡ bytes)
kept_bytes s c bytes k e = kept_some s.file c bytes k.file e

-- one act on a known name
pub Backs-act : (names : List (List ℕ)) (files : List Cache) (log : List Event) (i : ℕ) (a : Act) (c : Cache) → Backs names files log → i < length names
    → IsCached (acted a (state_of (get_or names i []) log)) c → Backs names (set files i c) (log ++ record { name = get_or names i []; act = a } ∷ [])
Backs-act names files log i a c b h k = record {
  beside = length-set files i c ∙ b.beside;
  distinct = b.distinct;
  known = All-push (λ event. (j : ℕ) × (j < length names) × (get_or names j [] ≡ event.name)) log (record { name = get_or names i []; act = a }) b.known (i, h, refl);
  kept = λ j hj. elim (cases_eq j i) [
    | inl same ↦ subst (λ x. IsCached (state_of (get_or names x []) (log ++ record { name = get_or names i []; act = a } ∷ [])) (get_or (set files i c) x no_file)) (sym same)
        (subst (λ (s : NameState). IsCached s (get_or (set files i c) i no_file)) (sym (state_of-own (get_or names i []) log a))
        (subst (λ (x : Cache). IsCached (acted a (state_of (get_or names i []) log)) x) (sym (get_or-set_same files i c no_file (omega (arith, b.beside)))) k))
    | inr other ↦
        subst (λ (s : NameState). IsCached s (get_or (set files i c) j no_file)) (sym (state_of-beside (get_or names j []) log (record { name = get_or names i []; act = a }) (λ e. other (b.distinct j i hj h (sym e)))))
        (subst (λ (x : Cache). IsCached (state_of (get_or names j []) log) x) (sym (get_or-set_other files i j c no_file other)) (b.kept j hj))
  ];
}

-- one more name, with no file
pub Backs-add : (names : List (List ℕ)) (files : List Cache) (log : List Event) (n : List ℕ) → Backs names files log → ((i : ℕ) → i < length names → get_or names i [] ≢ n)
    → Backs (names ++ n ∷ []) (files ++ no_file ∷ []) log
Backs-add names files log n b new = record {
  beside = length_push files no_file ∙ (ap (λ x. x + 1) b.beside ∙ sym (length_push names n));
  distinct = λ i j hi hj e. elim (cases_eq i (length names)) [
    | inl ei ↦ elim (cases_eq j (length names)) [
      | inl ej ↦ ei ∙ sym ej
      | inr oj ↦ absurd (new j (before j hj oj) (sym (at_old j (before j hj oj)) ∙ (sym e ∙ at_new i ei)))
    ]
    | inr oi ↦ elim (cases_eq j (length names)) [
      | inl ej ↦ absurd (new i (before i hi oi) (sym (at_old i (before i hi oi)) ∙ (e ∙ at_new j ej)))
      | inr oj ↦ b.distinct i j (before i hi oi) (before j hj oj) (sym (at_old i (before i hi oi)) ∙ (e ∙ at_old j (before j hj oj)))
    ]
  ];
  known = All-weaker (λ event. (i : ℕ) × (i < length names) × (get_or names i [] ≡ event.name)) (λ event. (i : ℕ) × (i < length (names ++ n ∷ [])) × (get_or (names ++ n ∷ []) i [] ≡ event.name))
      (λ event w. (w.0, rw length_push (omega (arith, w.1)), at_old w.0 w.1 ∙ w.2)) log b.known;
  kept = λ i hi. elim (cases_eq i (length names)) [
    | inl ei ↦ subst (λ (s : NameState). IsCached s (get_or (files ++ no_file ∷ []) i no_file)) (sym (ap (λ m. state_of m log) (at_new i ei) ∙ unknown_name names files log n b new))
        (subst (λ (c : Cache). IsCached never c) (sym (get_or_push files no_file no_file i (b.beside ∙ sym ei))) (record { removals = refl; file = refl }))
    | inr oi ↦ subst (λ m. IsCached (state_of m log) (get_or (files ++ no_file ∷ []) i no_file)) (sym (at_old i (before i hi oi)))
        (subst (λ (c : Cache). IsCached (state_of (get_or names i []) log) c) (sym (get_or_append_left files (no_file ∷ []) no_file i (let x = before i hi oi in omega (arith, b.beside)))) (b.kept i (before i hi oi)))
  ];
} where
  before : (i : ℕ) → i < length (names ++ n ∷ []) → (i ≡ length names → ⊥) → i < length names
  before i h other = let e = length_push names n in omega arith

  at_old : (i : ℕ) → i < length names → get_or (names ++ n ∷ []) i [] ≡ get_or names i []
  at_old i h = get_or_append_left names (n ∷ []) [] i h

  at_new : (i : ℕ) → i ≡ length names → get_or (names ++ n ∷ []) i [] ≡ n
  at_new i e = get_or_push names n [] i (sym e)

-- names that are known stay, when one more is added
pub events_more : (names : List (List ℕ)) (n : List ℕ) (entries : List Entry) → All (λ entry. entry.slot < length names) entries → map (event_of (names ++ n ∷ [])) entries ≡ map (event_of names) entries
events_more names n [] all = refl
events_more names n (e ∷ es) all =
    let one : event_of (names ++ n ∷ []) e ≡ event_of names e = ap (λ m. let x : Event = record { name = m; act = act_of e.deed } in x) (get_or_append_left names (n ∷ []) [] e.slot (All-head (λ entry. entry.slot < length names) e es all)) in
    let others = events_more names n es (All-tail (λ entry. entry.slot < length names) e es all) in
    cc

pub opens_more : (names : List (List ℕ)) (n : List ℕ) (handles : List Handle) → All (λ handle. handle.slot < length names) handles → map (open_of (names ++ n ∷ [])) handles ≡ map (open_of names) handles
opens_more names n [] all = refl
opens_more names n (h ∷ hs) all =
    let one : open_of (names ++ n ∷ []) h ≡ open_of names h = ap (λ m. let x : OpenFile = record { live = h.live; name = m; removals = h.removals; size = h.size } in x) (get_or_append_left names (n ∷ []) [] h.slot (All-head (λ handle. handle.slot < length names) h hs all)) in
    let others = opens_more names n hs (All-tail (λ handle. handle.slot < length names) h hs all) in
    cc

pub count-push : {X : Type 0} (p : X → Bool) (xs : List X) (x : X) → count_by p (xs ++ x ∷ []) ≡ count_by p xs + cond (p x) 1 0
count-push p xs x = sum_by_push (λ y. cond (p y) 1 0) xs x

pub count-set : {X : Type 0} (p : X → Bool) (xs : List X) (i : ℕ) (x d : X) → i < length xs → count_by p (set xs i x) + cond (p (get_or xs i d)) 1 0 ≡ count_by p xs + cond (p x) 1 0
count-set p xs i x d h = sum_by-set (λ y. cond (p y) 1 0) xs i x d h

-- the names and files with one that may be new
pub HoldsTogether-names : (n : List ℕ) (names : List (String Global)) (files : List MemoryFile) (new_names : List (String Global)) (new_files : List MemoryFile) (entries : List Entry) (handles : List Handle) (cap : ℕ)
    → KeepsOrAdds n names files new_names new_files → HoldsTogether (map string_bytes names) (map cache_of files) entries handles cap
    → HoldsTogether (map string_bytes new_names) (map cache_of new_files) entries handles cap × (map (event_of (map string_bytes new_names)) entries ≡ map (event_of (map string_bytes names)) entries) × (map (open_of (map string_bytes new_names)) handles ≡ map (open_of (map string_bytes names)) handles)
HoldsTogether-names n names files new_names new_files entries handles cap (inl same) h = (
  subst (λ x. HoldsTogether (map string_bytes x) (map cache_of new_files) entries handles cap) (sym same.0) (subst (λ x. HoldsTogether (map string_bytes names) (map cache_of x) entries handles cap) (sym same.1) h),
  ap (λ x. map (event_of (map string_bytes x)) entries) same.0,
  ap (λ x. map (open_of (map string_bytes x)) handles) same.0,
)
HoldsTogether-names n names files new_names new_files entries handles cap (inr more) h =
    let es = events_more (map string_bytes names) n entries h.entries_in in
    let os = opens_more (map string_bytes names) n handles h.handles_in in (
      subst (λ x. HoldsTogether x (map cache_of new_files) entries handles cap) (sym more.1) (subst (λ x. HoldsTogether (map string_bytes names ++ n ∷ []) x entries handles cap) (sym more.2) (record {
        backs = subst (λ l. Backs (map string_bytes names ++ n ∷ []) (map cache_of files ++ no_file ∷ []) l) (sym es) (Backs-add (map string_bytes names) (map cache_of files) (map (event_of (map string_bytes names)) entries) n h.backs (λ i hi. more.0 i (omega (arith, hi, length-map names string_bytes))));
        entries_in = All-weaker (λ entry. entry.slot < length (map string_bytes names)) (λ entry. entry.slot < length (map string_bytes names ++ n ∷ [])) (λ entry x. rw length_push (omega (arith, x))) entries h.entries_in;
        handles_in = All-weaker (λ handle. handle.slot < length (map string_bytes names)) (λ handle. handle.slot < length (map string_bytes names ++ n ∷ [])) (λ handle x. rw length_push (omega (arith, x))) handles h.handles_in;
        sound = subst (λ l. All (IsSoundHandle l) (map (open_of (map string_bytes names ++ n ∷ [])) handles)) (sym es) (subst (λ o. All (IsSoundHandle (map (event_of (map string_bytes names)) entries)) o) (sym os) h.sound);
        room = omega (arith, h.room, count-push is_dirty (map cache_of files) no_file);
      })),
      ap (λ x. map (event_of x) entries) more.1 ∙ es,
      ap (λ x. map (open_of x) handles) more.1 ∙ os,
    )
