-- A synced file that is put there, and a file that is replayed.
use Rattle.std.proofs.Common.{ℕ, ◌+◌, ◌≤◌, ◌<◌, ◌≡◌, ◌==◌, true, false, List, [], ◌∷◌, ◌++◌, length, get_or, set, map, fold, All, Option, None, string_bytes, count_by, refl, sym, ap, ◌∙◌, subst, inl, inr, arith, append-nil}
use Rattle.std.specs.Prelude.{option_map}
use Rattle.std.specs.declared.string.String.{String}
use Rattle.std.specs.declared.alloc.Global.{Global}
use Rattle.std.proofs.lemmas.Bool.{cases_Bool, cases_eq, le-leb, cond-true, cond-false, eq-eqb, ne_eqb}
use Rattle.std.proofs.lemmas.List.{length-set, length-map, length_push, set-set, get_or-set_same, drop_all}
use Rattle.std.proofs.lemmas.List.Sums.{count_by-le-length}
use Rattle.std.proofs.lemmas.List.Elements.{All-head, All-tail}
use Rattle.std.proofs.lemmas.Option.{none-some, same_Some}
use Rattle.pos_edge.specs.declared.doubles.history.Deed.{Deed}
use Rattle.pos_edge.specs.declared.doubles.history.Deed.TheVariants.{Made, Synced}
use Rattle.pos_edge.specs.declared.doubles.history.Entry.{Entry}
use Rattle.pos_edge.specs.declared.doubles.history.Handle.{Handle}
use Rattle.pos_edge.specs.declared.doubles.history.MemoryFile.{MemoryFile}
use Rattle.pos_edge.specs.Images.{written}
use Rattle.pos_edge.specs.Log.{Making, Writing, Syncing, NameState, state_of, contents_of, bytes_of, acted, happened, never}
use Rattle.pos_edge.specs.MemoryDisks.{HistoryState, holds, placed_in, image_after}
use Rattle.pos_edge.specs.Histories.{Cache, cache_of, no_file, act_of, event_of, IsCached, is_live, is_dirty, HoldsTogether, made_file, written_file, synced_file, placed_file, seen_at}
use Rattle.pos_edge.specs.MemoryLaws.{holds_bytes, length-written_ge}
use Rattle.pos_edge.proofs.Events.{happened-other, happened-own, file_none}
use Rattle.pos_edge.proofs.Kept.{map-set_at, same_history, IsCached-made, IsCached-written, IsCached-synced, kept_there, kept_absent}
use Rattle.pos_edge.proofs.KeptActs.{HoldsTogether-act, kept_at, keeps-making, keeps-writing}
use Rattle.pos_edge.proofs.KeptCalls.{stands_for, HoldsParts, found_there, not_found, cache_at, slot_in}

written-all_new : (bytes : List ℕ) → written 0 bytes [] ≡ bytes
written-all_new bytes = ap (λ x. bytes ++ x) (drop_all (0 + length bytes) [] (omega arith)) ∙ append-nil bytes

-- a write behind which everything still stands
longer : (at : ℕ) (piece : List ℕ) (s : NameState) (c : Cache) → c.there ≡ true → IsCached s c → (size : ℕ) → holds size (option_map bytes_of s.file) ≡ true → holds size (option_map bytes_of (acted (Writing at piece) s).file) ≡ true
longer at piece s c there k size held =
    let b = holds_bytes size (option_map bytes_of s.file) held in
    let same : b.0 ≡ c.bytes = same_Some b.0 c.bytes (sym b.1 ∙ kept_there s c k there) in
    let after = kept_there (acted (Writing at piece) s) (written_file at piece c) (IsCached-written at piece s c there k) there in
    let l = length-written_ge at piece c.bytes in
    ap (holds size) after ∙ le-leb size (length (written at piece c.bytes)) (omega (arith, b.2, ap length same, l))

module _ (names : List (List ℕ)) (files : List Cache) (entries : List Entry) (handles : List Handle) (cap : ℕ) (h : HoldsTogether names files entries handles cap) where
  at_new : (i : ℕ) (c : Cache) → i < length names → get_or (set files i c) i no_file ≡ c
  at_new i c hi = get_or-set_same files i c no_file (omega (arith, h.backs.beside))

  few : (i : ℕ) (c : Cache) → count_by is_dirty (set files i c) ≤ length files
  few i c = let n = count_by-le-length is_dirty (set files i c) in omega (arith, n, length-set files i c)

  live_few : count_by is_live handles ≤ length handles
  live_few = count_by-le-length is_live handles

  pub HoldsTogether-place : (i : ℕ) (kept : Deed) (bytes : List ℕ) (new_cap : ℕ) → i < length names → (get_or files i no_file).there ≡ false → act_of kept ≡ Writing 0 bytes → length entries + (length files + length handles + 3) ≤ new_cap
      → HoldsTogether names (set files i (placed_file bytes (get_or files i no_file))) (((entries ++ record { slot = i; deed = Made } ∷ []) ++ record { slot = i; deed = kept } ∷ []) ++ record { slot = i; deed = Synced } ∷ []) handles new_cap
  HoldsTogether-place i kept bytes new_cap hi absent act room =
      subst (λ x. HoldsTogether names x e3 handles new_cap) (set-set (set files i c1) i c2 c3 ∙ (set-set files i c1 c3 ∙ ap (λ b. set files i (record { there = true; clean = true; bytes = b; removals = c0.removals })) (written-all_new bytes))) third where
        c0 : Cache
        c0 = get_or files i no_file

        c1 : Cache
        c1 = made_file (get_or files i no_file)

        c2 : Cache
        c2 = written_file 0 bytes (made_file (get_or files i no_file))

        c3 : Cache
        c3 = synced_file (written_file 0 bytes (made_file (get_or files i no_file)))

        e1 : List Entry
        e1 = entries ++ record { slot = i; deed = Made } ∷ []

        e2 : List Entry
        e2 = (entries ++ record { slot = i; deed = Made } ∷ []) ++ record { slot = i; deed = kept } ∷ []

        e3 : List Entry
        e3 = ((entries ++ record { slot = i; deed = Made } ∷ []) ++ record { slot = i; deed = kept } ∷ []) ++ record { slot = i; deed = Synced } ∷ []

        st0 : NameState
        st0 = state_of (get_or names i []) (map (event_of names) entries)

        first : HoldsTogether names (set files i (made_file (get_or files i no_file))) (entries ++ record { slot = i; deed = Made } ∷ []) handles new_cap
        first = HoldsTogether-act names files entries handles cap h i Made c1 handles new_cap hi (IsCached-made st0 c0 (kept_at names files entries handles cap h i hi)) (keeps-making st0 (kept_absent st0 c0 (kept_at names files entries handles cap h i hi) absent)) h.handles_in (λ s. s)
            (omega (arith, room, few i c1, live_few))

        st1 : NameState
        st1 = state_of (get_or names i []) (map (event_of names) (entries ++ record { slot = i; deed = Made } ∷ []))

        kept1 : IsCached (state_of (get_or names i []) (map (event_of names) (entries ++ record { slot = i; deed = Made } ∷ []))) (made_file (get_or files i no_file))
        kept1 = subst (IsCached st1) (at_new i c1 hi) (kept_at names (set files i c1) e1 handles new_cap first i hi)

        second : HoldsTogether names (set (set files i (made_file (get_or files i no_file))) i (written_file 0 bytes (made_file (get_or files i no_file)))) ((entries ++ record { slot = i; deed = Made } ∷ []) ++ record { slot = i; deed = kept } ∷ []) handles new_cap
        second = HoldsTogether-act names (set files i c1) e1 handles new_cap first i kept c2 handles new_cap hi (subst (λ a. IsCached (acted a st1) c2) (sym act) (IsCached-written 0 bytes st1 c1 refl kept1))
            (subst (λ a. (acted a st1).removals ≡ st1.removals → (size : ℕ) → holds size (option_map bytes_of st1.file) ≡ true → holds size (option_map bytes_of (acted a st1).file) ≡ true) (sym act) (keeps-writing 0 bytes st1 (longer 0 bytes st1 c1 refl kept1)))
            h.handles_in (λ s. s) (let n = count_by-le-length is_dirty (set (set files i c1) i c2) in omega (arith, room, n, length-set (set files i c1) i c2, length-set files i c1, live_few, length_push entries (record { slot = i; deed = Made })))

        st2 : NameState
        st2 = state_of (get_or names i []) (map (event_of names) ((entries ++ record { slot = i; deed = Made } ∷ []) ++ record { slot = i; deed = kept } ∷ []))

        kept2 : IsCached (state_of (get_or names i []) (map (event_of names) ((entries ++ record { slot = i; deed = Made } ∷ []) ++ record { slot = i; deed = kept } ∷ []))) (written_file 0 bytes (made_file (get_or files i no_file)))
        kept2 = subst (IsCached st2) (get_or-set_same (set files i c1) i c2 no_file (omega (arith, h.backs.beside, length-set files i c1))) (kept_at names (set (set files i c1) i c2) e2 handles new_cap second i hi)

        third : HoldsTogether names (set (set (set files i (made_file (get_or files i no_file))) i (written_file 0 bytes (made_file (get_or files i no_file)))) i (synced_file (written_file 0 bytes (made_file (get_or files i no_file))))) (((entries ++ record { slot = i; deed = Made } ∷ []) ++ record { slot = i; deed = kept } ∷ []) ++ record { slot = i; deed = Synced } ∷ []) handles new_cap
        third = HoldsTogether-act names (set (set files i c1) i c2) e2 handles new_cap second i Synced c3 handles new_cap hi (IsCached-synced st2 c2 refl kept2)
            (λ e size held. ap (holds size) (kept_there (acted Syncing st2) c3 (IsCached-synced st2 c2 refl kept2) refl ∙ sym (kept_there st2 c2 kept2 refl)) ∙ held)
            h.handles_in (λ s. s) (let n = count_by-le-length is_dirty (set (set (set files i c1) i c2) i c3) in
            omega (arith, room, n, length-set (set (set files i c1) i c2) i c3, length-set (set files i c1) i c2, length-set files i c1, live_few, length_push entries (record { slot = i; deed = Made }), length_push e1 (record { slot = i; deed = kept })))

  pub placed_is : (slot : ℕ) (kept : Deed) (bytes n : List ℕ) → get_or names slot [] ≡ n → act_of kept ≡ Writing 0 bytes
      → map (event_of names) (((entries ++ record { slot = slot; deed = Made } ∷ []) ++ record { slot = slot; deed = kept } ∷ []) ++ record { slot = slot; deed = Synced } ∷ [])
      ≡ ((map (event_of names) entries ++ record { name = n; act = Making } ∷ []) ++ record { name = n; act = Writing 0 bytes } ∷ []) ++ record { name = n; act = Syncing } ∷ []
  placed_is slot kept bytes n is act =
      push (((entries ++ record { slot = slot; deed = Made } ∷ []) ++ record { slot = slot; deed = kept } ∷ [])) Synced
      ∙ ap (λ l. l ++ record { name = n; act = Syncing } ∷ []) (push (entries ++ record { slot = slot; deed = Made } ∷ []) kept
      ∙ (ap (λ l. l ++ record { name = n; act = act_of kept } ∷ []) (push entries Made)
      ∙ ap (λ a. (map (event_of names) entries ++ record { name = n; act = Making } ∷ []) ++ record { name = n; act = a } ∷ []) act)) where
        push : (es : List Entry) (deed : Deed) → map (event_of names) (es ++ record { slot = slot; deed = deed } ∷ []) ≡ map (event_of names) es ++ record { name = n; act = act_of deed } ∷ []
        push es deed = map-append' es deed ∙ ap (λ m. map (event_of names) es ++ record { name = m; act = act_of deed } ∷ []) is where
          map-append' : (es : List Entry) (deed : Deed) → map (event_of names) (es ++ record { slot = slot; deed = deed } ∷ []) ≡ map (event_of names) es ++ record { name = get_or names slot []; act = act_of deed } ∷ []
          map-append' [] deed = refl
          map-append' (e ∷ es) deed = ap (λ l. event_of names e ∷ l) (map-append' es deed)

-- by the parts that the call has
module _ (h₀ : HistoryState) (names : List (String Global)) (files : List MemoryFile) (entries : List Entry) (handles : List Handle) (cap : ℕ)
    (h : HoldsParts names files entries handles cap) (is : stands_for names entries handles ≡ h₀) where
  absent_file : (slot : ℕ) (n : List ℕ) (file : MemoryFile) → slot < length names → get_or (map string_bytes names) slot [] ≡ n → file ≡ get_or files slot file → contents_of n h₀.log ≡ None → file.there ≡ false
  absent_file slot n file within named read none = elim (cases_Bool file.there) [
    | inl there ↦ absurd (none-some _ (sym none ∙ found_there h₀ names files entries handles cap h is slot n file within named read there))
    | inr gone ↦ gone
  ]

  pub place_holds : (slot : ℕ) (n : List ℕ) (file new : MemoryFile) (kept : Deed) (bytes : List ℕ) (new_entries : List Entry) (new_cap : ℕ) → slot < length names → get_or (map string_bytes names) slot [] ≡ n → file ≡ get_or files slot file
      → contents_of n h₀.log ≡ None → act_of kept ≡ Writing 0 bytes → cache_of new ≡ placed_file bytes (cache_of file)
      → new_entries ≡ ((entries ++ record { slot = slot; deed = Made } ∷ []) ++ record { slot = slot; deed = kept } ∷ []) ++ record { slot = slot; deed = Synced } ∷ []
      → length entries + (length files + length handles + 3) ≤ new_cap → HoldsParts names (set files slot new) new_entries handles new_cap
  place_holds slot n file new kept bytes new_entries new_cap within named read none act made e room =
      let at = cache_at h₀ names files entries handles cap h is slot file within read in
      let gone : (get_or (map cache_of files) slot no_file).there ≡ false = ap (λ (x : Cache). x.there) at ∙ absent_file slot n file within named read none in
      let m = HoldsTogether-place (map string_bytes names) (map cache_of files) entries handles cap h slot kept bytes new_cap (slot_in h₀ names files entries handles cap h is slot within) gone act (omega (arith, room, length-map files cache_of)) in
      subst (λ x. HoldsTogether (map string_bytes names) (map cache_of (set files slot new)) x handles new_cap) (sym e)
      (subst (λ x. HoldsTogether (map string_bytes names) x (((entries ++ record { slot = slot; deed = Made } ∷ []) ++ record { slot = slot; deed = kept } ∷ []) ++ record { slot = slot; deed = Synced } ∷ []) handles new_cap)
      (ap (λ x. set (map cache_of files) slot (placed_file bytes x)) at ∙ (ap (set (map cache_of files) slot) (sym made) ∙ sym (map-set_at cache_of files slot new))) m)

  pub place_same : (slot : ℕ) (n : List ℕ) (kept : Deed) (bytes : List ℕ) (new_entries : List Entry) → get_or (map string_bytes names) slot [] ≡ n → act_of kept ≡ Writing 0 bytes
      → new_entries ≡ ((entries ++ record { slot = slot; deed = Made } ∷ []) ++ record { slot = slot; deed = kept } ∷ []) ++ record { slot = slot; deed = Synced } ∷ []
      → stands_for names new_entries handles ≡ placed_in n bytes h₀
  place_same slot n kept bytes new_entries named act e =
      ap (λ x. stands_for names x handles) e ∙ (same_history _ _ _ _ (placed_is (map string_bytes names) (map cache_of files) entries handles cap h slot kept bytes n named act) refl ∙ ap (placed_in n bytes) is)

-- what happened at a place is what happened to its name
module _ (names : List (List ℕ)) (slot : ℕ) (within : slot < length names) (distinct : (i j : ℕ) → i < length names → j < length names → get_or names i [] ≡ get_or names j [] → i ≡ j) where
  one_seen : (s : NameState) (e : Entry) → e.slot < length names → happened (get_or names slot []) s (event_of names e) ≡ seen_at slot s e
  one_seen s e inside = elim (cases_eq e.slot slot) [
    | inl own ↦ subst (λ k. happened (get_or names slot []) s (record { name = get_or names k []; act = act_of e.deed }) ≡ acted (act_of e.deed) s) (sym own) (happened-own (get_or names slot []) s (act_of e.deed))
        ∙ sym (cond-true (e.slot == slot) (acted (act_of e.deed) s) s (eq-eqb e.slot slot own))
    | inr other ↦ happened-other (get_or names slot []) s (event_of names e) (λ same. other (distinct e.slot slot inside within same))
        ∙ sym (cond-false (e.slot == slot) (acted (act_of e.deed) s) s (ne_eqb e.slot slot other))
  ]

  all_seen : (entries : List Entry) (s : NameState) → All (λ entry. entry.slot < length names) entries → fold (happened (get_or names slot [])) s (map (event_of names) entries) ≡ fold (seen_at slot) s entries
  all_seen [] s inside = refl
  all_seen (e ∷ es) s inside =
      ap (λ t. fold (happened (get_or names slot [])) t (map (event_of names) es)) (one_seen s e (All-head (λ entry. entry.slot < length names) e es inside))
      ∙ all_seen es (seen_at slot s e) (All-tail (λ entry. entry.slot < length names) e es inside)

-- the image of a name by the replay of its place
module _ (h₀ : HistoryState) (names : List (String Global)) (files : List MemoryFile) (entries : List Entry) (handles : List Handle) (cap : ℕ)
    (h : HoldsParts names files entries handles cap) (is : stands_for names entries handles ≡ h₀) where
  pub place_state : (slot : ℕ) (n : List ℕ) → slot < length names → get_or (map string_bytes names) slot [] ≡ n → state_of n h₀.log ≡ fold (seen_at slot) never entries
  place_state slot n within named =
      ap (λ (x : HistoryState). state_of n x.log) (sym is)
      ∙ (ap (λ m. state_of m (map (event_of (map string_bytes names)) entries)) (sym named)
      ∙ all_seen (map string_bytes names) slot (omega (arith, length-map names string_bytes)) h.backs.distinct entries never h.entries_in)

  pub no_image : (n : List ℕ) (writes : ℕ) → ((i : ℕ) → i < length names → get_or (map string_bytes names) i [] ≡ n → ⊥) → ◌≡◌ {A = Option (List ℕ)} None (image_after writes (state_of n h₀.log).file)
  no_image n writes new = ap (λ o. image_after writes o) (sym (file_none (state_of n h₀.log).file (not_found h₀ names files entries handles cap h is n new)))
