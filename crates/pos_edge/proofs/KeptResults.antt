-- What files in memory stand for after each call.
use Rattle.std.proofs.Common.{ℕ, ◌+◌, ◌<◌, ◌≡◌, max, true, false, List, [], ◌∷◌, ◌++◌, length, get_or, set, map, Option, Some, None, Result, Err, refl, sym, ap, ◌∙◌, subst, is_some}
use Rattle.std.specs.Prelude.{option_map}
use Rattle.std.specs.Option.{option_map_or}
use Rattle.std.specs.declared.alloc.AllocError.{AllocError}
use Rattle.std.proofs.lemmas.Bool.{cond-true, cond-false, false≢true}
use Rattle.pos_edge.specs.declared.doubles.history.Deed.{Deed}
use Rattle.pos_edge.specs.declared.doubles.history.Deed.TheVariants.{Made, Synced, Gone}
use Rattle.pos_edge.specs.declared.doubles.history.Entry.{Entry}
use Rattle.pos_edge.specs.declared.doubles.history.Handle.{Handle}
use Rattle.pos_edge.specs.Log.{Making, Writing, Syncing, Removing, File, NameState, state_of, contents_of, bytes_of, is_clean}
use Rattle.pos_edge.specs.MemoryDisks.{OpenFile, HistoryState, MakeGives, FindGives, opened_file, grown, ended, noted_in, given_in, replaced_in, synced_in, is_clean_name}
use Rattle.pos_edge.specs.Histories.{Cache, no_file, act_of, event_of, open_of, IsCached, IsCachedFile, HoldsTogether}
use Rattle.pos_edge.proofs.Kept.{map-push, map-set_at, same_history, kept_there, kept_absent, unknown_name}
use Rattle.pos_edge.proofs.KeptActs.{events-push, kept_at}

pub make_err : (h new : HistoryState) (name : List ℕ) (r : Result (Option ℕ) AllocError) (e : AllocError) → r ≡ Err e → contents_of name h.log ≡ None → new ≡ h → MakeGives h name r new
make_err h new name r e is none same = subst (λ x. MakeGives h name x new) (sym is) (none, same)

pub find_err : (h new : HistoryState) (name : List ℕ) (r : Result (Option ℕ) AllocError) (e : AllocError) → r ≡ Err e → (bytes : List ℕ) → contents_of name h.log ≡ Some bytes → new ≡ h → FindGives h name r new
find_err h new name r e is bytes there same = subst (λ x. FindGives h name x new) (sym is) (ap is_some there, same)

module _ (names : List (List ℕ)) (files : List Cache) (entries : List Entry) (handles : List Handle) (cap : ℕ) (h : HoldsTogether names files entries handles cap) where
  abbrev hist : HistoryState
  hist = record { log = map (event_of names) entries; open_files = map (open_of names) handles }

  pub slot_there : (slot : ℕ) (name : List ℕ) (c : Cache) → slot < length names → get_or names slot [] ≡ name → get_or files slot no_file ≡ c → c.there ≡ true → contents_of name (map (event_of names) entries) ≡ Some c.bytes
  slot_there slot name c within is at there =
      subst (λ n. contents_of n (map (event_of names) entries) ≡ Some c.bytes) is
      (kept_there (state_of (get_or names slot []) (map (event_of names) entries)) c (subst (IsCached (state_of (get_or names slot []) (map (event_of names) entries))) at (kept_at names files entries handles cap h slot within)) there)

  pub slot_absent : (slot : ℕ) (name : List ℕ) (c : Cache) → slot < length names → get_or names slot [] ≡ name → get_or files slot no_file ≡ c → c.there ≡ false → contents_of name (map (event_of names) entries) ≡ None
  slot_absent slot name c within is at there =
      subst (λ n. contents_of n (map (event_of names) entries) ≡ None) is
      (kept_absent (state_of (get_or names slot []) (map (event_of names) entries)) c (subst (IsCached (state_of (get_or names slot []) (map (event_of names) entries))) at (kept_at names files entries handles cap h slot within)) there)

  pub no_slot : (name : List ℕ) → ((i : ℕ) → i < length names → get_or names i [] ≡ name → ⊥) → contents_of name (map (event_of names) entries) ≡ None
  no_slot name new = ap (λ (s : NameState). option_map bytes_of s.file) (unknown_name names files (map (event_of names) entries) name h.backs new)

  pub slot_removals : (slot : ℕ) (name : List ℕ) (c : Cache) → slot < length names → get_or names slot [] ≡ name → get_or files slot no_file ≡ c → c.removals ≡ (state_of name (map (event_of names) entries)).removals
  slot_removals slot name c within is at =
      subst (λ n. c.removals ≡ (state_of n (map (event_of names) entries)).removals) is
      (sym ((kept_at names files entries handles cap h slot within).removals ∙ ap (λ (x : Cache). x.removals) at))

  given_is : (slot removals size : ℕ) (name : List ℕ) → get_or names slot [] ≡ name → removals ≡ (state_of name (map (event_of names) entries)).removals
      → map (open_of names) (handles ++ record { live = true; slot = slot; removals = removals; size = size } ∷ []) ≡ map (open_of names) handles ++ opened_file name size (map (event_of names) entries) ∷ []
  given_is slot removals size name is r =
      map-push (open_of names) handles (record { live = true; slot = slot; removals = removals; size = size })
      ∙ ap (λ (o : OpenFile). map (open_of names) handles ++ o ∷ []) (ap (λ n. let x : OpenFile = record { live = true; name = n; removals = removals; size = size } in x) is ∙ ap (λ k. let x : OpenFile = record { live = true; name = name; removals = k; size = size } in x) r)

  noted_is : (slot : ℕ) (deed : Deed) (name : List ℕ) → get_or names slot [] ≡ name
      → map (event_of names) (entries ++ record { slot = slot; deed = deed } ∷ []) ≡ map (event_of names) entries ++ record { name = name; act = act_of deed } ∷ []
  noted_is slot deed name is = events-push names files entries handles cap h slot deed ∙ ap (λ n. map (event_of names) entries ++ record { name = n; act = act_of deed } ∷ []) is

  pub made_is : (slot removals : ℕ) (name : List ℕ) → get_or names slot [] ≡ name → removals ≡ (state_of name (map (event_of names) entries)).removals
      → ◌≡◌ {A = HistoryState} (record { log = map (event_of names) (entries ++ record { slot = slot; deed = Made } ∷ []); open_files = map (open_of names) (handles ++ record { live = true; slot = slot; removals = removals; size = 0 } ∷ []) })
      (given_in (opened_file name 0 (map (event_of names) entries)) (noted_in name Making (record { log = map (event_of names) entries; open_files = map (open_of names) handles })))
  made_is slot removals name is r = same_history _ _ _ _ (noted_is slot Made name is) (given_is slot removals 0 name is r)

  pub opened_is : (slot removals size : ℕ) (name : List ℕ) → get_or names slot [] ≡ name → removals ≡ (state_of name (map (event_of names) entries)).removals
      → ◌≡◌ {A = HistoryState} (record { log = map (event_of names) entries; open_files = map (open_of names) (handles ++ record { live = true; slot = slot; removals = removals; size = size } ∷ []) })
      (given_in (opened_file name size (map (event_of names) entries)) (record { log = map (event_of names) entries; open_files = map (open_of names) handles }))
  opened_is slot removals size name is r = same_history _ _ _ _ refl (given_is slot removals size name is r)

  set_is : (id : ℕ) (x : Handle) (o : OpenFile) → open_of names x ≡ o → map (open_of names) (set handles id x) ≡ set (map (open_of names) handles) id o
  set_is id x o is = map-set_at (open_of names) handles id x ∙ ap (set (map (open_of names) handles) id) is

  pub written_is : (id at : ℕ) (deed : Deed) (piece : List ℕ) (file : OpenFile) (x : Handle) → file ≡ open_of names x → act_of deed ≡ Writing at piece
      → ◌≡◌ {A = HistoryState} (record { log = map (event_of names) (entries ++ record { slot = x.slot; deed = deed } ∷ []); open_files = map (open_of names) (set handles id (record { live = x.live; slot = x.slot; removals = x.removals; size = max x.size (at + length piece) })) })
      (replaced_in id (grown (at + length piece) file) (noted_in file.name (Writing at piece) (record { log = map (event_of names) entries; open_files = map (open_of names) handles })))
  written_is id at deed piece file x is act = same_history _ _ _ _
      (noted_is x.slot deed file.name (sym (ap (λ (o : OpenFile). o.name) is)) ∙ ap (λ a. map (event_of names) entries ++ record { name = file.name; act = a } ∷ []) act)
      (set_is id (record { live = x.live; slot = x.slot; removals = x.removals; size = max x.size (at + length piece) }) (grown (at + length piece) file) (ap (grown (at + length piece)) (sym is)))

  pub ended_is : (id : ℕ) (file : OpenFile) (x : Handle) → file ≡ open_of names x
      → ◌≡◌ {A = HistoryState} (record { log = map (event_of names) entries; open_files = map (open_of names) (set handles id (record { live = false; slot = x.slot; removals = x.removals; size = x.size })) })
      (replaced_in id (ended file) (record { log = map (event_of names) entries; open_files = map (open_of names) handles }))
  ended_is id file x is = same_history _ _ _ _ refl (set_is id (record { live = false; slot = x.slot; removals = x.removals; size = x.size }) (ended file) (ap ended (sym is)))

  pub removed_is : (id : ℕ) (file : OpenFile) (x : Handle) → file ≡ open_of names x
      → ◌≡◌ {A = HistoryState} (record { log = map (event_of names) (entries ++ record { slot = x.slot; deed = Gone } ∷ []); open_files = map (open_of names) (set handles id (record { live = false; slot = x.slot; removals = x.removals; size = x.size })) })
      (replaced_in id (ended file) (noted_in file.name Removing (record { log = map (event_of names) entries; open_files = map (open_of names) handles })))
  removed_is id file x is = same_history _ _ _ _ (noted_is x.slot Gone file.name (sym (ap (λ (o : OpenFile). o.name) is))) (set_is id (record { live = false; slot = x.slot; removals = x.removals; size = x.size }) (ended file) (ap ended (sym is)))

  clean_file : (o : Option File) (c : Cache) → IsCachedFile o c → c.there ≡ true → option_map_or is_clean o true ≡ c.clean
  clean_file None c k t = absurd (false≢true (sym k ∙ t))
  clean_file (Some f) c k t = k.2

  pub clean_name : (slot : ℕ) → slot < length names → (get_or files slot no_file).there ≡ true → is_clean_name (get_or names slot []) (map (event_of names) entries) ≡ (get_or files slot no_file).clean
  clean_name slot within there = clean_file (state_of (get_or names slot []) (map (event_of names) entries)).file (get_or files slot no_file) (kept_at names files entries handles cap h slot within).file there

  pub synced_is : (file : OpenFile) (x : Handle) → file ≡ open_of names x → is_clean_name (get_or names x.slot []) (map (event_of names) entries) ≡ false
      → ◌≡◌ {A = HistoryState} (record { log = map (event_of names) (entries ++ record { slot = x.slot; deed = Synced } ∷ []); open_files = map (open_of names) handles })
      (synced_in file (record { log = map (event_of names) entries; open_files = map (open_of names) handles }))
  synced_is file x is dirty =
      same_history _ _ _ _ (noted_is x.slot Synced file.name (sym (ap (λ (o : OpenFile). o.name) is))) refl
      ∙ sym (cond-false (is_clean_name file.name (map (event_of names) entries)) (record { log = map (event_of names) entries; open_files = map (open_of names) handles }) (noted_in file.name Syncing (record { log = map (event_of names) entries; open_files = map (open_of names) handles }))
      (ap (λ (o : OpenFile). is_clean_name o.name (map (event_of names) entries)) is ∙ dirty))

  pub unsynced_is : (file : OpenFile) (x : Handle) → file ≡ open_of names x → is_clean_name (get_or names x.slot []) (map (event_of names) entries) ≡ true
      → ◌≡◌ {A = HistoryState} (record { log = map (event_of names) entries; open_files = map (open_of names) handles }) (synced_in file (record { log = map (event_of names) entries; open_files = map (open_of names) handles }))
  unsynced_is file x is clean =
      sym (cond-true (is_clean_name file.name (map (event_of names) entries)) (record { log = map (event_of names) entries; open_files = map (open_of names) handles }) (noted_in file.name Syncing (record { log = map (event_of names) entries; open_files = map (open_of names) handles }))
      (ap (λ (o : OpenFile). is_clean_name o.name (map (event_of names) entries)) is ∙ clean))
