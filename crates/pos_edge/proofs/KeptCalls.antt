-- The same by what the calls are made of: the parts as they were, and as they are.
use Rattle.std.proofs.Common.{ℕ, zero, suc, ◌+◌, ◌≤◌, ◌<◌, ◌≡◌, max, Bool, true, false, List, [], ◌∷◌, ◌++◌, length, get_or, set, map, Some, None, Result, Ok, Err, string_bytes, refl, sym, ap, ◌∙◌, subst, arith}
use Rattle.std.specs.Prelude.{OnErr}
use Rattle.std.specs.declared.string.String.{String}
use Rattle.std.specs.declared.alloc.Global.{Global}
use Rattle.std.proofs.lemmas.List.{length-map, get_or_default, set-get_or}
use Rattle.pos_edge.specs.declared.doubles.history.Deed.{Deed}
use Rattle.pos_edge.specs.declared.doubles.history.Deed.TheVariants.{Made, Synced, Gone}
use Rattle.pos_edge.specs.declared.doubles.history.Entry.{Entry}
use Rattle.pos_edge.specs.declared.doubles.history.Handle.{Handle}
use Rattle.pos_edge.specs.declared.doubles.history.MemoryFile.{MemoryFile}
use Rattle.pos_edge.specs.Log.{Making, Writing, Removing, state_of, contents_of}
use Rattle.pos_edge.specs.MemoryDisks.{OpenFile, HistoryState, CanUse, opened_file, grown, ended, noted_in, given_in, replaced_in, synced_in, is_clean_name}
use Rattle.pos_edge.specs.Histories.{Cache, cache_of, no_file, act_of, event_of, open_of, HoldsTogether, made_file, written_file, synced_file, gone_file, KeepsOrAdds}
use Rattle.pos_edge.proofs.Kept.{map_read, map-set_at, same_history, HoldsTogether-names, removals_le}
use Rattle.pos_edge.proofs.KeptActs.{IsUsed, HoldsTogether-make, HoldsTogether-open, HoldsTogether-room, HoldsTogether-write, HoldsTogether-sync, HoldsTogether-end, HoldsTogether-remove, used}
use Rattle.pos_edge.proofs.KeptResults.{slot_there, slot_absent, no_slot, slot_removals, made_is, opened_is, written_is, ended_is, removed_is, synced_is, unsynced_is, clean_name}

-- the parts, and the history that they stand for
abbrev pub stands_for : List (String Global) → List Entry → List Handle → HistoryState
stands_for names entries handles = record { log = map (event_of (map string_bytes names)) entries; open_files = map (open_of (map string_bytes names)) handles }

abbrev pub HoldsParts : List (String Global) → List MemoryFile → List Entry → List Handle → ℕ → Type 0
HoldsParts names files entries handles cap = HoldsTogether (map string_bytes names) (map cache_of files) entries handles cap

-- equal parts hold as well
pub parts_moved : (names : List (String Global)) (files : List MemoryFile) (entries new_entries : List Entry) (handles new_handles : List Handle) (cap new_cap : ℕ)
    → new_entries ≡ entries → new_handles ≡ handles → cap ≤ new_cap → HoldsParts names files entries handles cap → HoldsParts names files new_entries new_handles new_cap
parts_moved names files entries new_entries handles new_handles cap new_cap e f more h =
    subst (λ x. HoldsParts names files x new_handles new_cap) (sym e) (subst (λ x. HoldsParts names files entries x new_cap) (sym f) (HoldsTogether-room (map string_bytes names) (map cache_of files) entries handles cap h new_cap more))

pub parts_same : (h₀ : HistoryState) (names : List (String Global)) (entries new_entries : List Entry) (handles new_handles : List Handle)
    → new_entries ≡ entries → new_handles ≡ handles → stands_for names entries handles ≡ h₀ → stands_for names new_entries new_handles ≡ h₀
parts_same h₀ names entries new_entries handles new_handles e f is =
    subst (λ x. stands_for names x new_handles ≡ h₀) (sym e) (subst (λ x. stands_for names entries x ≡ h₀) (sym f) is)

-- after the names
pub named_holds : (n : List ℕ) (names₀ names : List (String Global)) (files₀ files : List MemoryFile) (entries : List Entry) (handles : List Handle) (cap : ℕ)
    → KeepsOrAdds n names₀ files₀ names files → HoldsParts names₀ files₀ entries handles cap → HoldsParts names files entries handles cap
named_holds n names₀ names files₀ files entries handles cap kept h = (HoldsTogether-names n names₀ files₀ names files entries handles cap kept h).0

pub named_same : (h₀ : HistoryState) (n : List ℕ) (names₀ names : List (String Global)) (files₀ files : List MemoryFile) (entries : List Entry) (handles : List Handle) (cap : ℕ)
    → KeepsOrAdds n names₀ files₀ names files → HoldsParts names₀ files₀ entries handles cap → stands_for names₀ entries handles ≡ h₀ → stands_for names entries handles ≡ h₀
named_same h₀ n names₀ names files₀ files entries handles cap kept h is =
    let k = HoldsTogether-names n names₀ files₀ names files entries handles cap kept h in same_history _ _ _ _ k.1 k.2 ∙ is

-- Parts that hold and stand for a history, with a file that was read at a place.
module _ (h₀ : HistoryState) (names : List (String Global)) (files : List MemoryFile) (entries : List Entry) (handles : List Handle) (cap : ℕ)
    (h : HoldsParts names files entries handles cap) (is : stands_for names entries handles ≡ h₀) where
  pub files_in : (slot : ℕ) → slot < length names → slot < length files
  files_in slot within = omega (arith, h.backs.beside, length-map files cache_of, length-map names string_bytes)

  pub cache_at : (slot : ℕ) (file : MemoryFile) → slot < length names → file ≡ get_or files slot file → get_or (map cache_of files) slot no_file ≡ cache_of file
  cache_at slot file within read = map_read cache_of files slot file no_file (files_in slot within) read

  pub slot_in : (slot : ℕ) → slot < length names → slot < length (map string_bytes names)
  slot_in slot within = omega (arith, length-map names string_bytes)

  pub found_there : (slot : ℕ) (n : List ℕ) (file : MemoryFile) → slot < length names → get_or (map string_bytes names) slot [] ≡ n → file ≡ get_or files slot file → file.there ≡ true → contents_of n h₀.log ≡ Some file.bytes.items
  found_there slot n file within named read there = subst (λ (x : HistoryState). contents_of n x.log ≡ Some file.bytes.items) is
      (slot_there (map string_bytes names) (map cache_of files) entries handles cap h slot n (cache_of file) (slot_in slot within) named (cache_at slot file within read) there)

  pub found_absent : (slot : ℕ) (n : List ℕ) (file : MemoryFile) → slot < length names → get_or (map string_bytes names) slot [] ≡ n → file ≡ get_or files slot file → file.there ≡ false → contents_of n h₀.log ≡ None
  found_absent slot n file within named read there = subst (λ (x : HistoryState). contents_of n x.log ≡ None) is
      (slot_absent (map string_bytes names) (map cache_of files) entries handles cap h slot n (cache_of file) (slot_in slot within) named (cache_at slot file within read) there)

  pub not_found : (n : List ℕ) → ((i : ℕ) → i < length names → get_or (map string_bytes names) i [] ≡ n → ⊥) → contents_of n h₀.log ≡ None
  not_found n new = subst (λ (x : HistoryState). contents_of n x.log ≡ None) is
      (no_slot (map string_bytes names) (map cache_of files) entries handles cap h n (λ i hi. new i (omega (arith, hi, length-map names string_bytes))))

  removals_at : (slot : ℕ) (n : List ℕ) (file : MemoryFile) → slot < length names → get_or (map string_bytes names) slot [] ≡ n → file ≡ get_or files slot file → file.removals ≡ (state_of n (map (event_of (map string_bytes names)) entries)).removals
  removals_at slot n file within named read = slot_removals (map string_bytes names) (map cache_of files) entries handles cap h slot n (cache_of file) (slot_in slot within) named (cache_at slot file within read)

  pub removals_small : (slot : ℕ) (file : MemoryFile) → slot < length names → file ≡ get_or files slot file → file.removals ≤ length entries
  removals_small slot file within read =
      let r = removals_at slot (get_or (map string_bytes names) slot []) file within refl read in
      let l = removals_le (get_or (map string_bytes names) slot []) (map (event_of (map string_bytes names)) entries) in
      omega (arith, r, l, length-map entries (event_of (map string_bytes names)))

  pub given_place : length handles ≡ length h₀.open_files
  given_place = sym (length-map handles (open_of (map string_bytes names))) ∙ ap (λ (x : HistoryState). length x.open_files) is

  room_for : (new_cap : ℕ) → length entries + (length files + length handles + 3) ≤ new_cap → length entries + (length (map cache_of files) + length handles + 3) ≤ new_cap
  room_for new_cap room = omega (arith, room, length-map files cache_of)

  -- make
  pub make_holds : (slot : ℕ) (n : List ℕ) (file new : MemoryFile) (new_entries : List Entry) (new_handles : List Handle) (new_cap : ℕ) → slot < length names → file ≡ get_or files slot file → file.there ≡ false
      → cache_of new ≡ made_file (cache_of file) → new_entries ≡ entries ++ record { slot = slot; deed = Made } ∷ [] → new_handles ≡ handles ++ record { live = true; slot = slot; removals = file.removals; size = 0 } ∷ []
      → length entries + (length files + length handles + 3) ≤ new_cap → HoldsParts names (set files slot new) new_entries new_handles new_cap
  make_holds slot n file new new_entries new_handles new_cap within read absent made e f room =
      let at = cache_at slot file within read in
      let there : (get_or (map cache_of files) slot no_file).there ≡ false = ap (λ (x : Cache). x.there) at ∙ absent in
      let m = HoldsTogether-make (map string_bytes names) (map cache_of files) entries handles cap h slot new_cap (slot_in slot within) there (room_for new_cap room) in
      let cache : set (map cache_of files) slot (made_file (get_or (map cache_of files) slot no_file)) ≡ map cache_of (set files slot new) = ap (λ x. set (map cache_of files) slot (made_file x)) at ∙ (ap (set (map cache_of files) slot) (sym made) ∙ sym (map-set_at cache_of files slot new)) in
      subst (λ x. HoldsTogether (map string_bytes names) x new_entries new_handles new_cap) cache
      (subst (λ x. HoldsTogether (map string_bytes names) (set (map cache_of files) slot (made_file (get_or (map cache_of files) slot no_file))) x new_handles new_cap) (sym e)
      (subst (λ x. HoldsTogether (map string_bytes names) (set (map cache_of files) slot (made_file (get_or (map cache_of files) slot no_file))) (entries ++ record { slot = slot; deed = Made } ∷ []) x new_cap)
      (ap (λ (c : Cache). handles ++ record { live = true; slot = slot; removals = c.removals; size = 0 } ∷ []) at ∙ sym f) m))

  pub make_same : (slot : ℕ) (n : List ℕ) (file : MemoryFile) (new_entries : List Entry) (new_handles : List Handle) → slot < length names → get_or (map string_bytes names) slot [] ≡ n → file ≡ get_or files slot file
      → new_entries ≡ entries ++ record { slot = slot; deed = Made } ∷ [] → new_handles ≡ handles ++ record { live = true; slot = slot; removals = file.removals; size = 0 } ∷ []
      → stands_for names new_entries new_handles ≡ given_in (opened_file n 0 h₀.log) (noted_in n Making h₀)
  make_same slot n file new_entries new_handles within named read e f =
      parts_same (given_in (opened_file n 0 h₀.log) (noted_in n Making h₀)) names (entries ++ record { slot = slot; deed = Made } ∷ []) new_entries (handles ++ record { live = true; slot = slot; removals = file.removals; size = 0 } ∷ []) new_handles e f
      (made_is (map string_bytes names) (map cache_of files) entries handles cap h slot file.removals n named (removals_at slot n file within named read)
      ∙ ap (λ (x : HistoryState). given_in (opened_file n 0 x.log) (noted_in n Making x)) is)

  -- open
  pub open_holds : (slot : ℕ) (file : MemoryFile) (new_entries : List Entry) (new_handles : List Handle) (new_cap : ℕ) → slot < length names → file ≡ get_or files slot file → file.there ≡ true
      → new_entries ≡ entries → new_handles ≡ handles ++ record { live = true; slot = slot; removals = file.removals; size = length file.bytes.items } ∷ []
      → length entries + (length files + length handles + 3) ≤ new_cap → HoldsParts names files new_entries new_handles new_cap
  open_holds slot file new_entries new_handles new_cap within read is_there e f room =
      let at = cache_at slot file within read in
      let there : (get_or (map cache_of files) slot no_file).there ≡ true = ap (λ (x : Cache). x.there) at ∙ is_there in
      let m = HoldsTogether-open (map string_bytes names) (map cache_of files) entries handles cap h slot new_cap (slot_in slot within) there (room_for new_cap room) in
      subst (λ x. HoldsParts names files x new_handles new_cap) (sym e)
      (subst (λ x. HoldsParts names files entries x new_cap) (ap (λ (c : Cache). handles ++ record { live = true; slot = slot; removals = c.removals; size = length c.bytes } ∷ []) at ∙ sym f) m)

  pub open_same : (slot : ℕ) (n : List ℕ) (file : MemoryFile) (new_entries : List Entry) (new_handles : List Handle) → slot < length names → get_or (map string_bytes names) slot [] ≡ n → file ≡ get_or files slot file
      → new_entries ≡ entries → new_handles ≡ handles ++ record { live = true; slot = slot; removals = file.removals; size = length file.bytes.items } ∷ []
      → stands_for names new_entries new_handles ≡ given_in (opened_file n (length file.bytes.items) h₀.log) h₀
  open_same slot n file new_entries new_handles within named read e f =
      parts_same (given_in (opened_file n (length file.bytes.items) h₀.log) h₀) names entries new_entries (handles ++ record { live = true; slot = slot; removals = file.removals; size = length file.bytes.items } ∷ []) new_handles e f
      (opened_is (map string_bytes names) (map cache_of files) entries handles cap h slot file.removals (length file.bytes.items) n named (removals_at slot n file within named read)
      ∙ ap (λ (x : HistoryState). given_in (opened_file n (length file.bytes.items) x.log) x) is)

  -- the calls on a FileId
  pub used_at : (id : ℕ) (file : OpenFile) (handle : Handle) → CanUse h₀ id file → handle ≡ get_or handles id handle → IsUsed (map string_bytes names) (map cache_of files) entries handles cap h id file handle
  used_at id file handle can read = used (map string_bytes names) (map cache_of files) entries handles cap h id file handle (subst (λ x. CanUse x id file) (sym is) can) read

  pub file_size : (id : ℕ) (file : OpenFile) (handle : Handle) → IsUsed (map string_bytes names) (map cache_of files) entries handles cap h id file handle → file.size ≡ handle.size
  file_size id file handle u = ap (λ (o : OpenFile). o.size) u.file_is

  pub end_holds : (id : ℕ) (file : OpenFile) (handle : Handle) → IsUsed (map string_bytes names) (map cache_of files) entries handles cap h id file handle → handle ≡ get_or handles id handle → HoldsParts names files entries (set handles id (record { live = false; slot = handle.slot; removals = handle.removals; size = handle.size })) cap
  end_holds id file handle u got = HoldsTogether-end (map string_bytes names) (map cache_of files) entries handles cap h id file handle u got

  pub end_same : (id : ℕ) (file : OpenFile) (handle : Handle) → IsUsed (map string_bytes names) (map cache_of files) entries handles cap h id file handle → stands_for names entries (set handles id (record { live = false; slot = handle.slot; removals = handle.removals; size = handle.size })) ≡ replaced_in id (ended file) h₀
  end_same id file handle u = ended_is (map string_bytes names) (map cache_of files) entries handles cap h id file handle u.file_is ∙ ap (replaced_in id (ended file)) is

  module _ (id : ℕ) (file : OpenFile) (handle : Handle) (u : IsUsed (map string_bytes names) (map cache_of files) entries handles cap h id file handle) (kept : MemoryFile) (read : kept ≡ get_or files handle.slot kept) where
    slot_named : handle.slot < length names
    slot_named = omega (arith, u.slot_in, length-map names string_bytes)

    pub used_slot : handle.slot < length files
    used_slot = files_in handle.slot slot_named

    at_slot : get_or (map cache_of files) handle.slot no_file ≡ cache_of kept
    at_slot = cache_at handle.slot kept slot_named read

    pub used_size : handle.size ≤ length kept.bytes.items
    used_size = let x = u.size in omega (arith, x, ap (λ (c : Cache). length c.bytes) at_slot)

    pub used_contents : contents_of file.name h₀.log ≡ Some kept.bytes.items
    used_contents = subst (λ (x : HistoryState). contents_of file.name x.log ≡ Some kept.bytes.items) is
        (ap (λ (o : OpenFile). contents_of o.name (map (event_of (map string_bytes names)) entries)) u.file_is ∙ (u.contents ∙ ap (λ (c : Cache). Some c.bytes) at_slot))

    pub used_removals : kept.removals ≤ length entries
    used_removals = removals_small handle.slot kept slot_named read

    files_set : (new : MemoryFile) (c : Cache) → cache_of new ≡ c → set (map cache_of files) handle.slot c ≡ map cache_of (set files handle.slot new)
    files_set new c e = ap (set (map cache_of files) handle.slot) (sym e) ∙ sym (map-set_at cache_of files handle.slot new)

    pub write_holds : (at : ℕ) (deed : Deed) (piece : List ℕ) (new : MemoryFile) (new_entries : List Entry) (new_cap : ℕ) → handle ≡ get_or handles id handle → at ≤ handle.size → act_of deed ≡ Writing at piece
        → cache_of new ≡ written_file at piece (cache_of kept) → new_entries ≡ entries ++ record { slot = handle.slot; deed = deed } ∷ [] → length entries + (length files + length handles + 3) ≤ new_cap
        → HoldsParts names (set files handle.slot new) new_entries (set handles id (record { live = handle.live; slot = handle.slot; removals = handle.removals; size = max handle.size (at + length piece) })) new_cap
    write_holds at deed piece new new_entries new_cap got within act made e room =
        let m = HoldsTogether-write (map string_bytes names) (map cache_of files) entries handles cap h id at deed piece file handle new_cap u got within act (room_for new_cap room) in
        let hs = set handles id (record { live = handle.live; slot = handle.slot; removals = handle.removals; size = max handle.size (at + length piece) }) in
        subst (λ x. HoldsTogether (map string_bytes names) x new_entries hs new_cap) (files_set new (written_file at piece (get_or (map cache_of files) handle.slot no_file)) (made ∙ ap (written_file at piece) (sym at_slot)))
        (subst (λ x. HoldsTogether (map string_bytes names) (set (map cache_of files) handle.slot (written_file at piece (get_or (map cache_of files) handle.slot no_file))) x hs new_cap) (sym e) m)

    pub write_same : (at : ℕ) (deed : Deed) (piece : List ℕ) (new_entries : List Entry) → act_of deed ≡ Writing at piece → new_entries ≡ entries ++ record { slot = handle.slot; deed = deed } ∷ []
        → stands_for names new_entries (set handles id (record { live = handle.live; slot = handle.slot; removals = handle.removals; size = max handle.size (at + length piece) })) ≡ replaced_in id (grown (at + length piece) file) (noted_in file.name (Writing at piece) h₀)
    write_same at deed piece new_entries act e =
        let hs = set handles id (record { live = handle.live; slot = handle.slot; removals = handle.removals; size = max handle.size (at + length piece) }) in
        parts_same (replaced_in id (grown (at + length piece) file) (noted_in file.name (Writing at piece) h₀)) names (entries ++ record { slot = handle.slot; deed = deed } ∷ []) new_entries hs hs e refl
        (written_is (map string_bytes names) (map cache_of files) entries handles cap h id at deed piece file handle u.file_is act ∙ ap (λ (x : HistoryState). replaced_in id (grown (at + length piece) file) (noted_in file.name (Writing at piece) x)) is)

    pub sync_room : kept.clean ≡ false → length entries < cap
    sync_room dirty = (HoldsTogether-sync (map string_bytes names) (map cache_of files) entries handles cap h id file handle u (ap (λ (c : Cache). c.clean) at_slot ∙ dirty)).0

    pub sync_holds : (new : MemoryFile) (new_entries : List Entry) (new_cap : ℕ) → kept.clean ≡ false → cache_of new ≡ synced_file (cache_of kept) → new_entries ≡ entries ++ record { slot = handle.slot; deed = Synced } ∷ [] → cap ≤ new_cap
        → HoldsParts names (set files handle.slot new) new_entries handles new_cap
    sync_holds new new_entries new_cap dirty made e more =
        let m = (HoldsTogether-sync (map string_bytes names) (map cache_of files) entries handles cap h id file handle u (ap (λ (c : Cache). c.clean) at_slot ∙ dirty)).1 in
        parts_moved names (set files handle.slot new) (entries ++ record { slot = handle.slot; deed = Synced } ∷ []) new_entries handles handles cap new_cap e refl more
        (subst (λ x. HoldsTogether (map string_bytes names) x (entries ++ record { slot = handle.slot; deed = Synced } ∷ []) handles cap) (files_set new (synced_file (get_or (map cache_of files) handle.slot no_file)) (made ∙ ap synced_file (sym at_slot))) m)

    clean_is : is_clean_name (get_or (map string_bytes names) handle.slot []) (map (event_of (map string_bytes names)) entries) ≡ kept.clean
    clean_is = clean_name (map string_bytes names) (map cache_of files) entries handles cap h handle.slot u.slot_in u.there ∙ ap (λ (c : Cache). c.clean) at_slot

    pub sync_same : (new_entries : List Entry) → kept.clean ≡ false → new_entries ≡ entries ++ record { slot = handle.slot; deed = Synced } ∷ [] → stands_for names new_entries handles ≡ synced_in file h₀
    sync_same new_entries dirty e = parts_same (synced_in file h₀) names (entries ++ record { slot = handle.slot; deed = Synced } ∷ []) new_entries handles handles e refl
        (synced_is (map string_bytes names) (map cache_of files) entries handles cap h file handle u.file_is (clean_is ∙ dirty) ∙ ap (synced_in file) is)

    pub sync_none : kept.clean ≡ true → h₀ ≡ synced_in file h₀
    sync_none clean = sym is ∙ (unsynced_is (map string_bytes names) (map cache_of files) entries handles cap h file handle u.file_is (clean_is ∙ clean) ∙ ap (synced_in file) is)

    pub remove_room : handle ≡ get_or handles id handle → length entries < cap
    remove_room got = (HoldsTogether-remove (map string_bytes names) (map cache_of files) entries handles cap h id file handle u got).0

    pub remove_holds : (new : MemoryFile) (new_entries : List Entry) (new_cap : ℕ) → handle ≡ get_or handles id handle → cache_of new ≡ gone_file (cache_of kept) → new_entries ≡ entries ++ record { slot = handle.slot; deed = Gone } ∷ [] → cap ≤ new_cap
        → HoldsParts names (set files handle.slot new) new_entries (set handles id (record { live = false; slot = handle.slot; removals = handle.removals; size = handle.size })) new_cap
    remove_holds new new_entries new_cap got made e more =
        let m = (HoldsTogether-remove (map string_bytes names) (map cache_of files) entries handles cap h id file handle u got).1 in
        let hs = set handles id (record { live = false; slot = handle.slot; removals = handle.removals; size = handle.size }) in
        parts_moved names (set files handle.slot new) (entries ++ record { slot = handle.slot; deed = Gone } ∷ []) new_entries hs hs cap new_cap e refl more
        (subst (λ x. HoldsTogether (map string_bytes names) x (entries ++ record { slot = handle.slot; deed = Gone } ∷ []) hs cap) (files_set new (gone_file (get_or (map cache_of files) handle.slot no_file)) (made ∙ ap gone_file (sym at_slot))) m)

    pub remove_same : (new_entries : List Entry) → new_entries ≡ entries ++ record { slot = handle.slot; deed = Gone } ∷ []
        → stands_for names new_entries (set handles id (record { live = false; slot = handle.slot; removals = handle.removals; size = handle.size })) ≡ replaced_in id (ended file) (noted_in file.name Removing h₀)
    remove_same new_entries e =
        let hs = set handles id (record { live = false; slot = handle.slot; removals = handle.removals; size = handle.size }) in
        parts_same (replaced_in id (ended file) (noted_in file.name Removing h₀)) names (entries ++ record { slot = handle.slot; deed = Gone } ∷ []) new_entries hs hs e refl
        (removed_is (map string_bytes names) (map cache_of files) entries handles cap h id file handle u.file_is ∙ ap (λ (x : HistoryState). replaced_in id (ended file) (noted_in file.name Removing x)) is)

-- two reads of one element are one
pub same_read : {X : Type 0} (xs : List X) (i : ℕ) (x y : X) → i < length xs → x ≡ get_or xs i x → y ≡ get_or xs i y → x ≡ y
same_read xs i x y h e f = e ∙ (get_or_default xs i x y h ∙ sym f)

-- one more element of a list that was moved
pub pushed_to : {X : Type 0} (new was base : List X) (x y : X) → new ≡ was ++ x ∷ [] → was ≡ base → x ≡ y → new ≡ base ++ y ∷ []
pushed_to new was base x y e f g = cc

pub given_handle : (slot r s size : ℕ) → r ≡ s → ◌≡◌ {A = Handle} (record { live = true; slot = slot; removals = r; size = size }) (record { live = true; slot = slot; removals = s; size = size })
given_handle slot r s size e = ap (λ x. let h : Handle = record { live = true; slot = slot; removals = x; size = size } in h) e

pub opened_handle : (slot r s size len : ℕ) → r ≡ s → size ≡ len → ◌≡◌ {A = Handle} (record { live = true; slot = slot; removals = r; size = size }) (record { live = true; slot = slot; removals = s; size = len })
opened_handle slot r s size len e f = cc

-- what `find` found, in the list that it was given
pub found_in : (given names : List (String Global)) (slot : ℕ) (n : List ℕ) → given ≡ names → (slot < length given) × (get_or (map string_bytes given) slot [] ≡ n) → (slot < length names) × (get_or (map string_bytes names) slot [] ≡ n)
found_in given names slot n e found = subst (λ x. (slot < length x) × (get_or (map string_bytes x) slot [] ≡ n)) e found

-- a file that kept what is seen of it
pub unchanged_holds : (names : List (String Global)) (files : List MemoryFile) (entries : List Entry) (handles : List Handle) (cap : ℕ) → HoldsParts names files entries handles cap → (slot : ℕ) (file new : MemoryFile) (new_entries : List Entry) (new_cap : ℕ)
    → file ≡ get_or files slot file → cache_of new ≡ cache_of file → new_entries ≡ entries → cap ≤ new_cap → HoldsParts names (set files slot new) new_entries handles new_cap
unchanged_holds names files entries handles cap h slot file new new_entries new_cap read made e more =
    let same : map cache_of (set files slot new) ≡ map cache_of files = map-set_at cache_of files slot new ∙ (ap (set (map cache_of files) slot) (made ∙ cache_again files slot file read) ∙ set-get_or (map cache_of files) slot (cache_of file)) in
    subst (λ x. HoldsTogether (map string_bytes names) x new_entries handles new_cap) (sym same) (parts_moved names files entries new_entries handles handles cap new_cap e refl more h) where
      cache_again : (fs : List MemoryFile) (i : ℕ) (f : MemoryFile) → f ≡ get_or fs i f → cache_of f ≡ get_or (map cache_of fs) i (cache_of f)
      cache_again [] i f r = refl
      cache_again (g ∷ fs) zero f r = ap cache_of r
      cache_again (g ∷ fs) (suc i) f r = cache_again fs i f r

-- a handle's size, as it was computed
pub set_size : (names : List (String Global)) (files : List MemoryFile) (entries : List Entry) (handles : List Handle) (cap : ℕ) (id : ℕ) (live : Bool) (slot removals size : ℕ) {m : ℕ} → size ≡ m
    → HoldsParts names files entries (set handles id (record { live = live; slot = slot; removals = removals; size = m })) cap → HoldsParts names files entries (set handles id (record { live = live; slot = slot; removals = removals; size = size })) cap
set_size names files entries handles cap id live slot removals size e h = subst (λ x. HoldsParts names files entries (set handles id (record { live = live; slot = slot; removals = removals; size = x })) cap) (sym e) h

pub set_size_same : (h₀ : HistoryState) (names : List (String Global)) (entries : List Entry) (handles : List Handle) (id : ℕ) (live : Bool) (slot removals size : ℕ) {m : ℕ} → size ≡ m
    → stands_for names entries (set handles id (record { live = live; slot = slot; removals = removals; size = m })) ≡ h₀ → stands_for names entries (set handles id (record { live = live; slot = slot; removals = removals; size = size })) ≡ h₀
set_size_same h₀ names entries handles id live slot removals size e is = subst (λ x. stands_for names entries (set handles id (record { live = live; slot = slot; removals = removals; size = x })) ≡ h₀) (sym e) is

pub on_err : {T E : Type 0} (r : Result T E) (P : Type 0) → P → OnErr r P
on_err (Ok x) P p = tt
on_err (Err e) P p = p
