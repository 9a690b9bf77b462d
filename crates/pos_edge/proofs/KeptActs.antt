-- What each call on files in memory does to them, and that they stay what their history says.
use Rattle.std.proofs.Common.{ℕ, ◌+◌, ◌≤◌, ◌<◌, ◌≡◌, ◌==◌, max, Bool, true, false, cond, not, ◌&&◌, List, [], ◌∷◌, ◌++◌, length, get_or, set, map, All, Some, None, count_by, sym, ap, ◌∙◌, subst, inl, inr, arith}
use Rattle.std.specs.Prelude.{option_map}
use Rattle.std.proofs.lemmas.Bool.{false≢true, and_parts, le-leb, eqb-true}
use Rattle.std.proofs.lemmas.List.{length_push}
use Rattle.std.proofs.lemmas.List.Sums.{count_by-le-length}
use Rattle.std.proofs.lemmas.List.Elements.{All-push, All-set, All-weaker}
use Rattle.std.proofs.lemmas.Option.{same_Some}
use Rattle.pos_edge.specs.declared.doubles.history.Deed.{Deed}
use Rattle.pos_edge.specs.declared.doubles.history.Deed.TheVariants.{Made, Synced, Gone}
use Rattle.pos_edge.specs.declared.doubles.history.Entry.{Entry}
use Rattle.pos_edge.specs.declared.doubles.history.Handle.{Handle}
use Rattle.pos_edge.specs.Images.{written}
use Rattle.pos_edge.specs.Log.{Act, Making, Writing, Syncing, Removing, Event, NameState, state_of, contents_of, bytes_of, acted}
use Rattle.pos_edge.specs.MemoryDisks.{OpenFile, IsSoundHandle, holds, is_there, CanUse}
use Rattle.pos_edge.specs.Histories.{Cache, no_file, act_of, event_of, open_of, IsCached, Backs, is_live, is_dirty, HoldsTogether, made_file, written_file, synced_file, gone_file}
use Rattle.pos_edge.specs.MemoryLaws.{holds_bytes}
use Rattle.pos_edge.proofs.Events.{acted_removals, state_of-own, state_of-beside}
use Rattle.pos_edge.proofs.ScratchFiles.{cases_name}
use Rattle.pos_edge.proofs.MemoryFrames.{length-written}
use Rattle.pos_edge.proofs.Kept.{map_get, map-push, map-set_at, IsCached-made, IsCached-written, IsCached-synced, IsCached-gone, kept_there, kept_absent, kept_bytes, Backs-act, count-push, count-set}

-- What an act has to keep, for the FileIds of its name: without a removal nothing becomes shorter.
abbrev pub KeepsBytes : Act → NameState → Type 0
KeepsBytes a s = (acted a s).removals ≡ s.removals → (size : ℕ) → holds size (option_map bytes_of s.file) ≡ true → holds size (option_map bytes_of (acted a s).file) ≡ true

sound_act : (n : List ℕ) (log : List Event) (a : Act) (h : OpenFile) → KeepsBytes a (state_of n log) → IsSoundHandle log h → IsSoundHandle (log ++ record { name = n; act = a } ∷ []) h
sound_act n log a h keeps s = elim (cases_name n h.name) [
  | inr other ↦ subst (λ (t : NameState). (h.removals ≤ t.removals) × (h.removals ≡ t.removals → holds h.size (option_map bytes_of t.file) ≡ true)) (sym (state_of-beside h.name log (record { name = n; act = a }) other)) s
  | inl own ↦
      let k : KeepsBytes a (state_of h.name log) = subst (λ m. KeepsBytes a (state_of m log)) own keeps in
      let grow : (state_of h.name log).removals ≤ (acted a (state_of h.name log)).removals = acted_removals a (state_of h.name log) in
      let now : state_of h.name (log ++ record { name = n; act = a } ∷ []) ≡ acted a (state_of h.name log) = subst (λ m. state_of m (log ++ record { name = n; act = a } ∷ []) ≡ acted a (state_of m log)) own (state_of-own n log a) in
      subst (λ (t : NameState). (h.removals ≤ t.removals) × (h.removals ≡ t.removals → holds h.size (option_map bytes_of t.file) ≡ true)) (sym now) (
        let x = s.0 in omega (arith, x, grow),
        λ e. let x = s.0 in
            let same : (acted a (state_of h.name log)).removals ≡ (state_of h.name log).removals = omega (arith, x, grow, e) in
            let same' : h.removals ≡ (state_of h.name log).removals = omega (arith, x, grow, e) in
            k same h.size (s.1 same'),
      )
]

pub keeps-making : (s : NameState) → option_map bytes_of s.file ≡ None → KeepsBytes Making s
keeps-making s none e size held = absurd (false≢true (sym (ap (holds size) none) ∙ held))

pub keeps-writing : (at : ℕ) (piece : List ℕ) (s : NameState) → ((size : ℕ) → holds size (option_map bytes_of s.file) ≡ true → holds size (option_map bytes_of (acted (Writing at piece) s).file) ≡ true) → KeepsBytes (Writing at piece) s
keeps-writing at piece s more e = more

pub keeps-removing : (s : NameState) → KeepsBytes Removing s
keeps-removing s e size held = absurd (omega (arith, e))

abbrev bit : Bool → ℕ
bit b = cond b 1 0

module _ (names : List (List ℕ)) (files : List Cache) (entries : List Entry) (handles : List Handle) (cap : ℕ) (h : HoldsTogether names files entries handles cap) where
  pub events-push : (i : ℕ) (deed : Deed) → map (event_of names) (entries ++ record { slot = i; deed = deed } ∷ []) ≡ map (event_of names) entries ++ record { name = get_or names i []; act = act_of deed } ∷ []
  events-push i deed = map-push (event_of names) entries (record { slot = i; deed = deed })

  pub kept_at : (i : ℕ) → i < length names → IsCached (state_of (get_or names i []) (map (event_of names) entries)) (get_or files i no_file)
  kept_at i hi = h.backs.kept i hi

  -- one act, with the FileIds as they then are
  pub HoldsTogether-act : (i : ℕ) (deed : Deed) (c : Cache) (new_handles : List Handle) (new_cap : ℕ) → i < length names
      → IsCached (acted (act_of deed) (state_of (get_or names i []) (map (event_of names) entries))) c
      → KeepsBytes (act_of deed) (state_of (get_or names i []) (map (event_of names) entries))
      → All (λ handle. handle.slot < length names) new_handles
      → (All (IsSoundHandle (map (event_of names) entries ++ record { name = get_or names i []; act = act_of deed } ∷ [])) (map (open_of names) handles) → All (IsSoundHandle (map (event_of names) entries ++ record { name = get_or names i []; act = act_of deed } ∷ [])) (map (open_of names) new_handles))
      → length entries + 1 + (count_by is_live new_handles + count_by is_dirty (set files i c)) ≤ new_cap
      → HoldsTogether names (set files i c) (entries ++ record { slot = i; deed = deed } ∷ []) new_handles new_cap
  HoldsTogether-act i deed c new_handles new_cap hi kept keeps inside sound room = record {
    backs = subst (λ l. Backs names (set files i c) l) (sym (events-push i deed)) (Backs-act names files (map (event_of names) entries) i (act_of deed) c h.backs hi kept);
    entries_in = All-push (λ entry. entry.slot < length names) entries (record { slot = i; deed = deed }) h.entries_in hi;
    handles_in = inside;
    sound = subst (λ l. All (IsSoundHandle l) (map (open_of names) new_handles)) (sym (events-push i deed))
        (sound (All-weaker (IsSoundHandle (map (event_of names) entries)) (IsSoundHandle (map (event_of names) entries ++ record { name = get_or names i []; act = act_of deed } ∷ [])) (λ o s. sound_act (get_or names i []) (map (event_of names) entries) (act_of deed) o keeps s) (map (open_of names) handles) h.sound));
    room = omega (arith, length_push entries (record { slot = i; deed = deed }), room);
  }

  -- other FileIds, and no event
  pub HoldsTogether-handles : (new_handles : List Handle) (new_cap : ℕ) → All (λ handle. handle.slot < length names) new_handles → All (IsSoundHandle (map (event_of names) entries)) (map (open_of names) new_handles)
      → length entries + (count_by is_live new_handles + count_by is_dirty files) ≤ new_cap → HoldsTogether names files entries new_handles new_cap
  HoldsTogether-handles new_handles new_cap inside sound room = record { backs = h.backs; entries_in = h.entries_in; handles_in = inside; sound = sound; room = room }

  pub HoldsTogether-room : (new_cap : ℕ) → cap ≤ new_cap → HoldsTogether names files entries handles new_cap
  HoldsTogether-room new_cap more = HoldsTogether-handles handles new_cap h.handles_in h.sound (let r = h.room in omega arith)

  counts : (count_by is_live handles ≤ length handles) × (count_by is_dirty files ≤ length files)
  counts = (count_by-le-length is_live handles, count_by-le-length is_dirty files)

  push_sound : (l : List Event) (new : Handle) → IsSoundHandle l (open_of names new) → All (IsSoundHandle l) (map (open_of names) handles) → All (IsSoundHandle l) (map (open_of names) (handles ++ new ∷ []))
  push_sound l new s all = subst (All (IsSoundHandle l)) (sym (map-push (open_of names) handles new)) (All-push (IsSoundHandle l) (map (open_of names) handles) (open_of names new) all s)

  set_sound : (l : List Event) (k : ℕ) (new : Handle) → IsSoundHandle l (open_of names new) → All (IsSoundHandle l) (map (open_of names) handles) → All (IsSoundHandle l) (map (open_of names) (set handles k new))
  set_sound l k new s all = subst (All (IsSoundHandle l)) (sym (map-set_at (open_of names) handles k new)) (All-set (IsSoundHandle l) (map (open_of names) handles) k (open_of names new) s all)

  dirty-before : (i : ℕ) (c : Cache) → i < length names → count_by is_dirty (set files i c) + cond (is_dirty (get_or files i no_file)) 1 0 ≡ count_by is_dirty files + cond (is_dirty c) 1 0
  dirty-before i c hi = count-set is_dirty files i c no_file (omega (arith, h.backs.beside))

  one_or_none : (b : Bool) → cond b 1 0 ≤ 1
  one_or_none true = omega arith
  one_or_none false = omega arith

  -- a file is made, and a FileId given for it
  pub HoldsTogether-make : (i : ℕ) (new_cap : ℕ) → i < length names → (get_or files i no_file).there ≡ false → length entries + (length files + length handles + 3) ≤ new_cap
      → HoldsTogether names (set files i (made_file (get_or files i no_file))) (entries ++ record { slot = i; deed = Made } ∷ []) (handles ++ record { live = true; slot = i; removals = (get_or files i no_file).removals; size = 0 } ∷ []) new_cap
  HoldsTogether-make i new_cap hi absent room =
      let st = state_of (get_or names i []) (map (event_of names) entries) in
      let c = get_or files i no_file in
      let new : Handle = record { live = true; slot = i; removals = c.removals; size = 0 } in
      let now = state_of-own (get_or names i []) (map (event_of names) entries) Making in
      let d = dirty-before i (made_file c) hi in
      let o = one_or_none (is_dirty c) in
      HoldsTogether-act i Made (made_file c) (handles ++ new ∷ []) new_cap hi (IsCached-made st c (kept_at i hi)) (keeps-making st (kept_absent st c (kept_at i hi) absent))
      (All-push (λ handle. handle.slot < length names) handles new h.handles_in hi)
      (push_sound (map (event_of names) entries ++ record { name = get_or names i []; act = Making } ∷ []) new
      (omega (arith, ap (λ (s : NameState). s.removals) now, (kept_at i hi).removals), λ e. ap (λ (s : NameState). holds 0 (option_map bytes_of s.file)) now))
      (omega (arith, counts.0, counts.1, count-push is_live handles new, d, room))

  -- a FileId is given for a file that is there
  pub HoldsTogether-open : (i : ℕ) (new_cap : ℕ) → i < length names → (get_or files i no_file).there ≡ true → length entries + (length files + length handles + 3) ≤ new_cap
      → HoldsTogether names files entries (handles ++ record { live = true; slot = i; removals = (get_or files i no_file).removals; size = length (get_or files i no_file).bytes } ∷ []) new_cap
  HoldsTogether-open i new_cap hi there room =
      let st = state_of (get_or names i []) (map (event_of names) entries) in
      let c = get_or files i no_file in
      let new : Handle = record { live = true; slot = i; removals = c.removals; size = length c.bytes } in
      HoldsTogether-handles (handles ++ new ∷ []) new_cap (All-push (λ handle. handle.slot < length names) handles new h.handles_in hi)
      (push_sound (map (event_of names) entries) new (omega (arith, (kept_at i hi).removals), λ e. ap (holds (length c.bytes)) (kept_there st c (kept_at i hi) there) ∙ le-leb (length c.bytes) (length c.bytes) (omega arith)) h.sound)
      (omega (arith, counts.0, counts.1, count-push is_live handles new, room))

  -- what is known where a FileId may be used
  pub record IsUsed (id : ℕ) (file : OpenFile) (handle : Handle) : Type 0 where
    pub id_in : id < length handles
    pub file_is : file ≡ open_of names handle
    pub slot_in : handle.slot < length names
    pub live : handle.live ≡ true
    pub there : (get_or files handle.slot no_file).there ≡ true
    pub size : handle.size ≤ length (get_or files handle.slot no_file).bytes
    pub contents : contents_of (get_or names handle.slot []) (map (event_of names) entries) ≡ Some (get_or files handle.slot no_file).bytes
    pub removals : (state_of (get_or names handle.slot []) (map (event_of names) entries)).removals ≡ handle.removals

  pub used : (id : ℕ) (file : OpenFile) (handle : Handle) → CanUse (record { log = map (event_of names) entries; open_files = map (open_of names) handles }) id file → handle ≡ get_or handles id handle → IsUsed id file handle
  used id file handle can read =
      let m = map_get (open_of names) handles id handle file can.at read in
      let slot : handle.slot < length names = subst (λ (x : Handle). x.slot < length names) (sym read) (h.handles_in id handle m.0) in
      let t : is_there (open_of names handle) (map (event_of names) entries) ≡ true = subst (λ o. is_there o (map (event_of names) entries) ≡ true) m.1 can.there in
      let p = and_parts (handle.live && ((state_of (get_or names handle.slot []) (map (event_of names) entries)).removals == handle.removals)) (holds handle.size (contents_of (get_or names handle.slot []) (map (event_of names) entries))) t in
      let q = and_parts handle.live ((state_of (get_or names handle.slot []) (map (event_of names) entries)).removals == handle.removals) p.0 in
      let b = holds_bytes handle.size (contents_of (get_or names handle.slot []) (map (event_of names) entries)) p.1 in
      let c = kept_bytes (state_of (get_or names handle.slot []) (map (event_of names) entries)) (get_or files handle.slot no_file) b.0 (kept_at handle.slot slot) b.1 in
      record {
        id_in = m.0;
        file_is = m.1;
        slot_in = slot;
        live = q.0;
        there = c.0;
        size = omega (arith, b.2, ap length c.1);
        contents = b.1 ∙ ap (λ x. Some x) (sym c.1);
        removals = eqb-true (state_of (get_or names handle.slot []) (map (event_of names) entries)).removals handle.removals q.1;
      }

  -- a write
  pub HoldsTogether-write : (id at : ℕ) (piece : Deed) (bytes : List ℕ) (file : OpenFile) (handle : Handle) (new_cap : ℕ) → IsUsed id file handle → handle ≡ get_or handles id handle → at ≤ handle.size → act_of piece ≡ Writing at bytes
      → length entries + (length files + length handles + 3) ≤ new_cap
      → HoldsTogether names (set files handle.slot (written_file at bytes (get_or files handle.slot no_file))) (entries ++ record { slot = handle.slot; deed = piece } ∷ [])
      (set handles id (record { live = handle.live; slot = handle.slot; removals = handle.removals; size = max handle.size (at + length bytes) })) new_cap
  HoldsTogether-write id at piece bytes file handle new_cap u read within is room =
      let name = get_or names handle.slot [] in
      let st = state_of name (map (event_of names) entries) in
      let c = get_or files handle.slot no_file in
      let new : Handle = record { live = handle.live; slot = handle.slot; removals = handle.removals; size = max handle.size (at + length bytes) } in
      let d = dirty-before handle.slot (written_file at bytes c) u.slot_in in
      let o = one_or_none (is_dirty (written_file at bytes c)) in
      let live = count-set is_live handles id new handle u.id_in in
      let was : bit (is_live (get_or handles id handle)) ≡ 1 = ap (λ (x : Handle). bit x.live) (sym read) ∙ ap bit u.live in
      let now : bit (is_live new) ≡ 1 = ap bit u.live in
      let l = length-written at bytes c.bytes (let x = u.size in omega arith) in
      let kept : IsCached (acted (Writing at bytes) st) (written_file at bytes c) = IsCached-written at bytes st c u.there (kept_at handle.slot u.slot_in) in
      let after : option_map bytes_of (acted (Writing at bytes) st).file ≡ Some (written at bytes c.bytes) = kept_there (acted (Writing at bytes) st) (written_file at bytes c) kept u.there in
      let longer : (size : ℕ) → holds size (option_map bytes_of st.file) ≡ true → holds size (option_map bytes_of (acted (Writing at bytes) st).file) ≡ true = λ size held.
      let b = holds_bytes size (option_map bytes_of st.file) held in
      let same : b.0 ≡ c.bytes = same_Some b.0 c.bytes (sym b.1 ∙ u.contents) in
      ap (holds size) after ∙ le-leb size (length (written at bytes c.bytes)) (omega (arith, b.2, ap length same, l)) in
      HoldsTogether-act handle.slot piece (written_file at bytes c) (set handles id new) new_cap u.slot_in
      (subst (λ a. IsCached (acted a st) (written_file at bytes c)) (sym is) kept)
      (subst (λ a. KeepsBytes a st) (sym is) (keeps-writing at bytes st longer))
      (All-set (λ x. x.slot < length names) handles id new u.slot_in h.handles_in)
      (subst (λ a. All (IsSoundHandle (map (event_of names) entries ++ record { name = name; act = a } ∷ [])) (map (open_of names) handles) → All (IsSoundHandle (map (event_of names) entries ++ record { name = name; act = a } ∷ [])) (map (open_of names) (set handles id new))) (sym is)
      (set_sound (map (event_of names) entries ++ record { name = name; act = Writing at bytes } ∷ []) id new (
        let now' = ap (λ (s : NameState). s.removals) (state_of-own name (map (event_of names) entries) (Writing at bytes)) in omega (arith, now', u.removals),
        λ e. ap (λ (s : NameState). holds (max handle.size (at + length bytes)) (option_map bytes_of s.file)) (state_of-own name (map (event_of names) entries) (Writing at bytes))
            ∙ (ap (holds (max handle.size (at + length bytes))) after ∙ le-leb (max handle.size (at + length bytes)) (length (written at bytes c.bytes)) (omega (arith, l, u.size))),
      )))
      (omega (arith, counts.0, counts.1, live, was, now, d, o, room))

  -- a sync of a file that needs one takes the room that was made for it
  pub HoldsTogether-sync : (id : ℕ) (file : OpenFile) (handle : Handle) → IsUsed id file handle → (get_or files handle.slot no_file).clean ≡ false
      → (length entries < cap) × HoldsTogether names (set files handle.slot (synced_file (get_or files handle.slot no_file))) (entries ++ record { slot = handle.slot; deed = Synced } ∷ []) handles cap
  HoldsTogether-sync id file handle u dirty =
      let name = get_or names handle.slot [] in
      let st = state_of name (map (event_of names) entries) in
      let c = get_or files handle.slot no_file in
      let d = dirty-before handle.slot (synced_file c) u.slot_in in
      let was : bit (is_dirty c) ≡ 1 = ap (λ b. bit (b && not c.clean)) u.there ∙ ap (λ b. bit (true && not b)) dirty in
      let now : bit (is_dirty (synced_file c)) ≡ 0 = ap (λ b. bit (b && false)) u.there in
      let kept : IsCached (acted Syncing st) (synced_file c) = IsCached-synced st c u.there (kept_at handle.slot u.slot_in) in
      let after : option_map bytes_of (acted Syncing st).file ≡ Some c.bytes = kept_there (acted Syncing st) (synced_file c) kept u.there in (
        omega (arith, h.room, d, was, now),
        HoldsTogether-act handle.slot Synced (synced_file c) handles cap u.slot_in kept (λ e size held. ap (holds size) (after ∙ sym u.contents) ∙ held) h.handles_in (λ s. s) (omega (arith, h.room, d, was, now)),
      )

  -- the end of a FileId
  pub HoldsTogether-end : (id : ℕ) (file : OpenFile) (handle : Handle) → IsUsed id file handle → handle ≡ get_or handles id handle
      → HoldsTogether names files entries (set handles id (record { live = false; slot = handle.slot; removals = handle.removals; size = handle.size })) cap
  HoldsTogether-end id file handle u read =
      let new : Handle = record { live = false; slot = handle.slot; removals = handle.removals; size = handle.size } in
      let live = count-set is_live handles id new handle u.id_in in
      HoldsTogether-handles (set handles id new) cap (All-set (λ x. x.slot < length names) handles id new u.slot_in h.handles_in)
      (set_sound (map (event_of names) entries) id new (omega (arith, u.removals), λ e. ap (holds handle.size) u.contents ∙ le-leb handle.size (length (get_or files handle.slot no_file).bytes) u.size) h.sound)
      (omega (arith, live, h.room))

  -- a removal takes the room that was made for it
  pub HoldsTogether-remove : (id : ℕ) (file : OpenFile) (handle : Handle) → IsUsed id file handle → handle ≡ get_or handles id handle
      → (length entries < cap) × HoldsTogether names (set files handle.slot (gone_file (get_or files handle.slot no_file))) (entries ++ record { slot = handle.slot; deed = Gone } ∷ []) (set handles id (record { live = false; slot = handle.slot; removals = handle.removals; size = handle.size })) cap
  HoldsTogether-remove id file handle u read =
      let name = get_or names handle.slot [] in
      let st = state_of name (map (event_of names) entries) in
      let c = get_or files handle.slot no_file in
      let new : Handle = record { live = false; slot = handle.slot; removals = handle.removals; size = handle.size } in
      let live = count-set is_live handles id new handle u.id_in in
      let was : bit (is_live (get_or handles id handle)) ≡ 1 = ap (λ (x : Handle). bit x.live) (sym read) ∙ ap bit u.live in
      let d = dirty-before handle.slot (gone_file c) u.slot_in in (
        omega (arith, h.room, live, was),
        HoldsTogether-act handle.slot Gone (gone_file c) (set handles id new) cap u.slot_in (IsCached-gone st c (kept_at handle.slot u.slot_in)) (keeps-removing st)
            (All-set (λ x. x.slot < length names) handles id new u.slot_in h.handles_in)
            (set_sound (map (event_of names) entries ++ record { name = name; act = Removing } ∷ []) id new (
              let now' = ap (λ (s : NameState). s.removals) (state_of-own name (map (event_of names) entries) Removing) in omega (arith, now', u.removals),
              λ e. let now' = ap (λ (s : NameState). s.removals) (state_of-own name (map (event_of names) entries) Removing) in absurd (omega (arith, now', u.removals, e)),
            ))
            (omega (arith, h.room, live, was, d)),
      )
