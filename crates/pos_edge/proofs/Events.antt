-- What a history says of a name, and what one more event does to it.
use Rattle.std.proofs.Common.{ℕ, ◌+◌, ◌≤◌, ◌<◌, ◌≡◌, ◌⊎◌, ◌==◌, zero, suc, Bool, true, false, cond, ◌&&◌, List, [], ◌∷◌, ◌++◌, length, take, set, Option, Some, None, refl, sym, ap, ◌∙◌, subst, inl, inr, arith}
use Rattle.std.specs.Prelude.{slice_get, option_map}
use Rattle.std.specs.Str.{bytes_eq}
use Rattle.std.proofs.lemmas.Bool.{and_left, cases_Bool, cases_eq, cases_order, ne_eqb, eq-eqb, cond-true, cond-false, both_ways}
use Rattle.std.proofs.lemmas.List.{take_all, take-append-le, length_push}
use Rattle.std.proofs.lemmas.List.Sums.{fold_push}
use Rattle.std.proofs.lemmas.Option.{none-some, same_Some, slice_get_within, get_or_from_slice_get}
use Rattle.std.proofs.lemmas.Slice.Eq.{bytes_eq-Decides}
use Rattle.pos_edge.specs.Log.{Act, Making, Writing, Syncing, Removing, Event, File, NameState, state_of, contents_of, bytes_of, acted, happened, never}
use Rattle.pos_edge.specs.MemoryDisks.{DiskState, OpenFile, live_of, holds, is_there, live_name, IsSoundDisk, IsSoundHandle}
use Rattle.pos_edge.proofs.ScratchFiles.{cases_name}

-- an event is seen under its own name alone
pub happened-other : (n : List ℕ) (s : NameState) (e : Event) → (e.name ≡ n → ⊥) → happened n s e ≡ s
happened-other n s e other = elim (cases_Bool (bytes_eq e.name n)) [
  | inl t ↦ absurd (other ((bytes_eq-Decides e.name n).0 t))
  | inr f ↦ cond-false (bytes_eq e.name n) (acted e.act s) s f
]

pub happened-own : (n : List ℕ) (s : NameState) (a : Act) → happened n s (record { name = n; act = a }) ≡ acted a s
happened-own n s a = cond-true (bytes_eq n n) (acted a s) s ((bytes_eq-Decides n n).1 refl)

pub state_of-push : (n : List ℕ) (log : List Event) (e : Event) → state_of n (log ++ e ∷ []) ≡ happened n (state_of n log) e
state_of-push n log e = fold_push (happened n) never log e

pub state_of-beside : (n : List ℕ) (log : List Event) (e : Event) → (e.name ≡ n → ⊥) → state_of n (log ++ e ∷ []) ≡ state_of n log
state_of-beside n log e other = state_of-push n log e ∙ happened-other n (state_of n log) e other

pub state_of-own : (n : List ℕ) (log : List Event) (a : Act) → state_of n (log ++ record { name = n; act = a } ∷ []) ≡ acted a (state_of n log)
state_of-own n log a = state_of-push n log (record { name = n; act = a }) ∙ happened-own n (state_of n log) a

pub acted_removals : (a : Act) (s : NameState) → s.removals ≤ (acted a s).removals
acted_removals Making s = omega arith
acted_removals (Writing at piece) s = omega arith
acted_removals Syncing s = omega arith
acted_removals Removing s = omega arith

-- removals are never taken back
pub removals_grow : (n : List ℕ) (log : List Event) (e : Event) → (state_of n log).removals ≤ (state_of n (log ++ e ∷ [])).removals
removals_grow n log e = elim (cases_name e.name n) [
  | inl own ↦ subst (λ (s : NameState). (state_of n log).removals ≤ s.removals) (sym (state_of-push n log e ∙ cond-true (bytes_eq e.name n) (acted e.act (state_of n log)) (state_of n log) ((bytes_eq-Decides e.name n).1 own))) (acted_removals e.act (state_of n log))
  | inr other ↦ subst (λ (s : NameState). (state_of n log).removals ≤ s.removals) (sym (state_of-beside n log e other)) (omega arith)
]

-- the history up to a moment at or behind its end
pub take_before : (log : List Event) (e : Event) (t : ℕ) → t ≤ length log → take t (log ++ e ∷ []) ≡ take t log
take_before log e t h = take-append-le t log (e ∷ []) h

pub take_end : (log : List Event) (t : ℕ) → length log ≤ t → take t log ≡ log
take_end log t h = take_all t log h

-- at the moments of one event the history is what it was, or has the event
pub take_moments : (log : List Event) (e : Event) (t : ℕ) → length log ≤ t → t ≤ length (log ++ e ∷ []) → (take t (log ++ e ∷ []) ≡ log) ⊎ (take t (log ++ e ∷ []) ≡ log ++ e ∷ [])
take_moments log e t from to = elim (cases_eq t (length log)) [
  | inl now ↦ inl (take_before log e t (omega arith) ∙ take_end log t from)
  | inr later ↦ inr (take_end (log ++ e ∷ []) t (rw length_push (omega arith)))
]

-- a list with one more element, or with another in the place of one
pub slice_get-push_other : {X : Type 0} → (xs : List X) (y : X) (k : ℕ) → (k ≡ length xs → ⊥) → slice_get (xs ++ y ∷ []) k ≡ slice_get xs k
slice_get-push_other [] y zero other = absurd (other refl)
slice_get-push_other [] y (suc k) other = refl
slice_get-push_other (x ∷ xs) y zero other = refl
slice_get-push_other (x ∷ xs) y (suc k) other = slice_get-push_other xs y k (λ e. other (ap suc e))

pub slice_get-push_new : {X : Type 0} → (xs : List X) (y : X) → slice_get (xs ++ y ∷ []) (length xs) ≡ Some y
slice_get-push_new [] y = refl
slice_get-push_new (x ∷ xs) y = slice_get-push_new xs y

pub slice_get-end : {X : Type 0} → (xs : List X) → slice_get xs (length xs) ≡ None
slice_get-end [] = refl
slice_get-end (x ∷ xs) = slice_get-end xs

pub slice_get-set_same : {X : Type 0} → (xs : List X) (k : ℕ) (x y : X) → slice_get xs k ≡ Some x → slice_get (set xs k y) k ≡ Some y
slice_get-set_same [] k x y e = absurd (none-some x e)
slice_get-set_same (z ∷ xs) zero x y e = refl
slice_get-set_same (z ∷ xs) (suc k) x y e = slice_get-set_same xs k x y e

pub slice_get-set_other : {X : Type 0} → (xs : List X) (k j : ℕ) (y : X) → (j ≡ k → ⊥) → slice_get (set xs k y) j ≡ slice_get xs j
slice_get-set_other [] k j y other = refl
slice_get-set_other (z ∷ xs) zero zero y other = absurd (other refl)
slice_get-set_other (z ∷ xs) zero (suc j) y other = refl
slice_get-set_other (z ∷ xs) (suc k) zero y other = refl
slice_get-set_other (z ∷ xs) (suc k) (suc j) y other = slice_get-set_other xs k j y (λ e. other (ap suc e))

-- what is sound of each FileId
pub sound_at : (disk : DiskState) (f : ℕ) (h : OpenFile) → IsSoundDisk disk → slice_get disk.open_files f ≡ Some h → IsSoundHandle disk.log h
sound_at disk f h sound e = subst (IsSoundHandle disk.log) (get_or_from_slice_get disk.open_files f h h e) (sound.files f h (slice_get_within disk.open_files f h e))

-- a FileId whose file was removed since has no name, and no later event gives it one
pub gone_there : (h : OpenFile) (log : List Event) → h.removals < (state_of h.name log).removals → is_there h log ≡ false
gone_there h log less =
    and_left (h.live && ((state_of h.name log).removals == h.removals)) (holds h.size (contents_of h.name log))
    (and_right' h.live ((state_of h.name log).removals == h.removals) (ne_eqb (state_of h.name log).removals h.removals (λ e. omega arith))) where
      and_right' : (x y : Bool) → y ≡ false → (x && y) ≡ false
      and_right' true y e = e
      and_right' false y e = refl

pub there_is : (h : OpenFile) (log : List Event) → h.live ≡ true → (state_of h.name log).removals ≡ h.removals → holds h.size (contents_of h.name log) ≡ true → is_there h log ≡ true
there_is h log live same held = rw (live, eq-eqb (state_of h.name log).removals h.removals same, held) refl

pub not_there : (h : OpenFile) (log : List Event) → IsSoundHandle log h → h.live ≡ true → is_there h log ≡ false → h.removals < (state_of h.name log).removals
not_there h log sound live not = elim (cases_order h.removals (state_of h.name log).removals) [
  | inl same ↦ absurd (both_ways (is_there h log) not (there_is h log live (sym same) (sound.1 same)))
  | inr (inl less) ↦ less
  | inr (inr more) ↦ absurd (let x = sound.0 in omega arith)
]

pub live_name-there : (h : OpenFile) (log : List Event) → is_there h log ≡ true → live_name log (Some h) ≡ Some h.name
live_name-there h log t = cond-true (is_there h log) (Some h.name) None t

pub live_name-gone : (h : OpenFile) (log : List Event) → is_there h log ≡ false → live_name log (Some h) ≡ None
live_name-gone h log t = cond-false (is_there h log) (Some h.name) None t

-- two histories that say the same of a FileId's name say the same of the FileId
pub live_name-same : (h : OpenFile) (log new : List Event) → state_of h.name new ≡ state_of h.name log → live_name new (Some h) ≡ live_name log (Some h)
live_name-same h log new e = ap (λ (s : NameState). cond (h.live && (s.removals == h.removals) && holds h.size (option_map bytes_of s.file)) (Some h.name) None) e

-- a FileId outside of an event's name keeps its file, and one without a file gets none
pub name_kept : (log : List Event) (e : Event) (o : Option OpenFile) → ((h : OpenFile) → o ≡ Some h → IsSoundHandle log h)
    → live_of o ≡ true → (live_name log o ≡ Some e.name → ⊥) → live_name (log ++ e ∷ []) o ≡ live_name log o
name_kept log e None sound live apart = refl
name_kept log e (Some h) sound live apart = elim (cases_name e.name h.name) [
  | inr other ↦ live_name-same h log (log ++ e ∷ []) (state_of-beside h.name log e other)
  | inl own ↦ elim (cases_Bool (is_there h log)) [
    | inl yes' ↦ absurd (apart (live_name-there h log yes' ∙ ap (λ n. Some n) (sym own)))
    | inr no' ↦
        let less = not_there h log (sound h refl) live no' in
        let grow = removals_grow h.name log e in
        live_name-gone h (log ++ e ∷ []) (gone_there h (log ++ e ∷ []) (omega arith)) ∙ sym (live_name-gone h log no')
  ]
]

not_live : (h : OpenFile) (log : List Event) → h.live ≡ false → is_there h log ≡ false
not_live h log dead = and_left (h.live && ((state_of h.name log).removals == h.removals)) (holds h.size (contents_of h.name log)) (and_left h.live ((state_of h.name log).removals == h.removals) dead)

-- the same of any FileId, live or not
pub name_kept_any : (log : List Event) (e : Event) (o : Option OpenFile) → ((h : OpenFile) → o ≡ Some h → IsSoundHandle log h)
    → (live_name log o ≡ Some e.name → ⊥) → live_name (log ++ e ∷ []) o ≡ live_name log o
name_kept_any log e None sound apart = refl
name_kept_any log e (Some h) sound apart = elim (cases_Bool h.live) [
  | inl live ↦ name_kept log e (Some h) sound live apart
  | inr dead ↦ live_name-gone h (log ++ e ∷ []) (not_live h (log ++ e ∷ []) dead) ∙ sym (live_name-gone h log (not_live h log dead))
]

-- a removal leaves each FileId its file, or none
pub name_kept_or_gone : (n : List ℕ) (log : List Event) (o : Option OpenFile) → ((h : OpenFile) → o ≡ Some h → IsSoundHandle log h)
    → (live_name (log ++ record { name = n; act = Removing } ∷ []) o ≡ live_name log o) ⊎ (live_name (log ++ record { name = n; act = Removing } ∷ []) o ≡ None)
name_kept_or_gone n log None sound = inl refl
name_kept_or_gone n log (Some h) sound = elim (cases_name n h.name) [
  | inr other ↦ inl (live_name-same h log (log ++ record { name = n; act = Removing } ∷ []) (state_of-beside h.name log (record { name = n; act = Removing }) other))
  | inl own ↦
      let now : (state_of h.name (log ++ record { name = n; act = Removing } ∷ [])).removals ≡ (state_of h.name log).removals + 1 = ap (λ (s : NameState). s.removals) (subst (λ x. state_of x (log ++ record { name = n; act = Removing } ∷ []) ≡ acted Removing (state_of x log)) own (state_of-own n log Removing)) in
      inr (live_name-gone h (log ++ record { name = n; act = Removing } ∷ []) (gone_there h (log ++ record { name = n; act = Removing } ∷ []) (let x = (sound h refl).0 in omega arith)))
]

-- an event that removes nothing and shortens nothing leaves each FileId its file
pub name_kept_act : (n : List ℕ) (log : List Event) (a : Act) (o : Option OpenFile) → ((h : OpenFile) → o ≡ Some h → IsSoundHandle log h)
    → (acted a (state_of n log)).removals ≡ (state_of n log).removals
    → ((size : ℕ) → holds size (option_map bytes_of (state_of n log).file) ≡ true → holds size (option_map bytes_of (acted a (state_of n log)).file) ≡ true)
    → live_name (log ++ record { name = n; act = a } ∷ []) o ≡ live_name log o
name_kept_act n log a None sound same more = refl
name_kept_act n log a (Some h) sound same more = elim (cases_name n h.name) [
  | inr other ↦ live_name-same h log (log ++ e ∷ []) (state_of-beside h.name log e other)
  | inl own ↦ at_own own (cases_eq h.removals (state_of h.name log).removals)
] where
  e : Event
  e = record { name = n; act = a }

  new : List Event
  new = log ++ record { name = n; act = a } ∷ []

  state_is : (own : n ≡ h.name) → state_of h.name (log ++ record { name = n; act = a } ∷ []) ≡ acted a (state_of h.name log)
  state_is own = subst (λ x. state_of x (log ++ record { name = n; act = a } ∷ []) ≡ acted a (state_of x log)) own (state_of-own n log a)

  same_at : (own : n ≡ h.name) → (acted a (state_of h.name log)).removals ≡ (state_of h.name log).removals
  same_at own = subst (λ x. (acted a (state_of x log)).removals ≡ (state_of x log).removals) own same

  more_at : (own : n ≡ h.name) → (size : ℕ) → holds size (contents_of h.name log) ≡ true → holds size (option_map bytes_of (acted a (state_of h.name log)).file) ≡ true
  more_at own = subst (λ x. (size : ℕ) → holds size (option_map bytes_of (state_of x log).file) ≡ true → holds size (option_map bytes_of (acted a (state_of x log)).file) ≡ true) own more

  removals_is : (own : n ≡ h.name) → (state_of h.name (log ++ record { name = n; act = a } ∷ [])).removals ≡ (state_of h.name log).removals
  removals_is own = ap (λ (s : NameState). s.removals) (state_is own) ∙ same_at own

  at_own : n ≡ h.name → (h.removals ≡ (state_of h.name log).removals) ⊎ (h.removals ≡ (state_of h.name log).removals → ⊥) → live_name (log ++ record { name = n; act = a } ∷ []) (Some h) ≡ live_name log (Some h)
  at_own own (inl current) =
      let held = (sound h refl).1 current in
      let held' : holds h.size (contents_of h.name (log ++ record { name = n; act = a } ∷ [])) ≡ true = ap (λ (s : NameState). holds h.size (option_map bytes_of s.file)) (state_is own) ∙ more_at own h.size held in
      ap (λ b. cond b (Some h.name) None)
      (ap (λ x. h.live && (x == h.removals) && holds h.size (contents_of h.name (log ++ record { name = n; act = a } ∷ []))) (removals_is own)
      ∙ ap (λ x. h.live && ((state_of h.name log).removals == h.removals) && x) (held' ∙ sym held))
  at_own own (inr past) =
      let f : ((state_of h.name log).removals == h.removals) ≡ false = ne_eqb (state_of h.name log).removals h.removals (λ x. past (sym x)) in
      let f' : ((state_of h.name (log ++ record { name = n; act = a } ∷ [])).removals == h.removals) ≡ false = ap (λ x. x == h.removals) (removals_is own) ∙ f in
      live_name-gone h (log ++ record { name = n; act = a } ∷ []) (never_there (log ++ record { name = n; act = a } ∷ []) f') ∙ sym (live_name-gone h log (never_there log f)) where
        and_second : (x y : Bool) → y ≡ false → (x && y) ≡ false
        and_second true y e = e
        and_second false y e = refl

        never_there : (l : List Event) → ((state_of h.name l).removals == h.removals) ≡ false → is_there h l ≡ false
        never_there l x = and_left (h.live && ((state_of h.name l).removals == h.removals)) (holds h.size (contents_of h.name l)) (and_second h.live ((state_of h.name l).removals == h.removals) x)

-- a file that is there, by its contents
pub file_some : (file : Option File) (bytes : List ℕ) → option_map bytes_of file ≡ Some bytes → (f : File) × (file ≡ Some f) × (bytes_of f ≡ bytes)
file_some None bytes e = absurd (none-some bytes e)
file_some (Some f) bytes e = (f, refl, same_Some (bytes_of f) bytes e)

pub file_none : (file : Option File) → option_map bytes_of file ≡ None → file ≡ None
file_none None e = refl
file_none (Some f) e = absurd (none-some (bytes_of f) (sym e))
