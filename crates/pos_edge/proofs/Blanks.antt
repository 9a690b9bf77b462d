-- The names of a blank disk, by what was read.
use Rattle.std.proofs.Common.{ℕ, ◌<◌, ◌≡◌, max, Bool, true, false, cond, List, [], ◌∷◌, ◌++◌, length, get_or, set, map, Option, Some, None, string_bytes, refl, sym, ap, ◌∙◌, subst, arith}
use Rattle.std.specs.Prelude.{slice_get, option_map, is_some, is_ok, IfNone, IfSome, Ok, Err, IsErrOf, ◌↔◌}
use Rattle.pos_edge.specs.declared.disk.FileId.{FileId}
use Rattle.pos_edge.specs.declared.disk.CreateFault.TheVariants.{Exists, Memory as CreateMemory}
use Rattle.std.proofs.lemmas.List.{length-map, length_push, get_or_push}
use Rattle.std.proofs.lemmas.Bool.{false≢true, true≢false}
use Rattle.std.proofs.lemmas.Option.{none-some, same_Some, slice_get-map, slice_get_read, slice_get_within, slice_get-get_or, get_or_from_slice_get}
use Rattle.pos_edge.specs.declared.doubles.blank_disk.BlankFile.{BlankFile}
use Rattle.pos_edge.specs.declared.doubles.blank_disk.BlankHandle.{BlankHandle}
use Rattle.pos_edge.specs.BlankDisks.{BlankName, BlankState, HasName, HasLength, size_if_live}
use Rattle.pos_edge.specs.BlankFiles.{name_of, blank_names, IsThereAt, change_at}
use Rattle.pos_edge.specs.Quiet.{known_size}
use Rattle.pos_edge.proofs.Kept.{map_get, map-set_at, map-push}
use Rattle.pos_edge.proofs.Events.{slice_get-push_new}

pub read_at_place : (files : List BlankFile) (i : ℕ) (x : BlankFile) → i < length files → x ≡ get_or files i x → slice_get (blank_names files) i ≡ Some (name_of x)
read_at_place files i x h e = slice_get-map name_of files i ∙ ap (option_map name_of) (slice_get_read files (length files) i x refl h e)

pub there_at : (files : List BlankFile) (i : ℕ) (x : BlankFile) (n : List ℕ) → i < length files → x ≡ get_or files i x → x.there ≡ true → string_bytes x.name ≡ n → IsThereAt (blank_names files) i n
there_at files i x n h e there is = (name_of x, read_at_place files i x h e, there, is)

pub not_there_at : (files : List BlankFile) (i : ℕ) (x : BlankFile) (n : List ℕ) → i < length files → x ≡ get_or files i x → (x.there ≡ true → string_bytes x.name ≡ n → ⊥) → IsThereAt (blank_names files) i n → ⊥
not_there_at files i x n h e not t =
    let same : t.0 ≡ name_of x = same_Some t.0 (name_of x) (sym t.1 ∙ read_at_place files i x h e) in
    not (sym (ap (λ (k : BlankName). k.there) same) ∙ t.2) (sym (ap (λ (k : BlankName). k.name) same) ∙ t.3)

pub has_name : (d : BlankState) (i : ℕ) (n : List ℕ) → IsThereAt d.names i n → HasName n d
has_name d i n t = (i, t.0, slice_get_within d.names i t.0 t.1, get_or_from_slice_get d.names i t.0 t.0 t.1, (t.2, t.3))

pub has_length : (d : BlankState) (i : ℕ) (n : List ℕ) (size : ℕ) (t : IsThereAt d.names i n) → t.0.length ≡ size → HasLength n size d
has_length d i n size t e = (i, t.0, slice_get_within d.names i t.0 t.1, get_or_from_slice_get d.names i t.0 t.0 t.1, (t.2, t.3, e))

pub no_name : (files : List BlankFile) (d : BlankState) (n : List ℕ) → blank_names files ≡ d.names → ((i : ℕ) → i < length files → IsThereAt (blank_names files) i n → ⊥) → HasName n d → ⊥
no_name files d n is none h =
    none h.0 (omega (arith, h.2, ap length is, length-map files name_of)) (h.1, subst (λ ns. slice_get ns h.0 ≡ Some h.1) (sym is) (slice_get-get_or d.names h.0 h.1 h.2 ∙ ap (λ x. Some x) h.3), h.4.0, h.4.1)

-- a place that was changed
pub change_is : (f : BlankName → BlankName) (files : List BlankFile) (slot : ℕ) (x y : BlankFile) → slot < length files → x ≡ get_or files slot x → name_of y ≡ f (name_of x)
    → blank_names (set files slot y) ≡ change_at f slot (blank_names files) (slice_get (blank_names files) slot)
change_is f files slot x y h e is =
    map-set_at name_of files slot y ∙ (ap (set (blank_names files) slot) is ∙ sym (ap (change_at f slot (blank_names files)) (read_at_place files slot x h e)))

-- sizes of handles that were changed
pub sizes-set : (handles : List BlankHandle) (id : ℕ) (h : BlankHandle) (o : Option ℕ) → size_if_live h ≡ o → map size_if_live (set handles id h) ≡ set (map size_if_live handles) id o
sizes-set handles id h o e = map-set_at size_if_live handles id h ∙ ap (set (map size_if_live handles) id) e

live_size : (live : Bool) (size known : ℕ) → Some known ≡ cond live (Some size) None → (live ≡ true) × (known ≡ size)
live_size true size known e = (refl, same_Some known size e)
live_size false size known e = absurd (none-some known (sym e))

pub sizes-grow : (handles : List BlankHandle) (id : ℕ) (h : BlankHandle) (known size end : ℕ) → slice_get (map size_if_live handles) id ≡ Some (Some known) → h ≡ get_or handles id h → size ≡ max h.size end
    → map size_if_live (set handles id (record { live = h.live; slot = h.slot; size = size })) ≡ set (map size_if_live handles) id (Some (max known end))
sizes-grow handles id h known size end is read e =
    let m = map_get size_if_live handles id h (Some known) is read in
    let l = live_size h.live h.size known m.1 in
    sizes-set handles id (record { live = h.live; slot = h.slot; size = size }) (Some (max known end))
    (ap (λ b. cond b (Some size) None) l.0 ∙ ap (λ x. Some x) (e ∙ ap (λ x. max x end) (sym l.1)))

pub sizes-push : (handles new : List BlankHandle) (slot size : ℕ) → new ≡ handles ++ record { live = true; slot = slot; size = size } ∷ [] → map size_if_live new ≡ map size_if_live handles ++ Some size ∷ []
sizes-push handles new slot size e = ap (map size_if_live) e ∙ map-push size_if_live handles (record { live = true; slot = slot; size = size })

pub pushed_size : (handles new : List BlankHandle) (slot size : ℕ) → new ≡ handles ++ record { live = true; slot = slot; size = size } ∷ [] → known_size (slice_get (map size_if_live new) (length handles)) ≡ size
pushed_size handles new slot size e =
    ap known_size (ap (λ xs. slice_get xs (length handles)) (sizes-push handles new slot size e)
    ∙ (ap (λ k. slice_get (map size_if_live handles ++ Some size ∷ []) k) (sym (length-map handles size_if_live)) ∙ slice_get-push_new (map size_if_live handles) (Some size)))

pub if_none : {X : Type 0} (o : Option X) (P : Type 0) → false ≡ is_some o → IfNone o P → P
if_none None P e p = p
if_none (Some x) P e p = absurd (false≢true e)

pub if_some : {X : Type 0} (o : Option X) (P : X → Type 0) → true ≡ is_some o → IfSome o P → (x : X) × P x
if_some None P e p = absurd (false≢true (sym e))
if_some (Some x) P e p = (x, p)

-- what `find` found, in the list that it was given
pub found_of : (given files : List BlankFile) (n : List ℕ) (r : Option ℕ) → given ≡ files → true ≡ is_some r → IfSome r (λ i. (i < length given) × IsThereAt (blank_names given) i n) → (i : ℕ) × (i < length files) × IsThereAt (blank_names files) i n
found_of given files n r e some found = subst (λ xs. (i : ℕ) × (i < length xs) × IsThereAt (blank_names xs) i n) e (let f = if_some r (λ i. (i < length given) × IsThereAt (blank_names given) i n) some found in (f.0, f.1.0, f.1.1))

pub none_of : (given files : List BlankFile) (n : List ℕ) (r : Option ℕ) → given ≡ files → false ≡ is_some r → IfNone r ((i : ℕ) → i < length given → IsThereAt (blank_names given) i n → ⊥) → (i : ℕ) → i < length files → IsThereAt (blank_names files) i n → ⊥
none_of given files n r e none found = subst (λ xs. (i : ℕ) → i < length xs → IsThereAt (blank_names xs) i n → ⊥) e (if_none r ((i : ℕ) → i < length given → IsThereAt (blank_names given) i n → ⊥) none found)

pub place_named : (files : List BlankFile) (n name : List ℕ) (new : List BlankName) (d : BlankState) → blank_names files ≡ d.names → new ≡ blank_names files ++ record { name = name; there = true; length = 0 } ∷ [] → name ≡ n
    → (k : ℕ) × (kept : BlankName) × (k < length new) × (get_or new k kept ≡ kept) × ((kept.there ≡ true) × (kept.name ≡ n) × (kept.length ≡ 0))
place_named files n name new d is e same =
    let kept : BlankName = record { name = name; there = true; length = 0 } in
    (length (blank_names files), kept, omega (arith, ap length e, length_push (blank_names files) kept), ap (λ xs. get_or xs (length (blank_names files)) kept) e ∙ get_or_push (blank_names files) kept kept (length (blank_names files)) refl, (refl, same, refl))

pub lengthened : (file : BlankFile) (size end : ℕ) → size ≡ max file.length end
    → ◌≡◌ {A = BlankName} (record { name = string_bytes file.name; there = file.there; length = size }) (record { name = string_bytes file.name; there = file.there; length = max file.length end })
lengthened file size end e = ap (λ n. let k : BlankName = record { name = string_bytes file.name; there = file.there; length = n } in k) e

-- an answer other than Exists, where no file has the name
pub memory_exactly : (n : List ℕ) (d : BlankState) → (HasName n d → ⊥) → IsErrOf {T = FileId} (Err CreateMemory) Exists ↔ HasName n d
memory_exactly n d none = (λ is. absurd (false≢true cc), λ h. absurd (none h))

pub made_exactly : (file : FileId) (n : List ℕ) (d : BlankState) → (HasName n d → ⊥) → IsErrOf (Ok file) Exists ↔ HasName n d
made_exactly file n d none = (λ is. absurd (true≢false (ap is_ok is)), λ h. absurd (none h))
