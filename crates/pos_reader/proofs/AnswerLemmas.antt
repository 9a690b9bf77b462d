-- Refusals that a call hands on, and what the definitions of reading say by their parts.
use Rattle.std.proofs.Common.{◌≡◌, ℕ, ◌+◌, ◌-◌, ◌*◌, ◌/◌, ◌%◌, ◌^◌, Bool, true, false, List, slice_index, count_by, nat_lt, Result, Ok, Err, IsErrOf, refl, sym, ap, ◌∙◌, subst}
use Rattle.std.proofs.lemmas.Bool.{false≢true}
use Rattle.pos_layout.specs.declared.header.Header.{Header}
use Rattle.pos_layout.specs.declared.entry.ParkEntry.{ParkEntry}
use Rattle.pos_layout.specs.declared.damage.Damage.TheVariants.{Pointer}
use Rattle.pos_layout.specs.Layouts.{full_of}
use Rattle.pos_layout.proofs.LayoutLemmas.{header_layout}
use Rattle.pos_layout.specs.Fields.{count_of, header_in, layout_in}
use Rattle.pos_layout.specs.Lists.{points_inside}
use Rattle.pos_layout.specs.Reading.{tested, then_read, read_entry, read_park, num, head, under}
use Rattle.pos_layout.specs.declared.damage.Damage.{Damage}
use Rattle.pos_reader.specs.declared.refusal.ReadRefusal.{ReadRefusal}
use Rattle.pos_reader.specs.declared.refusal.ReadRefusal.TheVariants.{DiskFailed, Damage as Found}
use Rattle.pos_reader.specs.Answers.{Answers}

-- a refusal answers, where its damage is what was to be answered
pub answers_refused : {X : Type 0} (result : Result X ReadRefusal) (refusal : ReadRefusal) (said : Result X Damage) → result ≡ Err refusal
    → ((d : Damage) → refusal ≡ Found d → said ≡ Err d) → Answers result said
answers_refused (Ok x) refusal said is damaged = cc
answers_refused (Err DiskFailed) refusal said is damaged = tt
answers_refused (Err (Found d)) refusal said is damaged = damaged d cc

pub damage_of : {X : Type 0} (refusal : ReadRefusal) (d : Damage) (said : Result X Damage) → refusal ≡ Found d → Answers (Err refusal) said → said ≡ Err d
damage_of refusal d said is answers = let P : ReadRefusal → Type 0 = λ r. Answers (Err r) said in subst P is answers

-- ---- what the definitions say, by the entry or the numbers of the park

-- the layout of a header is that of its bytes
pub layout_said : (h : Header) (b : List ℕ) → h ≡ header_in b → h.layout ≡ layout_in b
layout_said h b same = ap (λ h. h.layout) same ∙ header_layout b

pub head_found : (b : List ℕ) (park : ℕ) (e : ParkEntry) → read_entry (layout_in b) b 7 park ≡ Ok e → head (layout_in b) b park ≡ Ok e.head
unfolding head
head_found b park e found = rw found refl

pub head_refused : (b : List ℕ) (park : ℕ) (d : Damage) → read_entry (layout_in b) b 7 park ≡ Err d → head (layout_in b) b park ≡ Err d
unfolding head
head_refused b park d refused = rw refused refl

pub num_found : (b ns : List ℕ) (h : Header) (t i park place : ℕ) → h ≡ header_in b → park ≡ i / full_of h.layout → place ≡ i % full_of h.layout
    → read_park (layout_in b) b t park ≡ Ok ns
    → num (layout_in b) b t i ≡ tested (points_inside h.size t (count_of h (t - 1)) (slice_index ns place)) (Pointer t i) (slice_index ns place)
unfolding num
num_found b ns h t i park place same in_park at found =
    let l = layout_said h b same in
    let p : i / full_of (layout_in b) ≡ park = sym (in_park ∙ ap (λ l. i / full_of l) l) in
    let q : i % full_of (layout_in b) ≡ place = sym (at ∙ ap (λ l. i % full_of l) l) in
    rw (p, q, found, same) refl

pub num_refused : (b : List ℕ) (h : Header) (t i park : ℕ) (d : Damage) → h ≡ header_in b → park ≡ i / full_of h.layout → read_park (layout_in b) b t park ≡ Err d
    → num (layout_in b) b t i ≡ Err d
unfolding num
num_refused b h t i park d same in_park refused =
    let p : i / full_of (layout_in b) ≡ park = sym (in_park ∙ ap (λ l. i / full_of l) (layout_said h b same)) in
    rw (p, refused) refl

pub under_found : (b ns : List ℕ) (h : Header) (park f7 : ℕ) → h ≡ header_in b → read_park (layout_in b) b 7 park ≡ Ok ns
    → under (layout_in b) b park f7 ≡ Ok (count_by (λ n. nat_lt n (f7 * 2 ^ (h.size + 1))) ns)
unfolding under
under_found b ns h park f7 same found = rw (found, same) refl

pub under_refused : (b : List ℕ) (park f7 : ℕ) (d : Damage) → read_park (layout_in b) b 7 park ≡ Err d → under (layout_in b) b park f7 ≡ Err d
unfolding under
under_refused b park f7 d refused = rw refused refl

pub tested_true : {X : Type 0} (holds : Bool) (d : Damage) (x : X) → holds ≡ true → tested holds d x ≡ Ok x
tested_true true d x e = refl
tested_true false d x e = absurd (false≢true e)

pub tested_false : {X : Type 0} (holds : Bool) (d : Damage) (x : X) → holds ≡ false → tested holds d x ≡ Err d
tested_false true d x e = absurd (false≢true (sym e))
tested_false false d x e = refl

-- a refusal that is handed on with a damage
pub handed_on : {Y : Type 0} (refusal : ReadRefusal) (d : Damage) (result : Result Y ReadRefusal) → result ≡ Err refusal
    → IsErrOf result (Found d) → refusal ≡ Found d
handed_on refusal d (Ok y) is found = cc
handed_on refusal d (Err e) is found = (let same : e ≡ refusal = cc in let this : e ≡ Found d = cc in cc)

-- ---- what went before an answer that is no damage

pub tested_parts : {X : Type 0} (holds : Bool) (d : Damage) (x y : X) → tested holds d x ≡ Ok y → (holds ≡ true) × (x ≡ y)
tested_parts true d x y e = (refl, (cc))
tested_parts false d x y e = cc

pub then_parts : {X Y : Type 0} (r : Result X Damage) (f : X → Result Y Damage) (y : Y) → then_read r f ≡ Ok y → (x : X) × (r ≡ Ok x) × (f x ≡ Ok y)
then_parts (Ok x) f y e = (x, refl, e)
then_parts (Err d) f y e = cc
