-- Work that only reads, and the tables through it.
use Rattle.std.proofs.Common.{◌≡◌, ℕ, suc, ◌+◌, ◌<◌, Bool, true, false, List, [], ◌∷◌, ◌++◌, length, map, get_or, Result, Ok, Err, refl, sym, ap, ◌∙◌, subst, inl, inr, arith}
use Rattle.std.specs.Prelude.{IsErrOf}
use Rattle.std.proofs.lemmas.Bool.{cases_lt}
use Rattle.std.proofs.lemmas.List.{get_or_default, map-append}
use Rattle.std.proofs.Math.ListN.{get_or-append}
use Rattle.std.proofs.Math.Seq.{get_or-append_seam}
use Rattle.std.proofs.Common.{length-append}
use Rattle.pos_edge.specs.declared.scratch.ScratchDamage.{ScratchDamage}
use Rattle.pos_edge.specs.declared.scratch.WorkFault.{WorkFault}
use Rattle.pos_edge.specs.declared.scratch.WorkFault.TheVariants.{DiskFailed, Exists, Memory, Scratch}
use Rattle.pos_edge.specs.View.{View}
use Rattle.pos_edge.specs.Faults.{Rose}
use Rattle.pos_edge.specs.Frame.{ReadsOnly, SameFaults, Nothing}
use Rattle.pos_edge.proofs.FaultLemmas.{Rose-since, faults_then}
use Rattle.pos_edge.proofs.Frames.{frame_none, frame_then}
use Rattle.pos_lists.specs.Numbering.{AreGathered}
use Rattle.pos_lists.proofs.NumberingLemmas.{a_place_is_gathered, a_place_is_passed_over}
use Rattle.pos_marks.proofs.MarkLemmas.{marked_reads}
use Rattle.pos_runs.specs.Runs.{SameTables, TablesState}
use Rattle.pos_relocate.specs.declared.chosen.Chosen.{Chosen}
use Rattle.pos_relocate.specs.declared.chosen.Chosen.TheVariants.{Each, Those}
use Rattle.pos_relocate.specs.Passes.{AreListed, IsOutOfRange}
use Rattle.pos_relocate.specs.Choosing.{Chooses}
use Rattle.pos_relocate.specs.Gathering.{CanPoint, IsPointing}
use Rattle.pos_relocate.proofs.PassLemmas.{ok_no_fault}

-- ---- reads one after another

pub reads_none : (v : View) → ReadsOnly v v
reads_none v = record { kept = frame_none Nothing Nothing v; ids = record { live = λ f k. refl; name = λ f k. refl } }

pub reads_then : (a b c : View) → ReadsOnly a b → ReadsOnly b c → ReadsOnly a c
reads_then a b c p q = record {
  kept = frame_then Nothing Nothing Nothing Nothing Nothing Nothing a b c (λ n x. x) (λ n x. x) (λ f l x. x) (λ f l x. x) p.kept q.kept;
  ids = record { live = λ f k. q.ids.live f k ∙ p.ids.live f k; name = λ f k. q.ids.name f k ∙ p.ids.name f k };
}

-- more of it after work that went well
pub gathering_then : {X : Type 0} (r : Result X WorkFault) (a b c : View) → ReadsOnly a b → SameFaults a b → IsPointing r b c → IsPointing r a c
gathering_then r a b c first same p = record {
  only = reads_then a b c first p.only;
  failed = λ is. Rose-since a.faults b.faults c.faults first.kept.faults (p.failed is);
  quiet = faults_then DiskFailed r a b c same p.quiet;
  makes_none = p.makes_none;
  range = p.range;
}

pub gathering_err : (X Y : Type 0) (e : WorkFault) (a b : View) → IsPointing {X = X} (Err e) a b → IsPointing {X = Y} (Err e) a b
gathering_err X Y e a b p = record {
  only = p.only;
  failed = λ is. let same : e ≡ DiskFailed = cc in p.failed (ap (λ f. Err f) same);
  quiet = p.quiet;
  makes_none = λ n is. let same : e ≡ Exists n = cc in p.makes_none n (ap (λ f. Err f) same);
  range = λ d is. let same : e ≡ Scratch d = cc in p.range d (ap (λ f. Err f) same);
}

-- a fault that was passed on
pub gathering_exit : {X Y : Type 0} (r : Result X WorkFault) (y e : WorkFault) (a b : View) → r ≡ Err y → y ≡ e → IsPointing {X = Y} (Err e) a b → IsPointing r a b
gathering_exit {X} {Y} r y e a b is same p = subst (λ (s : Result X WorkFault). IsPointing s a b) (sym (is ∙ ap (λ f. Err f) same)) (gathering_err Y X e a b p)

-- work that went well, whatever its value
pub gathering_done : {X : Type 0} (x : X) (a b : View) → ReadsOnly a b → SameFaults a b → IsPointing (Ok x) a b
gathering_done x a b only same = record {
  only = only;
  failed = λ is. absurd (ok_no_fault x DiskFailed is);
  quiet = same;
  makes_none = λ n is. ok_no_fault x (Exists n) is;
  range = λ d is. absurd (ok_no_fault x (Scratch d) is);
}

-- damage, and want of memory
pub gathering_damage : (X : Type 0) (d : ScratchDamage) (a b : View) → IsOutOfRange d → ReadsOnly a b → SameFaults a b → IsPointing {X = X} (Err (Scratch d)) a b
gathering_damage X d a b out only same = record {
  only = only;
  failed = λ is. absurd (let t : true ≡ true = refl in cc);
  quiet = λ other. same;
  makes_none = λ n is. cc;
  range = λ x is. let one : d ≡ x = cc in subst IsOutOfRange one out;
}

pub gathering_memory : (X : Type 0) (a b : View) → ReadsOnly a b → SameFaults a b → IsPointing {X = X} (Err Memory) a b
gathering_memory X a b only same = record {
  only = only;
  failed = λ is. absurd (let t : true ≡ true = refl in cc);
  quiet = λ other. same;
  makes_none = λ n is. cc;
  range = λ d is. cc;
}

-- the disk failed in a call that only reads
pub gathering_failed : (X : Type 0) (a b : View) → ReadsOnly a b → Rose a.faults b.faults → IsPointing {X = X} (Err DiskFailed) a b
gathering_failed X a b only rose = record {
  only = only;
  failed = λ is. rose;
  quiet = λ other. absurd (other refl);
  makes_none = λ n is. cc;
  range = λ d is. cc;
}

-- want of memory that was passed on
pub gathering_spent : {X : Type 0} (r : Result X WorkFault) (y e : WorkFault) (a b : View) → r ≡ Err y → y ≡ e → e ≡ Memory → ReadsOnly a b → SameFaults a b → IsPointing r a b
gathering_spent {X} r y e a b is same spent only faults =
    subst (λ (s : Result X WorkFault). IsPointing s a b) (sym (is ∙ ap (λ f. Err f) (same ∙ spent))) (gathering_memory X a b only faults)

-- the disk's failure that was passed on
pub gathering_lost : {X : Type 0} (r : Result X WorkFault) (y e : WorkFault) (a b c : View) → r ≡ Err y → y ≡ e → e ≡ DiskFailed → ReadsOnly a b → ReadsOnly b c → Rose b.faults c.faults → IsPointing r a c
gathering_lost {X} r y e a b c is same failed first only rose =
    subst (λ (s : Result X WorkFault). IsPointing s a c) (sym (is ∙ ap (λ f. Err f) (same ∙ failed)))
    (gathering_failed X a c (reads_then a b c first only) (Rose-since a.faults b.faults c.faults first.kept.faults rose))

-- neither is damage
pub spent_no_damage : {X : Type 0} (r : Result X WorkFault) (y e : WorkFault) (d : ScratchDamage) → r ≡ Err y → y ≡ e → e ≡ Memory → IsErrOf r (Scratch d) → ⊥
spent_no_damage r y e d is same spent damaged = cc

pub lost_no_damage : {X : Type 0} (r : Result X WorkFault) (y e : WorkFault) (d : ScratchDamage) → r ≡ Err y → y ≡ e → e ≡ DiskFailed → IsErrOf r (Scratch d) → ⊥
lost_no_damage r y e d is same failed damaged = cc

-- ---- the tables

-- and in the same tables
pub can_same : (k t limit bound : ℕ) (below : List ℕ) (before after : TablesState) (a b : View) → SameTables k before after a b → CanPoint k t limit bound below before a → CanPoint k t limit bound below after b
can_same k t limit bound below before after a b same h = record {
  size = h.size;
  first = h.first;
  last = h.last;
  stands = (h.stands.0, same.stand h.stands.0 h.stands.1);
  below_limit = h.below_limit;
  limited = h.limited;
  exact = h.exact;
}

-- ---- the marks

-- which entries are numbered is the same while other files are read
pub chooses_beside : (c : Chosen) (n : ℕ) (p : ℕ → Bool) (a b : View) → ReadsOnly a b → Chooses c n p a → Chooses c n p b
chooses_beside Each n p a b only h = h
chooses_beside (Those m) n p a b only h = (marked_reads m p a b only h.0, h.1, h.2)

-- ---- entries

-- a list of pairs with one more at the end
module _ (xs : List (ℕ × ℕ)) (y : ℕ × ℕ) where
  grown : length (xs ++ y ∷ []) ≡ suc (length xs)
  grown = let e = length-append xs (y ∷ []) in omega (arith, e)

  at_old : (s : ℕ) (d : ℕ × ℕ) → s < length xs → get_or (xs ++ y ∷ []) s d ≡ get_or xs s d
  at_old s d l = get_or-append xs (y ∷ []) d s l

  at_last : (s : ℕ) (d : ℕ × ℕ) → s ≡ length xs → get_or (xs ++ y ∷ []) s d ≡ y
  at_last s d e = ap (λ n. get_or (xs ++ y ∷ []) n d) e ∙ get_or-append_seam xs y [] d

pub listed_none : (bound : ℕ) → AreListed 0 bound []
listed_none bound = record {
  rise = λ i j d l h. absurd (omega arith);
  below = λ s l. absurd (omega arith);
  small = λ s l. absurd (omega arith);
}

pub listed_passed : (high bound : ℕ) (xs : List (ℕ × ℕ)) → AreListed high bound xs → AreListed (high + 1) bound xs
listed_passed high bound xs h = record {
  rise = h.rise;
  below = λ s l. let b = h.below s l in omega arith;
  small = h.small;
}

pub listed_more : (high bound : ℕ) (xs : List (ℕ × ℕ)) (y : ℕ × ℕ) → y.1 ≡ high → y.0 < bound → AreListed high bound xs → AreListed (high + 1) bound (xs ++ y ∷ [])
listed_more high bound xs y place small h =
    let len = grown xs y in record {
      rise = λ i j d l m. elim (cases_lt j (length xs)) [
        | inl early ↦
            let a = ap (λ (e : ℕ × ℕ). e.1) (at_old xs y i d (omega arith)) in
            let b = ap (λ (e : ℕ × ℕ). e.1) (at_old xs y j d early) in
            let o = h.rise i j d l early in
            omega arith
        | inr late ↦
            let a = ap (λ (e : ℕ × ℕ). e.1) (at_old xs y i d (omega arith)) in
            let b = ap (λ (e : ℕ × ℕ). e.1) (at_last xs y j d (omega arith)) in
            let c = ap (λ (e : ℕ × ℕ). e.1) (get_or_default xs i d (0, 0) (omega arith)) in
            let o = h.below i (omega arith) in
            omega arith
      ];
      below = λ s l. elim (cases_lt s (length xs)) [
        | inl early ↦ let a = ap (λ (e : ℕ × ℕ). e.1) (at_old xs y s (0, 0) early) in let b = h.below s early in omega arith
        | inr late ↦ let a = ap (λ (e : ℕ × ℕ). e.1) (at_last xs y s (0, 0) (omega arith)) in omega arith
      ];
      small = λ s l. elim (cases_lt s (length xs)) [
        | inl early ↦ let a = ap (λ (e : ℕ × ℕ). e.0) (at_old xs y s (0, 0) early) in let b = h.small s early in omega arith
        | inr late ↦ let a = ap (λ (e : ℕ × ℕ). e.0) (at_last xs y s (0, 0) (omega arith)) in omega arith
      ];
    }

pub gathered_passed : (p : ℕ → Bool) (point : ℕ → ℕ) (i : ℕ) (xs : List (ℕ × ℕ)) → p i ≡ false → AreGathered p point i xs → AreGathered p point (i + 1) xs
gathered_passed p point i xs passed h =
    let e : suc i ≡ i + 1 = omega arith in
    subst (λ (n : ℕ). AreGathered p point n xs) e (a_place_is_passed_over p point i xs passed h)

pair_is : (y : ℕ × ℕ) (a b : ℕ) → a ≡ y.0 → b ≡ y.1 → (a, b) ≡ y
pair_is y a b p q = ap (λ (n : ℕ). let z : ℕ × ℕ = (n, b) in z) p ∙ ap (λ (n : ℕ). let z : ℕ × ℕ = (y.0, n) in z) q

pub gathered_more : (p : ℕ → Bool) (point : ℕ → ℕ) (i : ℕ) (xs : List (ℕ × ℕ)) (y : ℕ × ℕ) → p i ≡ true → y.0 ≡ point i → y.1 ≡ i → AreGathered p point i xs → AreGathered p point (i + 1) (xs ++ y ∷ [])
gathered_more p point i xs y chosen is_point is_place h =
    let e : suc i ≡ i + 1 = omega arith in
    let same : (point i, i) ≡ y = pair_is y (point i) i (sym is_point) (sym is_place) in
    subst (λ (n : ℕ). AreGathered p point n (xs ++ y ∷ [])) e (subst (λ (z : ℕ × ℕ). AreGathered p point (suc i) (xs ++ z ∷ [])) same (a_place_is_gathered p point i xs chosen h))

-- the same of a vector that an entry was pushed on
pub listed_pushed : {X : Type 0} (pair : X → ℕ × ℕ) (i bound : ℕ) (olds news : List X) (entry : X) → news ≡ olds ++ entry ∷ [] → (pair entry).1 ≡ i → (pair entry).0 < bound
    → AreListed i bound (map pair olds) → AreListed (i + 1) bound (map pair news)
listed_pushed pair i bound olds news entry is place small h =
    let e : map pair news ≡ map pair olds ++ pair entry ∷ [] = ap (map pair) is ∙ map-append pair olds (entry ∷ []) in
    subst (λ (xs : List (ℕ × ℕ)). AreListed (i + 1) bound xs) (sym e) (listed_more i bound (map pair olds) (pair entry) place small h)

pub gathered_pushed : {X : Type 0} (pair : X → ℕ × ℕ) (p : ℕ → Bool) (point : ℕ → ℕ) (i : ℕ) (olds news : List X) (entry : X) → news ≡ olds ++ entry ∷ [] → p i ≡ true → (pair entry).0 ≡ point i → (pair entry).1 ≡ i
    → AreGathered p point i (map pair olds) → AreGathered p point (i + 1) (map pair news)
gathered_pushed pair p point i olds news entry is chosen is_point place h =
    let e : map pair news ≡ map pair olds ++ pair entry ∷ [] = ap (map pair) is ∙ map-append pair olds (entry ∷ []) in
    subst (λ (xs : List (ℕ × ℕ)). AreGathered p point (i + 1) xs) (sym e) (gathered_more p point i (map pair olds) (pair entry) chosen is_point place h)
