-- Numbered pairs unpacked one after another, and put behind their points.
use Rattle.std.proofs.Common.{◌≡◌, ◌≢◌, ℕ, zero, suc, ◌+◌, ◌-◌, ◌*◌, ◌^◌, ◌<◌, ◌≤◌, Bool, true, false, List, [], ◌∷◌, ◌++◌, All, Err, Some, length, map, take, get_or, refl, sym, ap, ◌∙◌, subst, inl, inr, arith}
use Rattle.std.specs.Prelude.{slice_get, slice_index}
use Rattle.std.proofs.Math.Pow.{pow_mono}
use Rattle.std.proofs.lemmas.Bool.{cases_eq, cases_lt}
use Rattle.std.proofs.lemmas.Bool.Decides.{nat_tests}
use Rattle.std.proofs.lemmas.List.{append-nil, append_assoc, get_or-map, get_or_default, length-map, map-append, take_more}
use Rattle.std.proofs.lemmas.List.Elements.{All-nil, All-push, All-contains, All-get_or, All-more, Contains-append_cases}
use Rattle.pos_edge.specs.declared.scratch.ScratchDamage.{ScratchDamage}
use Rattle.pos_edge.specs.declared.scratch.WorkFault.{WorkFault}
use Rattle.pos_edge.specs.declared.scratch.WorkFault.TheVariants.{Memory, Scratch}
use Rattle.pos_edge.specs.View.{View}
use Rattle.pos_edge.specs.Frame.{ReadsOnly, SameFaults}
use Rattle.pos_lists.specs.TableLists.{TableLists, entries, pairs_of}
use Rattle.pos_lists.specs.Numbering.{AreGathered}
use Rattle.pos_lists.specs.Rank.{second_in}
use Rattle.pos_points.specs.Points.{line_point, point_of}
use Rattle.pos_points.proofs.PointLemmas.{above_lt, line_point-is, twice}
use Rattle.pos_laws.specs.Renumbering.{point_at}
use Rattle.pos_runs.specs.Runs.{SameTables, TablesState, TablesStand, pages_at}
use Rattle.pos_runs.proofs.TablesLemmas.{same_none, same_then}
use Rattle.pos_relocate.specs.declared.blocks.Unpacked.{Unpacked}
use Rattle.pos_relocate.specs.declared.chosen.Chosen.{Chosen}
use Rattle.pos_relocate.specs.Blocks.{AreApartOver, AreInside, AreOf, CanUnpack, IsPointFault, pointed_of, pointed_over}
use Rattle.pos_relocate.specs.Choosing.{Chooses}
use Rattle.pos_relocate.specs.Gathering.{CanPoint, HavePoints, IsOneNumber, IsOutsideBelow, IsPointing, SomeHasNoPoint}
use Rattle.pos_relocate.specs.Passes.{AreListed}
use Rattle.pos_relocate.proofs.GatheringLemmas.{gathered_more, gathering_damage, gathering_memory, listed_more, reads_none, reads_then}
use Rattle.pos_relocate.proofs.ValuesLemmas.{entries_count}
use Rattle.pos_relocate.proofs.PointingLemmas.{pair_places, pair_point, pair_twice, point_fits, point_small}

-- ---- points

-- the point of two equal numbers, by the form
point_of-equal : (x : ℕ) → point_of x x ≡ line_point x x
unfolding point_of
point_of-equal x = grind (arith, nat_tests)

square_less : (n : ℕ) → 0 < n → n * (n - 1) < n * n
square_less zero some = omega arith
square_less (suc m) some = let f : suc m - 1 ≡ m = omega arith in rw f (omega arith)

-- two equal numbers below a limit
equal_small : (x limit : ℕ) → x < limit → 2 * line_point x x < limit * limit
equal_small x limit below =
    let is = line_point-is x x in
    let up = above_lt x limit below in
    let whole = twice limit in
    let less = square_less limit (omega arith) in
    omega arith

-- the point of any two numbers below a limit
any_small : (x y limit : ℕ) → x < limit → y < limit → 2 * point_of x y < limit * limit
any_small x y limit p q = elim (cases_eq x y) [
  | inl same ↦
      let e : point_of x x ≡ point_of x y = ap (point_of x) same in
      subst (λ (n : ℕ). 2 * n < limit * limit) (sym (point_of-equal x) ∙ e) (equal_small x limit p)
  | inr differ ↦ (point_small x y limit differ p q).1
]

-- numbers of k + 1 bits have points of 2k + 2 bits
pub any_fits : (k x y : ℕ) → x < 2 ^ (k + 1) → y < 2 ^ (k + 1) → point_of x y < 2 ^ (2 * k + 2)
any_fits k x y p q = point_fits k (2 ^ (k + 1)) (point_of x y) (omega arith) (any_small x y (2 ^ (k + 1)) p q)

-- the numbers of a table below have k + 1 bits
pub can_unpack : (k t limit bound : ℕ) (below : List ℕ) (tables : TablesState) (v : View) → CanPoint k t limit bound below tables v → CanUnpack k t below tables v
can_unpack k t limit bound below tables v h = record {
  size = h.size;
  first = h.first;
  last = h.last;
  stands = h.stands;
  small = λ i l. let b = h.below_limit.below i l in let few = h.limited in omega arith;
}

-- a limit of k + 1 bits has 51 at most
pub limit_small : (k limit : ℕ) → k ≤ 50 → limit ≤ 2 ^ (k + 1) → limit ≤ 2 ^ 51
limit_small k limit size few =
    let wide : k + 1 ≤ 51 = omega arith in
    let p : 2 ^ (k + 1) ≤ 2 ^ 51 = pow_mono wide in
    omega arith

-- a place of table t's list is one of its level
pub place_inside : (k t i : ℕ) (tables : TablesState) (ts : TableLists) (v : View) → 2 ≤ t → t ≤ 7 → TablesStand k tables ts v → i < (pages_at tables (t - 1)).count → i < entries ts (t - 1)
place_inside k t i tables ts v first last stands l = let e = entries_count k tables ts v (t - 1) (omega arith) stands in omega arith

-- numbers below a limit of 51 bits have 63
pub small_number : (limit found x : ℕ) → limit ≤ 2 ^ 51 → found ≡ x → x < limit → found < 2 ^ 63
small_number limit found x few is below = omega arith

-- what stands where no pair does
abbrev pub no_pair : Unpacked
no_pair = record { old = 0; left = 0; right = 0 }

-- ---- one pair more

-- the entries of pairs with one more
grown : (below : List ℕ) (xs : List (ℕ × ℕ)) (us news : List Unpacked) (u : Unpacked) → news ≡ us ++ u ∷ [] → xs ++ pointed_of below news ≡ (xs ++ pointed_of below us) ++ pointed_over below u ∷ []
grown below xs us news u is =
    ap (λ (ps : List Unpacked). xs ++ pointed_of below ps) is
    ∙ (ap (λ (ys : List (ℕ × ℕ)). xs ++ ys) (map-append (pointed_over below) us (u ∷ [])) ∙ sym (append_assoc xs (pointed_of below us) (pointed_over below u ∷ [])))

pub inside_unpacked : (count : ℕ) (us news : List Unpacked) (u : Unpacked) → news ≡ us ++ u ∷ [] → u.left < count → u.right < count → AreInside count us → AreInside count news
inside_unpacked count us news u is left right h =
    subst (λ (ps : List Unpacked). AreInside count ps) (sym is) (All-push (λ (pair : Unpacked). (pair.left < count) × (pair.right < count)) us u h (left, right))

pub listed_unpacked : (k i : ℕ) (below : List ℕ) (xs : List (ℕ × ℕ)) (us news : List Unpacked) (u : Unpacked) → news ≡ us ++ u ∷ [] → u.old ≡ i
    → ((j : ℕ) → j < length below → slice_index below j < 2 ^ (k + 1)) → u.left < length below → u.right < length below
    → AreListed i (2 ^ (2 * k + 2)) (xs ++ pointed_of below us) → AreListed (i + 1) (2 ^ (2 * k + 2)) (xs ++ pointed_of below news)
listed_unpacked k i below xs us news u is place small left right h =
    subst (λ (ys : List (ℕ × ℕ)). AreListed (i + 1) (2 ^ (2 * k + 2)) ys) (sym (grown below xs us news u is))
    (listed_more i (2 ^ (2 * k + 2)) (xs ++ pointed_of below us) (pointed_over below u) place (any_fits k (slice_index below u.left) (slice_index below u.right) (small u.left left) (small u.right right)) h)

pub of_unpacked : (ts : TableLists) (t : ℕ) (p : ℕ → Bool) (i : ℕ) (us news : List Unpacked) (u : Unpacked) → news ≡ us ++ u ∷ [] → u.old ≡ i → p i ≡ true → i < entries ts (t - 1)
    → slice_get (pairs_of ts (t - 1)) i ≡ Some (u.left, u.right) → AreOf ts t p us → AreOf ts t p news
of_unpacked ts t p i us news u is place chosen inside got h =
    let one : (p u.old ≡ true) × (u.old < entries ts (t - 1)) × (slice_get (pairs_of ts (t - 1)) u.old ≡ Some (u.left, u.right)) =
    subst (λ (j : ℕ). (p j ≡ true) × (j < entries ts (t - 1)) × (slice_get (pairs_of ts (t - 1)) j ≡ Some (u.left, u.right))) (sym place) (chosen, inside, got) in
    subst (λ (ps : List Unpacked). AreOf ts t p ps) (sym is)
    (All-push (λ (pair : Unpacked). (p pair.old ≡ true) × (pair.old < entries ts (t - 1)) × (slice_get (pairs_of ts (t - 1)) pair.old ≡ Some (pair.left, pair.right))) us u h one)

pub gathered_unpacked : (ts : TableLists) (t : ℕ) (p : ℕ → Bool) (i : ℕ) (below : List ℕ) (xs : List (ℕ × ℕ)) (us news : List Unpacked) (u : Unpacked) → news ≡ us ++ u ∷ [] → u.old ≡ i → p i ≡ true → 2 ≤ t
    → slice_get (pairs_of ts (t - 1)) i ≡ Some (u.left, u.right)
    → AreGathered p (point_at ts (t - 2) (slice_index below)) i (xs ++ pointed_of below us) → AreGathered p (point_at ts (t - 2) (slice_index below)) (i + 1) (xs ++ pointed_of below news)
gathered_unpacked ts t p i below xs us news u is place chosen first got h =
    let point = point_at ts (t - 2) (slice_index below) in
    subst (λ (ys : List (ℕ × ℕ)). AreGathered p point (i + 1) ys) (sym (grown below xs us news u is))
    (gathered_more p point i (xs ++ pointed_of below us) (pointed_over below u) chosen (pair_point ts t i u.left u.right (pointed_over below u).0 below first got refl) place h)

-- ---- the pairs of a block

-- the numbered pairs from one place up to another were unpacked, behind those that were there
pub record UnpackedSoFar (k t from i : ℕ) (below : List ℕ) (first us : List Unpacked) (before after : Chosen) (old now : TablesState) (a b : View) : Type 0 where
  pub can : CanUnpack k t below old a
  pub chooses : (p : ℕ → Bool) × Chooses before (pages_at old (t - 1)).count p a
  pub same : SameTables k old now a b
  pub only : ReadsOnly a b
  pub faults : SameFaults a b
  pub chosen : (n : ℕ) (p : ℕ → Bool) → Chooses before n p a → Chooses after n p b
  pub inside : AreInside (length below) us
  pub listed : (xs : List (ℕ × ℕ)) → AreListed from (2 ^ (2 * k + 2)) (xs ++ pointed_of below first) → AreListed i (2 ^ (2 * k + 2)) (xs ++ pointed_of below us)
  pub found : (ts : TableLists) (p : ℕ → Bool) → TablesStand k old ts a → Chooses before (pages_at old (t - 1)).count p a → a.tells ≡ true
      → AreOf ts t p first → AreOf ts t p us
  pub gathered : (ts : TableLists) (p : ℕ → Bool) (xs : List (ℕ × ℕ)) → TablesStand k old ts a → Chooses before (pages_at old (t - 1)).count p a → a.tells ≡ true
      → AreGathered p (point_at ts (t - 2) (slice_index below)) from (xs ++ pointed_of below first) → AreGathered p (point_at ts (t - 2) (slice_index below)) i (xs ++ pointed_of below us)

pub unpacked_none : (k t from : ℕ) (below : List ℕ) (first : List Unpacked) (c : Chosen) (tables : TablesState) (v : View) → CanUnpack k t below tables v
    → (p : ℕ → Bool) × Chooses c (pages_at tables (t - 1)).count p v → AreInside (length below) first → UnpackedSoFar k t from from below first first c c tables tables v v
unpacked_none k t from below first c tables v can chooses inside = record {
  can = can;
  chooses = chooses;
  same = same_none k tables v;
  only = reads_none v;
  faults = refl;
  chosen = λ n p h. h;
  inside = inside;
  listed = λ xs h. h;
  found = λ ts p stands h told was. was;
  gathered = λ ts p xs stands h told was. was;
}

-- pairs are unpacked as before in the same tables, and while other files are read
pub unpack_same : (k t : ℕ) (below : List ℕ) (before after : TablesState) (a b : View) → SameTables k before after a b → CanUnpack k t below before a → CanUnpack k t below after b
unpack_same k t below before after a b same h = record {
  size = h.size;
  first = h.first;
  last = h.last;
  stands = (h.stands.0, same.stand h.stands.0 h.stands.1);
  small = h.small;
}

-- in what there is of an iteration
module _ (k t from i : ℕ) (below : List ℕ) (first us : List Unpacked) (before after : Chosen) (old now : TablesState) (a b : View)
    (was : UnpackedSoFar k t from i below first us before after old now a b) where
  pub unpack_now : CanUnpack k t below now b
  unpack_now = unpack_same k t below old now a b was.same was.can

  pub still_chooses_of : (p : ℕ → Bool) → Chooses before (pages_at old (t - 1)).count p a → Chooses after (pages_at now (t - 1)).count p b
  still_chooses_of p h = subst (λ (n : ℕ). Chooses after n p b) (sym (was.same.counts (t - 1))) (was.chosen (pages_at old (t - 1)).count p h)

  pub still_chooses : (p : ℕ → Bool) × Chooses after (pages_at now (t - 1)).count p b
  still_chooses = (was.chooses.0, still_chooses_of was.chooses.0 was.chooses.1)

  -- one more was unpacked or passed over
  pub unpacked_next : (news : List Unpacked) (next : Chosen) (new : TablesState) (c : View) → ReadsOnly b c → SameFaults b c → SameTables k now new b c
      → ((n : ℕ) (p : ℕ → Bool) → Chooses after n p b → Chooses next n p c) → AreInside (length below) news
      → ((xs : List (ℕ × ℕ)) → AreListed i (2 ^ (2 * k + 2)) (xs ++ pointed_of below us) → AreListed (i + 1) (2 ^ (2 * k + 2)) (xs ++ pointed_of below news))
      → ((ts : TableLists) (p : ℕ → Bool) → TablesStand k now ts b → Chooses after (pages_at now (t - 1)).count p b → b.tells ≡ true → AreOf ts t p us → AreOf ts t p news)
      → ((ts : TableLists) (p : ℕ → Bool) (xs : List (ℕ × ℕ)) → TablesStand k now ts b → Chooses after (pages_at now (t - 1)).count p b → b.tells ≡ true
      → AreGathered p (point_at ts (t - 2) (slice_index below)) i (xs ++ pointed_of below us) → AreGathered p (point_at ts (t - 2) (slice_index below)) (i + 1) (xs ++ pointed_of below news))
      → UnpackedSoFar k t from (i + 1) below first news before next old new a c
  unpacked_next news next new c only faults same chosen inside listed found gathered = record {
    can = was.can;
    chooses = was.chooses;
    same = same_then k old now new a b c was.same same;
    only = reads_then a b c was.only only;
    faults = faults ∙ was.faults;
    chosen = λ n p h. chosen n p (was.chosen n p h);
    inside = inside;
    listed = λ xs h. listed xs (was.listed xs h);
    found = λ ts p stands h told one. found ts p (was.same.stand ts stands) (still_chooses_of p h) (was.only.kept.tells ∙ told) (was.found ts p stands h told one);
    gathered = λ ts p xs stands h told one. gathered ts p xs (was.same.stand ts stands) (still_chooses_of p h) (was.only.kept.tells ∙ told) (was.gathered ts p xs stands h told one);
  }

-- ---- put behind their points

-- one more was put behind its point
pub pointed_next : {X : Type 0} (pair : X → ℕ × ℕ) (below : List ℕ) (first olds news : List X) (us : List Unpacked) (i : ℕ) (u : Unpacked) (entry : X) → i < length us → u ≡ get_or us i u
    → map pair olds ≡ map pair first ++ pointed_of below (take i us) → news ≡ olds ++ entry ∷ [] → pair entry ≡ pointed_over below u
    → map pair news ≡ map pair first ++ pointed_of below (take (i + 1) us)
pointed_next pair below first olds news us i u entry l is was more one =
    let longer : take (i + 1) us ≡ take i us ++ u ∷ [] = take_more us i u l ∙ ap (λ (x : Unpacked). take i us ++ x ∷ []) (sym is) in
    let new : map pair news ≡ map pair olds ++ pair entry ∷ [] = ap (map pair) more ∙ map-append pair olds (entry ∷ []) in
    new
    ∙ (ap (λ (ys : List (ℕ × ℕ)). ys ++ pair entry ∷ []) was
    ∙ (ap (λ (y : ℕ × ℕ). (map pair first ++ pointed_of below (take i us)) ++ y ∷ []) one ∙ sym (grown below (map pair first) (take i us) (take (i + 1) us) u longer)))

pub pointed_none : {X : Type 0} (pair : X → ℕ × ℕ) (below : List ℕ) (first : List X) → map pair first ≡ map pair first ++ pointed_of below []
pointed_none pair below first = sym (append-nil (map pair first))

-- ---- what was wrong in a block

-- want of memory, or one number twice
pub point_fault_reading : (X : Type 0) (limit file : ℕ) (below : List ℕ) (pairs : List Unpacked) (fault : WorkFault) (a b : View) → IsPointFault limit file below pairs fault → ReadsOnly a b → SameFaults a b
    → IsPointing {X = X} (Err fault) a b
point_fault_reading X limit file below pairs fault a b which only same = elim which [
  | inl spent ↦ subst (λ (f : WorkFault). IsPointing {X = X} (Err f) a b) (sym spent) (gathering_memory X a b only same)
  | inr one ↦
      subst (λ (f : WorkFault). IsPointing {X = X} (Err f) a b) (sym one.3)
      (gathering_damage X (let d : ScratchDamage = record { file = file; at = one.0.right; found = slice_index below one.0.right; least = slice_index below one.0.right + 1; limit = limit } in d) a b
      (inl (omega arith)) only same)
]

-- a place outside, as damage of the level
pub outside_block : (ts : TableLists) (t limit : ℕ) (p : ℕ → Bool) (below : List ℕ) (tables : TablesState) (damage : ScratchDamage) → 2 ≤ t
    → (i : ℕ) × (i < entries ts (t - 1)) × (p i ≡ true) × IsOutsideBelow ts (t - 2) i (length below) (pages_at tables (t - 1)).number damage → SomeHasNoPoint ts (t - 2) p limit below tables damage
outside_block ts t limit p below tables damage first h =
    let level : t - 1 ≡ suc (t - 2) = omega arith in (
      h.0,
      subst (λ (n : ℕ). h.0 < entries ts n) level h.1,
      h.2,
      inl (subst (λ (n : ℕ). IsOutsideBelow ts (t - 2) h.0 (length below) (pages_at tables n).number damage) level h.3),
    )

-- one number twice, as damage of the level
pub twice_block : (ts : TableLists) (t limit file : ℕ) (p : ℕ → Bool) (below : List ℕ) (pairs : List Unpacked) (tables : TablesState) (fault : WorkFault) (damage : ScratchDamage) → 2 ≤ t
    → file ≡ (pages_at tables (t - 1 - 1)).number → AreOf ts t p pairs → IsPointFault limit file below pairs fault → fault ≡ Scratch damage → SomeHasNoPoint ts (t - 2) p limit below tables damage
twice_block ts t limit file p below pairs tables fault damage first is_file are which is = elim which [
  | inl spent ↦ absurd (let e : Memory ≡ Scratch damage = sym spent ∙ is in cc)
  | inr one ↦
      let level : t - 1 ≡ suc (t - 2) = omega arith in
      let lower : t - 1 - 1 ≡ t - 2 = omega arith in
      let pair = one.0 in
      let held = All-contains (λ (u : Unpacked). (p u.old ≡ true) × (u.old < entries ts (t - 1)) × (slice_get (pairs_of ts (t - 1)) u.old ≡ Some (u.left, u.right))) pairs pair are one.1 in
      let wrong : ScratchDamage = record { file = file; at = pair.right; found = slice_index below pair.right; least = slice_index below pair.right + 1; limit = limit } in
      let e : Scratch wrong ≡ Scratch damage = sym one.3 ∙ is in
      let same : damage ≡ wrong = cc in (
        pair.old,
        subst (λ (n : ℕ). pair.old < entries ts n) level held.1,
        held.0,
        inr (pair_twice ts t pair.old pair.left pair.right limit file (pages_at tables (t - 2)).number below damage first held.2 one.2 (is_file ∙ ap (λ n. (pages_at tables n).number) lower) same),
      )
]

-- ---- an empty block

pub none_of : (ts : TableLists) (t : ℕ) (p : ℕ → Bool) (us : List Unpacked) → us ≡ [] → AreOf ts t p us
none_of ts t p us is = subst (λ (ps : List Unpacked). AreOf ts t p ps) (sym is)
    (All-nil (λ (pair : Unpacked). (p pair.old ≡ true) × (pair.old < entries ts (t - 1)) × (slice_get (pairs_of ts (t - 1)) pair.old ≡ Some (pair.left, pair.right))))

pub behind_none : (below : List ℕ) (xs : List (ℕ × ℕ)) (us : List Unpacked) → us ≡ [] → xs ≡ xs ++ pointed_of below us
behind_none below xs us is = sym (ap (λ (ps : List Unpacked). xs ++ pointed_of below ps) is ∙ append-nil xs)

-- ---- numbered pairs have points

-- the numbers of the pairs of a block differ, so those of all numbered pairs up to its end
pub block_points : (ts : TableLists) (t from to : ℕ) (p : ℕ → Bool) (below : List ℕ) (first : List (ℕ × ℕ)) (us : List Unpacked) → 2 ≤ t
    → AreGathered p (point_at ts (t - 2) (slice_index below)) from first → AreGathered p (point_at ts (t - 2) (slice_index below)) to (first ++ pointed_of below us)
    → AreOf ts t p us → AreApartOver below us → HavePoints ts (t - 2) p below from → HavePoints ts (t - 2) p below to
block_points ts t from to p below first us low before after are apart was i l chosen = elim (cases_lt i from) [
  | inl early ↦ was i early chosen
  | inr late ↦ elim (Contains-append_cases first (pointed_of below us) (point_at ts (t - 2) (slice_index below) i, i) (after.all i l chosen)) [
    | inl (j, lj, e) ↦
        let place : second_in first j ≡ i = ap (λ (y : ℕ × ℕ). y.1) (get_or_default first j (0, 0) (point_at ts (t - 2) (slice_index below) i, i) lj ∙ e) in
        let b = before.below j lj in
        absurd (omega arith)
    | inr (j, lj, e) ↦
        let long = length-map us (pointed_over below) in
        let inside : j < length us = omega arith in
        let u = get_or us j no_pair in
        let one = All-get_or (λ (pair : Unpacked). (p pair.old ≡ true) × (pair.old < entries ts (t - 1)) × (slice_get (pairs_of ts (t - 1)) pair.old ≡ Some (pair.left, pair.right))) us j no_pair inside are in
        let differ = All-get_or (λ (pair : Unpacked). slice_index below pair.left ≢ slice_index below pair.right) us j no_pair inside apart in
        let place : u.old ≡ i = ap (λ (y : ℕ × ℕ). y.1) (sym (get_or-map (pointed_over below) us j no_pair (point_at ts (t - 2) (slice_index below) i, i) inside) ∙ e) in
        let got : slice_get (pairs_of ts (t - 1)) i ≡ Some (u.left, u.right) = subst (λ (n : ℕ). slice_get (pairs_of ts (t - 1)) n ≡ Some (u.left, u.right)) place one.2 in
        let at = pair_places ts t i u.left u.right low got in
        λ same. differ (sym (ap (slice_index below) at.0) ∙ (same ∙ ap (slice_index below) at.1))
  ]
]

pub apart_next : (below : List ℕ) (us : List Unpacked) (i : ℕ) (u : Unpacked) → i < length us → u ≡ get_or us i u → AreApartOver below (take i us) → slice_index below u.left ≢ slice_index below u.right → AreApartOver below (take (i + 1) us)
apart_next below us i u l is was differ =
    All-more (λ (pair : Unpacked). slice_index below pair.left ≢ slice_index below pair.right) us i u l was (subst (λ (x : Unpacked). slice_index below x.left ≢ slice_index below x.right) is differ)

pub apart_none : (below : List ℕ) → AreApartOver below []
apart_none below = All-nil (λ (pair : Unpacked). slice_index below pair.left ≢ slice_index below pair.right)
