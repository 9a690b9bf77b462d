-- The numbers of table 7, one by one.
use Rattle.std.proofs.Common.{◌≡◌, ℕ, suc, ◌+◌, ◌*◌, ◌/◌, ◌%◌, ◌^◌, ◌<◌, ◌≤◌, Some, true, List, [], ◌∷◌, ◌++◌, length, map, refl, sym, ap, ◌∙◌, subst, inr, arith}
use Rattle.std.specs.Prelude.{slice_get, slice_index}
use Rattle.std.proofs.Math.Nat.{mul-le-mul_right}
use Rattle.std.proofs.Math.Pow.{pow_mono}
use Rattle.std.proofs.lemmas.Nat.{one_shl, pow-add}
use Rattle.std.proofs.lemmas.Option.{get_or_from_slice_get}
use Rattle.pos_edge.specs.declared.scratch.ScratchDamage.{ScratchDamage}
use Rattle.pos_edge.specs.View.{View}
use Rattle.pos_edge.specs.Frame.{ReadsOnly, SameFaults}
use Rattle.pos_lists.specs.TableLists.{TableLists}
use Rattle.pos_lists.specs.Sound.{IsSound}
use Rattle.pos_lists.specs.Numbering.{AreGathered}
use Rattle.pos_lists.proofs.NumberingLemmas.{nothing_is_gathered}
use Rattle.pos_laws.specs.Renumbering.{last_at}
use Rattle.pos_runs.specs.Runs.{SameTables, TablesState, TablesStand, pages_at}
use Rattle.pos_runs.proofs.TablesLemmas.{same_none, same_then}
use Rattle.pos_relocate.specs.Passes.{AreListed, IsOutOfRange}
use Rattle.pos_relocate.proofs.GatheringLemmas.{gathered_pushed, listed_none, listed_pushed, reads_none, reads_then}
use Rattle.pos_relocate.proofs.ValuesLemmas.{entries_count}
use Rattle.pos_lists.specs.PlotLists.{last_number}
use Rattle.pos_relocate.specs.Gathering.{CanNumber, IsLastAbove}

-- an f7 before a place
number_below : (k f place : ℕ) → f < 2 ^ k → place < 2 ^ (k + 1) → last_number k f place < 2 ^ (2 * k + 1)
number_below k f place few small =
    let next : suc f ≤ 2 ^ k = omega arith in
    let most : suc f * 2 ^ (k + 1) ≤ 2 ^ k * 2 ^ (k + 1) = mul-le-mul_right (2 ^ (k + 1)) next in
    let e : k + (k + 1) ≡ 2 * k + 1 = omega arith in
    let power : 2 ^ (2 * k + 1) ≡ 2 ^ k * 2 ^ (k + 1) = ap (λ n. 2 ^ n) (sym e) ∙ pow-add 2 k (k + 1) in
    omega arith

-- it fits 128 bits
number_whole : (k f place : ℕ) → k ≤ 50 → f < 2 ^ k → place < 2 ^ (k + 1) → f * 2 ^ (k + 1) % 2 ^ 128 + place ≡ last_number k f place
number_whole k f place size few small =
    let below = number_below k f place few small in
    let wide : 2 * k + 1 ≤ 101 = omega arith in
    let most : 2 ^ (2 * k + 1) ≤ 2 ^ 101 = pow_mono wide in
    omega arith

limit_is : (k : ℕ) → k ≤ 50 → 1 * 2 ^ k % 2 ^ 64 ≡ 2 ^ k
limit_is k size = one_shl k 64 (omega arith)

-- the number that is made
pub made_number : (k y f low place point : ℕ) → k ≤ 50 → y / 64 < 1 * 2 ^ k % 2 ^ 64 → f ≡ y / 64 → low ≡ place → place < 2 ^ (k + 1)
    → point ≡ f * 2 ^ (k + 1) % 2 ^ 128 + low → (point ≡ last_number k (y / 64) place) × (point < 2 ^ (2 * k + 1))
made_number k y f low place point size few is_f is_low small is =
    let limit = limit_is k size in
    let below : y / 64 < 2 ^ k = omega arith in
    let whole = number_whole k (y / 64) place size below small in
    let e : point ≡ last_number k (y / 64) place = is ∙ (ap (λ n. n * 2 ^ (k + 1) % 2 ^ 128 + low) is_f ∙ (ap (λ n. y / 64 * 2 ^ (k + 1) % 2 ^ 128 + n) is_low ∙ whole)) in
    (e, let b = number_below k (y / 64) place below small in subst (λ (n : ℕ). n < 2 ^ (2 * k + 1)) (sym e) b)

pub made_fits : (k point : ℕ) → point < 2 ^ (2 * k + 1) → point < 2 ^ (2 * k + 2)
made_fits k point below =
    let more : 2 * k + 1 ≤ 2 * k + 2 = omega arith in
    let p : 2 ^ (2 * k + 1) ≤ 2 ^ (2 * k + 2) = pow_mono more in
    omega arith

-- over a y of k + 6 bits it is the number of the entry
pub made_last : (ts : TableLists) (k i y place point : ℕ) → k ≤ 50 → (number : ℕ) × (slice_get ts.last i ≡ Some number) × (y ≡ number % 2 ^ 64) → slice_index ts.last i < 2 ^ (k + 6)
    → point ≡ last_number k (y / 64) place → point ≡ last_number k (slice_index ts.last i / 64) place
made_last ts k i y place point size value small is =
    let at : slice_index ts.last i ≡ value.0 = get_or_from_slice_get ts.last i value.0 0 value.1 in
    let low = value.2 in
    let wide : k + 6 ≤ 56 = omega arith in
    let most : 2 ^ (k + 6) ≤ 2 ^ 56 = pow_mono wide in
    let same : y ≡ slice_index ts.last i = omega arith in
    is ∙ ap (λ n. last_number k (n / 64) place) same

-- a y that is too great
pub last_above : (ts : TableLists) (k i y file number : ℕ) (damage : ScratchDamage) → k ≤ 50 → (value : ℕ) × (slice_get ts.last i ≡ Some value) × (y ≡ value % 2 ^ 64) → 1 * 2 ^ k % 2 ^ 64 ≤ y / 64
    → file ≡ number → damage ≡ record { file = file; at = i; found = y; least = 0; limit = 1 * 2 ^ (k + 6) % 2 ^ 64 } → IsLastAbove ts k i number damage
last_above ts k i y file number damage size value great is_file is =
    let at : slice_index ts.last i ≡ value.0 = get_or_from_slice_get ts.last i value.0 0 value.1 in
    let found : damage.found ≡ y = ap (λ (d : ScratchDamage). d.found) is in
    let limit : damage.limit ≡ 2 ^ (k + 6) = ap (λ (d : ScratchDamage). d.limit) is ∙ one_shl (k + 6) 64 (omega arith) in
    let low = limit_is k size in
    let power : 2 ^ (k + 6) ≡ 2 ^ k * 64 = pow-add 2 k 6 in
    record {
      file_is = ap (λ (d : ScratchDamage). d.file) is ∙ is_file;
      place = ap (λ (d : ScratchDamage). d.at) is;
      found = found ∙ (value.2 ∙ ap (λ n. n % 2 ^ 64) (sym at));
      least = ap (λ (d : ScratchDamage). d.least) is;
      limit = limit;
      above = omega arith;
    }

-- its number is out of its range
pub last_out : (k i y file : ℕ) (damage : ScratchDamage) → k ≤ 50 → 1 * 2 ^ k % 2 ^ 64 ≤ y / 64 → damage ≡ record { file = file; at = i; found = y; least = 0; limit = 1 * 2 ^ (k + 6) % 2 ^ 64 } → IsOutOfRange damage
last_out k i y file damage size great is =
    let found : damage.found ≡ y = ap (λ (d : ScratchDamage). d.found) is in
    let limit : damage.limit ≡ 2 ^ (k + 6) = ap (λ (d : ScratchDamage). d.limit) is ∙ one_shl (k + 6) 64 (omega arith) in
    let low = limit_is k size in
    let power : 2 ^ (k + 6) ≡ 2 ^ k * 64 = pow-add 2 k 6 in
    inr (omega arith)

-- so a y of k + 6 bits is none
pub last_not_above : (ts : TableLists) (k i file : ℕ) (damage : ScratchDamage) → IsLastAbove ts k i file damage → slice_index ts.last i < 2 ^ (k + 6) → ⊥
last_not_above ts k i file damage h small =
    let found = h.found in
    let limit = h.limit in
    let above = h.above in
    absurd (omega arith)

-- ---- one after another

-- the first i entries have their numbers
pub record LastsSoFar (k bound i : ℕ) (places : List ℕ) (xs : List (ℕ × ℕ)) (old now : TablesState) (a b : View) : Type 0 where
  pub can : CanNumber k bound places old a
  pub same : SameTables k old now a b
  pub only : ReadsOnly a b
  pub faults : SameFaults a b
  pub listed : AreListed i (2 ^ (2 * k + 2)) xs
  pub gathered : (ts : TableLists) → TablesStand k old ts a → a.tells ≡ true → IsSound ts k → AreGathered (λ j. true) (last_at ts k (slice_index places)) i xs

pub lasts_none : (k bound : ℕ) (places : List ℕ) (tables : TablesState) (v : View) → CanNumber k bound places tables v → LastsSoFar k bound 0 places [] tables tables v v
lasts_none k bound places tables v can = record {
  can = can;
  same = same_none k tables v;
  only = reads_none v;
  faults = refl;
  listed = listed_none (2 ^ (2 * k + 2));
  gathered = λ ts stands told sound. nothing_is_gathered (λ j. true) (last_at ts k (slice_index places));
}

module _ (k bound i : ℕ) (places : List ℕ) (xs : List (ℕ × ℕ)) (old now : TablesState) (a b : View) (was : LastsSoFar k bound i places xs old now a b) where
  pub lasts_stand : (ts : TableLists) × TablesStand k now ts b
  lasts_stand = (was.can.stands.0, was.same.stand was.can.stands.0 was.can.stands.1)

  pub lasts_there : i < length places → i < (pages_at now 7).count
  lasts_there l =
      let n = was.same.counts 7 in
      let m = was.can.places_below.as_long in
      omega arith

  pub lasts_next : {X : Type 0} (pair : X → ℕ × ℕ) (olds news : List X) (entry : X) (place : ℕ) (new : TablesState) (c : View) → xs ≡ map pair olds → news ≡ olds ++ entry ∷ [] → i < length places
      → place ≡ slice_index places i → ReadsOnly b c → SameFaults b c → SameTables k now new b c → (pair entry).1 ≡ i → (pair entry).0 < 2 ^ (2 * k + 2)
      → ((ts : TableLists) → TablesStand k now ts b → b.tells ≡ true → slice_index ts.last i < 2 ^ (k + 6) → (pair entry).0 ≡ last_number k (slice_index ts.last i / 64) place)
      → LastsSoFar k bound (i + 1) places (map pair news) old new a c
  lasts_next pair olds news entry place new c is grown l is_place only faults same at small number = record {
    can = was.can;
    same = same_then k old now new a b c was.same same;
    only = reads_then a b c was.only only;
    faults = faults ∙ was.faults;
    listed = listed_pushed pair i (2 ^ (2 * k + 2)) olds news entry grown at small (subst (λ (ys : List (ℕ × ℕ)). AreListed i (2 ^ (2 * k + 2)) ys) is was.listed);
    gathered = λ ts stands told sound.
        let m = was.can.places_below.as_long in
        let count = entries_count k old ts a 6 (omega arith) stands in
        let long = stands.as_long in
        let low = sound.below i (omega arith) in
        let value = number ts (was.same.stand ts stands) (was.only.kept.tells ∙ told) low in
        let point : (pair entry).0 ≡ last_at ts k (slice_index places) i = value ∙ ap (λ n. last_number k (slice_index ts.last i / 64) n) is_place in
        gathered_pushed pair (λ j. true) (last_at ts k (slice_index places)) i olds news entry grown refl point at
        (subst (λ (ys : List (ℕ × ℕ)). AreGathered (λ j. true) (last_at ts k (slice_index places)) i ys) is (was.gathered ts stands told sound));
  }

-- numbers of table 7 have at most 101 bits
pub number_wide : (k bound : ℕ) (places : List ℕ) (tables : TablesState) (v : View) → CanNumber k bound places tables v → CanNumber k (2 ^ 128) places tables v
number_wide k bound places tables v h = record {
  size = h.size;
  stands = h.stands;
  places_below = h.places_below;
  exact = let most = h.size.1 in let wide : 2 * k + 1 ≤ 128 = omega arith in pow_mono wide;
}
