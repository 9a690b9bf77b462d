-- What it says of a park that it was read.
use Rattle.std.proofs.Common.{◌≡◌, ℕ, ◌+◌, ◌*◌, ◌/◌, ◌^◌, ◌<◌, ◌≤◌, true, nat_lt, List, [], ◌∷◌, length, take, slice_index, count_by, Option, Some, None, Result, Ok, sym, ap, ◌∙◌, subst, arith, lt-ltb, pow_mono, cond}
use Rattle.std.proofs.Math.Nat.{div-lt_iff_lt-mul}
use Rattle.std.proofs.lemmas.List.Sums.{sum_by-cons}
use Rattle.std.specs.Option.{ok_or}
use Rattle.std.specs.Str.{bytes_eq}
use Rattle.sha2.specs.Sha256.{sha256}
use Rattle.pos_rice.specs.Reading.{numbers_in}
use Rattle.pos_rice.proofs.ReadingLemmas.{numbers_in-park}
use Rattle.pos_lists.specs.PlotLists.{f7_in}
use Rattle.pos_layout.specs.declared.damage.Damage.{Damage}
use Rattle.pos_layout.specs.declared.damage.Damage.TheVariants.{Directory, Digest, Form as WrongForm}
use Rattle.pos_layout.specs.declared.header.Header.{Header}
use Rattle.pos_layout.specs.declared.entry.ParkEntry.{ParkEntry}
use Rattle.pos_layout.specs.declared.layout.Layout.{Layout}
use Rattle.pos_layout.specs.Layouts.{digest_of}
use Rattle.pos_layout.specs.Fields.{header_in, entry_in, park_in}
use Rattle.pos_layout.specs.Reading.{tested, then_read, is_listed, is_headed, numbers_by, read_entry, read_park, head, under}
use Rattle.pos_reader.proofs.AnswerLemmas.{tested_parts, then_parts}
use Rattle.pos_reader.proofs.HeaderLemmas.{eq_means}

-- ---- what went before an answer that is no damage

pub ok_or_parts : {X : Type 0} (o : Option X) (d : Damage) (x : X) → ok_or o d ≡ Ok x → o ≡ Some x
ok_or_parts None d x e = cc
ok_or_parts (Some y) d x e = let same : y ≡ x = cc in ap (λ v. Some v) same

-- the digest was right, the bytes are a park of these numbers, and the head is theirs
pub record WasRead (l : Layout) (h : Header) (t : ℕ) (e : ParkEntry) (s ns : List ℕ) : Type 0 where
  pub digest : bytes_eq (take (digest_of l) (sha256 s)) e.digest ≡ true
  pub found : numbers_in h.size e.count s ≡ Some ns
  pub headed : is_headed h t e ns ≡ true

pub numbers_parts : (l : Layout) (h : Header) (t park : ℕ) (e : ParkEntry) (s ns : List ℕ) → numbers_by l h t park e s ≡ Ok ns → WasRead l h t e s ns
unfolding numbers_by
numbers_parts l h t park e s ns ok =
    let right = then_parts (tested (bytes_eq (take (digest_of l) (sha256 s)) e.digest) (Digest t park) s)
    (λ s. then_read (ok_or (numbers_in h.size e.count s) (WrongForm t park)) (λ ns. tested (is_headed h t e ns) (Directory t park) ns)) ns ok in
    let digest = tested_parts (bytes_eq (take (digest_of l) (sha256 s)) e.digest) (Digest t park) s right.0 right.1 in
    let form = then_parts (ok_or (numbers_in h.size e.count right.0) (WrongForm t park)) (λ ns. tested (is_headed h t e ns) (Directory t park) ns) ns right.2 in
    let found = ok_or_parts (numbers_in h.size e.count right.0) (WrongForm t park) form.0 form.1 in
    let headed = tested_parts (is_headed h t e form.0) (Directory t park) form.0 ns form.2 in
    record {
      digest = digest.0;
      found = ap (λ s. numbers_in h.size e.count s) digest.1 ∙ found ∙ ap (λ ns. Some ns) headed.1;
      headed = ap (is_headed h t e) (sym headed.1) ∙ headed.0;
    }

-- of an entry that is listed
pub record WasReadAt (l : Layout) (b : List ℕ) (t park : ℕ) (ns : List ℕ) : Type 0 where
  pub listed : is_listed l (header_in b) t park (entry_in l b t park) ≡ true
  pub read : WasRead l (header_in b) t (entry_in l b t park) (park_in b (entry_in l b t park)) ns

pub entry_parts : (l : Layout) (b : List ℕ) (t park : ℕ) (e : ParkEntry) → read_entry l b t park ≡ Ok e
    → (is_listed l (header_in b) t park (entry_in l b t park) ≡ true) × (entry_in l b t park ≡ e)
unfolding read_entry
entry_parts l b t park e ok = tested_parts (is_listed l (header_in b) t park (entry_in l b t park)) (Directory t park) (entry_in l b t park) e ok

pub park_parts : (l : Layout) (b : List ℕ) (t park : ℕ) (ns : List ℕ) → read_park l b t park ≡ Ok ns → WasReadAt l b t park ns
unfolding read_park
park_parts l b t park ns ok =
    let e = then_parts (read_entry l b t park) (λ e. numbers_by l (header_in b) t park e (park_in b e)) ns ok in
    let listed = entry_parts l b t park e.0 e.1 in
    record {
      listed = listed.0;
      read = subst (λ e. WasRead l (header_in b) t e (park_in b e) ns) (sym listed.1) (numbers_parts l (header_in b) t park e.0 (park_in b e.0) ns e.2);
    }

-- ---- a park that begins below an f7 has a number below it

some_below : (ns : List ℕ) (limit : ℕ) → 1 ≤ length ns → slice_index ns 0 < limit → 1 ≤ count_by (λ n. nat_lt n limit) ns
some_below [] limit some less = absurd (omega arith)
some_below (n ∷ ns) limit some less = let t : nat_lt n limit ≡ true = lt-ltb _ _ less in
    let e = sum_by-cons (λ m. cond (nat_lt m limit) 1 0) n ns in
    rw (e, t) (omega arith)

below_limit : (n f d : ℕ) → 0 < d → n / d < f → n < f * d
below_limit n f d some less = (div-lt_iff_lt-mul {k = d} {x = n} {y = f} some).0 less

pub under_some : (l : Layout) (b : List ℕ) (park f n count : ℕ) → head l b park ≡ Ok n → n < f → under l b park f ≡ Ok count → 1 ≤ count
unfolding head under
under_some l b park f n count found less counted =
    let k = (header_in b).size in
    let e = then_parts (read_entry l b 7 park) (λ e. Ok e.head) n found in
    let ns = then_parts (read_park l b 7 park) (λ ns. Ok (count_by (λ n. nat_lt n (f * 2 ^ (k + 1))) ns)) count counted in
    let read = park_parts l b 7 park ns.0 ns.1 in
    let same : (entry_in l b 7 park).head ≡ n = ap (λ e. e.head) (entry_parts l b 7 park e.0 e.1).1 ∙ ok_same e.0.head n e.2 in
    let head : (entry_in l b 7 park).head ≡ f7_in k (slice_index ns.0 0) = eq_means _ _ read.read.headed in
    let is = numbers_in-park k (entry_in l b 7 park).count (park_in b (entry_in l b 7 park)) ns.0 read.read.found in
    let first : slice_index ns.0 0 / 2 ^ (k + 1) < f = subst (λ m. m < f) (sym same ∙ head) less in
    let some : 0 < 2 ^ (k + 1) = let least = pow_mono {i = 0} {j = k + 1} (omega arith) in omega arith in
    subst (λ m. 1 ≤ m) (count_same _ count ns.2) (some_below ns.0 (f * 2 ^ (k + 1)) is.0.numbers.some (below_limit (slice_index ns.0 0) f (2 ^ (k + 1)) some first))
  where
    ok_same : (m n : ℕ) → ◌≡◌ {A = Result ℕ Damage} (Ok m) (Ok n) → m ≡ n
    ok_same m n e = cc

    count_same : (m n : ℕ) → ◌≡◌ {A = Result ℕ Damage} (Ok m) (Ok n) → m ≡ n
    count_same m n e = cc
