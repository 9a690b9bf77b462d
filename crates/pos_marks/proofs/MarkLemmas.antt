-- What marks stand for, through the calls of their set and beside others.
use Rattle.std.proofs.Common.{◌≡◌, ℕ, ◌+◌, ◌*◌, ◌/◌, ◌%◌, ◌^◌, ◌<◌, ◌≤◌, Bool, true, false, ◌||◌, eqb, List, length, get_or, replicate, Option, Some, None, is_some, refl, sym, ap, ◌∙◌, inl, inr, arith}
use Rattle.std.proofs.lemmas.Bool.{cases_eq, ne_eqb, true≢false, false≢true}
use Rattle.std.proofs.lemmas.List.{get_or_read_under}
use Rattle.std.proofs.lemmas.Option.{same_Some, none-some}
use Rattle.std.specs.Prelude.{slice_range, bit_and, IsSome}
use Rattle.std.proofs.lemmas.Nat.Bits.{shr_and_one}
use Rattle.pos_edge.specs.View.{View, IsDisk}
use Rattle.pos_edge.specs.Frame.{ChangesFile, ChangesOnly, NameOf, Nothing, ReadsOnly}
use Rattle.pos_edge.specs.Calls.{AreBytesAt, IsCreated}
use Rattle.pos_edge.proofs.Frames.{frame_none}
use Rattle.pos_lists.specs.Rank.{rank}
use Rattle.pos_lists.proofs.RankLemmas.{ranks_are_below}
use Rattle.pos_marks.specs.declared.set.Marks.{Marks}
use Rattle.pos_marks.specs.Bits.{has_bit, is_set, AreRankCounts}
use Rattle.pos_marks.specs.Pages.{BeginsWith}
use Rattle.pos_lists.specs.Places.{no_place, with_place}
use Rattle.pos_marks.specs.Marks.{Marked, page_count}
use Rattle.pos_marks.proofs.BitLemmas.{has_bit-part, has_bit-take, has_bit-zeros, rank-add, rank-same}
use Rattle.pos_marks.proofs.PageLemmas.{ids_none, still_there}

-- ---- beside other calls

-- other files' calls leave marks as they were
pub marked_beside : (m : Marks) (p : ℕ → Bool) (names : List ℕ → Type 0) (ids : ℕ → Type 0) (a b : View) → ChangesOnly names ids a b
    → (ids m.file.0 → ⊥) → ((n : List ℕ) → NameOf m.file.0 a n → names n → ⊥) → Marked m p a → Marked m p b
marked_beside m p names ids a b kept apart other h =
    let name = kept.name m.file.0 h.live apart other in record {
      few = h.few;
      inside = h.inside;
      live = kept.live m.file.0 h.live apart;
      there = still_there m.file.0 a b kept.tells name h.there;
      memory = h.memory;
      pages = λ sealed.
          let on = h.pages sealed in record {
            size = let e = kept.size m.file.0 h.live apart in let s = on.size in omega arith;
            file = λ n bytes is has. let was : NameOf m.file.0 a n = sym name ∙ is in on.file n bytes was (sym (kept.contents n (other n was)) ∙ has);
            room = on.room;
            page = λ told. on.page (sym kept.tells ∙ told);
            counted = on.counted;
            counts = on.counts;
          };
    }

-- ---- the calls

-- new marks
pub marked_new : (m : Marks) (name : List ℕ) (a b : View) → IsCreated name m.file.0 a b → m.places ≤ 2 ^ 52 → m.is_sealed ≡ false
    → m.bits.items ≡ replicate (65536 * page_count m.places) 0 → length m.bits.items ≡ 65536 * page_count m.places → m.loaded ≡ None → Marked m no_place b
marked_new m name a b made few unsealed zeros room none = record {
  few = few;
  inside = λ i e. absurd (false≢true e);
  live = made.live;
  there = λ told. ap is_some (made.named told);
  memory = λ _. record { room = room; bits = λ i. ap (λ xs. has_bit xs i) zeros ∙ has_bit-zeros (65536 * page_count m.places) i; none = none };
  pages = λ sealed. absurd (false≢true (sym unsealed ∙ sealed));
}

placed : (i j n : ℕ) (p : ℕ → Bool) → i < n → ((k : ℕ) → p k ≡ true → k < n) → with_place i p j ≡ true → j < n
placed i j n p h inside e = elim (cases_eq j i) [
  | inl same ↦ omega arith
  | inr other ↦ inside j (sym (ap (λ b. b || p j) (ne_eqb j i other)) ∙ e)
]

-- one place more
pub marked_set : (m n : Marks) (p : ℕ → Bool) (i : ℕ) (v : View) → Marked m p v → m.is_sealed ≡ false → i < m.places
    → n.places ≡ m.places → n.file ≡ m.file → n.is_sealed ≡ m.is_sealed
    → ((j : ℕ) → has_bit n.bits.items j ≡ (eqb j i || has_bit m.bits.items j)) → length n.bits.items ≡ length m.bits.items → n.loaded ≡ m.loaded
    → Marked n (with_place i p) v
marked_set m n p i v h unsealed inside places file sealed bits len loaded =
    let memory = h.memory unsealed in
    let room = memory.room in
    let few = h.few in
    let f : n.file.0 ≡ m.file.0 = ap (λ x. x.0) file in record {
      few = omega arith;
      inside = λ j e. let l = placed i j m.places p inside h.inside e in omega arith;
      live = ap v.is_live f ∙ h.live;
      there = λ told. ap (λ k. is_some (v.name_of k)) f ∙ h.there told;
      memory = λ _. record {
        room = len ∙ (room ∙ ap (λ k. 65536 * page_count k) (sym places));
        bits = λ j. bits j ∙ ap (λ b. eqb j i || b) (memory.bits j);
        none = loaded ∙ memory.none;
      };
      pages = λ s. absurd (false≢true (sym unsealed ∙ (sym sealed ∙ s)));
    }

-- the marks written to the file and counted
pub marked_sealed : (m n : Marks) (p : ℕ → Bool) (a b : View) → Marked m p a → m.is_sealed ≡ false → ChangesFile m.file.0 a b
    → n.places ≡ m.places → n.file ≡ m.file → n.is_sealed ≡ true → n.loaded ≡ m.loaded → length n.page.items ≡ 65536
    → AreRankCounts m.bits.items n.counts.items → length m.bits.items ≤ b.size_of m.file.0 → BeginsWith m.file.0 m.bits.items b → Marked n p b
marked_sealed m n p a b h unsealed kept places file sealed none room counts size front =
    let memory = h.memory unsealed in
    let len = memory.room in
    let few = h.few in
    let f : n.file.0 ≡ m.file.0 = ap (λ x. x.0) file in
    let count = counts.count in
    let s : b.size_of n.file.0 ≡ b.size_of m.file.0 = ap b.size_of f in record {
      few = omega arith;
      inside = λ i e. let l = h.inside i e in omega arith;
      live = ap b.is_live f ∙ kept.live;
      there = λ told. ap (λ k. is_some (b.name_of k)) f ∙ still_there m.file.0 a b kept.frame.tells kept.name h.there told;
      memory = λ t. absurd (false≢true (sym t ∙ sealed));
      pages = λ _. record {
        size = omega arith;
        file = λ name bytes is has i l.
            let named : NameOf m.file.0 b name = ap b.name_of (sym f) ∙ is in
            let e = front name bytes named has in
            sym (has_bit-take bytes (length m.bits.items) i (omega arith)) ∙ (ap (λ xs. has_bit xs i) e ∙ memory.bits i);
        room = room;
        page = λ told q i loaded. absurd (none-some q (sym (none ∙ memory.none) ∙ loaded));
        counted = omega arith;
        counts = λ j l. counts.each j (omega arith) ∙ rank-same (has_bit m.bits.items) p (4096 * j) (λ i _. memory.bits i);
      };
    }

-- a disk that tells has the name of a file that is there
name_there : (file : ℕ) (v : View) → IsSome (v.name_of file) → (name : List ℕ) × NameOf file v name
name_there file v h = at (v.name_of file) refl h where
  at : (o : Option (List ℕ)) → v.name_of file ≡ o → IsSome o → (name : List ℕ) × NameOf file v name
  at None e none = absurd (false≢true none)
  at (Some name) e some = (name, e)

-- a page read
pub marked_read : (m n : Marks) (p : ℕ → Bool) (q : ℕ) (got : List ℕ) (a b : View) → IsDisk a → Marked m p a → m.is_sealed ≡ true → q < page_count m.places
    → ReadsOnly a b → AreBytesAt m.file.0 (65536 * q) got a → length got ≡ 65536
    → n.places ≡ m.places → n.file ≡ m.file → n.is_sealed ≡ m.is_sealed → n.counts.items ≡ m.counts.items → n.loaded ≡ Some q → n.page.items ≡ got → Marked n p b
marked_read m n p q got a b disk h sealed inside reads read len places file same c loaded page =
    let on = h.pages sealed in
    let few = h.few in
    let kept = reads.kept in
    let f : n.file.0 ≡ m.file.0 = ap (λ x. x.0) file in
    let s = kept.size m.file.0 h.live (λ x. x) in
    let name = kept.name m.file.0 h.live (λ x. x) (λ _ _ x. x) in
    let size = on.size in
    let t : b.size_of n.file.0 ≡ b.size_of m.file.0 = ap b.size_of f in
    let counted = on.counted in
    let cl : length n.counts.items ≡ length m.counts.items = ap length c in record {
      few = omega arith;
      inside = λ i e. let l = h.inside i e in omega arith;
      live = ap b.is_live f ∙ kept.live m.file.0 h.live (λ x. x);
      there = λ told. ap (λ k. is_some (b.name_of k)) f ∙ still_there m.file.0 a b kept.tells name h.there told;
      memory = λ x. absurd (true≢false (sym sealed ∙ (sym same ∙ x)));
      pages = λ _. record {
        size = omega arith;
        file = λ n bytes is has i l.
            let was : NameOf m.file.0 a n = sym name ∙ (ap b.name_of (sym f) ∙ is) in
            on.file n bytes was (sym (kept.contents n (λ x. x)) ∙ has) i (omega arith);
        room = ap length page ∙ len;
        page = λ told r i is l.
            let at : r ≡ q = same_Some r q (sym is ∙ loaded) in
            let named = name_there m.file.0 a (h.there (sym kept.tells ∙ told)) in
            let bytes = (disk.named m.file.0 named.0 named.1).there in
            let e : got ≡ slice_range bytes.0 (65536 * q) (65536 * q + length got) = read named.0 bytes.0 named.1 bytes.1 in
            let e2 : got ≡ slice_range bytes.0 (65536 * q) (65536 * q + 65536) = e ∙ ap (λ k. slice_range bytes.0 (65536 * q) (65536 * q + k)) len in
            let place : 8 * (65536 * q) + i ≡ 524288 * r + i = omega arith in
            ap (λ xs. has_bit xs i) (page ∙ e2) ∙ (has_bit-part bytes.0 (65536 * q) (65536 * q + 65536) i (omega arith)
            ∙ (on.file named.0 bytes.0 named.1 bytes.1 (8 * (65536 * q) + i) (omega arith) ∙ ap p place));
        counted = omega arith;
        counts = λ j l. ap (λ xs. get_or xs j 0) c ∙ on.counts j (omega arith);
      };
    }

-- the same with the page that is in memory
pub marked_reads : (m : Marks) (p : ℕ → Bool) (a b : View) → ReadsOnly a b → Marked m p a → Marked m p b
marked_reads m p a b reads h = marked_beside m p Nothing Nothing a b reads.kept (λ x. x) (λ n is x. x) h

pub reads_none : (v : View) → ReadsOnly v v
reads_none v = record { kept = frame_none Nothing Nothing v; ids = ids_none v }

-- ---- what the marks answer

-- a bit of the page
pub marked_bit : (m : Marks) (p : ℕ → Bool) (i byte : ℕ) (v : View) → Marked m p v → m.is_sealed ≡ true → m.loaded ≡ Some (i / 524288) → v.tells ≡ true
    → byte ≡ get_or m.page.items (i % 524288 / 8) 0 → eqb (bit_and (byte / 2 ^ (i % 8)) 1) 1 ≡ p i
unfolding has_bit is_set
marked_bit m p i byte v h sealed loaded told e =
    let on = h.pages sealed in
    let k : i % 8 ≡ i % 524288 % 8 = omega arith in
    let bit = on.page told (i / 524288) (i % 524288) loaded (omega arith) in
    let at : 524288 * (i / 524288) + i % 524288 ≡ i = omega arith in
    ap (λ b. eqb b 1) (shr_and_one byte (i % 8)) ∙ (ap (λ x. eqb (x / 2 ^ (i % 8) % 2) 1) e ∙ (ap (λ y. eqb (get_or m.page.items (i % 524288 / 8) 0 / 2 ^ y % 2) 1) k ∙ (bit ∙ ap p at)))

-- the count before a block, and the bits of the block
pub marked_before : (m : Marks) (p : ℕ → Bool) (i before : ℕ) (v : View) → Marked m p v → m.is_sealed ≡ true → i ≤ m.places
    → before ≡ get_or m.counts.items (i / 4096) before → before ≡ rank p (4096 * (i / 4096))
marked_before m p i before v h sealed inside e =
    let on = h.pages sealed in
    let counted = on.counted in
    get_or_read_under m.counts.items (i / 4096) (length m.counts.items) before 0 e (omega arith) refl ∙ on.counts (i / 4096) (omega arith)

pub ranks_fit : (p q : ℕ → Bool) (i before ones : ℕ) → before ≡ rank p (4096 * (i / 4096)) → ones ≡ rank q (i % 4096) → before + ones ≤ i
ranks_fit p q i before ones e f =
    let low = ranks_are_below p (4096 * (i / 4096)) in
    let high = ranks_are_below q (i % 4096) in
    omega arith

pub marked_rank : (m : Marks) (p : ℕ → Bool) (i before ones : ℕ) (v : View) → Marked m p v → m.is_sealed ≡ true → m.loaded ≡ Some (i / 524288) → v.tells ≡ true
    → before ≡ rank p (4096 * (i / 4096)) → ones ≡ rank (λ j. has_bit m.page.items (4096 * (i % 524288 / 4096) + j)) (i % 4096)
    → before + ones ≡ rank p i
marked_rank m p i before ones v h sealed loaded told e f =
    let on = h.pages sealed in
    let base = 4096 * (i / 4096) in
    let start = 4096 * (i % 524288 / 4096) in
    let within = i % 4096 in
    let bits : rank (λ j. has_bit m.page.items (start + j)) within ≡ rank (λ j. p (base + j)) within =
    rank-same (λ j. has_bit m.page.items (start + j)) (λ j. p (base + j)) within
    (λ j l.
    let place : 524288 * (i / 524288) + (start + j) ≡ base + j = omega arith in
    on.page told (i / 524288) (start + j) loaded (omega arith) ∙ ap p place) in
    let whole : base + within ≡ i = omega arith in
    ap (λ k. before + k) (f ∙ bits) ∙ (ap (λ k. k + rank (λ j. p (base + j)) within) e ∙ (sym (rank-add p base within) ∙ ap (rank p) whole))

-- the whole of a count
pub marked_whole : (m : Marks) (p : ℕ → Bool) (i before : ℕ) (v : View) → Marked m p v → m.is_sealed ≡ true → i ≤ m.places → i % 4096 ≡ 0
    → before ≡ get_or m.counts.items (i / 4096) before → (before ≡ rank p i) × (before ≤ i)
marked_whole m p i before v h sealed inside whole e =
    let at : 4096 * (i / 4096) ≡ i = omega arith in
    let r : before ≡ rank p i = marked_before m p i before v h sealed inside e ∙ ap (rank p) at in
    let low = ranks_are_below p i in
    (r, omega arith)
