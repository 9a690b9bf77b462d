-- A table's drafts in order are the next table.
use Rattle.std.proofs.Common.{◌≡◌, ◌≢◌, ℕ, ◌+◌, ◌<◌, List, [], length, map, get_or, arith, refl, sym, ap, subst, ◌∙◌}
use Rattle.std.specs.List.{All, AllPairs}
use Rattle.std.specs.List.Sorted.{IsPermutation, IsNonDecreasingBy}
use Rattle.std.proofs.lemmas.List.{length-map, get_or-map, get_or_default}
use Rattle.std.proofs.lemmas.List.Elements.{All-get_or}
use Rattle.std.proofs.lemmas.List.Sorted.{IsPermutation-map, All-permutation, Contains-permutation}
use Rattle.pos_tuple.specs.declared.entry.Entry.{Entry}
use Rattle.pos_tuple.specs.Match.{Match}
use Rattle.pos_tuple.specs.Node.{next_entry}
use Rattle.pos_buckets.specs.Pairs.{IsPair}
use Rattle.pos_lists.specs.TableLists.{left_in, right_in}
use Rattle.pos_laws.specs.Making.{AreMatching, IsNextTable}
use Rattle.pos_forward.specs.declared.drafts.Draft.{Draft}
use Rattle.pos_forward.specs.Drafts.{draft_entry, draft_pair, entry_of_place, IsNextDraft, IsPairDraft}
use Rattle.pos_forward.specs.Tables.{ys_of, AreUnsorted, IsSortedTable}
use Rattle.pos_forward.proofs.ListLemmas.{order-map, pairs-permutation}

abbrev pub no_entry : Entry
no_entry = record { y = 0; meta = [] }

-- the y of an entry at a place
pub y-at : (es : List Entry) (i : ℕ) (d : Entry) → i < length es → get_or (ys_of es) i 0 ≡ (get_or es i d).y
y-at es i d lt = get_or-map (λ (e : Entry). e.y) es i d 0 lt

pub length-ys : (es : List Entry) → length (ys_of es) ≡ length es
length-ys es = length-map es (λ (e : Entry). e.y)

-- a pair of places of entries, as the laws on tables speak of it
pub pair-match :
    (es : List Entry) (p : ℕ × ℕ) (d : Entry) → IsPair (ys_of es) (ys_of es) p
    → (p.0 < length es) × (p.1 < length es) × Match (get_or es p.0 d).y (get_or es p.1 d).y
pair-match es p d h =
    let left : p.0 < length es = omega (arith, length-ys es, h.left_in) in
    let right : p.1 < length es = omega (arith, length-ys es, h.right_in) in (
      left,
      right,
      subst (λ (a : ℕ). Match a (get_or es p.1 d).y) (y-at es p.0 d left)
          (subst (λ (b : ℕ). Match (get_or (ys_of es) p.0 0) b) (y-at es p.1 d right) h.matching),
    )

pub match-pair :
    (es : List Entry) (l r : ℕ) (d : Entry) → l < length es → r < length es → Match (get_or es l d).y (get_or es r d).y
    → IsPair (ys_of es) (ys_of es) (l, r)
match-pair es l r d left right h = record {
  left_in = omega (arith, length-ys es);
  right_in = omega (arith, length-ys es);
  matching =
      subst (λ (a : ℕ). Match a (get_or (ys_of es) r 0)) (sym (y-at es l d left))
      (subst (λ (b : ℕ). Match (get_or es l d).y b) (sym (y-at es r d right)) h);
}

-- pairs that match, each once
pub matching-pairs :
    (es : List Entry) (ps : List (ℕ × ℕ)) → All (IsPair (ys_of es) (ys_of es)) ps → AllPairs (λ a b. a ≢ b) ps → AreMatching es ps
matching-pairs es ps each once = record {
  inside = λ i lt.
      let h = pair-match es (get_or ps i (0, 0)) no_entry (All-get_or (IsPair (ys_of es) (ys_of es)) ps i (0, 0) lt each) in (h.0, h.1);
  matching = λ i d lt. (pair-match es (get_or ps i (0, 0)) d (All-get_or (IsPair (ys_of es) (ys_of es)) ps i (0, 0) lt each)).2;
  once = once;
}

abbrev pub no_draft : Draft
no_draft = record { y = 0; high = 0; low = 0; left = 0; right = 0 }

-- the next table in any order
pub next-table :
    (k n : ℕ) (es : List Entry) (drafts : List Draft) → AreUnsorted k (n + 2) es drafts
    → IsNextTable k n es (map draft_pair drafts) (map (draft_entry k (n + 2)) drafts)
next-table k n es drafts h = record {
  are_matching = matching-pairs es (map draft_pair drafts) h.pairs.each h.pairs.once;
  all = λ l r d left right m. h.pairs.all (l, r) (match-pair es l r d left right m) right;
  one_each = length-map drafts (draft_entry k (n + 2)) ∙ sym (length-map drafts draft_pair);
  made = λ i d lt.
      let inside : i < length drafts = omega (arith, length-map drafts draft_pair) in
      let x : Draft = get_or drafts i no_draft in
      let e_at : get_or (map (draft_entry k (n + 2)) drafts) i d ≡ draft_entry k (n + 2) x = get_or-map (draft_entry k (n + 2)) drafts i no_draft d inside in
      let p_at : get_or (map draft_pair drafts) i (0, 0) ≡ draft_pair x = get_or-map draft_pair drafts i no_draft (0, 0) inside in
      let fit = All-get_or (IsPairDraft k (n + 2) (length es)) drafts i no_draft inside h.fit in
      let is = (All-get_or (IsNextDraft k (n + 2) es) drafts i no_draft inside h.made).entry in
      let left : entry_of_place es x.left ≡ get_or es (left_in (map draft_pair drafts) i) d =
      get_or_default es x.left _ d fit.left ∙ ap (λ (p : ℕ × ℕ). get_or es p.0 d) (sym p_at) in
      let right : entry_of_place es x.right ≡ get_or es (right_in (map draft_pair drafts) i) d =
      get_or_default es x.right _ d fit.right ∙ ap (λ (p : ℕ × ℕ). get_or es p.1 d) (sym p_at) in
      e_at ∙ is ∙ ap (λ (a : Entry). next_entry k (n + 2) a (entry_of_place es x.right)) left
      ∙ ap (λ (b : Entry). next_entry k (n + 2) (get_or es (left_in (map draft_pair drafts) i) d) b) right;
}

pub unsorted-permutation :
    (k t : ℕ) (es : List Entry) (old new : List Draft) → IsPermutation old new → AreUnsorted k t es old → AreUnsorted k t es new
unsorted-permutation k t es old new perm h =
    let pairs : IsPermutation (map draft_pair old) (map draft_pair new) = IsPermutation-map draft_pair old new perm in
    record {
      pairs = record {
        each = All-permutation (IsPair (ys_of es) (ys_of es)) _ _ pairs h.pairs.each;
        below = All-permutation (λ p. p.1 < length es) _ _ pairs h.pairs.below;
        all = λ p is lt. Contains-permutation _ _ p pairs (h.pairs.all p is lt);
        once = pairs-permutation _ _ pairs h.pairs.once;
      };
      made = All-permutation (IsNextDraft k t es) _ _ perm h.made;
      fit = All-permutation (IsPairDraft k t (length es)) _ _ perm h.fit;
    }

pub sorted-table :
    (k n : ℕ) (es : List Entry) (old new : List Draft) → IsPermutation old new → IsNonDecreasingBy (λ d. d.y) new
    → AreUnsorted k (n + 2) es old → IsSortedTable k n es new
sorted-table k n es old new perm rise h =
    let there : AreUnsorted k (n + 2) es new = unsorted-permutation k (n + 2) es old new perm h in
    record {
      table = next-table k n es new there;
      rise = order-map (draft_entry k (n + 2)) (λ (d : Draft). d.y) no_draft new (λ d. refl) rise;
      fit = there.fit;
    }
