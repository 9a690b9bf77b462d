-- Pairs that are made or wait: one pair more, those that wait made, and more entries taken.
use Rattle.std.proofs.Common.{◌≡◌, ℕ, ◌+◌, ◌-◌, ◌<◌, ◌≤◌, List, [], ◌∷◌, ◌++◌, length, map, take, get_or, arith, sym, ap, ap₂, subst, ◌∙◌, length-append, length-take-le, append_assoc, append-nil}
use Rattle.std.specs.List.{All}
use Rattle.std.proofs.lemmas.List.{length-map, map-append, map_push, get_or-map, get_or_default, map_more, take_more, take_all, get_or_append_left}
use Rattle.std.proofs.lemmas.List.Elements.{All-nil, All-push, All-append, All-get_or, All-weaker}
use Rattle.std.proofs.lemmas.Simd.{zip2_of_maps}
use Rattle.pos_tuple.specs.declared.entry.Entry.{Entry}
use Rattle.pos_tuple.specs.Node.{IsEntry, next_entry}
use Rattle.pos_buckets.specs.Pairs.{IsPair}
use Rattle.pos_forward.specs.declared.drafts.Draft.{Draft}
use Rattle.pos_forward.specs.declared.buckets.Bucket.{Bucket}
use Rattle.pos_forward.specs.declared.waiting.Waiting.{Waiting}
use Rattle.pos_forward.specs.Eights.{CountsEights}
use Rattle.pos_forward.specs.Drafts.{draft_of, draft_entry, draft_pair, entry_of_place, HasDraftBits, IsNextDraft}
use Rattle.pos_forward.specs.Tables.{ys_of, ArePairsTo, AreUnsorted}
use Rattle.pos_forward.specs.Waiting.{waiting_left, waiting_right, waiting_pairs, waiting_entries, HasEight, AreOfTable, IsFew, HasOnePairMore, HasMade, AreAllMade, IsWaiting, AreMadeOrWait, StandsIn, shifted}
use Rattle.pos_forward.proofs.EntryLemmas.{draft-again}
use Rattle.pos_forward.proofs.ListLemmas.{map-same, All-left, All-right}
use Rattle.pos_forward.proofs.TableLemmas.{pair-match, no_entry}
use Rattle.pos_forward.proofs.ReadyLemmas.{waiting-none, no-pairs}

-- ---- made one by one

pub made-none : (k t : ℕ) (old : List Draft) (es : List Entry) (ps : List (ℕ × ℕ)) → es ≡ [] → ps ≡ [] → HasMade k t es ps old old
made-none k t old es ps e p = record {
  piece = [];
  is = sym (append-nil old);
  entries = sym e;
  pairs = sym p;
  fit = All-nil (HasDraftBits k t);
}

pub made-more :
    (k t : ℕ) (es : List Entry) (ps : List (ℕ × ℕ)) (j : ℕ) (old now new : List Draft) (e : Entry) (p : ℕ × ℕ) (d : Draft)
    → HasMade k t (take j es) (take j ps) old now → j < length es → j < length ps
    → e ≡ get_or es j e → p ≡ get_or ps j p → d ≡ draft_of e p → HasDraftBits k t d → IsEntry k t e
    → new ≡ now ++ d ∷ [] → HasMade k t (take (j + 1) es) (take (j + 1) ps) old new
made-more k t es ps j old now new e p d h e_in p_in e_is p_is d_is bits entry new_is =
    let d_entry : draft_entry k t d ≡ e = ap (draft_entry k t) d_is ∙ draft-again k t e p entry.meta in
    let d_pair : draft_pair d ≡ p = ap draft_pair d_is in
    record {
      piece = h.piece ++ d ∷ [];
      is = new_is ∙ ap (λ (xs : List Draft). xs ++ d ∷ []) h.is ∙ append_assoc old h.piece (d ∷ []);
      entries =
          map_push (draft_entry k t) h.piece d
          ∙ ap₂ (λ (a : List Entry) (b : Entry). a ++ b ∷ []) h.entries (d_entry ∙ e_is)
          ∙ sym (take_more es j e e_in);
      pairs =
          map_push draft_pair h.piece d
          ∙ ap₂ (λ (a : List (ℕ × ℕ)) (b : ℕ × ℕ). a ++ b ∷ []) h.pairs (d_pair ∙ p_is)
          ∙ sym (take_more ps j p p_in);
      fit = All-push (HasDraftBits k t) h.piece d h.fit bits;
    }

pub made-whole :
    (k t : ℕ) (es es2 : List Entry) (ps ps2 : List (ℕ × ℕ)) (old new : List Draft) → es ≡ es2 → ps ≡ ps2
    → HasMade k t es ps old new → HasMade k t es2 ps2 old new
made-whole k t es es2 ps ps2 old new e p h = record {
  piece = h.piece;
  is = h.is;
  entries = h.entries ∙ e;
  pairs = h.pairs ∙ p;
  fit = h.fit;
}

-- ---- one pair more

pub more-waits :
    (k t : ℕ) (es : List Entry) (ps : List (ℕ × ℕ)) (l r : Entry) (p : ℕ × ℕ) (old new : Waiting) (drafts : List Draft)
    → HasOnePairMore l r p old new → l ≡ entry_of_place es p.0 → r ≡ entry_of_place es p.1 → AreMadeOrWait k t es ps old drafts
    → AreMadeOrWait k t es (ps ++ p ∷ []) new drafts
more-waits k t es ps l r p old new drafts put left right h = record {
  waiting = record {
    left =
        put.left ∙ ap₂ (λ (a : List Entry) (b : Entry). a ++ b ∷ []) h.waiting.left left
        ∙ sym (ap (map (λ (q : ℕ × ℕ). entry_of_place es q.0)) put.pairs ∙ map_push (λ (q : ℕ × ℕ). entry_of_place es q.0) (waiting_pairs old) p);
    right =
        put.right ∙ ap₂ (λ (a : List Entry) (b : Entry). a ++ b ∷ []) h.waiting.right right
        ∙ sym (ap (map (λ (q : ℕ × ℕ). entry_of_place es q.1)) put.pairs ∙ map_push (λ (q : ℕ × ℕ). entry_of_place es q.1) (waiting_pairs old) p);
  };
  pairs_are =
      ap (λ (a : List (ℕ × ℕ)). map draft_pair drafts ++ a) put.pairs
      ∙ sym (append_assoc (map draft_pair drafts) (waiting_pairs old) (p ∷ []))
      ∙ ap (λ (a : List (ℕ × ℕ)). a ++ p ∷ []) h.pairs_are;
  made = h.made;
  eights = h.eights;
}

pub more-fit :
    (k t : ℕ) (l r : Entry) (p : ℕ × ℕ) (old new : Waiting) → HasOnePairMore l r p old new → IsEntry k (t - 1) l → IsEntry k (t - 1) r
    → AreOfTable k t old → AreOfTable k t new
more-fit k t l r p old new put left right h = record {
  left = subst (All (IsEntry k (t - 1))) (sym put.left) (All-push (IsEntry k (t - 1)) (waiting_left old) l h.left left);
  right = subst (All (IsEntry k (t - 1))) (sym put.right) (All-push (IsEntry k (t - 1)) (waiting_right old) r h.right right);
}

-- ---- those that wait are made

-- a piece of drafts with the entries that their pairs give
piece-next :
    (k t : ℕ) (es : List Entry) (piece : List Draft) (ps : List (ℕ × ℕ)) → map draft_pair piece ≡ ps
    → map (draft_entry k t) piece ≡ map (λ (p : ℕ × ℕ). next_entry k t (entry_of_place es p.0) (entry_of_place es p.1)) ps
    → All (HasDraftBits k t) piece → All (IsNextDraft k t es) piece
piece-next k t es piece ps pairs entries fit = λ i d lt.
    let x : Draft = get_or piece i d in
    let inside : i < length ps = omega (arith, length-map piece draft_pair, ap length pairs) in
    let p_at : get_or ps i (draft_pair d) ≡ draft_pair x =
    ap (λ (qs : List (ℕ × ℕ)). get_or qs i (draft_pair d)) (sym pairs) ∙ get_or-map draft_pair piece i d (draft_pair d) lt in
    let f : ℕ × ℕ → Entry = λ p. next_entry k t (entry_of_place es p.0) (entry_of_place es p.1) in
    let e_at : draft_entry k t x ≡ f (get_or ps i (draft_pair d)) =
    sym (get_or-map (draft_entry k t) piece i d no_entry lt) ∙ ap (λ (qs : List Entry). get_or qs i no_entry) entries
    ∙ get_or-map f ps i (draft_pair d) no_entry inside in
    record { entry = e_at ∙ ap f p_at; fit = fit i d lt }

waiting-next :
    (k t : ℕ) (es : List Entry) (w : Waiting) → IsWaiting es w
    → waiting_entries k t w ≡ map (λ (p : ℕ × ℕ). next_entry k t (entry_of_place es p.0) (entry_of_place es p.1)) (waiting_pairs w)
waiting-next k t es w h =
    zip2_of_maps (next_entry k t) (λ (p : ℕ × ℕ). entry_of_place es p.0) (λ (p : ℕ × ℕ). entry_of_place es p.1) (waiting_pairs w) h.left h.right

-- all but the count
all-made-next :
    (k t : ℕ) (es : List Entry) (ps : List (ℕ × ℕ)) (old new : Waiting) (drafts after : List Draft)
    → AreAllMade k t old new drafts after → AreMadeOrWait k t es ps old drafts
    → All (IsNextDraft k t es) after × (map draft_pair after ≡ ps)
all-made-next k t es ps old new drafts after all h =
    let piece : List Draft = all.made.piece in
    let next : All (IsNextDraft k t es) piece =
    piece-next k t es piece (waiting_pairs old) all.made.pairs (all.made.entries ∙ waiting-next k t es old h.waiting) all.made.fit in (
      subst (All (IsNextDraft k t es)) (sym all.made.is) (All-append (IsNextDraft k t es) drafts piece h.made next),
      ap (map draft_pair) all.made.is ∙ map-append draft_pair drafts piece
          ∙ ap (λ (a : List (ℕ × ℕ)). map draft_pair drafts ++ a) all.made.pairs ∙ h.pairs_are,
    )

pub length-made :
    (k t : ℕ) (old new : Waiting) (drafts after : List Draft) → HasEight old → old.count ≤ 8 → AreAllMade k t old new drafts after
    → length after ≡ length drafts + old.count
length-made k t old new drafts after room few all =
    let taken : length (waiting_pairs old) ≡ old.count = length-take-le old.count old.pairs (omega (arith, room.places)) in
    let piece : length all.made.piece ≡ old.count = sym (length-map all.made.piece draft_pair) ∙ ap length all.made.pairs ∙ taken in
    omega (arith, ap length all.made.is, length-append drafts all.made.piece)

pub eight-made :
    (k t : ℕ) (es : List Entry) (ps : List (ℕ × ℕ)) (old new : Waiting) (drafts after : List Draft)
    → HasEight old → old.count ≡ 8 → AreAllMade k t old new drafts after → AreMadeOrWait k t es ps old drafts
    → AreMadeOrWait k t es ps new after
eight-made k t es ps old new drafts after room eight all h =
    let next = all-made-next k t es ps old new drafts after all h in
    record {
      waiting = waiting-none es new all.none;
      pairs_are = ap (λ (a : List (ℕ × ℕ)). map draft_pair after ++ a) (no-pairs new all.none) ∙ append-nil (map draft_pair after) ∙ next.1;
      made = next.0;
      eights = omega (arith, length-made k t old new drafts after room (omega arith) all, h.eights);
    }

-- a draft of a pair of places inside has its bits and places
pub unsorted-all :
    (k t : ℕ) (es : List Entry) (drafts : List Draft) → ArePairsTo es (length es) (map draft_pair drafts) → All (IsNextDraft k t es) drafts
    → AreUnsorted k t es drafts
unsorted-all k t es drafts pairs made = record {
  pairs = pairs;
  made = made;
  fit = λ i d lt.
      let x : Draft = get_or drafts i d in
      let inside : i < length (map draft_pair drafts) = omega (arith, length-map drafts draft_pair) in
      let at : get_or (map draft_pair drafts) i (draft_pair d) ≡ draft_pair x = get_or-map draft_pair drafts i d (draft_pair d) lt in
      let is : IsPair (ys_of es) (ys_of es) (draft_pair x) =
      subst (IsPair (ys_of es) (ys_of es)) at (All-get_or (IsPair (ys_of es) (ys_of es)) (map draft_pair drafts) i (draft_pair d) inside pairs.each) in
      let m = pair-match es (draft_pair x) no_entry is in
      let bits = (made i d lt).fit in
      record { y = bits.y; low = bits.low; meta = bits.meta; left = m.0; right = m.1 };
}

pub rest-made :
    (k t : ℕ) (es : List Entry) (ps : List (ℕ × ℕ)) (old new : Waiting) (drafts after : List Draft)
    → AreAllMade k t old new drafts after → AreMadeOrWait k t es ps old drafts → ArePairsTo es (length es) ps
    → AreUnsorted k t es after
rest-made k t es ps old new drafts after all h pairs =
    let next = all-made-next k t es ps old new drafts after all h in
    unsorted-all k t es after (subst (ArePairsTo es (length es)) (sym next.1) pairs) next.0

-- ---- more entries taken

inside-same :
    (es rest : List Entry) (i : ℕ) → i < length es → entry_of_place es i ≡ entry_of_place (es ++ rest) i
inside-same es rest i lt = sym (get_or_append_left es rest _ i lt)

wider-next :
    (k t : ℕ) (es rest : List Entry) (d : Draft) → d.left < length es → d.right < length es → IsNextDraft k t es d
    → IsNextDraft k t (es ++ rest) d
wider-next k t es rest d left right h = record {
  entry = h.entry ∙ ap₂ (next_entry k t) (inside-same es rest d.left left) (inside-same es rest d.right right);
  fit = h.fit;
}

pub gathered-wider :
    (k t : ℕ) (es rest : List Entry) (ps : List (ℕ × ℕ)) (w : Waiting) (drafts : List Draft)
    → All (IsPair (ys_of es) (ys_of es)) ps → AreMadeOrWait k t es ps w drafts → AreMadeOrWait k t (es ++ rest) ps w drafts
gathered-wider k t es rest ps w drafts each h =
    let whole : All (IsPair (ys_of es) (ys_of es)) (map draft_pair drafts ++ waiting_pairs w) = subst (All (IsPair (ys_of es) (ys_of es))) (sym h.pairs_are) each in
    let made : All (IsPair (ys_of es) (ys_of es)) (map draft_pair drafts) = All-left (IsPair (ys_of es) (ys_of es)) (map draft_pair drafts) (waiting_pairs w) whole in
    let waits : All (IsPair (ys_of es) (ys_of es)) (waiting_pairs w) = All-right (IsPair (ys_of es) (ys_of es)) (map draft_pair drafts) (waiting_pairs w) whole in
    record {
      waiting = record {
        left =
            h.waiting.left
            ∙ map-same (λ (p : ℕ × ℕ). entry_of_place es p.0) (λ (p : ℕ × ℕ). entry_of_place (es ++ rest) p.0) (waiting_pairs w)
            (All-weaker (IsPair (ys_of es) (ys_of es)) (λ (p : ℕ × ℕ). entry_of_place es p.0 ≡ entry_of_place (es ++ rest) p.0)
            (λ p is. inside-same es rest p.0 (pair-match es p no_entry is).0) (waiting_pairs w) waits);
        right =
            h.waiting.right
            ∙ map-same (λ (p : ℕ × ℕ). entry_of_place es p.1) (λ (p : ℕ × ℕ). entry_of_place (es ++ rest) p.1) (waiting_pairs w)
            (All-weaker (IsPair (ys_of es) (ys_of es)) (λ (p : ℕ × ℕ). entry_of_place es p.1 ≡ entry_of_place (es ++ rest) p.1)
            (λ p is. inside-same es rest p.1 (pair-match es p no_entry is).1) (waiting_pairs w) waits);
      };
      pairs_are = h.pairs_are;
      made = λ i d lt.
          let x : Draft = get_or drafts i d in
          let inside : i < length (map draft_pair drafts) = omega (arith, length-map drafts draft_pair) in
          let at : get_or (map draft_pair drafts) i (draft_pair d) ≡ draft_pair x = get_or-map draft_pair drafts i d (draft_pair d) lt in
          let is : IsPair (ys_of es) (ys_of es) (draft_pair x) =
          subst (IsPair (ys_of es) (ys_of es)) at (All-get_or (IsPair (ys_of es) (ys_of es)) (map draft_pair drafts) i (draft_pair d) inside made) in
          let m = pair-match es (draft_pair x) no_entry is in
          wider-next k t es rest x m.0 m.1 (h.made i d lt);
      eights = h.eights;
    }

-- all eight places, and the front of a list as a range gives it
pub whole-eight : {X : Type 0} (n : ℕ) (xs : List X) → n ≡ 8 → length xs ≡ 8 → take n xs ≡ xs
whole-eight n xs e len = take_all n xs (omega arith)

-- ---- the pairs of two buckets, one by one

pub gathered-more :
    (k t : ℕ) (left right : Bucket) (pairs : List (ℕ × ℕ)) (i : ℕ) (w0 w1 w2 : Waiting) (d0 d1 d2 : List Draft) (p : ℕ × ℕ) (l r : Entry)
    → i < length pairs → p ≡ get_or pairs i p → p.0 < length left.entries.items → p.1 < length right.entries.items
    → l ≡ get_or left.entries.items p.0 l → r ≡ get_or right.entries.items p.1 r
    → ((es : List Entry) (done : List (ℕ × ℕ)) → StandsIn es left → StandsIn es right → AreMadeOrWait k t es done w0 d0
    → AreMadeOrWait k t es (done ++ map (shifted left.first right.first) (take i pairs)) w1 d1)
    → ((es : List Entry) (qs : List (ℕ × ℕ)) → l ≡ entry_of_place es (left.first + p.0) → r ≡ entry_of_place es (right.first + p.1)
    → AreMadeOrWait k t es qs w1 d1 → AreMadeOrWait k t es (qs ++ shifted left.first right.first p ∷ []) w2 d2)
    → (es : List Entry) (done : List (ℕ × ℕ)) → StandsIn es left → StandsIn es right → AreMadeOrWait k t es done w0 d0
    → AreMadeOrWait k t es (done ++ map (shifted left.first right.first) (take (i + 1) pairs)) w2 d2
gathered-more k t left right pairs i w0 w1 w2 d0 d1 d2 p l r i_in p_is l_in r_in l_is r_is so_far step es done stands_left stands_right h =
    let f : ℕ × ℕ → ℕ × ℕ = shifted left.first right.first in
    let l_at : l ≡ entry_of_place es (left.first + p.0) = l_is ∙ get_or_default left.entries.items p.0 l _ l_in ∙ sym (stands_left p.0 l_in) in
    let r_at : r ≡ entry_of_place es (right.first + p.1) = r_is ∙ get_or_default right.entries.items p.1 r _ r_in ∙ sym (stands_right p.1 r_in) in
    let list : (done ++ map f (take i pairs)) ++ f p ∷ [] ≡ done ++ map f (take (i + 1) pairs) =
    append_assoc done (map f (take i pairs)) (f p ∷ [])
    ∙ ap (λ (q : ℕ × ℕ). done ++ (map f (take i pairs) ++ f q ∷ [])) p_is
    ∙ ap (λ (qs : List (ℕ × ℕ)). done ++ qs) (sym (map_more f pairs i p i_in)) in
    subst (λ (qs : List (ℕ × ℕ)). AreMadeOrWait k t es qs w2 d2) list
    (step es (done ++ map f (take i pairs)) l_at r_at (so_far es done stands_left stands_right h))

-- the pairs so far, as a loop keeps them
pub record GatheredSoFar (k t : ℕ) (left right : Bucket) (pairs : List (ℕ × ℕ)) (w0 w : Waiting) (d0 d : List Draft) (lanes0 lanes : ℕ) : Type 0 where
  pub few : IsFew k t w
  pub gathered : (es : List Entry) (done : List (ℕ × ℕ)) → StandsIn es left → StandsIn es right → AreMadeOrWait k t es done w0 d0
      → AreMadeOrWait k t es (done ++ map (shifted left.first right.first) pairs) w d
  pub counts : (base : ℕ) → CountsEights base lanes0 d0 → CountsEights base lanes d

pub so-far-none :
    (k t : ℕ) (left right : Bucket) (w : Waiting) (d : List Draft) (lanes : ℕ) → IsFew k t w
    → GatheredSoFar k t left right [] w w d d lanes lanes
so-far-none k t left right w d lanes few = record {
  few = few;
  gathered = λ es done sl sr h. subst (λ (qs : List (ℕ × ℕ)). AreMadeOrWait k t es qs w d) (sym (append-nil done)) h;
  counts = λ base h. h;
}
