-- A matcher that has taken nothing.
use Rattle.std.proofs.Common.{◌≡◌, ℕ, ◌+◌, ◌-◌, ◌^◌, ◌<◌, List, [], ◌++◌, length, map, take, arith, refl, sym, ap, ap₂, subst, ◌∙◌}
use Rattle.std.specs.List.{All}
use Rattle.std.proofs.lemmas.List.Elements.{All-nil}
use Rattle.pos_tuple.specs.declared.entry.Entry.{Entry}
use Rattle.pos_tuple.specs.Match.{bucket}
use Rattle.pos_tuple.specs.Node.{IsEntry}
use Rattle.pos_buckets.specs.Places.{IsClear}
use Rattle.pos_forward.specs.declared.buckets.Bucket.{Bucket}
use Rattle.pos_forward.specs.declared.waiting.Waiting.{Waiting}
use Rattle.pos_forward.specs.declared.matcher.Matcher.{Matcher}
use Rattle.pos_forward.specs.Drafts.{entry_of_place, IsNextDraft}
use Rattle.pos_forward.specs.Tables.{ys_of, ArePairsTo}
use Rattle.pos_forward.specs.Waiting.{waiting_left, waiting_right, waiting_pairs, HasEight, IsFew, IsWaiting, IsEmptyBucket}
use Rattle.pos_forward.specs.Matched.{IsBucket, IsReady}
use Rattle.pos_forward.proofs.PairsLemmas.{pairs-none}

-- nothing waits
pub no-left : (w : Waiting) → w.count ≡ 0 → waiting_left w ≡ []
no-left w e = ap (λ n. take n w.left) e

pub no-right : (w : Waiting) → w.count ≡ 0 → waiting_right w ≡ []
no-right w e = ap (λ n. take n w.right) e

pub no-pairs : (w : Waiting) → w.count ≡ 0 → waiting_pairs w ≡ []
no-pairs w e = ap (λ n. take n w.pairs) e

pub few-none : (k t : ℕ) (w : Waiting) → w.count ≡ 0 → HasEight w → IsFew k t w
few-none k t w e room = record {
  few = omega arith;
  room = room;
  fit = record {
    left = subst (All (IsEntry k (t - 1))) (sym (no-left w e)) (All-nil (IsEntry k (t - 1)));
    right = subst (All (IsEntry k (t - 1))) (sym (no-right w e)) (All-nil (IsEntry k (t - 1)));
  };
}

pub waiting-none : (es : List Entry) (w : Waiting) → w.count ≡ 0 → IsWaiting es w
waiting-none es w e = record {
  left = no-left w e ∙ sym (ap (map (λ (p : ℕ × ℕ). entry_of_place es p.0)) (no-pairs w e));
  right = no-right w e ∙ sym (ap (map (λ (p : ℕ × ℕ). entry_of_place es p.1)) (no-pairs w e));
}

pub empty-bucket : (first next : ℕ) (b : Bucket) → IsEmptyBucket first next b → next < 2 ^ 60 → IsBucket b
empty-bucket first next b h small = record {
  ys = h.ys ∙ sym (ap ys_of h.entries);
  one = subst (All (λ e. bucket e.y + 1 ≡ b.next)) (sym h.entries) (All-nil (λ (e : Entry). bucket e.y + 1 ≡ b.next));
  small = omega (arith, h.next_is);
}

pub is-ready :
    (m : Matcher) → IsEmptyBucket 0 0 m.left → IsEmptyBucket 0 0 m.right → IsClear m.places → m.waiting.count ≡ 0 → HasEight m.waiting
    → IsReady m
is-ready m left right clear none room = λ k t. record {
  has = record {
    before = [];
    taken = record {
      split = sym (ap₂ (λ (a b : List Entry). [] ++ (a ++ b)) left.entries right.entries);
      left_first = left.first_is;
      right_first = right.first_is ∙ sym (ap (λ (a : List Entry). 0 + length a) left.entries);
      left_bucket = empty-bucket 0 0 m.left left (omega arith);
      right_bucket = empty-bucket 0 0 m.right right (omega arith);
      earlier = All-nil (λ (e : Entry). (bucket e.y + 1 < m.left.next) × (m.left.next < m.right.next));
      below = subst (All (λ (e : Entry). bucket e.y + 1 < m.right.next)) (sym (ap (λ (a : List Entry). [] ++ a) left.entries)) (All-nil (λ (e : Entry). bucket e.y + 1 < m.right.next));
      entries = All-nil (IsEntry k (t - 1));
      rise = λ i j d lt inside. absurd (omega arith);
    };
    clear = clear;
    few = few-none k t m.waiting none room;
    done = [];
    pairs = subst (λ n. ArePairsTo [] n []) (sym right.first_is) pairs-none;
    gathered = record {
      waiting = waiting-none [] m.waiting none;
      pairs_are = ap (λ (ps : List (ℕ × ℕ)). [] ++ ps) (no-pairs m.waiting none);
      made = All-nil (IsNextDraft k t []);
      eights = refl;
    };
  };
  begun = λ e. right.next_is;
  small = omega (arith, right.next_is);
}
