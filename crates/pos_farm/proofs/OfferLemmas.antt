-- The order of offers is total, and the first of several is kept as one more comes.
use Rattle.std.proofs.Common.{◌≡◌, ℕ, suc, ◌+◌, ◌<◌, ◌≤◌, ◌⊎◌, inl, inr, Bool, true, false, if◌then◌else◌, All, List, [], ◌∷◌, ◌++◌, length, Option, Some, None, option_map, refl, sym, ap, ◌∙◌, subst, arith, nat_lt, ◌==◌, lt-ltb, le-ltb, eq-eqb}
use Rattle.std.specs.Ordering.{is_le, nat_cmp, ordering_reverse, ordering_then}
use Rattle.std.specs.declared.cmp.Ordering.{Ordering}
use Rattle.std.specs.declared.cmp.Ordering.TheVariants.{Less, Equal, Greater}
use Rattle.std.specs.Cmp.{IsTotalOrder, nat_cmp_total, on_total, then_total}
use Rattle.std.specs.Cmp.Lexicographic.{nat_list_cmp_total, slice_cmp}
use Rattle.std.proofs.lemmas.Bool.{false≢true}
use Rattle.std.proofs.lemmas.List.Elements.{All-contains, All-cons, All-nil, All-push, All-weaker, Contains-append_left, Contains-push}
use Rattle.pos_farm.specs.declared.offer.Offer.{Offer}
use Rattle.pos_farm.specs.Offers.{IsBefore, IsFirstOf, offer_cmp, offer_of, offers_from}
use Rattle.pos_farm.specs.Steps.{first_or, is_no_worse, plot_first_or}

pub offers_total : IsTotalOrder offer_cmp
offers_total =
    then_total (on_total (λ (x : ℕ × Offer). x.1.quality) nat_list_cmp_total)
    (then_total (on_total (λ (x : ℕ × Offer). x.0) nat_cmp_total) (on_total (λ (x : ℕ × Offer). x.1.place) nat_cmp_total))

-- y is of an earlier plot than x, or of an earlier place of the same plot
abbrev pub IsEarlier : ℕ × Offer → ℕ × Offer → Type 0
IsEarlier y x = ordering_then (nat_cmp y.0 x.0) (nat_cmp y.1.place x.1.place) ≡ Less

-- ---- one offer more

kept_first : (q e : Ordering) → is_le q ≡ true → e ≡ Less → ordering_then q e ≡ Less
kept_first Less e le less = refl
kept_first Equal e le less = less
kept_first Greater e le less = absurd (false≢true le)

other_first : (q e : Ordering) → is_le q ≡ false → ordering_then q e ≡ Greater
other_first Less e le = absurd (false≢true (sym le))
other_first Equal e le = absurd (false≢true (sym le))
other_first Greater e le = refl

stays_before : (kept x : ℕ × Offer) → IsEarlier kept x → is_no_worse (kept.1) (x.1) ≡ true → IsBefore kept x
stays_before kept x earlier no_worse = kept_first (slice_cmp nat_cmp kept.1.quality x.1.quality) _ no_worse earlier

comes_before : (kept x : ℕ × Offer) → is_no_worse (kept.1) (x.1) ≡ false → IsBefore x kept
comes_before kept x worse =
    let r : offer_cmp kept x ≡ Greater = other_first (slice_cmp nat_cmp kept.1.quality x.1.quality) _ worse in
    offers_total.antisymm x kept ∙ ap ordering_reverse r

-- the first of these offers is the kept one, or the one that comes
first_of_more : (offers : List (ℕ × Offer)) (kept x : ℕ × Offer) (no_worse : Bool) → is_no_worse (kept.1) (x.1) ≡ no_worse
    → All (λ y. IsEarlier y x) offers → IsFirstOf offers (Some kept)
    → IsFirstOf (offers ++ x ∷ []) (Some (if no_worse then kept else x))
first_of_more offers kept x true is earlier first =
    let before = stays_before kept x (All-contains (λ y. IsEarlier y x) offers kept earlier first.0) is in
    (Contains-append_left offers (x ∷ []) kept first.0, All-push (λ y. (y ≡ kept) ⊎ IsBefore kept y) offers x first.1 (inr before))
first_of_more offers kept x false is earlier first =
    let before = comes_before kept x is in (
      Contains-push offers x,
      All-push (λ y. (y ≡ x) ⊎ IsBefore x y) offers x
          (All-weaker (λ y. (y ≡ kept) ⊎ IsBefore kept y) (λ y. (y ≡ x) ⊎ IsBefore x y)
          (λ y other. elim other as (λ _. (y ≡ x) ⊎ IsBefore x y) [
            | inl same ↦ inr (subst (λ y. IsBefore x y) (sym same) before)
            | inr later ↦ inr (offers_total.trans x kept y before later)
          ]) offers first.1)
          (inl refl),
    )

pub first_more : (offers : List (ℕ × Offer)) (best : Option (ℕ × Offer)) (x : ℕ × Offer) → All (λ y. IsEarlier y x) offers → IsFirstOf offers best
    → IsFirstOf (offers ++ x ∷ []) (Some (plot_first_or best x))
first_more offers None x earlier none =
    subst (λ offers. IsFirstOf (offers ++ x ∷ []) (Some x)) (sym none)
    (Contains-push [] x, All-cons (λ y. (y ≡ x) ⊎ IsBefore x y) x [] (inl refl) (All-nil (λ y. (y ≡ x) ⊎ IsBefore x y)))
first_more offers (Some kept) x earlier first = first_of_more offers kept x (is_no_worse (kept.1) (x.1)) refl earlier first

-- ---- the number of the plot does not matter among the offers of one plot

chosen : (plot : ℕ) (kept offer : Offer) (no_worse : Bool)
    → ◌≡◌ {A = ℕ × Offer} (plot, (if no_worse then kept else offer)) (if no_worse then (plot, kept) else (plot, offer))
chosen plot kept offer true = refl
chosen plot kept offer false = refl

pub numbered_first : (plot : ℕ) (best : Option Offer) (offer : Offer)
    → Some (plot_first_or (option_map {U = ℕ × Offer} (λ o. (plot, o)) best) (plot, offer)) ≡ option_map {U = ℕ × Offer} (λ o. (plot, o)) (Some (first_or best offer))
numbered_first plot None offer = refl
numbered_first plot (Some kept) offer = ap (λ x. Some x) (sym (chosen plot kept offer (is_no_worse kept offer)))

-- ---- earlier places

nat_less : (m n : ℕ) → m < n → nat_cmp m n ≡ Less
nat_less m n less = let t = lt-ltb m n less in rw t refl

nat_same : (n : ℕ) → nat_cmp n n ≡ Equal
nat_same n =
    let t : nat_lt n n ≡ false = le-ltb n n (omega arith) in
    let e : (n == n) ≡ true = eq-eqb n n refl in
    rw (t, e) refl

pub earlier_place : (plot : ℕ) (offer other : Offer) → offer.place < other.place → IsEarlier (plot, offer) (plot, other)
earlier_place plot offer other less =
    let same = nat_same plot in
    let before = nat_less offer.place other.place less in
    rw (same, before) refl

pub earlier_plot : (plot next : ℕ) (offer other : Offer) → plot < next → IsEarlier (plot, offer) (next, other)
earlier_plot plot next offer other less = let before = nat_less plot next less in rw before refl

pub all_earlier : (c : List ℕ) (k plot first at : ℕ) (xs : List (List ℕ)) (offer : Offer) → first + length xs ≤ at → offer.place ≡ at
    → All (λ y. IsEarlier y (plot, offer)) (offers_from c k plot first xs)
all_earlier c k plot first at [] offer far is = All-nil (λ y. IsEarlier y (plot, offer))
all_earlier c k plot first at (x ∷ xs) offer far is =
    All-cons (λ y. IsEarlier y (plot, offer)) (plot, offer_of c k first x) (offers_from c k plot (suc first) xs)
    (earlier_place plot (offer_of c k first x) offer (omega (arith, is)))
    (all_earlier c k plot (suc first) at xs offer (omega arith) is)

pub offers-push : (c : List ℕ) (k plot first : ℕ) (xs : List (List ℕ)) (x : List ℕ)
    → offers_from c k plot first (xs ++ x ∷ []) ≡ offers_from c k plot first xs ++ (plot, offer_of c k (first + length xs) x) ∷ []
offers-push c k plot first [] x = ap (λ place. (plot, offer_of c k place x) ∷ []) (omega arith)
offers-push c k plot first (y ∷ xs) x =
    let at : suc first + length xs ≡ first + length (y ∷ xs) = omega arith in
    ap (λ more. (plot, offer_of c k first y) ∷ more)
    (offers-push c k plot (suc first) xs x ∙ ap (λ place. offers_from c k plot (suc first) xs ++ (plot, offer_of c k place x) ∷ []) at)
