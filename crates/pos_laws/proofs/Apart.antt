-- Over the tables of an id nothing meets: new places of a pair, points of two pairs, numbers of two places.
use Rattle.std.proofs.Common.{◌≡◌, ◌≢◌, ℕ, suc, ◌<◌, ◌⊎◌, inl, inr, ⊎_elim, [], ◌∷◌, ◌++◌, slice_index, sym, refl, ap, ap₂, ◌∙◌, subst, arith}
use Rattle.std.proofs.lemmas.Bool.{cases_order, cases_eq}
use Rattle.std.proofs.lemmas.Nat.{same_from_place}
use Rattle.pos_points.specs.Points.{point_of}
use Rattle.pos_lists.specs.Pairs.{greater, lesser}
use Rattle.pos_tuple.specs.Match.{Match}
use Rattle.pos_laws.specs.Tables.{y_of}
use Rattle.pos_lists.specs.TableLists.{TableLists, left_of, right_of, tuple}
use Rattle.pos_lists.specs.Used.{IsUsed}
use Rattle.pos_laws.specs.RenumberingLaws.{ValuesAreApart, PairsDiffer, PointsDiffer, RenumberedIsApart, LastNumbersDiffer}
use Rattle.pos_laws.proofs.LinePoints.{point_has_its_pair}
use Rattle.pos_order.proofs.NodeParts.{match_goes_one_way}
use Rattle.pos_laws.proofs.Described.{pair_matches, tuple-suc}
use Rattle.pos_lists.proofs.UsedLemmas.{used_next, used_is_inside, used_at_top}

-- two pairs of different numbers with one point are one pair, in one order or the other
pub same_point : (a b c d : ℕ) → a ≢ b → c ≢ d → point_of a b ≡ point_of c d → ((a ≡ c) × (b ≡ d)) ⊎ ((a ≡ d) × (b ≡ c))
same_point a b c d n m e =
    let l = ap lesser e in
    let g = ap greater e in
    ⊎_elim
    (λ (f : a ≡ b). absurd (n f))
    (⊎_elim
    (λ (f : a < b).
    let p = point_has_its_pair a b f in
    ⊎_elim
    (λ (h : c ≡ d). absurd (m h))
    (⊎_elim
    (λ (h : c < d). let q = point_has_its_pair c d h in inl (sym p.0 ∙ l ∙ q.0, sym p.1 ∙ g ∙ q.1))
    (λ (h : d < c). let q = point_has_its_pair d c h in inr (sym p.0 ∙ l ∙ ap lesser q.2 ∙ q.0, sym p.1 ∙ g ∙ ap greater q.2 ∙ q.1)))
    (cases_order c d))
    (λ (f : b < a).
    let p = point_has_its_pair b a f in
    ⊎_elim
    (λ (h : c ≡ d). absurd (m h))
    (⊎_elim
    (λ (h : c < d). let q = point_has_its_pair c d h in inr (sym p.1 ∙ sym (ap greater p.2) ∙ g ∙ q.1, sym p.0 ∙ sym (ap lesser p.2) ∙ l ∙ q.0))
    (λ (h : d < c). let q = point_has_its_pair d c h in inl (sym p.1 ∙ sym (ap greater p.2) ∙ g ∙ ap greater q.2 ∙ q.1, sym p.0 ∙ sym (ap lesser p.2) ∙ l ∙ ap lesser q.2 ∙ q.0)))
    (cases_order c d)))
    (cases_order a b)

pub values_are_apart : ValuesAreApart
unfolding tuple
values_are_apart ts id k t i j u v e =
    t.once 0 i j (omega arith)
    (used_is_inside ts 0 i (omega arith) t.inside u) (used_is_inside ts 0 j (omega arith) t.inside v)
    (ap (λ x. x ∷ []) e)

-- the places of a used pair are used
pub left_used : (ts : TableLists) (n i : ℕ) → n < 6 → IsUsed ts (suc n) i → IsUsed ts n (left_of ts (suc n) i)
left_used ts n i l u = used_next ts n i _ l u (inl refl)

pub right_used : (ts : TableLists) (n i : ℕ) → n < 6 → IsUsed ts (suc n) i → IsUsed ts n (right_of ts (suc n) i)
right_used ts n i l u = used_next ts n i _ l u (inr refl)

pub pairs_differ : PairsDiffer
pairs_differ ts id k n old i t l apart u e =
    let same = apart _ _ (left_used ts n i l u) (right_used ts n i l u) e in
    let m = pair_matches ts id k n i t l (used_is_inside ts (suc n) i l t.inside u) in
    let o : Match (y_of id k n (tuple ts n (left_of ts (suc n) i))) (y_of id k n (tuple ts n (left_of ts (suc n) i))) =
    subst (λ q. Match (y_of id k n (tuple ts n (left_of ts (suc n) i))) (y_of id k n (tuple ts n q))) (sym same) m in
    match_goes_one_way _ _ o o

pub points_differ : PointsDiffer
points_differ ts id k n old i j t l apart u v o e =
    let il = left_used ts n i l u in
    let ir = right_used ts n i l u in
    let jl = left_used ts n j l v in
    let jr = right_used ts n j l v in
    let li = used_is_inside ts (suc n) i l t.inside u in
    let lj = used_is_inside ts (suc n) j l t.inside v in
    ⊎_elim
    (λ (s : (old (left_of ts (suc n) i) ≡ old (left_of ts (suc n) j)) × (old (right_of ts (suc n) i) ≡ old (right_of ts (suc n) j))).
    let a = apart _ _ il jl s.0 in
    let b = apart _ _ ir jr s.1 in
    o (t.once (suc n) i j l li lj
    (tuple-suc ts n i ∙ ap₂ (λ c d. tuple ts n c ++ tuple ts n d) a b ∙ sym (tuple-suc ts n j))))
    (λ (s : (old (left_of ts (suc n) i) ≡ old (right_of ts (suc n) j)) × (old (right_of ts (suc n) i) ≡ old (left_of ts (suc n) j))).
    let a = apart _ _ il jr s.0 in
    let b = apart _ _ ir jl s.1 in
    let y : ℕ → ℕ = λ q. y_of id k n (tuple ts n q) in
    let m : Match (y (left_of ts (suc n) i)) (y (right_of ts (suc n) i)) = pair_matches ts id k n i t l li in
    let w : Match (y (left_of ts (suc n) j)) (y (right_of ts (suc n) j)) = pair_matches ts id k n j t l lj in
    match_goes_one_way _ _ m
    (subst (λ q. Match (y q) (y (left_of ts (suc n) i))) (sym b) (subst (λ q. Match (y (left_of ts (suc n) j)) (y q)) (sym a) w)))
    (same_point _ _ _ _ (pairs_differ ts id k n old i t l apart u) (pairs_differ ts id k n old j t l apart v) e)

pub renumbered_is_apart : RenumberedIsApart
renumbered_is_apart ts id k n old new points t l apart r i j u v e =
    ⊎_elim
    (λ (s : i ≡ j). s)
    (λ (s : i ≢ j).
    absurd (points_differ ts id k n old i j t l apart u v s
    (sym (r.pointed i u) ∙ ap (slice_index points) e ∙ r.pointed j v)))
    (cases_eq i j)

pub last_numbers_differ : LastNumbersDiffer
last_numbers_differ ts k new i j apart li lj bi bj n e =
    n (apart i j (used_at_top ts i li) (used_at_top ts j lj) (same_from_place _ _ _ _ _ bi bj e).1)
