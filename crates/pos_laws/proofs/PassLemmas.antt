-- The passes level by level, and the plot that they give.
use Rattle.std.proofs.Common.{◌≡◌, ◌≢◌, ℕ, suc, ◌<◌, ◌≤◌, ⊎_elim, List, [], ◌∷◌, ◌++◌, length, slice_index_or, sym, refl, ap, ◌∙◌, subst, arith, length-append, eq-eqb, ne_eqb}
use Rattle.std.proofs.lemmas.Bool.{cases_lt}
use Rattle.std.proofs.Math.ListN.{get_or-append}
use Rattle.std.proofs.Math.Seq.{get_or-append_seam}
use Rattle.pos_lists.specs.TableLists.{TableLists}
use Rattle.pos_lists.specs.PlotLists.{numbers}
use Rattle.pos_laws.specs.Renumbering.{IsRenumbered, IsLastTable, IsRelocated, with_places, plot_with}
use Rattle.pos_laws.specs.PassLaws.{NothingIsRenumbered, ALevelIsRenumbered, SixPassesRelocate, SixPassesGiveThePlot}
use Rattle.pos_laws.proofs.Relocation.{relocated_is_the_plot, relocated_is_in_range}

pub nothing_is_renumbered : NothingIsRenumbered
nothing_is_renumbered ts = record { values = λ i. refl; as_long = refl; levels = λ n l. absurd (omega arith) }

-- the places of the given level, and of another
at_given : (m : ℕ) (new : ℕ → ℕ) (place : ℕ → ℕ → ℕ) → with_places m new place m ≡ new
at_given m new place = let e = eq-eqb m m refl in rw e refl

at_other : (m n : ℕ) (new : ℕ → ℕ) (place : ℕ → ℕ → ℕ) → n ≢ m → with_places m new place n ≡ place n
at_other m n new place o = let e = ne_eqb n m o in rw e refl

-- the lists with one more
list_at : (lists : List (List ℕ)) (points : List ℕ) (n : ℕ) → n < length lists →
    slice_index_or (lists ++ points ∷ []) n [] ≡ slice_index_or lists n []
list_at lists points n l = get_or-append lists (points ∷ []) [] n l

list_last : (lists : List (List ℕ)) (points : List ℕ) (n : ℕ) → n ≡ length lists → slice_index_or (lists ++ points ∷ []) n [] ≡ points
list_last lists points n e = ap (λ v. slice_index_or (lists ++ points ∷ []) v []) e ∙ get_or-append_seam lists points [] []

-- one equal renumbering for another
same_renumbered : (ts : TableLists) (n : ℕ) (old old' new new' : ℕ → ℕ) (points points' : List ℕ) → old' ≡ old → new' ≡ new →
    points' ≡ points → IsRenumbered ts n old new points → IsRenumbered ts n old' new' points'
same_renumbered ts n old old' new new' points points' a b c r =
    subst (λ f. IsRenumbered ts n f new' points') (sym a)
    (subst (λ f. IsRenumbered ts n old f points') (sym b) (subst (λ q. IsRenumbered ts n old new q) (sym c) r))

pub a_level_is_renumbered : ALevelIsRenumbered
a_level_is_renumbered ts m place lists new points done step = record {
  values = λ i. ap (λ (f : ℕ → ℕ). f i) (at_other (suc m) 0 new place (λ e. absurd (omega arith))) ∙ done.values i;
  as_long = let e = length-append lists (points ∷ []) in let f = done.as_long in omega (arith, e, f);
  levels = λ n l.
      ⊎_elim
      (λ (h : n < m).
      same_renumbered ts n (place n) (with_places (suc m) new place n) (place (suc n)) (with_places (suc m) new place (suc n))
      (slice_index_or lists n []) _
      (at_other (suc m) n new place (λ e. absurd (omega arith))) (at_other (suc m) (suc n) new place (λ e. absurd (omega arith)))
      (list_at lists points n (let f = done.as_long in omega arith)) (done.levels n h))
      (λ (h : m ≤ n).
      let same : n ≡ m = omega arith in
      subst (λ v. IsRenumbered ts v (with_places (suc m) new place v) (with_places (suc m) new place (suc v)) (slice_index_or (lists ++ points ∷ []) v []))
      (sym same)
      (same_renumbered ts m (place m) (with_places (suc m) new place m) new (with_places (suc m) new place (suc m)) points _
      (at_other (suc m) m new place (λ e. absurd (omega arith))) (at_given (suc m) new place)
      (list_last lists points m (sym done.as_long)) step))
      (cases_lt n m);
}

pub six_passes_relocate : SixPassesRelocate
unfolding numbers
six_passes_relocate ts p place lists last done last_table are = record {
  values = done.values;
  six = λ n l.
      let e : slice_index_or p.tables n [] ≡ slice_index_or lists n [] =
      ap (λ ls. slice_index_or ls n []) are ∙ list_at lists last n (let f = done.as_long in omega arith) in
      subst (λ q. IsRenumbered ts n (place n) (place (suc n)) q) (sym e) (done.levels n l);
  seventh =
      let e : slice_index_or p.tables 6 [] ≡ last = ap (λ ls. slice_index_or ls 6 []) are ∙ list_last lists last 6 (sym done.as_long) in
      subst (λ q. IsLastTable ts p.k (place 6) q) (sym e) last_table;
}

pub six_passes_give_the_plot : SixPassesGiveThePlot
six_passes_give_the_plot ts id k place lists last t done last_table = (
  relocated_is_the_plot ts id k (plot_with id k (lists ++ last ∷ [])) place t relocated refl refl seven,
  relocated_is_in_range ts id k (plot_with id k (lists ++ last ∷ [])) place t relocated refl,
)
  where
    relocated : IsRelocated ts (plot_with id k (lists ++ last ∷ [])) place
    relocated = six_passes_relocate ts (plot_with id k (lists ++ last ∷ [])) place lists last done last_table refl

    seven : length (lists ++ last ∷ []) ≡ 7
    seven = let e = length-append lists (last ∷ []) in let f = done.as_long in omega (arith, e, f)
