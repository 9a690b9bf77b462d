-- What follows from the contract of a conversion.
use Rattle.std.proofs.Common.{◌≡◌, ℕ, zero, suc, ◌+◌, ◌-◌, ◌<◌, ◌≤◌, List, [], length, get_or, Result, Ok, Err, None, refl, sym, ap, ◌∙◌, subst, inl, inr, arith}
use Rattle.std.proofs.lemmas.Bool.{cases_Bool, cases_lt, true≢false}
use Rattle.std.proofs.lemmas.List.{ext_get_or}
use Rattle.std.proofs.lemmas.Option.{none-some}
use Rattle.std.specs.Prelude.{is_ok}
use Rattle.std.specs.List.Sorted.{IsStrictlyIncreasing}
use Rattle.pos_edge.specs.View.{View, IsDisk}
use Rattle.pos_edge.specs.Calls.{WasThere}
use Rattle.pos_lists.specs.PlotLists.{PlotLists, count, number_at, numbers}
use Rattle.pos_layout.specs.declared.damage.Damage.{Damage}
use Rattle.pos_layout.specs.declared.layout.Layout.{Layout}
use Rattle.pos_layout.specs.declared.layout.Layout.TheVariants.{Two}
use Rattle.pos_layout.specs.Fields.{count_of, header_in, layout_in, memo_in}
use Rattle.pos_layout.specs.Files.{file_of}
use Rattle.pos_layout.specs.Reading.{num}
use Rattle.pos_layout.specs.Rules.{Well}
use Rattle.pos_layout.proofs.FileOnly.{one_file}
use Rattle.pos_layout.proofs.StoredLemmas.{number_stored}
use Rattle.pos_reader.specs.Plots.{PlotState, IsPlotFile}
use Rattle.pos_convert.specs.declared.fault.ConvertFault.{ConvertFault}
use Rattle.pos_convert.specs.declared.fault.ConvertFault.TheVariants.{Exists, DiskFailed, Damage as IsDamaged, Memory}
use Rattle.pos_convert.specs.Conversions.{IsConversion, IsFileStop, IsSoundPlace, IsTableStop, ShowsAt}
use Rattle.pos_convert.specs.ConversionLaws.{CanConvertIsConverted, DamageIsSaid, IsDone, KeepsLists, NoneWhereDamaged, OneConverted, OneStop, SaysDamage}
use Rattle.pos_convert.proofs.StartLemmas.{there_absent}

-- ---- the same lists

same_number : (r : Result ℕ Damage) (m n : ℕ) → r ≡ Ok m → r ≡ Ok n → m ≡ n
same_number r m n first second = cc

plot_from : (i j : List ℕ) (k m : ℕ) (ts us : List (List ℕ)) → i ≡ j → k ≡ m → ts ≡ us → ◌≡◌ {A = PlotLists} (record { id = i; k = k; tables = ts }) (record { id = j; k = m; tables = us })
plot_from i j k m ts us id size tables = rw (id, size, tables) refl

-- lists that one file reads as
same_lists_read : (l : Layout) (b : List ℕ) (p q : PlotLists) → p.id ≡ q.id → p.k ≡ q.k → length p.tables ≡ 7 → length q.tables ≡ 7
    → ((t : ℕ) → 1 ≤ t → t ≤ 7 → count p t ≡ count q t) → ((t i : ℕ) → 1 ≤ t → t ≤ 7 → i < count p t → num l b t i ≡ Ok (number_at p t i))
    → ((t i : ℕ) → 1 ≤ t → t ≤ 7 → i < count q t → num l b t i ≡ Ok (number_at q t i)) → p ≡ q
unfolding numbers
same_lists_read l b p q id size seven other counts first second =
    plot_from p.id q.id p.k q.k p.tables q.tables id size (ext_get_or [] p.tables q.tables (seven ∙ sym other) (λ s less.
    let few : s < 7 = omega arith in
    let long : length (get_or p.tables s []) ≡ length (get_or q.tables s []) = counts (suc s) (omega arith) (omega arith) in
    ext_get_or 0 (get_or p.tables s []) (get_or q.tables s []) long (λ i inside.
    same_number (num l b (suc s) i) (get_or (get_or p.tables s []) i 0) (get_or (get_or q.tables s []) i 0) (first (suc s) i (omega arith) (omega arith) inside)
    (second (suc s) i (omega arith) (omega arith) (subst (λ (n : ℕ). i < n) long inside)))))

pub one_converted : OneConverted
one_converted memo b c d is js =
    let same : is.plot ≡ js.plot =
    same_lists_read (layout_in b) b is.plot js.plot (is.id ∙ sym js.id) (is.size ∙ sym js.size) is.well.stores.seven js.well.stores.seven
    (λ t first last. is.counts t first last ∙ sym (js.counts t first last)) is.reads js.reads in
    one_file Two c is.plot is.bytes is.well.stores
    ∙ (ap (file_of Two (memo_in c)) same ∙ (ap (λ (m : List ℕ). file_of Two m js.plot) (is.memo_is ∙ sym js.memo_is) ∙ sym (one_file Two d js.plot js.bytes js.well.stores)))

pub keeps_lists : KeepsLists
keeps_lists memo b c p well is =
    same_lists_read (layout_in b) b is.plot p (is.id ∙ sym well.stores.id) (is.size ∙ sym well.stores.size) is.well.stores.seven well.stores.seven
    (λ t first last. is.counts t first last ∙ sym (well.stores.tables t first last).count) is.reads (λ t i first last inside. number_stored (layout_in b) b p t i well first last inside)

-- ---- sound places

never_both : (r : Result ℕ Damage) (n : ℕ) (d : Damage) → r ≡ Ok n → r ≡ Err d → ⊥
never_both r n d well ill = true≢false (ap (λ x. is_ok x) (sym well ∙ ill))

-- a sound place shows no damage
sound_shows : (l : Layout) (b : List ℕ) (t i : ℕ) (d : Damage) → IsSoundPlace l b t i → ShowsAt l b t i d → ⊥
sound_shows l b t i d sound (inl found) = never_both (num l b t i) sound.number d sound.reads found
sound_shows l b t i d sound (inr order) =
    let out = order.1 in
    let same : out.number ≡ sound.number = same_number (num l b t i) out.number sound.number out.reads sound.reads in
    let above = sound.above out.before out.later out.reads_before in
    let falls = out.falls in
    omega arith

-- where each place is sound there is no first damage
sound_never_stops : (l : Layout) (b : List ℕ) (d : Damage) → ((t i : ℕ) → 1 ≤ t → t ≤ 7 → i < count_of (header_in b) t → IsSoundPlace l b t i) → IsFileStop l b d → ⊥
sound_never_stops l b d sound stop = sound_shows l b stop.table stop.stop.place d (sound stop.table stop.stop.place stop.first stop.last stop.stop.inside) stop.stop.shows

-- lists that a file reads as, and that rise
lists_sound : (l : Layout) (b : List ℕ) (p : PlotLists) → ((t : ℕ) → 1 ≤ t → t ≤ 7 → count p t ≡ count_of (header_in b) t) → ((t : ℕ) → 1 ≤ t → t ≤ 7 → IsStrictlyIncreasing (numbers p t))
    → ((t i : ℕ) → 1 ≤ t → t ≤ 7 → i < count p t → num l b t i ≡ Ok (number_at p t i)) → (t i : ℕ) → 1 ≤ t → t ≤ 7 → i < count_of (header_in b) t → IsSoundPlace l b t i
lists_sound l b p counts rise reads t zero first last inside = record {
  number = number_at p t 0;
  reads = reads t 0 first last (subst (λ (n : ℕ). 0 < n) (sym (counts t first last)) inside);
  above = λ before later read. absurd (omega arith);
}
lists_sound l b p counts rise reads t (suc i) first last inside = record {
  number = number_at p t (suc i);
  reads = reads t (suc i) first last here;
  above = λ before later read.
      let down : suc i - 1 ≡ i = omega arith in
      let up : i + 1 ≡ suc i = omega arith in
      let same : before ≡ number_at p t i = same_number (num l b t i) before (number_at p t i) (subst (λ (j : ℕ). num l b t j ≡ Ok before) down read) (reads t i first last (omega arith)) in
      let less : number_at p t i < number_at p t (suc i) = subst (λ (j : ℕ). number_at p t i < number_at p t j) up (rise t first last i (omega arith)) in
      omega arith;
}
  where
    here : suc i < count p t
    here = subst (λ (n : ℕ). suc i < n) (sym (counts t first last)) inside

pub none_where_damaged : NoneWhereDamaged
none_where_damaged memo b c d is stop =
    sound_never_stops (layout_in b) b d
    (lists_sound (layout_in b) b is.plot is.counts (λ t first last. (is.well.stores.tables t first last).rising) is.reads) stop

-- ---- one first damage

pub one_stop : OneStop
one_stop b d e first second = elim (cases_lt first.table second.table) [
  | inl before ↦ absurd (sound_shows (layout_in b) b first.table first.stop.place d (second.before first.table first.stop.place first.first before first.stop.inside) first.stop.shows)
  | inr from ↦ elim (cases_lt second.table first.table) [
    | inl after ↦ absurd (sound_shows (layout_in b) b second.table second.stop.place e (first.before second.table second.stop.place second.first after second.stop.inside) second.stop.shows)
    | inr to ↦
        let same : second.table ≡ first.table = omega arith in
        in_table first.table first.stop (subst (λ (t : ℕ). IsTableStop (layout_in b) b t e) same second.stop)
  ]
]
  where
    at_place : (t i : ℕ) → ShowsAt (layout_in b) b t i d → ShowsAt (layout_in b) b t i e → d ≡ e
    at_place t i (inl one) (inl other) = (let both : ◌≡◌ {A = Result ℕ Damage} (Err d) (Err e) = sym one ∙ other in cc)
    at_place t i (inl one) (inr other) = absurd (never_both (num (layout_in b) b t i) other.1.number d other.1.reads one)
    at_place t i (inr one) (inl other) = absurd (never_both (num (layout_in b) b t i) one.1.number e one.1.reads other)
    at_place t i (inr one) (inr other) = one.0 ∙ sym other.0

    in_table : (t : ℕ) → IsTableStop (layout_in b) b t d → IsTableStop (layout_in b) b t e → d ≡ e
    in_table t one other = elim (cases_lt one.place other.place) [
      | inl before ↦ absurd (sound_shows (layout_in b) b t one.place d (other.before one.place before) one.shows)
      | inr from ↦ elim (cases_lt other.place one.place) [
        | inl after ↦ absurd (sound_shows (layout_in b) b t other.place e (one.before other.place after) other.shows)
        | inr to ↦
            let same : other.place ≡ one.place = omega arith in
            at_place t one.place one.shows (subst (λ (i : ℕ). ShowsAt (layout_in b) b t i e) same other.shows)
      ]
    ]

-- ---- what is answered

-- of a whole file no first damage is said
whole_never_stops : (b : List ℕ) (p : PlotLists) (d : Damage) → Well (layout_in b) b p → IsFileStop (layout_in b) b d → ⊥
whole_never_stops b p d well stop =
    sound_never_stops (layout_in b) b d
    (lists_sound (layout_in b) b p (λ t first last. (well.stores.tables t first last).count) (λ t first last. (well.stores.tables t first last).rising)
    (λ t i first last inside. number_stored (layout_in b) b p t i well first last inside)) stop

module _ (old new : View) (is : IsDisk old) where
  -- a disk that shows a file tells, so an absent name is not said to be there
  not_there : (p : PlotState) (name b : List ℕ) → IsPlotFile p b old → old.contents name ≡ None → WasThere name old → ⊥
  not_there p name b holds none there = elim (cases_Bool old.tells) [
    | inl tells ↦ there_absent (old.contents name) (there tells) none
    | inr silent ↦ none-some b (sym (is.no_contents holds.name silent) ∙ holds.contents)
  ]

  pub can_convert_is_converted : CanConvertIsConverted old new
  can_convert_is_converted p q memo name b result can conversion safe = by result conversion
    where
      by : (result : Result ℕ ConvertFault) → IsConversion p q memo name result old new → IsDone result
      by (Ok total) conversion = tt
      by (Err Exists) conversion = not_there p name b can.holds can.absent conversion.cause.0
      by (Err DiskFailed) conversion = safe conversion.cause
      by (Err (IsDamaged d)) conversion = whole_never_stops b can.lists d can.well (conversion.cause b can.holds)
      by (Err Memory) conversion = tt

  pub damage_is_said : DamageIsSaid old new
  damage_is_said p q memo name b d result holds stop absent conversion safe = by result conversion
    where
      by : (result : Result ℕ ConvertFault) → IsConversion p q memo name result old new → SaysDamage b result
      by (Ok total) conversion = absurd (none_where_damaged memo b (conversion.left b holds).file d (conversion.left b holds).converted stop)
      by (Err Exists) conversion = not_there p name b holds absent conversion.cause.0
      by (Err DiskFailed) conversion = safe conversion.cause
      by (Err (IsDamaged e)) conversion = conversion.cause b holds
      by (Err Memory) conversion = tt
