-- A whole audit from its parts: the opening, the making of the second file, and the comparison.
use Rattle.std.proofs.Common.{◌≡◌, ◌⊎◌, ℕ, ◌+◌, ◌^◌, ◌≤◌, true, List, ◌∷◌, ◌++◌, length, get_or, IsSome, Result, Ok, Err, Option, Some, None, IsErrOf, refl, sym, ap, ◌∙◌, subst, inl, inr, arith}
use Rattle.std.specs.Prelude.{codes}
use Rattle.std.specs.Fmt.{decimal}
use Rattle.std.specs.Str.{bytes_eq}
use Rattle.std.proofs.lemmas.Bool.{cases_Bool, false≢true}
use Rattle.std.proofs.lemmas.List.{append_cancel_left}
use Rattle.std.proofs.lemmas.Option.{none-some, same_Some}
use Rattle.std.proofs.lemmas.Slice.Eq.{bytes_eq-Decides}
use Rattle.pos_edge.specs.Faults.{Rose}
use Rattle.pos_edge.specs.View.{View, IsDisk}
use Rattle.pos_edge.specs.Frame.{ChangesOnly, Just, NameOf, Nothing, SameFaults}
use Rattle.pos_edge.specs.Calls.{WasAbsent}
use Rattle.pos_edge.specs.ScratchNames.{IsScratchName, scratch_name}
use Rattle.pos_edge.specs.ScratchWork.{IsSpared}
use Rattle.pos_edge.proofs.Frames.{frame_none, frame_then}
use Rattle.pos_edge.proofs.ScratchWorkLemmas.{spared_beside, spared_none, spared_then, spared_there}
use Rattle.pos_laws.specs.Making.{IsFull}
use Rattle.pos_layout.specs.declared.damage.Damage.{Damage}
use Rattle.pos_layout.specs.declared.header.Header.{Header}
use Rattle.pos_layout.specs.declared.layout.Layout.{Layout}
use Rattle.pos_layout.specs.Damages.{opening}
use Rattle.pos_layout.specs.Fields.{layout_in, memo_in}
use Rattle.pos_layout.specs.Rules.{Opens}
use Rattle.pos_plot.specs.declared.run.Counts.{Counts}
use Rattle.pos_plot.specs.declared.fault.Name.TheVariants.{Plot, Scratch as ScratchFile}
use Rattle.pos_plot.specs.declared.fault.PlotFault.{PlotFault}
use Rattle.pos_plot.specs.declared.fault.PlotFault.TheVariants.{Exists as IsTaken, TableFull as PlotFull, DiskFailed as PlottingFailed, Scratch as PlotDamage, Memory as PlotMemory}
use Rattle.pos_plot.specs.PlotFiles.{IsFileOfPlot, IsFileWith}
use Rattle.pos_plot.specs.PlotRuns.{IsPlotCause, IsPlotRun, IsRunName, IsStopped}
use Rattle.pos_plot.proofs.PlotLemmas.{one_plot_file}
use Rattle.pos_reader.specs.declared.refusal.OpenRefusal.{OpenRefusal}
use Rattle.pos_reader.specs.declared.refusal.OpenRefusal.TheVariants.{Absent as NoFile, DiskFailed as OpeningFailed, Damage as OpensDamaged, Memory as OpeningMemory}
use Rattle.pos_reader.specs.Plots.{IsOpen, IsPlotFile, PlotState}
use Rattle.pos_reader.specs.Readings.{CountsFaults, IsPlotOpened}
use Rattle.pos_reader.proofs.AnswerLemmas.{layout_said}
use Rattle.pos_audit.specs.declared.found.Audited.{Audited}
use Rattle.pos_audit.specs.declared.found.Audited.TheVariants.{Same, Differs}
use Rattle.pos_audit.specs.declared.fault.AuditName.TheVariants.{Second, Scratch as ScratchName}
use Rattle.pos_audit.specs.declared.fault.AuditFault.{AuditFault}
use Rattle.pos_audit.specs.declared.fault.AuditFault.TheVariants.{Absent, Lost, Exists, TableFull, DiskFailed, Damage as IsDamaged, Scratch, Memory}
use Rattle.pos_audit.specs.Faults.{of_opening, of_plotting}
use Rattle.pos_audit.specs.Comparisons.{DifferAt, HoldsFile, IsComparison, IsReadable, IsSecondCause, IsSecondCompared}
use Rattle.pos_audit.specs.Audits.{HasNoFullTable, HasOpened, IsAudit, IsAuditCause, IsAuditFor, IsPlotAudit, IsPlotAuditCause, IsPlotBeside, IsStoppedEarly, TellsBytes, said_id, said_size, second_name}
use Rattle.pos_audit.proofs.DifferenceLemmas.{differs_not}
use Rattle.pos_audit.proofs.ComparingLemmas.{holds_file_kept, readable_kept, told_by_name}

-- ---- names

-- a name is another one, or is not
cases_name : (m n : List ℕ) → (m ≡ n) ⊎ (m ≡ n → ⊥)
cases_name m n = elim (cases_Bool (bytes_eq m n)) [
  | inl same ↦ inl ((bytes_eq-Decides m n).0 same)
  | inr other ↦ inr (λ e. false≢true (sym other ∙ (bytes_eq-Decides m n).1 e))
]

two_codes : (a b : ℕ) → a ≡ b → a ≡ 45 → b ≡ 46 → ⊥
two_codes a b same one other = absurd (omega arith)

-- the second file has no scratch name
pub second_is_no_scratch : (base : List ℕ) → IsScratchName base (second_name base) → ⊥
second_is_no_scratch base (n, is) =
    let ends : codes "-audit" ≡ 46 ∷ decimal n = append_cancel_left base (codes "-audit") (46 ∷ decimal n) is in
    two_codes 45 46 (ap (λ xs. get_or xs 0 0) ends) refl refl

-- each name of a run begins with its base
pub run_begins : (base n : List ℕ) → IsRunName (second_name base) base n → ((rest : List ℕ) → n ≡ base ++ rest → ⊥) → ⊥
run_begins base n (inl is) apart = apart (codes "-audit") is
run_begins base n (inr (k, is)) apart = apart (46 ∷ decimal k) is

no_option : (o : Option (List ℕ)) → (IsSome o → ⊥) → o ≡ None
no_option None never = refl
no_option (Some b) never = absurd (never refl)

pub some_there : (o : Option (List ℕ)) → o ≡ None → IsSome o → ⊥
some_there None is some = false≢true some
some_there (Some b) is some = none-some b (sym is)

-- ---- what an audit says

-- a comparison with the one plot is an audit
pub audit_for : (b c : List ℕ) (audited : Audited) → IsPlotBeside b c → IsComparison b c audited → IsAuditFor b audited
audit_for b c (Same n) beside is = (subst (λ x. IsFileOfPlot x (said_id b) (said_size b)) (sym is.0) beside.of_plot, is.1)
audit_for b c (Differs at want found) beside is = (
  λ own.
      let same : b ≡ c = one_plot_file b c (said_id b) (said_size b) own beside.of_plot (sym beside.layout) (sym beside.memo_is) in
      differs_not b at (subst (λ x. DifferAt b x at) (sym same) is.0),
  (c, beside, is.0, is.1, is.2),
)

-- the plot that was made of an open plot is the one beside its file
beside_file : (p : PlotState) (b c : List ℕ) (v : View) → IsPlotFile p b v → IsFileWith p.header.layout p.memo c p.header.id.0 p.header.size → IsPlotBeside b c
beside_file p b c v holds is =
    subst (λ (l : Layout). IsFileWith l (memo_in b) c (said_id b) (said_size b)) (layout_said p.header b holds.header)
    (subst (λ (m : List ℕ). IsFileWith p.header.layout m c (said_id b) (said_size b)) holds.memo_is
    (subst (λ (h : Header). IsFileWith p.header.layout p.memo c h.id.0 h.size) holds.header is))

-- an open plot's file holds its bytes, and no more
pub plot_holds : (p : PlotState) (b : List ℕ) (v : View) → IsDisk v → IsOpen p v → IsPlotFile p b v → HoldsFile p.file b v
plot_holds p b v disk is holds =
    let there = (disk.named p.file holds.name holds.named).there in
    let same : there.0 ≡ b = same_Some there.0 b (sym there.1 ∙ holds.contents) in
    let most : v.size_of p.file ≤ length b = subst (λ x. v.size_of p.file ≤ length x) same there.2 in
    let said : p.header.file_length ≡ length b = ap (λ (h : Header). h.file_length) holds.header ∙ holds.opens.said in
    let whole = is.whole in
    record {
      name = holds.name;
      named = holds.named;
      contents = holds.contents;
      size = omega arith;
    }

pub plot_readable : (p : PlotState) (v : View) → IsOpen p v → IsReadable p.file v
plot_readable p v is = record { live = is.live; there = is.there }

-- ---- an open plot

-- no memory before anything was done
pub audit_none : (p : PlotState) (base : List ℕ) (v : View) → IsPlotAudit p base (Err Memory) v v
audit_none p base v = record {
  others = frame_none (IsRunName (second_name base) base) Nothing v;
  spares = λ n there. spared_none n v;
  there = λ some. frame_none Nothing Nothing v;
  stops = λ some. tt;
  cause = tt;
  quiet = λ other. refl;
  audited = tt;
  within = tt;
  absent = tt;
  gone = tt;
}

module _ (p : PlotState) (base : List ℕ) (old mid : View) where
  abbrev Ran : Result Counts PlotFault → Type 0
  Ran result = IsPlotRun p.header.layout p.memo p.header.id.0 p.header.size (2 ^ (p.header.size + 1)) (second_name base) base result old mid

  -- the run by the values that it was called with
  pub run_is : (l : Layout) (memo id : List ℕ) (size k capacity : ℕ) (name : List ℕ) (result : Result Counts PlotFault) → l ≡ p.header.layout → memo ≡ p.memo → id ≡ p.header.id.0
      → size ≡ p.header.size → k ≡ size → capacity ≡ 2 ^ (k + 1) → name ≡ second_name base → IsPlotRun l memo id size capacity name base result old mid → Ran result
  run_is l memo id size k capacity name result layout same_memo same_id same_size same_k same_capacity same_name run =
      subst (λ (m : Layout). IsPlotRun m p.memo p.header.id.0 p.header.size (2 ^ (p.header.size + 1)) (second_name base) base result old mid) layout
      (subst (λ (m : List ℕ). IsPlotRun l m p.header.id.0 p.header.size (2 ^ (p.header.size + 1)) (second_name base) base result old mid) same_memo
      (subst (λ (m : List ℕ). IsPlotRun l memo m p.header.size (2 ^ (p.header.size + 1)) (second_name base) base result old mid) same_id
      (subst (λ (m : ℕ). IsPlotRun l memo id m (2 ^ (m + 1)) (second_name base) base result old mid) same_size
      (subst (λ (m : ℕ). IsPlotRun l memo id size (2 ^ (m + 1)) (second_name base) base result old mid) same_k
      (subst (λ (m : ℕ). IsPlotRun l memo id size m (second_name base) base result old mid) same_capacity
      (subst (λ (m : List ℕ). IsPlotRun l memo id size capacity m base result old mid) same_name run))))))

  -- a run spares each name that was there
  run_spares : (result : Result Counts PlotFault) → Ran result → (n : List ℕ) → IsSome (old.contents n) → IsSpared n old mid
  run_spares result run n there = elim (cases_name n (second_name base)) [
    | inl same ↦ spared_beside Nothing Nothing n old mid (run.there (subst (λ m. IsSome (old.contents m)) same there)) (λ x. x)
    | inr other ↦ run.spares n other there
  ]

  refused_stops : (fault : PlotFault) → IsStopped (Err fault) → IsStoppedEarly (Err (of_plotting fault))
  refused_stops (IsTaken Plot) is = tt
  refused_stops (IsTaken (ScratchFile n)) is = absurd is
  refused_stops (PlotFull t) is = absurd is
  refused_stops PlottingFailed is = tt
  refused_stops (PlotDamage d) is = absurd is
  refused_stops PlotMemory is = tt

  refused_cause : (fault : PlotFault) → IsPlotCause p.header.id.0 p.header.size (2 ^ (p.header.size + 1)) (second_name base) base fault old mid
      → IsPlotAuditCause p base (of_plotting fault) old mid
  refused_cause (IsTaken Plot) cause = cause
  refused_cause (IsTaken (ScratchFile n)) cause = cause
  refused_cause (PlotFull t) cause = cause
  refused_cause PlottingFailed cause = cause
  refused_cause (PlotDamage d) cause = cause
  refused_cause PlotMemory cause = tt

  -- the second file was not made
  pub plot_refused : (fault : PlotFault) (result : Result Audited AuditFault) → result ≡ Err (of_plotting fault) → Ran (Err fault) → IsPlotAudit p base result old mid
  plot_refused fault result is run = subst (λ r. IsPlotAudit p base r old mid) (sym is) (record {
    others = run.others;
    spares = run_spares (Err fault) run;
    there = run.there;
    stops = λ some. refused_stops fault (run.stops some);
    cause = refused_cause fault run.cause;
    quiet = λ other. run.quiet (λ e. other (ap of_plotting e));
    audited = tt;
    within = tt;
    absent = tt;
    gone = tt;
  })

  -- it was made
  module _ (counts : Counts) (run : Ran (Ok counts)) (new : View) (is : IsOpen p old) (disk : IsDisk old)
      (apart : (n : List ℕ) → NameOf p.file old n → IsRunName (second_name base) base n → ⊥) where
    pub still_readable : IsReadable p.file mid
    still_readable = readable_kept (IsRunName (second_name base) base) Nothing p.file old mid run.others (λ x. x) apart (plot_readable p old is)

    was_absent : old.contents (second_name base) ≡ None
    was_absent = no_option (old.contents (second_name base)) run.stops

    frame : (result : Result Audited AuditFault) → IsSecondCompared p.file (second_name base) result mid new → ChangesOnly (IsRunName (second_name base) base) Nothing old new
    frame result compared = frame_then (IsRunName (second_name base) base) (IsRunName (second_name base) base) (Just (second_name base)) Nothing Nothing Nothing old mid new
        (λ n x. x) (λ n x. inl x) (λ f l x. x) (λ f l x. x) run.others compared.others

    spared : (result : Result Audited AuditFault) → IsSecondCompared p.file (second_name base) result mid new → (n : List ℕ) → IsSome (old.contents n) → IsSpared n old new
    spared result compared n there =
        let other : n ≡ second_name base → ⊥ = λ e. some_there (old.contents n) (ap old.contents e ∙ was_absent) there in
        spared_then (IsRunName (second_name base) base) (Just (second_name base)) Nothing Nothing n old mid new run.others compared.others
        (run.spares n other there) (spared_beside (Just (second_name base)) Nothing n mid new compared.others other)

    compared_cause : (fault : AuditFault) → IsSecondCause (second_name base) fault mid new → IsPlotAuditCause p base fault old new
    compared_cause Absent cause = absurd cause
    compared_cause Lost cause = λ told. let left = run.plotted told in none-some left.file (sym cause ∙ left.contents)
    compared_cause (Exists name) cause = absurd cause
    compared_cause (TableFull t) cause = absurd cause
    compared_cause DiskFailed cause = subst (λ n. Rose n new.faults) run.quiet cause
    compared_cause (IsDamaged d) cause = absurd cause
    compared_cause (Scratch d) cause = absurd cause
    compared_cause Memory cause = tt

    all_gone : new.contents (second_name base) ≡ None → ChangesOnly (Just (second_name base)) Nothing mid new → (n : List ℕ) → new.contents n ≡ old.contents n
    all_gone none kept n = elim (cases_name n (second_name base)) [
      | inl same ↦ ap new.contents same ∙ none ∙ sym (ap old.contents same ∙ was_absent)
      | inr other ↦ kept.contents n other ∙ run.same n other
    ]

    answered_for : (audited : Audited) → ((b c : List ℕ) → HoldsFile p.file b mid → mid.contents (second_name base) ≡ Some c → IsComparison b c audited)
        → old.tells ≡ true → (b : List ℕ) → IsPlotFile p b old → IsAuditFor b audited
    answered_for audited compared told b holds =
        let left = run.plotted told in
        let held : HoldsFile p.file b mid = holds_file_kept (IsRunName (second_name base) base) Nothing p.file b old mid run.others (λ x. x) apart is.live (plot_holds p b old disk is holds) in
        audit_for b left.file audited (beside_file p b left.file old holds left.of_plot) (compared b left.file held left.contents)

    pub readable_by : (file : ℕ) → file ≡ p.file → IsReadable file mid
    readable_by file same = subst (λ (f : ℕ). IsReadable f mid) (sym same) still_readable

    plot_compared : (result : Result Audited AuditFault) → IsSecondCompared p.file (second_name base) result mid new → IsPlotAudit p base result old new
    plot_compared (Ok audited) compared = record {
      others = frame (Ok audited) compared;
      spares = spared (Ok audited) compared;
      there = λ some. absurd (run.stops some);
      stops = λ some. absurd (run.stops some);
      cause = tt;
      quiet = compared.quiet ∙ run.quiet;
      audited = answered_for audited compared.compared;
      within = run.within;
      absent = run.absent;
      gone = all_gone compared.gone compared.others;
    }
    plot_compared (Err fault) compared = record {
      others = frame (Err fault) compared;
      spares = spared (Err fault) compared;
      there = λ some. absurd (run.stops some);
      stops = λ some. absurd (run.stops some);
      cause = compared_cause fault compared.cause;
      quiet = λ other. compared.quiet other ∙ run.quiet;
      audited = tt;
      within = tt;
      absent = tt;
      gone = tt;
    }

    pub compared_by_name : (file : ℕ) (name : List ℕ) (result : Result Audited AuditFault) → file ≡ p.file → name ≡ second_name base → IsSecondCompared file name result mid new → IsPlotAudit p base result old new
    compared_by_name file name result same same_name compared =
        plot_compared result (subst (λ (f : ℕ). IsSecondCompared f (second_name base) result mid new) same (subst (λ (m : List ℕ). IsSecondCompared file m result mid new) same_name compared))

-- ---- a file by its name

kept_wide : (base : List ℕ) (old new : View) → ChangesOnly Nothing Nothing old new → ChangesOnly (IsRunName (second_name base) base) Nothing old new
kept_wide base old new kept =
    frame_then (IsRunName (second_name base) base) Nothing Nothing Nothing Nothing Nothing old new new (λ n x. absurd x) (λ n x. absurd x) (λ f l x. x) (λ f l x. x) kept (frame_none Nothing Nothing new)

-- nothing was done but the opening, which was refused
not_opened : (name base : List ℕ) (fault : AuditFault) (old new : View) → ChangesOnly Nothing Nothing old new → IsStoppedEarly (Err fault) → IsAuditCause name base fault old new
    → ((fault ≡ DiskFailed → ⊥) → SameFaults old new) → (HasOpened (Err fault) → ⊥) → IsAudit name base (Err fault) old new
not_opened name base fault old new kept stops cause quiet opened = record {
  others = kept_wide base old new kept;
  file = spared_beside Nothing Nothing name old new kept (λ x. x);
  spares = λ n there. spared_beside Nothing Nothing n old new kept (λ x. x);
  there = λ some. kept;
  stops = λ some. stops;
  cause = cause;
  quiet = quiet;
  opened = λ has. absurd (opened has);
  audited = tt;
  within = tt;
  absent = tt;
  gone = tt;
}

opening_refused : {X : Type 0} (name base : List ℕ) (refusal : OpenRefusal) (old new : View) → ChangesOnly Nothing Nothing old new
    → ((d : Damage) → IsErrOf {T = X} (Err refusal) (OpensDamaged d) → old.tells ≡ true → (b : List ℕ) × (old.contents name ≡ Some b) × (opening (layout_in b) b (length b) ≡ Some d))
    → (IsErrOf {T = X} (Err refusal) NoFile → WasAbsent name old)
    → CountsFaults {X = X} OpeningFailed (Err refusal) old new
    → IsAudit name base (Err (of_opening refusal)) old new
opening_refused name base NoFile old new kept damage absent faults =
    not_opened name base Absent old new kept tt (absent refl) (λ other. faults.quiet (λ e. cc)) (λ x. x)
opening_refused name base OpeningFailed old new kept damage absent faults =
    not_opened name base DiskFailed old new kept tt (faults.failed refl) (λ other. absurd (other refl)) (λ x. x)
opening_refused name base (OpensDamaged d) old new kept damage absent faults =
    not_opened name base (IsDamaged d) old new kept tt (damage d refl) (λ other. faults.quiet (λ e. cc)) (λ x. x)
opening_refused name base OpeningMemory old new kept damage absent faults =
    not_opened name base Memory old new kept tt tt (λ other. faults.quiet (λ e. cc)) (λ x. x)

pub audit_not_opened : {X : Type 0} (name base : List ℕ) (refusal : OpenRefusal) (result : Result Audited AuditFault) (old new : View) → result ≡ Err (of_opening refusal)
    → ChangesOnly Nothing Nothing old new
    → ((d : Damage) → IsErrOf {T = X} (Err refusal) (OpensDamaged d) → old.tells ≡ true → (b : List ℕ) × (old.contents name ≡ Some b) × (opening (layout_in b) b (length b) ≡ Some d))
    → (IsErrOf {T = X} (Err refusal) NoFile → WasAbsent name old)
    → CountsFaults {X = X} OpeningFailed (Err refusal) old new
    → IsAudit name base result old new
audit_not_opened {X} name base refusal result old new is kept damage absent faults =
    subst (λ r. IsAudit name base r old new) (sym is) (opening_refused {X = X} name base refusal old new kept damage absent faults)

-- it was opened
module _ (name base : List ℕ) (p : PlotState) (old mid : View) (kept : ChangesOnly Nothing Nothing old mid) (same : SameFaults old mid) (opened : IsPlotOpened name p old mid)
    (begins : (rest : List ℕ) → name ≡ base ++ rest → ⊥) where
  -- the file has no name that the run may write
  pub file_apart : IsDisk mid → (n : List ℕ) → NameOf p.file mid n → IsRunName (second_name base) base n → ⊥
  file_apart disk n named is =
      let told : mid.tells ≡ true = told_by_name p.file n mid disk named in
      let named_so : NameOf p.file mid name = opened.named (sym kept.tells ∙ told) in
      let one : n ≡ name = same_Some n name (sym named ∙ named_so) in
      run_begins base n is (λ rest e. begins rest (sym one ∙ e))

  not_of_run : IsRunName (second_name base) base name → ⊥
  not_of_run is = run_begins base name is begins

  module _ (new : View) where
    all_frames : (result : Result Audited AuditFault) → IsPlotAudit p base result mid new → ChangesOnly (IsRunName (second_name base) base) Nothing old new
    all_frames result audit =
        frame_then (IsRunName (second_name base) base) Nothing (IsRunName (second_name base) base) Nothing Nothing Nothing old mid new (λ n x. absurd x) (λ n x. x) (λ f l x. x) (λ f l x. x) kept audit.others

    file_spared : (result : Result Audited AuditFault) → IsPlotAudit p base result mid new → IsSpared name old new
    file_spared result audit =
        spared_then Nothing (IsRunName (second_name base) base) Nothing Nothing name old mid new kept audit.others
        (spared_beside Nothing Nothing name old mid kept (λ x. x)) (spared_beside (IsRunName (second_name base) base) Nothing name mid new audit.others not_of_run)

    all_spared : (result : Result Audited AuditFault) → IsPlotAudit p base result mid new → (n : List ℕ) → IsSome (old.contents n) → IsSpared n old new
    all_spared result audit n there =
        let first = spared_beside Nothing Nothing n old mid kept (λ x. x) in
        spared_then Nothing (IsRunName (second_name base) base) Nothing Nothing n old mid new kept audit.others
        first (audit.spares n (spared_there n old mid first there))

    there_then : IsSome (old.contents (second_name base)) → IsSome (mid.contents (second_name base))
    there_then some = subst (λ (o : Option (List ℕ)). IsSome o) (sym (kept.contents (second_name base) (λ x. x))) some

    nothing_made : (result : Result Audited AuditFault) → IsPlotAudit p base result mid new → IsSome (old.contents (second_name base)) → ChangesOnly Nothing Nothing old new
    nothing_made result audit some =
        frame_then Nothing Nothing Nothing Nothing Nothing Nothing old mid new (λ n x. x) (λ n x. x) (λ f l x. x) (λ f l x. x) kept (audit.there (there_then some))

    opens_told : TellsBytes name old (λ b. Opens (layout_in b) b)
    opens_told = λ told.
        let held = opened.holds told in
        (held.0, held.1, subst (λ (l : Layout). Opens l held.0) (layout_said p.header held.0 held.2.header) held.2.opens)

    cause_then : (fault : AuditFault) → IsPlotAuditCause p base fault mid new → IsAuditCause name base fault old new
    cause_then Absent cause = absurd cause
    cause_then Lost cause = λ told. cause (kept.tells ∙ told)
    cause_then (Exists Second) cause = λ told.
        subst (λ (o : Option (List ℕ)). IsSome o) (kept.contents (second_name base) (λ x. x)) (cause (kept.tells ∙ told))
    cause_then (Exists (ScratchName number)) cause = record {
      few = cause.few;
      there = λ told. subst (λ (o : Option (List ℕ)). IsSome o) (kept.contents (scratch_name base number) (λ x. x)) (cause.there (kept.tells ∙ told));
      before = λ m less. sym (kept.contents (scratch_name base m) (λ x. x)) ∙ cause.before m less;
    }
    cause_then (TableFull t) cause = λ told.
        let held = opened.holds told in
        (held.0, held.1, subst (λ (h : Header). IsFull h.id.0 h.size (2 ^ (h.size + 1)) t) held.2.header (cause (kept.tells ∙ told)))
    cause_then DiskFailed cause = subst (λ n. Rose n new.faults) same cause
    cause_then (IsDamaged d) cause = absurd cause
    cause_then (Scratch d) cause = (cause.0, λ told. cause.1 (kept.tells ∙ told))
    cause_then Memory cause = tt

    pub audit_done : (result : Result Audited AuditFault) → IsPlotAudit p base result mid new → IsAudit name base result old new
    audit_done (Ok audited) audit = record {
      others = all_frames (Ok audited) audit;
      file = file_spared (Ok audited) audit;
      spares = all_spared (Ok audited) audit;
      there = nothing_made (Ok audited) audit;
      stops = λ some. audit.stops (there_then some);
      cause = tt;
      quiet = audit.quiet ∙ same;
      opened = λ has. opens_told;
      audited = λ told. let held = opened.holds told in (held.0, held.1, audit.audited (kept.tells ∙ told) held.0 held.2);
      within = λ told. let held = opened.holds told in
          (held.0, held.1, subst (λ (h : Header). HasNoFullTable h.id.0 h.size) held.2.header (audit.within (kept.tells ∙ told)));
      absent = λ m few. sym (kept.contents (scratch_name base m) (λ x. x)) ∙ audit.absent m few;
      gone = λ n. audit.gone n ∙ kept.contents n (λ x. x);
    }
    audit_done (Err fault) audit = record {
      others = all_frames (Err fault) audit;
      file = file_spared (Err fault) audit;
      spares = all_spared (Err fault) audit;
      there = nothing_made (Err fault) audit;
      stops = λ some. audit.stops (there_then some);
      cause = cause_then fault audit.cause;
      quiet = λ other. audit.quiet other ∙ same;
      opened = λ has. opens_told;
      audited = tt;
      within = tt;
      absent = tt;
      gone = tt;
    }
