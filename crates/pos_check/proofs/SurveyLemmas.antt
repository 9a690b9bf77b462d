-- What follows of opening and checking a file, and of that after a plotting run.
use Rattle.std.proofs.Common.{◌≡◌, ℕ, ◌+◌, ◌^◌, true, List, [], length, IsSome, Result, Ok, Err, IsErrOf, refl, sym, ap, ◌∙◌, subst, arith}
use Rattle.std.specs.Prelude.{Option, Some, None}
use Rattle.pos_edge.specs.Faults.{Rose}
use Rattle.pos_edge.specs.View.{View}
use Rattle.pos_edge.specs.Frame.{ChangesOnly, Nothing, SameFaults}
use Rattle.pos_edge.specs.Calls.{WasAbsent}
use Rattle.pos_edge.specs.Images.{EachImage}
use Rattle.pos_edge.specs.ScratchWork.{IsSpared}
use Rattle.pos_edge.proofs.ScratchWorkLemmas.{spared_beside, spared_then}
use Rattle.pos_edge.proofs.Frames.{each_beside, each_end, each_then, frame_then}
use Rattle.pos_layout.specs.declared.damage.Damage.{Damage}
use Rattle.pos_layout.specs.declared.layout.Layout.TheVariants.{Two}
use Rattle.pos_layout.specs.Damages.{opening}
use Rattle.pos_layout.specs.Rules.{Opens}
use Rattle.pos_layout.proofs.FileOpening.{nothing_where_opens}
use Rattle.pos_layout.specs.Fields.{layout_in}
use Rattle.pos_plot.specs.declared.run.Counts.{Counts}
use Rattle.pos_plot.specs.declared.fault.PlotFault.{PlotFault}
use Rattle.pos_plot.specs.PlotFiles.{IsLeftPlot, OpensAs}
use Rattle.pos_plot.specs.PlotRuns.{IsPlotRun, IsRunName}
use Rattle.pos_reader.specs.declared.refusal.OpenRefusal.{OpenRefusal}
use Rattle.pos_reader.specs.declared.refusal.OpenRefusal.TheVariants.{Absent, DiskFailed as OpeningFailed, Damage as OpensDamaged, Memory}
use Rattle.pos_reader.specs.declared.refusal.ReadRefusal.{ReadRefusal}
use Rattle.pos_reader.specs.declared.refusal.ReadRefusal.TheVariants.{DiskFailed as ReadingFailed, Damage as ReadsDamaged}
use Rattle.pos_reader.specs.Plots.{PlotState, IsPlotFile}
use Rattle.pos_reader.specs.Readings.{CountsFaults, IsPlotOpened, IsReading}
use Rattle.pos_reader.proofs.AnswerLemmas.{layout_said}
use Rattle.pos_check.specs.declared.summary.Summary.{Summary}
use Rattle.pos_check.specs.declared.surveying.SurveyFault.{SurveyFault}
use Rattle.pos_check.specs.declared.surveying.SurveyFault.TheVariants.{Plot, Open, Read}
use Rattle.pos_check.specs.Challenges.{survey_id}
use Rattle.pos_check.specs.Summaries.{IsSummary, StopsCheck}
use Rattle.pos_check.specs.Surveys.{HasSurveyed, IsCheckCause, IsFileCheck, IsSurvey, IsSurveyCause}
use Rattle.pos_check.proofs.WholeSummaries.{each_challenge_is_checked, summary_is_of_the_proofs}

-- ---- opening and checking

kept_then : (a b c : View) → ChangesOnly Nothing Nothing a b → ChangesOnly Nothing Nothing b c → ChangesOnly Nothing Nothing a c
kept_then a b c first second =
    frame_then Nothing Nothing Nothing Nothing Nothing Nothing a b c (λ n x. x) (λ n x. x) (λ f l x. x) (λ f l x. x) first second

-- an open plot's bytes open
opens_file : (p : PlotState) (b : List ℕ) (v : View) → IsPlotFile p b v → Opens (layout_in b) b
opens_file p b v holds = subst (λ l. Opens l b) (layout_said p.header b holds.header) holds.opens

-- the file was not opened
not_opened : {X : Type 0} (name : List ℕ) (n : ℕ) (refusal : OpenRefusal) (old new : View) → ChangesOnly Nothing Nothing old new
    → ((d : Damage) → IsErrOf {T = X} (Err refusal) (OpensDamaged d) → old.tells ≡ true → (b : List ℕ) × (old.contents name ≡ Some b) × (opening (layout_in b) b (length b) ≡ Some d))
    → (IsErrOf {T = X} (Err refusal) Absent → WasAbsent name old)
    → CountsFaults {X = X} OpeningFailed (Err refusal) old new
    → IsFileCheck name n (Err (Open refusal)) old new
not_opened name n Absent old new kept damage absent faults = record {
  kept = kept;
  quiet = λ other. faults.quiet (λ e. cc);
  challenges = tt;
  summed = tt;
  cause = absent refl;
}
not_opened name n OpeningFailed old new kept damage absent faults = record {
  kept = kept;
  quiet = λ other. absurd (other tt);
  challenges = tt;
  summed = tt;
  cause = faults.failed refl;
}
not_opened name n (OpensDamaged d) old new kept damage absent faults = record {
  kept = kept;
  quiet = λ other. faults.quiet (λ e. cc);
  challenges = tt;
  summed = tt;
  cause = damage d refl;
}
not_opened name n Memory old new kept damage absent faults = record {
  kept = kept;
  quiet = λ other. faults.quiet (λ e. cc);
  challenges = tt;
  summed = tt;
  cause = tt;
}

-- it was opened, and not checked to its end
not_checked : {X : Type 0} (name : List ℕ) (n : ℕ) (p q : PlotState) (refusal : ReadRefusal) (old between new : View) (most : ℕ)
    → ChangesOnly Nothing Nothing old between → SameFaults old between → IsPlotOpened name p old between
    → IsReading {X = X} most (Err refusal) p q between new
    → ((d : Damage) → IsErrOf {T = X} (Err refusal) (ReadsDamaged d) → (b : List ℕ) → IsPlotFile p b between → StopsCheck (layout_in b) b n d)
    → IsFileCheck name n (Err (Read refusal)) old new
not_checked name n p q ReadingFailed old between new most kept same opened reading damage = record {
  kept = kept_then old between new kept reading.left.reads.kept;
  quiet = λ other. absurd (other tt);
  challenges = tt;
  summed = tt;
  cause = subst (λ f. Rose f new.faults) same (reading.faults.failed refl);
}
not_checked name n p q (ReadsDamaged d) old between new most kept same opened reading damage = record {
  kept = kept_then old between new kept reading.left.reads.kept;
  quiet = λ other. reading.faults.quiet (λ e. cc) ∙ same;
  challenges = tt;
  summed = tt;
  cause = λ tells. let held = opened.holds tells in (held.0, held.1, (opens_file p held.0 between held.2, damage d refl held.0 held.2));
}

pub file_not_checked : {X : Type 0} (name : List ℕ) (n : ℕ) (p q : PlotState) (refusal : ReadRefusal) (result : Result Summary SurveyFault) (old between new : View) (most : ℕ)
    → result ≡ Err (Read refusal)
    → ChangesOnly Nothing Nothing old between → SameFaults old between → IsPlotOpened name p old between
    → IsReading {X = X} most (Err refusal) p q between new
    → ((d : Damage) → IsErrOf {T = X} (Err refusal) (ReadsDamaged d) → (b : List ℕ) → IsPlotFile p b between → StopsCheck (layout_in b) b n d)
    → IsFileCheck name n result old new
file_not_checked {X} name n p q refusal result old between new most is kept same opened reading damage =
    subst (λ r. IsFileCheck name n r old new) (sym is) (not_checked {X = X} name n p q refusal old between new most kept same opened reading damage)

-- it was checked
pub file_checked : (name : List ℕ) (n : ℕ) (p q : PlotState) (s : Summary) (old between new : View) (most : ℕ)
    → ChangesOnly Nothing Nothing old between → SameFaults old between → IsPlotOpened name p old between
    → IsReading most (Ok s) p q between new → s.challenges ≡ n
    → ((b : List ℕ) → IsPlotFile p b between → IsSummary (layout_in b) b n s)
    → IsFileCheck name n (Ok s) old new
file_checked name n p q s old between new most kept same opened reading challenges summed = record {
  kept = kept_then old between new kept reading.left.reads.kept;
  quiet = λ other. reading.faults.quiet ∙ same;
  challenges = challenges;
  summed = λ tells. let held = opened.holds tells in (held.0, held.1, (opens_file p held.0 between held.2, summed held.0 held.2));
  cause = tt;
}

-- ---- after a plotting run

one_bytes : (a b : List ℕ) (contents : Option (List ℕ)) → contents ≡ Some a → contents ≡ Some b → a ≡ b
one_bytes a b contents e f = let both : ◌≡◌ {A = Option (List ℕ)} (Some a) (Some b) = sym e ∙ f in cc

not_there : (b : List ℕ) (contents : Option (List ℕ)) → contents ≡ None → contents ≡ Some b → ⊥
not_there b contents e f = let both : ◌≡◌ {A = Option (List ℕ)} None (Some b) = sym e ∙ f in cc

never_finds : (b : List ℕ) (d : Damage) → Opens (layout_in b) b → opening (layout_in b) b (length b) ≡ Some d → ⊥
never_finds b d opens finds = let both : ◌≡◌ {A = Option Damage} None (Some d) = sym (nothing_where_opens (layout_in b) b opens) ∙ finds in cc

-- the plot still stands after a call that changes nothing
still_left : (id : List ℕ) (k : ℕ) (name : List ℕ) (counts : Counts) (between new : View) → ChangesOnly Nothing Nothing between new
    → IsLeftPlot Two [] id k name counts between → IsLeftPlot Two [] id k name counts new
still_left id k name counts between new kept left = record {
  file = left.file;
  contents = kept.contents name (λ x. x) ∙ left.contents;
  only = λ image is. left.only image ((kept.images name new.clock image (λ x. x) kept.clock (omega arith)).0 is);
  of_plot = left.of_plot;
  numbers = left.numbers;
  bytes = left.bytes;
}

-- the plot that was made has this summary
pub has_surveyed : (number k n : ℕ) (name : List ℕ) (counts : Counts) (s : Summary) (between new : View) → between.tells ≡ true
    → IsLeftPlot Two [] (survey_id number) k name counts between → IsFileCheck name n (Ok s) between new → HasSurveyed number k n name counts s new
has_surveyed number k n name counts s between new tells left check =
    let summed = check.summed tells in
    let same : summed.0 ≡ left.file = one_bytes summed.0 left.file _ summed.1 left.contents in
    record {
      left = still_left (survey_id number) k name counts between new check.kept left;
      sums_up = summary_is_of_the_proofs left.file left.of_plot.of_plot.plot (survey_id number) k n s left.of_plot.of_plot.well left.of_plot.of_plot.plot_of
          (subst (λ b. IsSummary (layout_in b) b n s) same summed.2.1);
    }

-- and a refusal is not of its file
survey_cause : (number k n : ℕ) (name base : List ℕ) (counts : Counts) (fault : SurveyFault) (old between new : View) → between.tells ≡ old.tells → SameFaults old between
    → (old.tells ≡ true → IsLeftPlot Two [] (survey_id number) k name counts between) → IsCheckCause name n fault between new → IsSurveyCause number k name base fault old new
survey_cause number k n name base counts (Plot fault) old between new tells same left cause = absurd cause
survey_cause number k n name base counts (Open Absent) old between new tells same left cause = λ told.
    not_there (left told).file _ cause (left told).contents
survey_cause number k n name base counts (Open OpeningFailed) old between new tells same left cause = subst (λ f. Rose f new.faults) same cause
survey_cause number k n name base counts (Open (OpensDamaged d)) old between new tells same left cause = λ told.
    let has = cause (tells ∙ told) in
    let plot = left told in
    let one : has.0 ≡ plot.file = one_bytes has.0 plot.file _ has.1 plot.contents in
    never_finds plot.file d plot.of_plot.of_plot.well.stores.opens (subst (λ b. opening (layout_in b) b (length b) ≡ Some d) one has.2)
survey_cause number k n name base counts (Open Memory) old between new tells same left cause = tt
survey_cause number k n name base counts (Read ReadingFailed) old between new tells same left cause = subst (λ f. Rose f new.faults) same cause
survey_cause number k n name base counts (Read (ReadsDamaged d)) old between new tells same left cause = λ told.
    let has = cause (tells ∙ told) in
    let plot = left told in
    let one : has.0 ≡ plot.file = one_bytes has.0 plot.file _ has.1 plot.contents in
    each_challenge_is_checked plot.file plot.of_plot.of_plot.plot (survey_id number) k n d plot.of_plot.of_plot.well plot.of_plot.of_plot.plot_of (subst (λ b. StopsCheck (layout_in b) b n d) one has.2.1)

-- the run was for the id of the number, with the capacity of the size
pub run_of : (number k size capacity : ℕ) (id name base : List ℕ) (result : Result Counts PlotFault) (old new : View) → id ≡ survey_id number → capacity ≡ 2 ^ (size + 1)
    → size ≡ k → IsPlotRun Two [] id k capacity name base result old new → IsPlotRun Two [] (survey_id number) k (2 ^ (k + 1)) name base result old new
run_of number k size capacity id name base result old new same most of run =
    subst (λ id. IsPlotRun Two [] id k (2 ^ (k + 1)) name base result old new) same
    (subst (λ capacity. IsPlotRun Two [] id k capacity name base result old new) (most ∙ ap (λ k. 2 ^ (k + 1)) of) run)

-- a plot was made, and its check was answered
module _
    (number k n : ℕ) (name base : List ℕ) (counts : Counts) (old between new : View)
    (run : IsPlotRun Two [] (survey_id number) k (2 ^ (k + 1)) name base (Ok counts) old between) where
  still : (checked : Result Summary SurveyFault) → IsFileCheck name n checked between new → old.tells ≡ true → IsLeftPlot Two [] (survey_id number) k name counts new
  still checked check told = still_left (survey_id number) k name counts between new check.kept (run.plotted told)

  frame : (checked : Result Summary SurveyFault) → IsFileCheck name n checked between new → ChangesOnly (IsRunName name base) Nothing old new
  frame checked check =
      frame_then (IsRunName name base) (IsRunName name base) Nothing Nothing Nothing Nothing old between new (λ m x. x) (λ m x. absurd x) (λ f l x. x) (λ f l x. x) run.others check.kept

  crash : (checked : Result Summary SurveyFault) → IsFileCheck name n checked between new → old.contents name ≡ None → EachImage name (OpensAs Two [] (survey_id number) k) old new
  crash checked check none =
      let P = OpensAs Two [] (survey_id number) k in
      each_then name P Nothing Nothing old between new check.kept (run.images none)
      (each_beside name P Nothing Nothing between new check.kept (λ x. x) (each_end name P old between run.others.clock (run.images none)))

  spared : (checked : Result Summary SurveyFault) → IsFileCheck name n checked between new → (m : List ℕ) → (m ≡ name → ⊥) → IsSome (old.contents m) → IsSpared m old new
  spared checked check m other there =
      spared_then (IsRunName name base) Nothing Nothing Nothing m old between new run.others check.kept (run.spares m other there)
      (spared_beside Nothing Nothing m between new check.kept (λ x. x))

  pub check_refused : (fault : SurveyFault) (result : Result (Counts × Summary) SurveyFault) → result ≡ Err fault → IsFileCheck name n (Err fault) between new
      → IsSurvey number k n name base result old new
  check_refused fault result is check = subst (λ r. IsSurvey number k n name base r old new) (sym is) (record {
    others = frame (Err fault) check;
    there = λ some. absurd (run.stops some);
    stops = λ some. absurd (run.stops some);
    spares = spared (Err fault) check;
    images = crash (Err fault) check;
    cause = survey_cause number k n name base counts fault old between new run.others.tells run.quiet run.plotted check.cause;
    quiet = λ other. check.quiet other ∙ run.quiet;
    within = λ has. run.within;
    same = λ has m other. check.kept.contents m (λ x. x) ∙ run.same m other;
    absent = λ has. run.absent;
    left = λ has told. (counts, still (Err fault) check told);
    challenges = tt;
    summed = tt;
  })

  pub check_done : (s : Summary) → IsFileCheck name n (Ok s) between new → IsSurvey number k n name base (Ok (counts, s)) old new
  check_done s check = record {
    others = frame (Ok s) check;
    there = λ some. absurd (run.stops some);
    stops = λ some. absurd (run.stops some);
    spares = spared (Ok s) check;
    images = crash (Ok s) check;
    cause = tt;
    quiet = λ other. check.quiet other ∙ run.quiet;
    within = λ has. run.within;
    same = λ has m other. check.kept.contents m (λ x. x) ∙ run.same m other;
    absent = λ has. run.absent;
    left = λ has told. (counts, still (Ok s) check told);
    challenges = check.challenges;
    summed = λ told. has_surveyed number k n name counts s between new (run.others.tells ∙ told) (run.plotted told) check;
  }
