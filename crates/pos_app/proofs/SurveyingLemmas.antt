-- What `survey` tells by its status, and what it leaves. Of a survey as far as its plot a plotting run is told.
use Rattle.std.proofs.Common.{◌≡◌, ℕ, ◌+◌, ◌^◌, true, List, ◌++◌, Result, Ok, Err, refl, sym, ap, ◌∙◌, inl, arith, []}
use Rattle.std.specs.Prelude.{IsSome}
use Rattle.pos_edge.specs.Sinks.{Heard, followed_by}
use Rattle.pos_edge.specs.View.{View, IsDisk}
use Rattle.pos_plot.specs.declared.fault.PlotFault.{PlotFault}
use Rattle.pos_plot.specs.declared.fault.PlotFault.TheVariants.{Exists, TableFull, DiskFailed, Scratch, Memory}
use Rattle.pos_plot.specs.declared.run.Counts.{Counts}
use Rattle.pos_layout.specs.declared.layout.Layout.TheVariants.{Two}
use Rattle.pos_plot.specs.PlotRuns.{IsPlotRun}
use Rattle.pos_reader.specs.declared.refusal.OpenRefusal.TheVariants.{Absent, DiskFailed as OpeningFailed, Damage as OpensDamaged, Memory as NoMemory}
use Rattle.pos_reader.specs.declared.refusal.ReadRefusal.TheVariants.{DiskFailed as ReadingFailed, Damage as ReadsDamaged}
use Rattle.pos_check.specs.declared.summary.Summary.{Summary}
use Rattle.pos_check.specs.declared.surveying.SurveyFault.{SurveyFault}
use Rattle.pos_check.specs.declared.surveying.SurveyFault.TheVariants.{Plot, Open, Read}
use Rattle.pos_check.specs.Challenges.{survey_id}
use Rattle.pos_check.specs.Surveys.{IsDiskFault, IsSurvey, StopsAtOnce}
use Rattle.pos_app.specs.Statuses.{done_status, refused_status, usage_status, disk_fault_status, damage_status, name_status, full_status, sink_fault_status, scratch_status, memory_status, list_status}
use Rattle.pos_app.specs.Answers.{EndsWith, Says}
use Rattle.pos_app.specs.FileAnswers.{SaysUnlessFault}
use Rattle.pos_app.specs.PlottingAnswers.{EndsSafely, counts_of}
use Rattle.pos_app.specs.SurveyAnswers.{HasSurveyedPlot, IsSurveyStatus, SaysSurvey, SaysSurveyEnd, TellsSurvey, survey_text}
use Rattle.pos_app.specs.Texts.{checked_line, disk_fault_line, exists_line}
use Rattle.pos_app.proofs.PlottingLemmas.{comes, complete, ended, ends, full, named, one_of_six, said_with, same_line, status_for, text_for, there, undamaged, whole}

-- ---- as far as the plot

abbrev plot_answer : Result (Counts × Summary) SurveyFault → Result Counts PlotFault
plot_answer (Ok both) = Ok both.0
plot_answer (Err (Plot fault)) = Err fault
plot_answer (Err (Open Absent)) = Err Memory
plot_answer (Err (Open OpeningFailed)) = Err DiskFailed
plot_answer (Err (Open (OpensDamaged d))) = Err Memory
plot_answer (Err (Open NoMemory)) = Err Memory
plot_answer (Err (Read ReadingFailed)) = Err DiskFailed
plot_answer (Err (Read (ReadsDamaged d))) = Err Memory

is_disk_fault : (fault : PlotFault) → IsDiskFault (Plot fault) → fault ≡ DiskFailed
is_disk_fault (Exists name) is = absurd is
is_disk_fault (TableFull table) is = absurd is
is_disk_fault DiskFailed is = refl
is_disk_fault (Scratch damage) is = absurd is
is_disk_fault Memory is = absurd is

module _ (k number n : ℕ) (file base : List ℕ) (before after : View) where
  abbrev IsRunOf : Result (Counts × Summary) SurveyFault → Type 0
  IsRunOf answer = IsSurvey number k n file base answer before after

  abbrev IsRunAs : Result Counts PlotFault → Type 0
  IsRunAs answer = IsPlotRun Two [] (survey_id number) k (2 ^ (k + 1)) file base answer before after

  -- a run that ended with a fault of the disk, or with want of memory
  run_failed : (fault : SurveyFault) → IsRunOf (Err fault) → (StopsAtOnce (Err fault) → ⊥) → (IsDiskFault fault → ⊥) → IsRunAs (Err Memory)
  run_failed fault run never quiet = record {
    others = run.others;
    spares = run.spares;
    there = run.there;
    stops = λ some. absurd (never (run.stops some));
    images = run.images;
    cause = tt;
    quiet = λ other. run.quiet quiet;
    within = tt;
    absent = tt;
    same = tt;
    plotted = tt;
  }

  run_of : (answer : Result (Counts × Summary) SurveyFault) → IsRunOf answer → IsRunAs (plot_answer answer)
  run_of (Ok both) run = record {
    others = run.others;
    spares = run.spares;
    there = run.there;
    stops = λ some. absurd (run.stops some);
    images = run.images;
    cause = tt;
    quiet = run.quiet (λ x. x);
    within = run.within tt;
    absent = run.absent tt;
    same = run.same tt;
    plotted = λ told. (run.summed told).left;
  }
  run_of (Err (Plot fault)) run = record {
    others = run.others;
    spares = run.spares;
    there = run.there;
    stops = run.stops;
    images = run.images;
    cause = run.cause;
    quiet = λ other. run.quiet (λ is. other (is_disk_fault fault is));
    within = tt;
    absent = tt;
    same = tt;
    plotted = tt;
  }
  run_of (Err (Open Absent)) run = run_failed (Open Absent) run (λ x. x) (λ x. x)
  run_of (Err (Open OpeningFailed)) run = record {
    others = run.others;
    spares = run.spares;
    there = run.there;
    stops = λ some. absurd (run.stops some);
    images = run.images;
    cause = run.cause;
    quiet = λ other. absurd (other refl);
    within = tt;
    absent = tt;
    same = tt;
    plotted = tt;
  }
  run_of (Err (Open (OpensDamaged d))) run = run_failed (Open (OpensDamaged d)) run (λ x. x) (λ x. x)
  run_of (Err (Open NoMemory)) run = run_failed (Open NoMemory) run (λ x. x) (λ x. x)
  run_of (Err (Read ReadingFailed)) run = record {
    others = run.others;
    spares = run.spares;
    there = run.there;
    stops = λ some. absurd (run.stops some);
    images = run.images;
    cause = run.cause;
    quiet = λ other. absurd (other refl);
    within = tt;
    absent = tt;
    same = tt;
    plotted = tt;
  }
  run_of (Err (Read (ReadsDamaged d))) run = run_failed (Read (ReadsDamaged d)) run (λ x. x) (λ x. x)

-- ---- the status and the text

abbrev text_of : ℕ → List ℕ → List ℕ → Result (Counts × Summary) SurveyFault → List ℕ
text_of k file base (Ok both) = survey_text k both.0.tables both.1
text_of k file base (Err (Plot fault)) = text_for k file base (Err fault)
text_of k file base (Err (Open refusal)) = disk_fault_line
text_of k file base (Err (Read refusal)) = disk_fault_line

module _ (k number n : ℕ) (file base : List ℕ) (before after : View) (result : ℕ) (old new : Heard) where
  abbrev IsRun : Result (Counts × Summary) SurveyFault → Type 0
  IsRun answer = IsSurvey number k n file base answer before after

  abbrev IsSaidOf : Result (Counts × Summary) SurveyFault → Type 0
  IsSaidOf answer = SaysSurveyEnd k file base answer result old new

  ended_so : (answer : Result (Counts × Summary) SurveyFault) → IsRun answer → before.tells ≡ true → IsSaidOf answer → EndsWith (status_for (plot_answer answer)) result
  ended_so (Ok both) run told said = ends result old new done_status _ said
  ended_so (Err (Plot fault)) run told said = ended result old new k file base (Err fault) said
  ended_so (Err (Open Absent)) run told said = absurd (run.cause told)
  ended_so (Err (Open OpeningFailed)) run told said = ends result old new disk_fault_status disk_fault_line (inl said)
  ended_so (Err (Open (OpensDamaged d))) run told said = absurd (run.cause told)
  ended_so (Err (Open NoMemory)) run told said = inl said.status
  ended_so (Err (Read ReadingFailed)) run told said = ends result old new disk_fault_status disk_fault_line (inl said)
  ended_so (Err (Read (ReadsDamaged d))) run told said = absurd (run.cause told)

  whole_so : (s : ℕ) (answer : Result (Counts × Summary) SurveyFault) → IsRun answer → before.tells ≡ true → result ≡ s → (s ≡ sink_fault_status → ⊥) → (s ≡ memory_status → ⊥) → IsSaidOf answer
      → (status_for (plot_answer answer) ≡ s) × (new.text ≡ followed_by old.text (text_of k file base answer))
  whole_so s (Ok both) run told is no_fault memory said = said_with result old new s done_status _ is no_fault memory said
  whole_so s (Err (Plot fault)) run told is no_fault memory said = whole result old new k file base s (Err fault) is no_fault memory said
  whole_so s (Err (Open Absent)) run told is no_fault memory said = absurd (run.cause told)
  whole_so s (Err (Open OpeningFailed)) run told is no_fault memory said = said_with result old new s disk_fault_status disk_fault_line is no_fault memory (inl said)
  whole_so s (Err (Open (OpensDamaged d))) run told is no_fault memory said = absurd (run.cause told)
  whole_so s (Err (Open NoMemory)) run told is no_fault memory said = absurd (memory (sym is ∙ said.status))
  whole_so s (Err (Read ReadingFailed)) run told is no_fault memory said = said_with result old new s disk_fault_status disk_fault_line is no_fault memory (inl said)
  whole_so s (Err (Read (ReadsDamaged d))) run told is no_fault memory said = absurd (run.cause told)

  -- ---- the facts of a survey, over a disk that tells

  surveyed : (answer : Result (Counts × Summary) SurveyFault) → IsRun answer → before.tells ≡ true → status_for (plot_answer answer) ≡ done_status
      → new.text ≡ followed_by old.text (text_of k file base answer) → HasSurveyedPlot k number n file base before after old new
  surveyed (Ok both) run told is text =
      let has = run.summed told in
      let left = has.left in
      record {
        bytes = left.file;
        contents = left.contents;
        only = left.only;
        is_plot = left.of_plot;
        others = run.same tt;
        scratch = run.absent tt;
        summary = both.1;
        sums_up = has.sums_up;
        text = text ∙ ap (λ line. followed_by old.text (line ++ checked_line both.1.challenges both.1.proofs both.1.digest)) (same_line k both.0.tables (counts_of left.of_plot.of_plot.plot)
            (left.numbers 1 (omega arith) (omega arith)) (left.numbers 2 (omega arith) (omega arith)) (left.numbers 3 (omega arith) (omega arith))
            (left.numbers 4 (omega arith) (omega arith)) (left.numbers 5 (omega arith) (omega arith)) (left.numbers 6 (omega arith) (omega arith))
            (left.numbers 7 (omega arith) (omega arith)));
      }
  surveyed (Err (Plot (Exists name))) run told is text = absurd (omega arith)
  surveyed (Err (Plot (TableFull table))) run told is text = absurd (omega arith)
  surveyed (Err (Plot DiskFailed)) run told is text = absurd (omega arith)
  surveyed (Err (Plot (Scratch damage))) run told is text = absurd (omega arith)
  surveyed (Err (Plot Memory)) run told is text = absurd (omega arith)
  surveyed (Err (Open Absent)) run told is text = absurd (omega arith)
  surveyed (Err (Open OpeningFailed)) run told is text = absurd (omega arith)
  surveyed (Err (Open (OpensDamaged d))) run told is text = absurd (omega arith)
  surveyed (Err (Open NoMemory)) run told is text = absurd (omega arith)
  surveyed (Err (Read ReadingFailed)) run told is text = absurd (omega arith)
  surveyed (Err (Read (ReadsDamaged d))) run told is text = absurd (omega arith)

  there_so : (answer : Result (Counts × Summary) SurveyFault) → IsRun answer → IsSaidOf answer → IsSome (before.contents file)
      → SaysUnlessFault name_status (exists_line file) before after result old new
  there_so (Ok both) run said some = absurd (run.stops some)
  there_so (Err (Plot fault)) run said some =
      there (survey_id number) k file base before after result old new (Err fault) (run_of k number n file base before after (Err (Plot fault)) run) said some
  there_so (Err (Open Absent)) run said some = absurd (run.stops some)
  there_so (Err (Open OpeningFailed)) run said some = absurd (run.stops some)
  there_so (Err (Open (OpensDamaged d))) run said some = absurd (run.stops some)
  there_so (Err (Open NoMemory)) run said some = absurd (run.stops some)
  there_so (Err (Read ReadingFailed)) run said some = absurd (run.stops some)
  there_so (Err (Read (ReadsDamaged d))) run said some = absurd (run.stops some)

  -- a text that is that of a plotting run, where the status is one of its refusals
  text_same : (answer : Result (Counts × Summary) SurveyFault) (s : ℕ) → status_for (plot_answer answer) ≡ s → (s ≡ done_status → ⊥) → (s ≡ disk_fault_status → ⊥) → (s ≡ memory_status → ⊥)
      → text_of k file base answer ≡ text_for k file base (plot_answer answer)
  text_same (Ok both) s is done disk memory = absurd (done (sym is))
  text_same (Err (Plot fault)) s is done disk memory = refl
  text_same (Err (Open Absent)) s is done disk memory = absurd (memory (sym is))
  text_same (Err (Open OpeningFailed)) s is done disk memory = absurd (disk (sym is))
  text_same (Err (Open (OpensDamaged d))) s is done disk memory = absurd (memory (sym is))
  text_same (Err (Open NoMemory)) s is done disk memory = absurd (memory (sym is))
  text_same (Err (Read ReadingFailed)) s is done disk memory = absurd (disk (sym is))
  text_same (Err (Read (ReadsDamaged d))) s is done disk memory = absurd (memory (sym is))

  -- no status of a plotting run is that of a damaged file
  never_damage : (answer : Result Counts PlotFault) → status_for answer ≡ damage_status → ⊥
  never_damage (Ok counts) is = omega arith
  never_damage (Err (Exists name)) is = omega arith
  never_damage (Err (TableFull table)) is = omega arith
  never_damage (Err DiskFailed) is = omega arith
  never_damage (Err (Scratch damage)) is = omega arith
  never_damage (Err Memory) is = omega arith

  module _ (says : SaysSurvey k number n file base before after result old new) where
    abbrev as_plot : IsPlotRun Two [] (survey_id number) k (2 ^ (k + 1)) file base (plot_answer says.answer) before after
    as_plot = run_of k number n file base before after says.answer says.run

    -- all that the status tells over a disk that tells
    pub tells_survey : before.tells ≡ true → TellsSurvey k number n file base before after result old new
    tells_survey told = record {
      surveyed = λ is. let w = whole_so done_status says.answer says.run told is (λ e. omega arith) (λ e. omega arith) says.said in surveyed says.answer says.run told w.0 w.1;
      names = record {
        there = there_so says.answer says.run says.said;
        named = λ is.
            let w = whole_so name_status says.answer says.run told is (λ e. omega arith) (λ e. omega arith) says.said in
            let same = text_same says.answer name_status w.0 (λ e. omega arith) (λ e. omega arith) (λ e. omega arith) in
            named (survey_id number) k file base before after result old new (plot_answer says.answer) as_plot told w.0 (w.1 ∙ ap (λ text. followed_by old.text text) same);
      };
      full = record {
        named = λ is.
            let w = whole_so full_status says.answer says.run told is (λ e. omega arith) (λ e. omega arith) says.said in
            let same = text_same says.answer full_status w.0 (λ e. omega arith) (λ e. omega arith) (λ e. omega arith) in
            full (survey_id number) k file base before after result old new (plot_answer says.answer) as_plot told w.0 (w.1 ∙ ap (λ text. followed_by old.text text) same);
        comes = comes (survey_id number) k file base before after result old new (plot_answer says.answer) as_plot told (ended_so says.answer says.run told says.said);
      };
      undamaged = λ is.
          undamaged (survey_id number) k file base before after result old new (plot_answer says.answer) as_plot told
          (whole_so scratch_status says.answer says.run told is (λ e. omega arith) (λ e. omega arith) says.said).0;
      unbroken = λ is. never_damage (plot_answer says.answer) (whole_so damage_status says.answer says.run told is (λ e. omega arith) (λ e. omega arith) says.said).0;
      complete = complete (survey_id number) k file base before after result old new (plot_answer says.answer) as_plot told (ended_so says.answer says.run told says.said);
    }

    -- and what it leaves
    pub survey_ends_safely : IsDisk after → EndsSafely (survey_id number) k file base before after
    survey_ends_safely disk = record {
      others = says.run.others;
      spares = says.run.spares;
      there = says.run.there;
      crash = says.run.images;
      left = λ none told. says.run.images none after.clock (after.contents file) says.run.others.clock (omega arith) (disk.contents_image file told);
    }

  -- ---- whatever the disk

  not_with : (s status : ℕ) (text : List ℕ) → result ≡ s → (s ≡ sink_fault_status → ⊥) → (s ≡ memory_status → ⊥) → (status ≡ s → ⊥) → Says status text result old new → ⊥
  not_with s status text is sink memory other said = other (said_with result old new s status text is sink memory said).0

  other_status : (answer : Result (Counts × Summary) SurveyFault) (s : ℕ) → (s ≡ done_status → ⊥) → (s ≡ disk_fault_status → ⊥) → (s ≡ damage_status → ⊥) → (s ≡ name_status → ⊥)
      → (s ≡ full_status → ⊥) → (s ≡ scratch_status → ⊥) → (s ≡ memory_status → ⊥) → (s ≡ sink_fault_status → ⊥) → IsSaidOf answer → result ≡ s → ⊥
  other_status (Ok both) s done disk damage name is_full scratch memory sink said is = not_with s done_status _ is sink memory (λ e. done (sym e)) said
  other_status (Err (Plot fault)) s done disk damage name is_full scratch memory sink said is =
      one_of_six (survey_id number) k file base before after result old new (Err fault) s done disk name is_full scratch memory
      (whole result old new k file base s (Err fault) is sink memory said).0
  other_status (Err (Open Absent)) s done disk damage name is_full scratch memory sink said is = not_with s name_status _ is sink memory (λ e. name (sym e)) said
  other_status (Err (Open OpeningFailed)) s done disk damage name is_full scratch memory sink said is = not_with s disk_fault_status _ is sink memory (λ e. disk (sym e)) (inl said)
  other_status (Err (Open (OpensDamaged d))) s done disk damage name is_full scratch memory sink said is = not_with s damage_status _ is sink memory (λ e. damage (sym e)) said
  other_status (Err (Open NoMemory)) s done disk damage name is_full scratch memory sink said is = memory (sym is ∙ said.status)
  other_status (Err (Read ReadingFailed)) s done disk damage name is_full scratch memory sink said is = not_with s disk_fault_status _ is sink memory (λ e. disk (sym e)) (inl said)
  other_status (Err (Read (ReadsDamaged d))) s done disk damage name is_full scratch memory sink said is = not_with s damage_status _ is sink memory (λ e. damage (sym e)) said

  pub is_survey_status : SaysSurvey k number n file base before after result old new → IsSurveyStatus result
  is_survey_status says = record {
    not_refused = other_status says.answer refused_status (λ e. omega arith) (λ e. omega arith) (λ e. omega arith) (λ e. omega arith) (λ e. omega arith) (λ e. omega arith) (λ e. omega arith)
        (λ e. omega arith) says.said;
    not_usage = other_status says.answer usage_status (λ e. omega arith) (λ e. omega arith) (λ e. omega arith) (λ e. omega arith) (λ e. omega arith) (λ e. omega arith) (λ e. omega arith)
        (λ e. omega arith) says.said;
    not_list = other_status says.answer list_status (λ e. omega arith) (λ e. omega arith) (λ e. omega arith) (λ e. omega arith) (λ e. omega arith) (λ e. omega arith) (λ e. omega arith)
        (λ e. omega arith) says.said;
  }
