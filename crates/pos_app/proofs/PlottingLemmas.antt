-- What `plot` tells by its status, and what it leaves.
use Rattle.std.proofs.Common.{◌≡◌, ◌⊎◌, ℕ, ◌-◌, ◌<◌, ◌≤◌, true, List, [], Option, Some, None, Result, Ok, Err, refl, sym, ap, ◌∙◌, inl, inr, arith}
use Rattle.std.specs.Prelude.{IsSome, slice_index}
use Rattle.std.proofs.lemmas.Bool.{false≢true}
use Rattle.pos_edge.specs.Faults.{Rose}
use Rattle.pos_edge.specs.ScratchNames.{scratch_name}
use Rattle.pos_edge.specs.Sinks.{Heard, followed_by}
use Rattle.pos_edge.specs.View.{View, IsDisk}
use Rattle.pos_laws.specs.Making.{IsAbove, IsFull}
use Rattle.pos_plot.specs.declared.fault.Name.TheVariants.{Plot, Scratch as ScratchFile}
use Rattle.pos_plot.specs.declared.fault.PlotFault.{PlotFault}
use Rattle.pos_plot.specs.declared.fault.PlotFault.TheVariants.{Exists, TableFull, DiskFailed, Scratch, Memory}
use Rattle.pos_plot.specs.declared.run.Counts.{Counts}
use Rattle.pos_plot.specs.PlotRuns.{IsFirstThere, IsPlotRun}
use Rattle.pos_app.specs.Statuses.{done_status, refused_status, usage_status, disk_fault_status, damage_status, name_status, full_status, sink_fault_status, scratch_status, memory_status, list_status}
use Rattle.pos_app.specs.Answers.{EndsWith, Says}
use Rattle.pos_app.specs.FileAnswers.{SaysUnlessFault}
use Rattle.pos_layout.specs.declared.layout.Layout.TheVariants.{Two}
use Rattle.pos_app.specs.PlottingAnswers.{SaysPlotting, SaysPlotEnd, HasPlotted, EndsSafely, CanPlot, TellsPlotting, IsPlotStatus, capacity_of, counts_of}
use Rattle.pos_app.specs.Texts.{plotted_line, exists_line, full_line, scratch_line, disk_fault_line}

-- ---- the status and the text of an answer

abbrev pub status_for : Result Counts PlotFault → ℕ
status_for (Ok counts) = done_status
status_for (Err (Exists name)) = name_status
status_for (Err (TableFull table)) = full_status
status_for (Err DiskFailed) = disk_fault_status
status_for (Err (Scratch damage)) = scratch_status
status_for (Err Memory) = memory_status

abbrev pub text_for : ℕ → List ℕ → List ℕ → Result Counts PlotFault → List ℕ
text_for k file base (Ok counts) = plotted_line k counts.tables
text_for k file base (Err (Exists Plot)) = exists_line file
text_for k file base (Err (Exists (ScratchFile number))) = exists_line (scratch_name base number)
text_for k file base (Err (TableFull table)) = full_line table
text_for k file base (Err DiskFailed) = disk_fault_line
text_for k file base (Err (Scratch damage)) = scratch_line damage
text_for k file base (Err Memory) = []

-- nothing is there where nothing is
not_some : (o : Option (List ℕ)) → o ≡ None → IsSome o → ⊥
not_some None none some = false≢true some
not_some (Some b) none some = let n : ◌≡◌ {A = Option (List ℕ)} (Some b) None = none in cc

-- one line by two lists of counts that are the same at seven places
pub same_line : (k : ℕ) (xs ys : List ℕ) → slice_index xs 0 ≡ slice_index ys 0 → slice_index xs 1 ≡ slice_index ys 1 → slice_index xs 2 ≡ slice_index ys 2
    → slice_index xs 3 ≡ slice_index ys 3 → slice_index xs 4 ≡ slice_index ys 4 → slice_index xs 5 ≡ slice_index ys 5 → slice_index xs 6 ≡ slice_index ys 6
    → plotted_line k xs ≡ plotted_line k ys
same_line k xs ys e0 e1 e2 e3 e4 e5 e6 = rw (e0, e1, e2, e3, e4, e5, e6) refl

module _ (result : ℕ) (old new : Heard) where
  pub ends : (status : ℕ) (text : List ℕ) → Says status text result old new → EndsWith status result
  ends status text (inl (inl said)) = inl said.ends
  ends status text (inl (inr cut)) = inr (inl cut.status)
  ends status text (inr unsaid) = inr (inr unsaid.status)

  -- a text was said with this status, so that it is the whole text
  pub said_with : (s status : ℕ) (text : List ℕ) → result ≡ s → (s ≡ sink_fault_status → ⊥) → (s ≡ memory_status → ⊥) → Says status text result old new
      → (status ≡ s) × (new.text ≡ followed_by old.text text)
  said_with s status text is no_fault memory (inl (inl said)) = (sym said.ends ∙ is, said.whole)
  said_with s status text is no_fault memory (inl (inr cut)) = absurd (no_fault (sym is ∙ cut.status))
  said_with s status text is no_fault memory (inr unsaid) = absurd (memory (sym is ∙ unsaid.status))

  module _ (k : ℕ) (file base : List ℕ) where
    pub ended : (answer : Result Counts PlotFault) → SaysPlotEnd k file base answer result old new → EndsWith (status_for answer) result
    ended (Ok counts) said = ends done_status _ said
    ended (Err (Exists Plot)) said = ends name_status _ said
    ended (Err (Exists (ScratchFile number))) said = ends name_status _ said
    ended (Err (TableFull table)) said = ends full_status _ said
    ended (Err DiskFailed) said = ends disk_fault_status disk_fault_line (inl said)
    ended (Err (Scratch damage)) said = ends scratch_status _ said
    ended (Err Memory) said = inl said.status

    pub whole : (s : ℕ) (answer : Result Counts PlotFault) → result ≡ s → (s ≡ sink_fault_status → ⊥) → (s ≡ memory_status → ⊥) → SaysPlotEnd k file base answer result old new
        → (status_for answer ≡ s) × (new.text ≡ followed_by old.text (text_for k file base answer))
    whole s (Ok counts) is no_fault memory said = said_with s done_status _ is no_fault memory said
    whole s (Err (Exists Plot)) is no_fault memory said = said_with s name_status _ is no_fault memory said
    whole s (Err (Exists (ScratchFile number))) is no_fault memory said = said_with s name_status _ is no_fault memory said
    whole s (Err (TableFull table)) is no_fault memory said = said_with s full_status _ is no_fault memory said
    whole s (Err DiskFailed) is no_fault memory said = said_with s disk_fault_status disk_fault_line is no_fault memory (inl said)
    whole s (Err (Scratch damage)) is no_fault memory said = said_with s scratch_status _ is no_fault memory said
    whole s (Err Memory) is no_fault memory said = absurd (memory (sym is ∙ said.status))

-- ---- the facts of a run

module _ (id : List ℕ) (k : ℕ) (file base : List ℕ) (before after : View) (result : ℕ) (old new : Heard) where
  abbrev IsRun : Result Counts PlotFault → Type 0
  IsRun answer = IsPlotRun Two [] id k (capacity_of k) file base answer before after

  abbrev IsSaidOf : Result Counts PlotFault → Type 0
  IsSaidOf answer = SaysPlotEnd k file base answer result old new

  -- the plot is made
  plotted : (answer : Result Counts PlotFault) → IsRun answer → before.tells ≡ true → status_for answer ≡ done_status → new.text ≡ followed_by old.text (text_for k file base answer)
      → HasPlotted id k file base before after old new
  plotted (Ok counts) run told is text = let left = run.plotted told in record {
    bytes = left.file;
    contents = left.contents;
    only = left.only;
    is_plot = left.of_plot;
    others = run.same;
    scratch = run.absent;
    text = text ∙ ap (λ line. followed_by old.text line) (same_line k counts.tables (counts_of left.of_plot.of_plot.plot)
        (left.numbers 1 (omega arith) (omega arith)) (left.numbers 2 (omega arith) (omega arith)) (left.numbers 3 (omega arith) (omega arith))
        (left.numbers 4 (omega arith) (omega arith)) (left.numbers 5 (omega arith) (omega arith)) (left.numbers 6 (omega arith) (omega arith))
        (left.numbers 7 (omega arith) (omega arith)));
  }
  plotted (Err (Exists name)) run told is text = absurd (omega arith)
  plotted (Err (TableFull table)) run told is text = absurd (omega arith)
  plotted (Err DiskFailed) run told is text = absurd (omega arith)
  plotted (Err (Scratch damage)) run told is text = absurd (omega arith)
  plotted (Err Memory) run told is text = absurd (omega arith)

  -- the file's name was there
  pub there : (answer : Result Counts PlotFault) → IsRun answer → IsSaidOf answer → IsSome (before.contents file)
      → SaysUnlessFault name_status (exists_line file) before after result old new
  there (Ok counts) run said some = absurd (run.stops some)
  there (Err (Exists Plot)) run (inl said) some = inl said
  there (Err (Exists Plot)) run (inr unsaid) some = inr (inr unsaid)
  there (Err (Exists (ScratchFile number))) run said some = absurd (run.stops some)
  there (Err (TableFull table)) run said some = absurd (run.stops some)
  there (Err DiskFailed) run said some = inr (inl (record { said = said; cause = run.cause }))
  there (Err (Scratch damage)) run said some = absurd (run.stops some)
  there (Err Memory) run said some = inr (inr said)

  -- a name was there
  pub named : (answer : Result Counts PlotFault) → IsRun answer → before.tells ≡ true → status_for answer ≡ name_status → new.text ≡ followed_by old.text (text_for k file base answer)
      → (name : List ℕ) × IsSome (before.contents name) × (new.text ≡ followed_by old.text (exists_line name)) × ((name ≡ file) ⊎ ((number : ℕ) × (name ≡ scratch_name base number) × IsFirstThere base number before))
  named (Ok counts) run told is text = absurd (omega arith)
  named (Err (Exists Plot)) run told is text = (file, run.cause told, text, inl refl)
  named (Err (Exists (ScratchFile number))) run told is text = (scratch_name base number, run.cause.there told, text, inr (number, refl, run.cause))
  named (Err (TableFull table)) run told is text = absurd (omega arith)
  named (Err DiskFailed) run told is text = absurd (omega arith)
  named (Err (Scratch damage)) run told is text = absurd (omega arith)
  named (Err Memory) run told is text = absurd (omega arith)

  -- a table is full
  pub full : (answer : Result Counts PlotFault) → IsRun answer → before.tells ≡ true → status_for answer ≡ full_status → new.text ≡ followed_by old.text (text_for k file base answer)
      → (table : ℕ) × IsFull id k (capacity_of k) table × (new.text ≡ followed_by old.text (full_line table))
  full (Ok counts) run told is text = absurd (omega arith)
  full (Err (Exists name)) run told is text = absurd (omega arith)
  full (Err (TableFull table)) run told is text = (table, run.cause told, text)
  full (Err DiskFailed) run told is text = absurd (omega arith)
  full (Err (Scratch damage)) run told is text = absurd (omega arith)
  full (Err Memory) run told is text = absurd (omega arith)

  pub comes : (answer : Result Counts PlotFault) → IsRun answer → before.tells ≡ true → EndsWith (status_for answer) result → (m : ℕ) → 0 < m → m ≤ 6 → IsAbove id k m (capacity_of k)
      → EndsWith full_status result ⊎ ((result ≡ disk_fault_status) ⊎ (result ≡ name_status))
  comes (Ok counts) run told is m some few above = absurd (run.within told m some few above)
  comes (Err (Exists name)) run told (inl is) m some few above = inr (inr is)
  comes (Err (Exists name)) run told (inr other) m some few above = inl (inr other)
  comes (Err (TableFull table)) run told is m some few above = inl is
  comes (Err DiskFailed) run told (inl is) m some few above = inr (inl is)
  comes (Err DiskFailed) run told (inr other) m some few above = inl (inr other)
  comes (Err (Scratch damage)) run told is m some few above = absurd (run.cause.1 told)
  comes (Err Memory) run told (inl is) m some few above = inl (inr (inr is))
  comes (Err Memory) run told (inr other) m some few above = inl (inr other)

  -- no scratch file is damaged
  pub undamaged : (answer : Result Counts PlotFault) → IsRun answer → before.tells ≡ true → status_for answer ≡ scratch_status → ⊥
  undamaged (Ok counts) run told is = omega arith
  undamaged (Err (Exists name)) run told is = omega arith
  undamaged (Err (TableFull table)) run told is = omega arith
  undamaged (Err DiskFailed) run told is = omega arith
  undamaged (Err (Scratch damage)) run told is = run.cause.1 told
  undamaged (Err Memory) run told is = omega arith

  -- nothing is in the way
  pub complete : (answer : Result Counts PlotFault) → IsRun answer → before.tells ≡ true → EndsWith (status_for answer) result → CanPlot id k file base before
      → (Rose before.faults after.faults → ⊥) → EndsWith done_status result
  complete (Ok counts) run told is can quiet = is
  complete (Err (Exists Plot)) run told is can quiet = absurd (not_some _ can.file_absent (run.cause told))
  complete (Err (Exists (ScratchFile number))) run told is can quiet = absurd (not_some _ (can.scratch_absent number run.cause.few) (run.cause.there told))
  complete (Err (TableFull table)) run told is can quiet =
      let f = run.cause told in
      let second = f.second in
      let seventh = f.seventh in
      absurd (can.few (table - 1) (omega arith) (omega arith) f.above)
  complete (Err DiskFailed) run told is can quiet = absurd (quiet run.cause)
  complete (Err (Scratch damage)) run told is can quiet = absurd (run.cause.1 told)
  complete (Err Memory) run told (inl is) can quiet = inr (inr is)
  complete (Err Memory) run told (inr other) can quiet = inr other

  -- the status is never another command's
  pub one_of_six : (answer : Result Counts PlotFault) (s : ℕ) → (s ≡ done_status → ⊥) → (s ≡ disk_fault_status → ⊥) → (s ≡ name_status → ⊥) → (s ≡ full_status → ⊥) → (s ≡ scratch_status → ⊥)
      → (s ≡ memory_status → ⊥) → status_for answer ≡ s → ⊥
  one_of_six (Ok counts) s done disk name is_full scratch memory is = done (sym is)
  one_of_six (Err (Exists n)) s done disk name is_full scratch memory is = name (sym is)
  one_of_six (Err (TableFull table)) s done disk name is_full scratch memory is = is_full (sym is)
  one_of_six (Err DiskFailed) s done disk name is_full scratch memory is = disk (sym is)
  one_of_six (Err (Scratch damage)) s done disk name is_full scratch memory is = scratch (sym is)
  one_of_six (Err Memory) s done disk name is_full scratch memory is = memory (sym is)

  module _ (says : SaysPlotting id k file base before after result old new) where
    abbrev whole_of : (s : ℕ) → result ≡ s → (s ≡ sink_fault_status → ⊥) → (s ≡ memory_status → ⊥)
        → (status_for says.answer ≡ s) × (new.text ≡ followed_by old.text (text_for k file base says.answer))
    whole_of s is no_fault memory = whole result old new k file base s says.answer is no_fault memory says.said

    abbrev ends_so : EndsWith (status_for says.answer) result
    ends_so = ended result old new k file base says.answer says.said

    -- all that the status tells over a disk that tells
    pub tells_plotting : before.tells ≡ true → TellsPlotting id k file base before after result old new
    tells_plotting told = record {
      plotted = λ is. let w = whole_of done_status is (λ e. omega arith) (λ e. omega arith) in plotted says.answer says.run told w.0 w.1;
      names = record {
        there = there says.answer says.run says.said;
        named = λ is. let w = whole_of name_status is (λ e. omega arith) (λ e. omega arith) in named says.answer says.run told w.0 w.1;
      };
      full = record {
        named = λ is. let w = whole_of full_status is (λ e. omega arith) (λ e. omega arith) in full says.answer says.run told w.0 w.1;
        comes = comes says.answer says.run told ends_so;
      };
      undamaged = λ is. undamaged says.answer says.run told (whole_of scratch_status is (λ e. omega arith) (λ e. omega arith)).0;
      complete = complete says.answer says.run told ends_so;
    }

    never : (s : ℕ) → (s ≡ done_status → ⊥) → (s ≡ disk_fault_status → ⊥) → (s ≡ name_status → ⊥) → (s ≡ full_status → ⊥) → (s ≡ scratch_status → ⊥)
        → (s ≡ memory_status → ⊥) → (s ≡ sink_fault_status → ⊥) → result ≡ s → ⊥
    never s done disk name is_full scratch memory sink is = one_of_six says.answer s done disk name is_full scratch memory (whole_of s is sink memory).0

    -- whatever the disk
    pub is_plot_status : IsPlotStatus result
    is_plot_status = record {
      not_refused = never refused_status (λ e. omega arith) (λ e. omega arith) (λ e. omega arith) (λ e. omega arith) (λ e. omega arith) (λ e. omega arith) (λ e. omega arith);
      not_usage = never usage_status (λ e. omega arith) (λ e. omega arith) (λ e. omega arith) (λ e. omega arith) (λ e. omega arith) (λ e. omega arith) (λ e. omega arith);
      not_damage = never damage_status (λ e. omega arith) (λ e. omega arith) (λ e. omega arith) (λ e. omega arith) (λ e. omega arith) (λ e. omega arith) (λ e. omega arith);
      not_list = never list_status (λ e. omega arith) (λ e. omega arith) (λ e. omega arith) (λ e. omega arith) (λ e. omega arith) (λ e. omega arith) (λ e. omega arith);
    }

    -- and what it leaves
    pub ends_safely : IsDisk after → EndsSafely id k file base before after
    ends_safely disk = record {
      others = says.run.others;
      spares = says.run.spares;
      there = says.run.there;
      crash = says.run.images;
      left = λ none told. says.run.images none after.clock (after.contents file) says.run.others.clock (omega arith) (disk.contents_image file told);
    }
