-- A whole run from its three parts, at each of its exits.
use Rattle.std.proofs.Common.{ℕ, zero, suc, ◌≤◌, ◌<◌, ◌≡◌, ◌⊎◌, true, List, Option, None, Result, Ok, Err, Any, refl, sym, ap, ◌∙◌, subst, inl, inr, arith}
use Rattle.std.specs.Prelude.{IsSome}
use Rattle.std.proofs.lemmas.Bool.{cases_Bool, cases_eq, false≢true}
use Rattle.pos_edge.specs.View.{View, IsDisk}
use Rattle.pos_edge.specs.Faults.{Rose}
use Rattle.pos_edge.specs.Frame.{ChangesOnly, SameFaults, Nothing, Just, NameOf}
use Rattle.pos_edge.specs.Images.{EachImage}
use Rattle.pos_edge.specs.ScratchNames.{ScratchState, scratch_name, IsScratchName, IsNameIn, IsLeft}
use Rattle.pos_edge.specs.ScratchWork.{IsNameBetween, IsSpared}
use Rattle.pos_edge.specs.declared.scratch.WorkFault.{WorkFault}
use Rattle.pos_edge.specs.declared.scratch.WorkFault.TheVariants.{Exists as ScratchExists, DiskFailed as WorkFailed, Scratch as WorkDamage, Memory as WorkMemory}
use Rattle.pos_edge.proofs.Frames.{frame_none, frame_then, frame_wider, each_then, each_beside, each_weaker}
use Rattle.pos_edge.proofs.FaultLemmas.{Rose-since}
use Rattle.pos_edge.proofs.ScratchWorkLemmas.{cases_between, spared_beside, spared_none, spared_then, spared_there}
use Rattle.pos_layout.specs.declared.layout.Layout.{Layout}
use Rattle.pos_layout.specs.Files.{file_of}
use Rattle.pos_layout.specs.Drafts.{Draft, WriterState, Stands, IsWriteFault, plot_of}
use Rattle.pos_lists.specs.Trees.{IsInRange}
use Rattle.pos_laws.specs.PlotOf.{PlotOf}
use Rattle.pos_layout.specs.Images.{IsShut, IsShutOr, IsTinyOrShut}
use Rattle.pos_plot.specs.declared.fault.Name.TheVariants.{Plot, Scratch as ScratchFile}
use Rattle.pos_plot.specs.declared.fault.PlotFault.{PlotFault}
use Rattle.pos_plot.specs.declared.fault.PlotFault.TheVariants.{Exists, TableFull, DiskFailed, Scratch, Memory}
use Rattle.pos_plot.specs.declared.run.Counts.{Counts}
use Rattle.pos_plot.specs.Faults.{of_work}
use Rattle.pos_plot.specs.PlotFiles.{IsFileWith, OpensAs, IsLeftPlot}
use Rattle.pos_plot.specs.PlotRuns.{IsFirstThere, IsRunName, IsPlotCause, IsStopped, IsPlotRun}
use Rattle.pos_plot.specs.Steps.{IsFileStart, HasStarted, IsStartCause, IsFill, HasFilled, IsFillCause, IsClose, HasClosed}
use Rattle.pos_plot.proofs.StartLemmas.{there_absent, no_image, images_called, failure_of_work}
use Rattle.pos_plot.proofs.CloseLemmas.{name_in}
use Rattle.pos_plot.proofs.PlotLemmas.{tiny_opens_as, shut_opens_as, finished_opens_as, finished_is_of_plot, opens_with, counts_are}

module _ (l : Layout) (memo id : List ℕ) (k capacity : ℕ) (name base : List ℕ) (o : View) where
  -- no memory for the first of it
  pub run_none : IsDisk o → IsPlotRun l memo id k capacity name base (Err Memory) o o
  run_none disk = record {
    others = frame_none (IsRunName name base) Nothing o;
    spares = λ n other there. spared_none n o;
    there = λ some. frame_none Nothing Nothing o;
    stops = λ some. tt;
    images = λ none. each_beside name (OpensAs l memo id k) Nothing Nothing o o (frame_none Nothing Nothing o) (λ x. x)
        (λ i img. subst (OpensAs l memo id k) (sym (disk.absent_image name i none img)) tt);
    cause = tt;
    quiet = λ other. refl;
    within = tt;
    absent = tt;
    same = tt;
    plotted = tt;
  }

  start_cause : (fault : PlotFault) (a : View) → IsStartCause name o a fault → IsPlotCause id k capacity name base fault o a
  start_cause (Exists Plot) a cause = cause
  start_cause (Exists (ScratchFile n)) a cause = absurd cause
  start_cause (TableFull t) a cause = absurd cause
  start_cause DiskFailed a cause = cause
  start_cause (Scratch d) a cause = absurd cause
  start_cause Memory a cause = tt

  start_stops : (fault : PlotFault) (a : View) → IsStartCause name o a fault → IsStopped (Err fault)
  start_stops (Exists Plot) a cause = tt
  start_stops (Exists (ScratchFile n)) a cause = absurd cause
  start_stops (TableFull t) a cause = absurd cause
  start_stops DiskFailed a cause = tt
  start_stops (Scratch d) a cause = absurd cause
  start_stops Memory a cause = tt

  start_images : {X : Type 0} (r : Result X PlotFault) (a : View) → IsFileStart name r o a → o.contents name ≡ None → EachImage name (OpensAs l memo id k) o a
  start_images r a start none = each_weaker name IsTinyOrShut (OpensAs l memo id k) o a (tiny_opens_as l memo id k) (start.images none)

  -- the file was not begun
  pub run_not_started : (fault : PlotFault) (a : View) {X : Type 0} → IsFileStart {X = X} name (Err fault) o a → IsPlotRun l memo id k capacity name base (Err fault) o a
  run_not_started fault a start = record {
    others = frame_wider (IsRunName name base) (Just name) Nothing Nothing o a (λ n is. inl is) (λ f l x. x) start.kept;
    spares = λ n other there. spared_beside (Just name) Nothing n o a start.kept other;
    there = start.there;
    stops = λ some. start_stops fault a start.cause;
    images = start_images (Err fault) a start;
    cause = start_cause fault a start.cause;
    quiet = start.quiet;
    within = tt;
    absent = tt;
    same = tt;
    plotted = tt;
  }

  module _ {X : Type 0} (x : X) (w : WriterState) (a : View) (apart : IsScratchName base name → ⊥) (start : IsFileStart name (Ok x) o a) (started : HasStarted l memo id k name w o a) where
    new_file : (f : ℕ) → o.is_live f ≡ true → f ≡ w.file → ⊥
    new_file f live is = false≢true (sym started.fresh ∙ (ap o.is_live (sym is) ∙ live))

    not_there : IsSome (o.contents name) → ⊥
    not_there some = there_absent (o.contents name) some started.absent

    pub started_other : (n : List ℕ) → NameOf w.file a n → IsScratchName base n → ⊥
    started_other n is scratch = apart (subst (λ q. IsScratchName base q) (started.named n is) scratch)

    -- the plot file is none of the scratch files that are left
    pub filled_apart : (t : ScratchState) (filled : WriterState) (b : View) → HasFilled id k capacity base t w filled a b → IsLeft t filled.file → ⊥
    filled_apart t filled b h left = false≢true (sym (h.left filled.file left) ∙ (ap a.is_live h.file ∙ started.stands.keeps.file.bytes.live))

    pub filled_other : (t : ScratchState) (filled : WriterState) (b : View) → HasFilled id k capacity base t w filled a b → (n : List ℕ) → NameOf filled.file b n → IsScratchName t.base n → ⊥
    filled_other t filled b h n is scratch =
        started_other n (sym h.name ∙ (ap b.name_of (sym h.file) ∙ is)) (subst (λ q. IsScratchName q n) h.base_is scratch)

    frame_filled : (b : View) → ChangesOnly (λ n. NameOf w.file a n ⊎ IsScratchName base n) (Just w.file) a b → ChangesOnly (IsRunName name base) Nothing o b
    frame_filled b kept = frame_then (IsRunName name base) (Just name) (λ n. NameOf w.file a n ⊎ IsScratchName base n) Nothing Nothing (Just w.file) o a b (λ n is. inl is)
        (λ n is. elim is [ inl named ↦ inl (started.named n named) | inr scratch ↦ inr scratch ]) (λ f l y. y) new_file start.kept kept

    images_filled : {Y : Type 0} (r : Result Y PlotFault) (b : View) → IsDisk b → IsFill id k capacity base w.file r a b → EachImage name (OpensAs l memo id k) o b
    images_filled r b disk fill = each_then name (OpensAs l memo id k) (λ n. NameOf w.file a n ⊎ IsScratchName base n) (Just w.file) o a b fill.kept (start_images (Ok x) a start started.absent)
        (each_weaker name IsShut (OpensAs l memo id k) a b (shut_opens_as l memo id k) (images_called IsShut name w.file a b disk fill.kept.tells started.told fill.images))

    -- the start changed no scratch name
    scratch_same : (m : ℕ) → a.contents (scratch_name base m) ≡ o.contents (scratch_name base m)
    scratch_same m = start.kept.contents (scratch_name base m) (λ is. apart (m, sym is))

    -- a name that was there, but for the file's, while the file is made and filled
    spared_filled : {Y : Type 0} (r : Result Y PlotFault) (b : View) → IsFill id k capacity base w.file r a b → (n : List ℕ) → (n ≡ name → ⊥) → IsSome (o.contents n) → IsSpared n o b
    spared_filled r b fill n other there =
        let first = spared_beside (Just name) Nothing n o a start.kept other in
        spared_then (Just name) (λ n. NameOf w.file a n ⊎ IsScratchName base n) Nothing (Just w.file) n o a b start.kept fill.kept first
        (fill.spares n (λ named. other (started.named n named)) (spared_there n o a first there))

    fill_cause : (fault : PlotFault) (b : View) → IsFillCause id k capacity base a b fault → IsPlotCause id k capacity name base fault o b
    fill_cause (Exists Plot) b cause = absurd cause
    fill_cause (Exists (ScratchFile n)) b cause = record {
      few = cause.few;
      there = λ told. subst (λ y. IsSome y) (scratch_same n) (cause.there (start.kept.tells ∙ told));
      before = λ m less. sym (scratch_same m) ∙ cause.before m less;
    }
    fill_cause (TableFull t) b cause = λ told. cause (start.kept.tells ∙ told)
    fill_cause DiskFailed b cause = Rose-since o.faults a.faults b.faults start.kept.faults cause
    fill_cause (Scratch d) b cause = (cause.0, λ told. cause.1 (start.kept.tells ∙ told))
    fill_cause Memory b cause = tt

    -- the lists were not written
    pub run_not_filled : {Y : Type 0} (fault : PlotFault) (b : View) → IsDisk b → IsFill {X = Y} id k capacity base w.file (Err fault) a b → IsPlotRun l memo id k capacity name base (Err fault) o b
    run_not_filled fault b disk fill = record {
      others = frame_filled b fill.kept;
      spares = spared_filled (Err fault) b fill;
      there = λ some. absurd (not_there some);
      stops = λ some. absurd (not_there some);
      images = λ none. images_filled (Err fault) b disk fill;
      cause = fill_cause fault b fill.cause;
      quiet = λ other. fill.quiet other ∙ start.quiet;
      within = tt;
      absent = tt;
      same = tt;
      plotted = tt;
    }

    module _ {Y : Type 0} (y : Y) (t : ScratchState) (filled : WriterState) (b c : View) (disk_b : IsDisk b) (disk_c : IsDisk c)
        (fill : IsFill id k capacity base w.file (Ok y) a b) (has_filled : HasFilled id k capacity base t w filled a b) where
      file_is : filled.file ≡ w.file
      file_is = has_filled.file

      named_filled : (n : List ℕ) → NameOf filled.file b n → n ≡ name
      named_filled n is = started.named n (sym has_filled.name ∙ (ap b.name_of (sym file_is) ∙ is))

      told_filled : b.tells ≡ true → NameOf filled.file b name
      told_filled told = ap b.name_of file_is ∙ (has_filled.name ∙ started.told (sym fill.kept.tells ∙ told))

      told_from : o.tells ≡ true → a.tells ≡ true
      told_from told = start.kept.tells ∙ told

      frame_closed : ChangesOnly (λ n. NameOf filled.file b n ⊎ IsNameIn t.base t.left n) (λ f. (f ≡ filled.file) ⊎ IsLeft t f) b c → ChangesOnly (IsRunName name base) Nothing o c
      frame_closed kept = frame_then (IsRunName name base) (IsRunName name base) (λ n. NameOf filled.file b n ⊎ IsNameIn t.base t.left n) Nothing Nothing (λ f. (f ≡ filled.file) ⊎ IsLeft t f) o b c
          (λ n z. z) (λ n is. elim is [ inl named ↦ inl (named_filled n named) | inr among ↦ inr (subst (λ q. IsScratchName q n) has_filled.base_is (name_in t n among)) ])
          (λ f l z. z) (λ f l is. elim is [ inl same ↦ new_file f l (same ∙ file_is) | inr left ↦ not_left f l left ]) (frame_filled b fill.kept) kept
        where
          not_left : (f : ℕ) → o.is_live f ≡ true → IsLeft t f → ⊥
          not_left f live left = false≢true (sym (has_filled.left f left) ∙ start.kept.live f live (λ z. z))

      abbrev lists : (p : Draft) × Stands filled p b × (p.layout ≡ l) × (p.memo ≡ memo) × (a.tells ≡ true → PlotOf (plot_of p) id k × IsInRange (plot_of p))
      lists = has_filled.lists l memo started.stands

      abbrev draft : Draft
      draft = lists.0

      abbrev plot_file : List ℕ
      plot_file = file_of draft.layout draft.memo (plot_of draft)

      -- in the draft's own layout and with its memo, which are these
      abbrev of_draft : a.tells ≡ true → IsFileWith draft.layout draft.memo plot_file id k
      of_draft told = let plot = lists.4 told in finished_is_of_plot id k filled draft b lists.1 has_filled.ended plot.0 plot.1

      abbrev of_plot : a.tells ≡ true → IsFileWith l memo plot_file id k
      of_plot told = let is = of_draft told in record { of_plot = is.of_plot; layout = is.layout ∙ lists.2; memo_is = is.memo_is ∙ lists.3 }

      finished_opens : a.tells ≡ true → (image : Option (List ℕ)) → IsShutOr plot_file image → OpensAs l memo id k image
      finished_opens told image is =
          opens_with draft.layout draft.memo l memo id k image lists.2 lists.3 (finished_opens_as draft.layout draft.memo id k (plot_of draft) image (of_draft told) is)

      images_closed : {Z : Type 0} (r : Result Z WorkFault) → IsClose t filled r b c → EachImage name (OpensAs l memo id k) o c
      images_closed r close = each_then name (OpensAs l memo id k) (λ n. NameOf filled.file b n ⊎ IsNameIn t.base t.left n) (λ f. (f ≡ filled.file) ⊎ IsLeft t f) o b c close.kept (images_filled (Ok y) b disk_b fill) last
        where
          last : EachImage name (OpensAs l memo id k) b c
          last = elim (cases_Bool a.tells) [
            | inl told ↦ each_weaker name (IsShutOr plot_file) (OpensAs l memo id k) b c (finished_opens told)
                (images_called (IsShutOr plot_file) name filled.file b c disk_c close.kept.tells told_filled (close.images draft lists.1))
            | inr silent ↦ λ m i from to img. absurd (no_image c disk_c (close.kept.tells ∙ (fill.kept.tells ∙ silent)) name m i img)
          ]

      -- a name that was there, but for the file's, is none of those that are closed
      spared_closed : {Z : Type 0} (r : Result Z WorkFault) → IsClose t filled r b c → (n : List ℕ) → (n ≡ name → ⊥) → IsSome (o.contents n) → IsSpared n o c
      spared_closed r close n other there =
          let before = spared_filled (Ok y) b fill n other there in
          spared_then (IsRunName name base) (λ n. NameOf filled.file b n ⊎ IsNameIn t.base t.left n) Nothing (λ f. (f ≡ filled.file) ⊎ IsLeft t f) n o b c (frame_filled b fill.kept) close.kept before
          (spared_beside (λ n. NameOf filled.file b n ⊎ IsNameIn t.base t.left n) (λ f. (f ≡ filled.file) ⊎ IsLeft t f) n b c close.kept
          (λ x. elim x [ inl named ↦ other (named_filled n named) | inr among ↦ not_made n there among ]))
        where
          -- the names that were made were absent
          not_made : (n : List ℕ) → IsSome (o.contents n) → IsNameIn t.base t.left n → ⊥
          not_made n some (j, z, h, e, is) =
              let less : z.number < t.made = subst (λ q. q.number < t.made) e (has_filled.stand.below j z h) in
              let same : n ≡ scratch_name base z.number = is ∙ ap (λ q. scratch_name q z.number) has_filled.base_is in
              there_absent (o.contents n) some (ap o.contents same ∙ (sym (scratch_same z.number) ∙ has_filled.absent z.number less))

      faults_before : SameFaults o b
      faults_before = fill.quiet ∙ start.quiet

      close_cause : (e : WorkFault) → IsWriteFault e → (e ≡ WorkFailed → Rose b.faults c.faults) → o.faults ≤ b.faults → IsPlotCause id k capacity name base (of_work e) o c
      close_cause WorkFailed is failed less = Rose-since o.faults b.faults c.faults less (failed refl)
      close_cause WorkMemory is failed less = tt
      close_cause (ScratchExists n) is failed less = absurd is
      close_cause (WorkDamage d) is failed less = absurd is

      -- the file was not finished
      pub run_not_closed : {Z : Type 0} (e : WorkFault) → IsClose {X = Z} t filled (Err e) b c → IsPlotRun l memo id k capacity name base (Err (of_work e)) o c
      run_not_closed e close = record {
        others = frame_closed close.kept;
        spares = spared_closed (Err e) close;
        there = λ some. absurd (not_there some);
        stops = λ some. absurd (not_there some);
        images = λ none. images_closed (Err e) close;
        cause = close_cause e close.fault (λ is. close.failed (ap (λ f. Err f) is)) (frame_filled b fill.kept).faults;
        quiet = λ other. close.quiet (λ is. other (failure_of_work e is)) ∙ faults_before;
        within = tt;
        absent = tt;
        same = tt;
        plotted = tt;
      }

      -- ---- all went well

      module _ (counts : Counts) (close : IsClose t filled (Ok counts) b c) (closed : HasClosed t filled counts b c) where
        not_named : (n : List ℕ) → (n ≡ name → ⊥) → NameOf filled.file b n → ⊥
        not_named n other is = other (named_filled n is)

        -- a scratch name of the run was absent, and is
        still_absent : (n : List ℕ) → (n ≡ name → ⊥) → (m : ℕ) → m < t.made → n ≡ scratch_name base m → c.contents n ≡ o.contents n
        still_absent n other m less is =
            let before : o.contents n ≡ None = sym (start.kept.contents n other) ∙ subst (λ q. a.contents q ≡ None) (sym is) (has_filled.absent m less) in
            (elim (has_filled.gone m less) [
              | inl left ↦ closed.gone n (among left)
              | inr gone ↦ closed.still n (not_named n other) (subst (λ q. b.contents q ≡ None) (sym is) (subst (λ q. b.contents (scratch_name q m) ≡ None) has_filled.base_is gone))
            ]) ∙ sym before
          where
            among : Any (λ kept. kept.number ≡ m) t.left → IsNameIn t.base t.left n
            among (j, z, h, e, same) = (j, z, h, e, is ∙ (ap (λ q. scratch_name base q) (sym same) ∙ ap (λ q. scratch_name q z.number) (sym has_filled.base_is)))

        -- each other name was left alone
        left_alone : (n : List ℕ) → (n ≡ name → ⊥) → (IsNameBetween base 0 t.made n → ⊥) → c.contents n ≡ o.contents n
        left_alone n other none =
            close.kept.contents n (λ is. elim is [ inl named ↦ not_named n other named | inr among ↦ none (between among) ])
            ∙ (has_filled.kept.contents n (λ is. elim is [ inl named ↦ other (started.named n named) | inr among ↦ none among ]) ∙ start.kept.contents n other)
          where
            between : IsNameIn t.base t.left n → IsNameBetween base 0 t.made n
            between (j, z, h, e, same) = (z.number, omega arith, subst (λ q. q.number < t.made) e (has_filled.stand.below j z h), same ∙ ap (λ q. scratch_name q z.number) has_filled.base_is)

        names_same : (n : List ℕ) → (n ≡ name → ⊥) → c.contents n ≡ o.contents n
        names_same n other = elim (cases_between base 0 t.made n) [ inl (m, from, to, is) ↦ still_absent n other m to is | inr none ↦ left_alone n other none ]

        left_plot : o.tells ≡ true → IsLeftPlot l memo id k name counts c
        left_plot told =
            let finished = closed.finished draft lists.1 in
            let named : NameOf filled.file c name = closed.name ∙ told_filled (fill.kept.tells ∙ told_from told) in record {
              file = plot_file;
              contents = finished.bytes.bytes.contents name named;
              only = finished.bytes.images name named;
              of_plot = of_plot (told_from told);
              numbers = λ s first last. closed.numbers s first last ∙ counts_are filled draft b lists.1 has_filled.ended s first last;
              bytes = finished.size;
            }

        pub run_done : IsPlotRun l memo id k capacity name base (Ok counts) o c
        run_done = record {
          others = frame_closed close.kept;
          spares = spared_closed (Ok counts) close;
          there = λ some. absurd (not_there some);
          stops = λ some. absurd (not_there some);
          images = λ none. images_closed (Ok counts) close;
          cause = tt;
          quiet = close.quiet ∙ faults_before;
          within = λ told. has_filled.within (told_from told);
          absent = λ m less. sym (scratch_same m) ∙ has_filled.absent m (subst (λ q. m < q) (sym has_filled.made) less);
          same = names_same;
          plotted = left_plot;
        }
