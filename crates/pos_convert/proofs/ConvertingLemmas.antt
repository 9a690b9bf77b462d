-- A whole conversion from its parts, at each of its exits.
use Rattle.std.proofs.Common.{ℕ, ◌≡◌, ◌⊎◌, true, List, Option, Some, None, Result, Ok, Err, refl, sym, ap, ◌∙◌, subst, inl, inr}
use Rattle.std.specs.Prelude.{IsSome}
use Rattle.std.proofs.lemmas.Bool.{cases_Bool, false≢true}
use Rattle.std.proofs.lemmas.Option.{none-some}
use Rattle.pos_edge.specs.View.{View, IsDisk}
use Rattle.pos_edge.specs.Faults.{Rose}
use Rattle.pos_edge.specs.Frame.{ChangesOnly, SameFaults, Nothing, Just, NameOf}
use Rattle.pos_edge.specs.Images.{EachImage}
use Rattle.pos_edge.specs.declared.scratch.WorkFault.{WorkFault}
use Rattle.pos_edge.specs.declared.scratch.WorkFault.TheVariants.{Exists as ScratchExists, DiskFailed as WorkFailed, Scratch as WorkDamage, Memory as WorkMemory}
use Rattle.pos_edge.proofs.Frames.{frame_none, frame_then, each_then, each_beside, each_weaker}
use Rattle.pos_edge.proofs.FaultLemmas.{Rose-since}
use Rattle.pos_layout.specs.declared.damage.Damage.{Damage}
use Rattle.pos_layout.specs.declared.layout.Layout.TheVariants.{Two}
use Rattle.pos_layout.specs.Drafts.{Draft, IsFinished, Stands, WriterState, plot_of}
use Rattle.pos_layout.specs.Fields.{layout_in}
use Rattle.pos_layout.specs.Files.{file_of}
use Rattle.pos_layout.specs.Images.{IsShut, IsShutOr, IsTinyOrShut}
use Rattle.pos_layout.specs.Writing.{IsStanding, Works}
use Rattle.pos_reader.specs.Plots.{PlotState, IsOpen, IsPlotFile}
use Rattle.pos_reader.proofs.ReadLemmas.{IsOpen-kept, IsPlotFile-kept}
use Rattle.pos_convert.specs.declared.fault.ConvertFault.{ConvertFault}
use Rattle.pos_convert.specs.declared.fault.ConvertFault.TheVariants.{Exists, DiskFailed, Damage as IsDamaged, Memory}
use Rattle.pos_convert.specs.Faults.{of_work}
use Rattle.pos_convert.specs.Conversions.{IsConversion, IsConvertCause, IsConverted, IsFileStop, IsLeftConverted, StopsAtName, OpensConverted}
use Rattle.pos_convert.specs.Copies.{HasBegun, HasCopiedTables, HasStartedCopy, IsApart, IsCopying, IsCopyStart, IsCopyStartCause, filled}
use Rattle.pos_convert.proofs.StartLemmas.{images_called, there_absent}
use Rattle.pos_convert.proofs.CopyingLemmas.{apart_copied, file_copied, open_copied}
use Rattle.pos_convert.proofs.FileLemmas.{file_converted, finished_opens, shut_opens, tiny_opens}

cases_there : (o : Option (List ℕ)) → IsSome o ⊎ (o ≡ None)
cases_there None = inr refl
cases_there (Some b) = inl refl

module _ (p : PlotState) (memo name : List ℕ) (o : View) (disk : IsDisk o) (is : IsOpen p o) where
  -- no memory for the first of it
  pub convert_none : IsConversion p p memo name (Err Memory) o o
  convert_none = record {
    others = frame_none (Just name) Nothing o;
    same = refl;
    stays_open = is;
    stays_file = λ b holds. holds;
    there = λ some. frame_none Nothing Nothing o;
    stops = λ some. tt;
    images = λ none b holds. each_beside name (OpensConverted memo b) Nothing Nothing o o (frame_none Nothing Nothing o) (λ x. x)
        (λ i img. subst (OpensConverted memo b) (sym (disk.absent_image name i none img)) tt);
    cause = tt;
    quiet = λ other. refl;
    left = tt;
  }

  -- an open file is not called by an absent name
  not_called : o.contents name ≡ None → (n : List ℕ) → NameOf p.file o n → n ≡ name → ⊥
  not_called none n named same = let t = (disk.named p.file n named).there in none-some t.0 (sym (ap o.contents same ∙ none) ∙ t.1)

  module _ {X : Type 0} (r : Result X ConvertFault) (a : View) (start : IsCopyStart name r o a) where
    started_open : IsOpen p a
    started_open = elim (cases_there (o.contents name)) [
      | inl some ↦ IsOpen-kept Nothing Nothing p o a (start.there some) (λ x. x) (λ n named x. x) is
      | inr none ↦ IsOpen-kept (Just name) Nothing p o a start.kept (λ x. x) (not_called none) is
    ]

    started_file : (b : List ℕ) → IsPlotFile p b o → IsPlotFile p b a
    started_file b holds = elim (cases_there (o.contents name)) [
      | inl some ↦ IsPlotFile-kept Nothing Nothing p b o a (start.there some) (λ x. x) (λ n named x. x) is holds
      | inr none ↦ IsPlotFile-kept (Just name) Nothing p b o a start.kept (λ x. x) (not_called none) is holds
    ]

    started_images : o.contents name ≡ None → (b : List ℕ) → EachImage name (OpensConverted memo b) o a
    started_images none b = each_weaker name IsTinyOrShut (OpensConverted memo b) o a (tiny_opens memo b) (start.images none)

  start_cause : (fault : ConvertFault) (a : View) → IsCopyStartCause name o a fault → IsConvertCause p name o a fault
  start_cause Exists a cause = cause
  start_cause DiskFailed a cause = cause
  start_cause (IsDamaged d) a cause = absurd cause
  start_cause Memory a cause = tt

  start_stops : (fault : ConvertFault) (a : View) → IsCopyStartCause name o a fault → StopsAtName (Err fault)
  start_stops Exists a cause = tt
  start_stops DiskFailed a cause = tt
  start_stops (IsDamaged d) a cause = absurd cause
  start_stops Memory a cause = tt

  -- the file was not begun
  pub convert_not_started : {X : Type 0} (fault : ConvertFault) (result : Result ℕ ConvertFault) (a : View) → result ≡ Err fault → IsCopyStart {X = X} name (Err fault) o a → IsConversion p p memo name result o a
  convert_not_started fault result a same start = subst (λ r. IsConversion p p memo name r o a) (sym same) (record {
    others = start.kept;
    same = refl;
    stays_open = started_open (Err fault) a start;
    stays_file = started_file (Err fault) a start;
    there = start.there;
    stops = λ some. start_stops fault a start.cause;
    images = λ none b holds. started_images (Err fault) a start none b;
    cause = start_cause fault a start.cause;
    quiet = start.quiet;
    left = tt;
  })

  module _ {X : Type 0} (x : X) (w : WriterState) (a : View) (start : IsCopyStart name (Ok x) o a) (started : HasStartedCopy p memo name w o a) where
    new_file : (f : ℕ) → o.is_live f ≡ true → f ≡ w.file → ⊥
    new_file f live same = false≢true (sym started.fresh ∙ (ap o.is_live (sym same) ∙ live))

    not_there : IsSome (o.contents name) → ⊥
    not_there some = there_absent (o.contents name) some started.absent

    pub start_apart : IsApart p w a
    start_apart = record {
      file = new_file p.file is.live;
      names = λ n here other.
          let was : a.name_of p.file ≡ o.name_of p.file = start.kept.name p.file is.live (λ z. z) (not_called started.absent) in
          not_called started.absent n (sym was ∙ here) (started.named n other);
    }

    pub start_open : IsOpen p a
    start_open = started_open (Ok x) a start

    pub start_begun : HasBegun w a
    start_begun = record {
      layout = Two;
      memo = memo;
      id = p.header.id.0;
      k = p.header.size;
      stands = started.stands;
      columns = started.begins.columns;
      count = started.begins.count;
      least = started.begins.least;
    }

    pub start_size : w.size ≡ p.header.size
    start_size = started.begins.size_is

    file_at_start : (b : List ℕ) → IsPlotFile p b o → IsPlotFile p b a
    file_at_start = started_file (Ok x) a start

    module _ {Y : Type 0} (q : PlotState) (v : WriterState) (r : Result Y ConvertFault) (b : View) (disk_b : IsDisk b) (copying : IsCopying p q w v r a b) where
      frame_copied : ChangesOnly (Just name) Nothing o b
      frame_copied = frame_then (Just name) (Just name) (NameOf w.file a) Nothing Nothing (Just w.file) o a b (λ n z. z) started.named (λ f l z. z) new_file start.kept copying.writes.kept.frame

      images_copied : (bytes : List ℕ) → EachImage name (OpensConverted memo bytes) o b
      images_copied bytes = each_then name (OpensConverted memo bytes) (NameOf w.file a) (Just w.file) o a b copying.writes.kept.frame
          (started_images (Ok x) a start started.absent bytes)
          (each_weaker name IsShut (OpensConverted memo bytes) a b (shut_opens memo bytes) (images_called IsShut name w.file a b disk_b copying.writes.kept.frame.tells started.told copying.writes.images))

      open_now : IsOpen q b
      open_now = open_copied p q w v r a b copying start_apart start_open

      file_now : (bytes : List ℕ) → IsPlotFile p bytes o → IsPlotFile q bytes b
      file_now bytes holds = file_copied p q w v r a b copying start_apart bytes start_open (file_at_start bytes holds)

    copy_cause : {Y : Type 0} (q : PlotState) (v : WriterState) (fault : ConvertFault) (b : View) → IsCopying {X = Y} p q w v (Err fault) a b
        → ((d : Damage) → fault ≡ IsDamaged d → (bytes : List ℕ) → IsPlotFile p bytes a → IsFileStop (layout_in bytes) bytes d) → IsConvertCause p name o b fault
    copy_cause q v Exists b copying damage = absurd (copying.begun refl)
    copy_cause q v DiskFailed b copying damage = Rose-since o.faults a.faults b.faults start.kept.faults (copying.faults.failed refl)
    copy_cause q v (IsDamaged d) b copying damage = λ bytes holds. damage d refl bytes (file_at_start bytes holds)
    copy_cause q v Memory b copying damage = tt

    -- the lists were not copied
    pub convert_not_copied : {Y : Type 0} (q : PlotState) (v : WriterState) (fault : ConvertFault) (result : Result ℕ ConvertFault) (b : View) → IsDisk b → result ≡ Err fault → IsCopying {X = Y} p q w v (Err fault) a b
        → ((d : Damage) → fault ≡ IsDamaged d → (bytes : List ℕ) → IsPlotFile p bytes a → IsFileStop (layout_in bytes) bytes d) → IsConversion p q memo name result o b
    convert_not_copied q v fault result b disk_b same copying damage = subst (λ r. IsConversion p q memo name r o b) (sym same) (record {
      others = frame_copied q v (Err fault) b disk_b copying;
      same = copying.same;
      stays_open = open_now q v (Err fault) b disk_b copying;
      stays_file = file_now q v (Err fault) b disk_b copying;
      there = λ some. absurd (not_there some);
      stops = λ some. absurd (not_there some);
      images = λ none bytes holds. images_copied q v (Err fault) b disk_b copying bytes;
      cause = copy_cause q v fault b copying damage;
      quiet = λ other. copying.faults.quiet other ∙ start.quiet;
      left = tt;
    })

    -- they were
    module _ {Y : Type 0} (y : Y) (q : PlotState) (v : WriterState) (b : View) (disk_b : IsDisk b) (copying : IsCopying p q w v (Ok y) a b) (copied : HasCopiedTables p 7 w v a b) where
      abbrev lists : List (List ℕ)
      lists = copied.tables

      abbrev draft : Draft
      draft = filled Two memo p.header.id.0 p.header.size lists

      abbrev new_bytes : List ℕ
      new_bytes = file_of Two memo (plot_of draft)

      draft_stands : Stands v draft b
      draft_stands = copied.stands Two memo p.header.id.0 p.header.size started.stands

      pub copied_standing : IsStanding v b
      copied_standing = (draft, draft_stands)

      is_converted : (bytes : List ℕ) → IsPlotFile p bytes o → IsConverted memo bytes new_bytes
      is_converted bytes holds = file_converted p memo bytes a b (file_at_start bytes holds) v lists copied.are_read draft_stands

      named_now : (n : List ℕ) → NameOf v.file b n → n ≡ name
      named_now n here = started.named n (sym (copying.writes.ids.name w.file (λ z. z)) ∙ (ap b.name_of (sym copying.file.file) ∙ here))

      told_now : b.tells ≡ true → NameOf v.file b name
      told_now told = ap b.name_of copying.file.file ∙ (copying.writes.ids.name w.file (λ z. z) ∙ started.told (sym copying.writes.kept.frame.tells ∙ told))

      module _ {Z : Type 0} (result : Result Z WorkFault) (c : View) (disk_c : IsDisk c) (works : (d : Draft) → Stands v d b → Works (IsShutOr (file_of d.layout d.memo (plot_of d))) v.file result b c) where
        abbrev work : Works (IsShutOr new_bytes) v.file result b c
        work = works draft draft_stands

        frame_finished : ChangesOnly (Just name) Nothing o c
        frame_finished = frame_then (Just name) (Just name) (NameOf v.file b) Nothing Nothing (Just v.file) o b c (λ n z. z) named_now (λ f l z. z)
            (λ f l same. new_file f l (same ∙ copying.file.file)) (frame_copied q v (Ok y) b disk_b copying) work.kept.frame

        images_finished : (bytes : List ℕ) → IsPlotFile p bytes o → EachImage name (OpensConverted memo bytes) o c
        images_finished bytes holds = each_then name (OpensConverted memo bytes) (NameOf v.file b) (Just v.file) o b c work.kept.frame (images_copied q v (Ok y) b disk_b copying bytes)
            (each_weaker name (IsShutOr new_bytes) (OpensConverted memo bytes) b c (λ i shut. finished_opens Two memo bytes (plot_of draft) i (is_converted bytes holds) shut)
            (images_called (IsShutOr new_bytes) name v.file b c disk_c work.kept.frame.tells told_now work.images))

        apart_now : IsApart q v b
        apart_now = apart_copied p q w v (Ok y) a b copying start_apart

        open_finished : IsOpen q c
        open_finished = IsOpen-kept (NameOf v.file b) (Just v.file) q b c work.kept.frame apart_now.file apart_now.names (open_now q v (Ok y) b disk_b copying)

        file_finished : (bytes : List ℕ) → IsPlotFile p bytes o → IsPlotFile q bytes c
        file_finished bytes holds = IsPlotFile-kept (NameOf v.file b) (Just v.file) q bytes b c work.kept.frame apart_now.file apart_now.names (open_now q v (Ok y) b disk_b copying)
            (file_now q v (Ok y) b disk_b copying bytes holds)

      faults_before : SameFaults o b
      faults_before = copying.faults.quiet ∙ start.quiet

      finish_cause : (e : WorkFault) (c : View) → (e ≡ WorkFailed → Rose b.faults c.faults) → IsConvertCause p name o c (of_work e)
      finish_cause (ScratchExists n) c failed = tt
      finish_cause WorkFailed c failed = subst (λ n. Rose n c.faults) faults_before (failed refl)
      finish_cause (WorkDamage d) c failed = tt
      finish_cause WorkMemory c failed = tt

      -- a disk that shows a file tells
      told_of : (bytes : List ℕ) → IsPlotFile p bytes o → b.tells ≡ true
      told_of bytes holds = elim (cases_Bool o.tells) [
        | inl tells ↦ copying.writes.kept.frame.tells ∙ (start.kept.tells ∙ tells)
        | inr silent ↦ absurd (none-some bytes (sym (disk.no_contents holds.name silent) ∙ holds.contents))
      ]

      -- the file was not finished
      pub convert_not_finished : {Z : Type 0} (e : WorkFault) (answer : Result ℕ ConvertFault) (c : View) → IsDisk c → answer ≡ Err (of_work e)
          → ((d : Draft) → Stands v d b → Works {X = Z} (IsShutOr (file_of d.layout d.memo (plot_of d))) v.file (Err e) b c) → IsConversion p q memo name answer o c
      convert_not_finished e answer c disk_c same works = subst (λ r. IsConversion p q memo name r o c) (sym same) (record {
        others = frame_finished (Err e) c disk_c works;
        same = copying.same;
        stays_open = open_finished (Err e) c disk_c works;
        stays_file = file_finished (Err e) c disk_c works;
        there = λ some. absurd (not_there some);
        stops = λ some. absurd (not_there some);
        images = λ none. images_finished (Err e) c disk_c works;
        cause = finish_cause e c (λ f. (works draft draft_stands).failed (ap (λ g. Err g) f));
        quiet = λ other. (works draft draft_stands).quiet (λ f. other (ap of_work f)) ∙ faults_before;
        left = tt;
      })

      -- it was
      pub convert_done : {Z : Type 0} (z : Z) (total : ℕ) (c : View) → IsDisk c → ((d : Draft) → Stands v d b → Works (IsShutOr (file_of d.layout d.memo (plot_of d))) v.file (Ok z) b c)
          → ((d : Draft) → Stands v d b → IsFinished d.layout d.memo v.file (plot_of d) total c) → IsConversion p q memo name (Ok total) o c
      convert_done z total c disk_c works finished = record {
        others = frame_finished (Ok z) c disk_c works;
        same = copying.same;
        stays_open = open_finished (Ok z) c disk_c works;
        stays_file = file_finished (Ok z) c disk_c works;
        there = λ some. absurd (not_there some);
        stops = λ some. absurd (not_there some);
        images = λ none. images_finished (Ok z) c disk_c works;
        cause = tt;
        quiet = (works draft draft_stands).quiet ∙ faults_before;
        left = left_there;
      }
        where
          left_there : (bytes : List ℕ) → IsPlotFile p bytes o → IsLeftConverted memo bytes name total c
          left_there bytes holds =
              let done = finished draft draft_stands in
              let kept = (works draft draft_stands).kept in
              let here : NameOf v.file c name = kept.name ∙ told_now (told_of bytes holds) in record {
                file = new_bytes;
                contents = done.bytes.bytes.contents name here;
                only = done.bytes.images name here;
                converted = is_converted bytes holds;
                as_long = done.size;
              }
