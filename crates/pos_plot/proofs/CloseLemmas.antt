-- The close of a run: the scratch files are removed, and then the plot file is finished.
use Rattle.std.proofs.Common.{ℕ, zero, suc, ◌-◌, ◌≤◌, ◌≡◌, ◌⊎◌, List, [], ◌∷◌, None, Result, Ok, Err, sym, ap, ◌∙◌, subst, inl, inr, arith}
use Rattle.std.specs.Prelude.{is_ok, slice_index, IfErr, IsErrOf}
use Rattle.std.proofs.lemmas.Bool.{true≢false}
use Rattle.pos_edge.specs.View.{View}
use Rattle.pos_edge.specs.Frame.{ChangesOnly, SameFaults, SameFaultsBut, NameOf, Just}
use Rattle.pos_edge.specs.Faults.{Rose}
use Rattle.pos_edge.specs.ScratchNames.{ScratchState, scratch_name, IsScratchName, IsNameIn, IsLeft, SameOrGone, AreGone}
use Rattle.pos_edge.specs.declared.scratch.WorkFault.{WorkFault}
use Rattle.pos_edge.specs.declared.scratch.WorkFault.TheVariants.{DiskFailed as WorkFailed}
use Rattle.pos_edge.proofs.Frames.{frame_then, frame_wider, each_then}
use Rattle.pos_edge.proofs.FaultLemmas.{Rose-since, faults_then}
use Rattle.pos_layout.specs.Files.{file_of}
use Rattle.pos_layout.specs.Drafts.{Draft, WriterState, Stands, IsFinished, IsWriteFault, count_so_far, plot_of}
use Rattle.pos_layout.specs.Images.{EachImageOf, IsShut, IsShutOr}
use Rattle.pos_layout.specs.Writing.{Works, IsStanding}
use Rattle.pos_layout.proofs.ShutLemmas.{images_weaker}
use Rattle.pos_layout.proofs.WorksLemmas.{shut_beside, stands_beside, stands_live, stands_shut}
use Rattle.pos_plot.specs.declared.run.Counts.{Counts}
use Rattle.pos_plot.specs.Steps.{IsClose, HasClosed}

-- a name of one of the files that are left is a scratch name
pub name_in : (s : ScratchState) (n : List ℕ) → IsNameIn s.base s.left n → IsScratchName s.base n
name_in s n (k, x, h, e, is) = (x.number, is)

module _ (s : ScratchState) (w : WriterState) (a m : View) (kept : ChangesOnly (IsNameIn s.base s.left) (IsLeft s) a m) (apart : IsLeft s w.file → ⊥)
    (other : (n : List ℕ) → NameOf w.file a n → IsScratchName s.base n → ⊥) where
  others : (n : List ℕ) → NameOf w.file a n → IsNameIn s.base s.left n → ⊥
  others n is among = other n is (name_in s n among)

  -- the plot file's images while scratch files are removed
  pub shut_cleared : (p : Draft) → Stands w p a → EachImageOf (IsShutOr (file_of p.layout p.memo (plot_of p))) w.file a m
  shut_cleared p stands = images_weaker IsShut (IsShutOr (file_of p.layout p.memo (plot_of p))) w.file a m (λ image shut. inl shut)
      (shut_beside (IsNameIn s.base s.left) (IsLeft s) w.file _ a m kept others (stands_shut w p a stands))

  -- the writer stands as before
  pub still_stands : (p : Draft) → Stands w p a → Stands w p m
  still_stands p stands = stands_beside w p (IsNameIn s.base s.left) (IsLeft s) a m kept apart others stands

  pub still_standing : IsStanding w a → IsStanding w m
  still_standing (p, stands) = (p, still_stands p stands)

  -- a scratch file could not be removed
  pub not_cleared : (X : Type 0) (e : WorkFault) → e ≡ WorkFailed → Rose a.faults m.faults → IsClose {X = X} s w (Err e) a m
  not_cleared X e is rose = record {
    kept = frame_wider (λ n. NameOf w.file a n ⊎ IsNameIn s.base s.left n) (IsNameIn s.base s.left) (λ f. (f ≡ w.file) ⊎ IsLeft s f) (IsLeft s) a m (λ n x. inr x) (λ f l x. inr x) kept;
    images = shut_cleared;
    fault = subst IsWriteFault (sym is) tt;
    failed = λ same. rose;
    quiet = λ no_failure. absurd (no_failure is);
  }

  module _ (standing : IsStanding w a) where
    same_name : m.name_of w.file ≡ a.name_of w.file
    same_name = kept.name w.file (stands_live w standing.0 a standing.1) apart (λ n is among. others n is among)

    -- the plot file was finished with this answer, after all scratch files were removed
    pub closed : {X Y : Type 0} (r : Result X WorkFault) (q : Result Y WorkFault) (b : View) → SameFaults a m
        → ((p : Draft) → Stands w p m → Works (IsShutOr (file_of p.layout p.memo (plot_of p))) w.file r m b)
        → IfErr q IsWriteFault → (IsErrOf q WorkFailed → Rose m.faults b.faults) → SameFaultsBut WorkFailed q m b → IsClose s w q a b
    closed r q b same works fault failed quiet = let work = works standing.0 (still_stands standing.0 standing.1) in record {
      kept = frame_then (λ n. NameOf w.file a n ⊎ IsNameIn s.base s.left n) (IsNameIn s.base s.left) (NameOf w.file m) (λ f. (f ≡ w.file) ⊎ IsLeft s f) (IsLeft s) (Just w.file) a m b
          (λ n x. inr x) (λ n x. inl (sym same_name ∙ x)) (λ f l x. inr x) (λ f l x. inl x) kept work.kept.frame;
      images = λ p stands n is. each_then n (IsShutOr (file_of p.layout p.memo (plot_of p))) (NameOf w.file m) (Just w.file) a m b work.kept.frame (shut_cleared p stands n is)
          ((works p (still_stands p stands)).images n (same_name ∙ is));
      fault = fault;
      failed = λ is. Rose-since a.faults m.faults b.faults kept.faults (failed is);
      quiet = faults_then WorkFailed q a m b same quiet;
    }

    pub has_closed : (counts : Counts) (b : View) → SameOrGone a m → AreGone s m → ChangesOnly (NameOf w.file m) (Just w.file) m b → b.name_of w.file ≡ m.name_of w.file
        → ((t : ℕ) → 1 ≤ t → t ≤ 7 → slice_index counts.tables (t - 1) ≡ count_so_far w t)
        → ((p : Draft) → Stands w p m → IsFinished p.layout p.memo w.file (plot_of p) counts.length b) → HasClosed s w counts a b
    has_closed counts b same_or_gone gone frame name numbers finished = record {
      name = name ∙ same_name;
      gone = λ n among. let was : m.contents n ≡ None = cleared n among in frame.contents n (λ is. others n (sym same_name ∙ is) among) ∙ was;
      still = λ n not_named none. frame.contents n (λ is. not_named (sym same_name ∙ is)) ∙ (elim (same_or_gone n) [ inl as_was ↦ as_was ∙ none | inr now ↦ now ]);
      numbers = numbers;
      finished = λ p stands. finished p (still_stands p stands);
    } where
      cleared : (n : List ℕ) → IsNameIn s.base s.left n → m.contents n ≡ None
      cleared n (k, x, h, e, is) = subst (λ y. m.contents y ≡ None) (sym is) (subst (λ y. m.contents (scratch_name s.base y.number) ≡ None) e (gone k x h))

    -- it was not
    pub not_finished : {X : Type 0} (e : WorkFault) (b : View) → SameFaults a m
        → ((p : Draft) → Stands w p m → Works {X = X} (IsShutOr (file_of p.layout p.memo (plot_of p))) w.file (Err e) m b) → IsClose {X = Counts} s w (Err e) a b
    not_finished e b same works =
        let work = works standing.0 (still_stands standing.0 standing.1) in
        closed (Err e) (Err e) b same works work.fault (λ is. let failure : e ≡ WorkFailed = cc in work.failed (ap (λ f. Err f) failure)) work.quiet

    -- it was
    pub is_closed : {X : Type 0} (x : X) (counts : Counts) (b : View) → SameFaults a m
        → ((p : Draft) → Stands w p m → Works (IsShutOr (file_of p.layout p.memo (plot_of p))) w.file (Ok x) m b) → IsClose s w (Ok counts) a b
    is_closed x counts b same works = closed (Ok x) (Ok counts) b same works tt (λ is. absurd (true≢false (ap (λ r. is_ok r) is))) (works standing.0 (still_stands standing.0 standing.1)).quiet

    pub finished_closed : {X : Type 0} (x : X) (counts : Counts) (b : View) → SameOrGone a m → AreGone s m
        → ((p : Draft) → Stands w p m → Works (IsShutOr (file_of p.layout p.memo (plot_of p))) w.file (Ok x) m b)
        → ((t : ℕ) → 1 ≤ t → t ≤ 7 → slice_index counts.tables (t - 1) ≡ count_so_far w t)
        → ((p : Draft) → Stands w p m → IsFinished p.layout p.memo w.file (plot_of p) counts.length b) → HasClosed s w counts a b
    finished_closed x counts b same_or_gone gone works numbers finished =
        let work = works standing.0 (still_stands standing.0 standing.1) in
        has_closed counts b same_or_gone gone work.kept.frame work.kept.name numbers finished

-- seven numbers by place
pub seven_at : (f : ℕ → ℕ) (n1 n2 n3 n4 n5 n6 n7 : ℕ) → n1 ≡ f 1 → n2 ≡ f 2 → n3 ≡ f 3 → n4 ≡ f 4 → n5 ≡ f 5 → n6 ≡ f 6 → n7 ≡ f 7
    → (t : ℕ) → 1 ≤ t → t ≤ 7 → slice_index (n1 ∷ n2 ∷ n3 ∷ n4 ∷ n5 ∷ n6 ∷ n7 ∷ []) (t - 1) ≡ f t
seven_at f n1 n2 n3 n4 n5 n6 n7 e1 e2 e3 e4 e5 e6 e7 zero first last = absurd (omega arith)
seven_at f n1 n2 n3 n4 n5 n6 n7 e1 e2 e3 e4 e5 e6 e7 (suc zero) first last = e1
seven_at f n1 n2 n3 n4 n5 n6 n7 e1 e2 e3 e4 e5 e6 e7 (suc (suc zero)) first last = e2
seven_at f n1 n2 n3 n4 n5 n6 n7 e1 e2 e3 e4 e5 e6 e7 (suc (suc (suc zero))) first last = e3
seven_at f n1 n2 n3 n4 n5 n6 n7 e1 e2 e3 e4 e5 e6 e7 (suc (suc (suc (suc zero)))) first last = e4
seven_at f n1 n2 n3 n4 n5 n6 n7 e1 e2 e3 e4 e5 e6 e7 (suc (suc (suc (suc (suc zero))))) first last = e5
seven_at f n1 n2 n3 n4 n5 n6 n7 e1 e2 e3 e4 e5 e6 e7 (suc (suc (suc (suc (suc (suc zero)))))) first last = e6
seven_at f n1 n2 n3 n4 n5 n6 n7 e1 e2 e3 e4 e5 e6 e7 (suc (suc (suc (suc (suc (suc (suc zero))))))) first last = e7
seven_at f n1 n2 n3 n4 n5 n6 n7 e1 e2 e3 e4 e5 e6 e7 (suc (suc (suc (suc (suc (suc (suc (suc t)))))))) first last = absurd (omega arith)
