-- Reads one after another, and what they leave of an open plot.
use Rattle.std.proofs.Common.{◌≡◌, ℕ, ◌+◌, ◌≤◌, true, List, IsSome, Result, Ok, Err, IsErrOf, sym, ap, ◌∙◌, subst, arith}
use Rattle.pos_edge.specs.Faults.{Rose}
use Rattle.pos_edge.specs.View.{View}
use Rattle.pos_edge.specs.Frame.{ChangesOnly, Nothing, NameOf, SameFaults, SameFaultsBut}
use Rattle.pos_edge.proofs.Frames.{frame_then}
use Rattle.pos_layout.specs.declared.header.Header.{Header}
use Rattle.pos_reader.specs.Plots.{PlotState, IsOpen, HoldsPlot, IsPlotFile, OnlyReads}
use Rattle.pos_reader.specs.Readings.{CountsFaults, LeavesPlot}

-- two calls that only read are one
pub reads_then : (m n : ℕ) (a b c : View) → OnlyReads m a b → OnlyReads n b c → OnlyReads (m + n) a c
reads_then m n a b c p q = record {
  kept = frame_then Nothing Nothing Nothing Nothing Nothing Nothing a b c (λ x k. k) (λ x k. k) (λ f l k. k) (λ f l k. k) p.kept q.kept;
  ids = record {
    live = λ f k. q.ids.live f k ∙ p.ids.live f k;
    name = λ f k. q.ids.name f k ∙ p.ids.name f k;
  };
  reads = let x = p.reads in let y = q.reads in omega arith;
}

pub reads_fewer : (m n : ℕ) (a b : View) → m ≤ n → OnlyReads m a b → OnlyReads n a b
reads_fewer m n a b few p = record { kept = p.kept; ids = p.ids; reads = let x = p.reads in omega arith }

-- An open plot stays open over calls that leave its FileId and its file's name alone.
pub IsOpen-kept : (names : List ℕ → Type 0) (ids : ℕ → Type 0) (p : PlotState) (a b : View) → ChangesOnly names ids a b
    → (ids p.file → ⊥) → ((n : List ℕ) → NameOf p.file a n → names n → ⊥) → IsOpen p a → IsOpen p b
IsOpen-kept names ids p a b frame apart other is =
    let same = frame.name p.file is.live apart other in
    record {
      live = frame.live p.file is.live apart;
      there = λ told. subst IsSome (sym same) (is.there (sym frame.tells ∙ told));
      whole = rw (frame.size p.file is.live apart) is.whole;
    }

-- and its file keeps its bytes
holds_kept : (names : List ℕ → Type 0) (ids : ℕ → Type 0) (file : ℕ) (h : Header) (memo bytes : List ℕ) (a b : View) → ChangesOnly names ids a b
    → (ids file → ⊥) → ((n : List ℕ) → NameOf file a n → names n → ⊥) → a.is_live file ≡ true → HoldsPlot file h memo bytes a → HoldsPlot file h memo bytes b
holds_kept names ids file h memo bytes a b frame apart other live holds = record {
  name = holds.name;
  named = frame.name file live apart other ∙ holds.named;
  contents = frame.contents holds.name (other holds.name holds.named) ∙ holds.contents;
  opens = holds.opens;
  header = holds.header;
  memo_is = holds.memo_is;
}

pub IsPlotFile-kept : (names : List ℕ → Type 0) (ids : ℕ → Type 0) (p : PlotState) (bytes : List ℕ) (a b : View) → ChangesOnly names ids a b
    → (ids p.file → ⊥) → ((n : List ℕ) → NameOf p.file a n → names n → ⊥) → IsOpen p a → IsPlotFile p bytes a → IsPlotFile p bytes b
IsPlotFile-kept names ids p bytes a b frame apart other is holds = holds_kept names ids p.file p.header p.memo bytes a b frame apart other is.live holds

pub open_after : (n : ℕ) (p : PlotState) (a b : View) → OnlyReads n a b → IsOpen p a → IsOpen p b
open_after n p a b reads is = IsOpen-kept Nothing Nothing p a b reads.kept (λ x. x) (λ name named x. x) is

pub file_after : (n : ℕ) (p : PlotState) (bytes : List ℕ) (a b : View) → OnlyReads n a b → IsOpen p a → IsPlotFile p bytes a → IsPlotFile p bytes b
file_after n p bytes a b reads is holds = IsPlotFile-kept Nothing Nothing p bytes a b reads.kept (λ x. x) (λ name named x. x) is holds

pub holds_after : (n file : ℕ) (h : Header) (memo bytes : List ℕ) (a b : View) → OnlyReads n a b → a.is_live file ≡ true → HoldsPlot file h memo bytes a → HoldsPlot file h memo bytes b
holds_after n file h memo bytes a b reads live holds = holds_kept Nothing Nothing file h memo bytes a b reads.kept (λ x. x) (λ name named x. x) live holds

-- an open file keeps its size
pub size_after : (n file : ℕ) (a b : View) → OnlyReads n a b → a.is_live file ≡ true → b.size_of file ≡ a.size_of file
size_after n file a b reads live = reads.kept.size file live (λ x. x)

-- ---- counts of faults, over a call and what comes before it

pub faults_after : {X E : Type 0} (fault : E) (result : Result X E) (a b c : View) → SameFaults a b → CountsFaults fault result b c
    → CountsFaults fault result a c
faults_after fault result a b c same h = record {
  failed = λ e. subst (λ n. Rose n c.faults) same (h.failed e);
  quiet = quiet_after fault result a b c same h.quiet;
}
  where
    quiet_after : {X E : Type 0} (fault : E) (result : Result X E) (a b c : View) → SameFaults a b → SameFaultsBut fault result b c
        → SameFaultsBut fault result a c
    quiet_after fault (Ok x) a b c same h = h ∙ same
    quiet_after fault (Err e) a b c same h = λ other. h other ∙ same

-- a refusal that is handed on
pub faults_refused : {X Y E : Type 0} (fault refusal : E) (result : Result Y E) (a b : View) → result ≡ Err refusal
    → CountsFaults {X = X} fault (Err refusal) a b → CountsFaults fault result a b
faults_refused fault refusal (Ok y) a b is h = cc
faults_refused fault refusal (Err e) a b is h = record {
  failed = λ f. h.failed (ap (λ e. Err e) (let same : e ≡ refusal = cc in let this : e ≡ fault = cc in sym same ∙ this));
  quiet = λ other. h.quiet (λ f. other ((let same : e ≡ refusal = cc in same) ∙ f));
}

-- nothing failed
pub faults_none : {X E : Type 0} (fault : E) (result : Result X E) (a b : View) → SameFaults a b → (IsErrOf result fault → ⊥)
    → CountsFaults fault result a b
faults_none fault result a b same never = record { failed = λ e. absurd (never e); quiet = by fault result a b same }
  where
    by : {X E : Type 0} (fault : E) (result : Result X E) (a b : View) → SameFaults a b → SameFaultsBut fault result a b
    by fault (Ok x) a b same = same
    by fault (Err e) a b same = λ other. same

-- ---- what a call on an open plot leaves

pub leaves_plot : (n : ℕ) (p q : PlotState) (a b : View) → q ≡ p → OnlyReads n a b → IsOpen p a → LeavesPlot n p q a b
leaves_plot n p q a b same reads is = record {
  same = same;
  reads = reads;
  stays_open = rw same (open_after n p a b reads is);
  stays_file = λ bytes holds. rw same (file_after n p bytes a b reads is holds);
}
