-- Calls on an open plot, one after another.
use Rattle.std.proofs.Common.{◌≡◌, ℕ, suc, ◌+◌, ◌-◌, ◌*◌, ◌<◌, ◌≤◌, Result, Ok, Err, ◌∙◌, arith}
use Rattle.std.proofs.Math.Nat.{mul-le-mul_left, mul-suc}
use Rattle.pos_edge.specs.View.{View}
use Rattle.pos_layout.specs.declared.damage.Damage.{Damage}
use Rattle.pos_reader.specs.declared.refusal.ReadRefusal.{ReadRefusal}
use Rattle.pos_reader.specs.declared.refusal.ReadRefusal.TheVariants.{DiskFailed, Damage as Found}
use Rattle.pos_reader.specs.Plots.{PlotState}
use Rattle.pos_reader.specs.Readings.{LeavesPlot, IsReading}
use Rattle.pos_reader.proofs.ReadLemmas.{reads_then, reads_fewer, faults_after, faults_refused, faults_none}

-- two calls leave a plot as one call of both counts does
pub leaves_after : (m n most : ℕ) (p q r : PlotState) (a b c : View) → m + n ≤ most → LeavesPlot m p q a b → LeavesPlot n q r b c → LeavesPlot most p r a c
leaves_after m n most p q r a b c few h k = record {
  same = k.same ∙ h.same;
  reads = reads_fewer (m + n) most a c few (reads_then m n a b c h.reads k.reads);
  stays_open = k.stays_open;
  stays_file = λ bytes holds. k.stays_file bytes (h.stays_file bytes holds);
}

pub leaves_more : (m most : ℕ) (p q : PlotState) (a b : View) → m ≤ most → LeavesPlot m p q a b → LeavesPlot most p q a b
leaves_more m most p q a b few h = record {
  same = h.same;
  reads = reads_fewer m most a b few h.reads;
  stays_open = h.stays_open;
  stays_file = h.stays_file;
}

-- after a call that went well
pub reading_after : {X Y : Type 0} (m n most : ℕ) (x : X) (result : Result Y ReadRefusal) (p q r : PlotState) (a b c : View) → m + n ≤ most
    → IsReading m (Ok x) p q a b → IsReading n result q r b c → IsReading most result p r a c
reading_after m n most x result p q r a b c few h k = record {
  left = leaves_after m n most p q r a b c few h.left k.left;
  faults = faults_after DiskFailed result a b c h.faults.quiet k.faults;
}

-- a refusal that is handed on
pub reading_refused : {X Y : Type 0} (m most : ℕ) (refusal : ReadRefusal) (result : Result Y ReadRefusal) (p q : PlotState) (a b : View) → m ≤ most
    → result ≡ Err refusal → IsReading {X = X} m (Err refusal) p q a b → IsReading most result p q a b
reading_refused m most refusal result p q a b few is h = record {
  left = leaves_more m most p q a b few h.left;
  faults = faults_refused DiskFailed refusal result a b is h.faults;
}

-- another answer that is no failure of the disk, after a call that went well
pub reading_done : {X Y : Type 0} (m most : ℕ) (x : X) (y : Y) (p q : PlotState) (a b : View) → m ≤ most
    → IsReading m (Ok x) p q a b → IsReading most (Ok y) p q a b
reading_done m most x y p q a b few h = record {
  left = leaves_more m most p q a b few h.left;
  faults = faults_none DiskFailed (Ok y) a b h.faults.quiet (λ e. cc);
}

pub reading_damaged : {X Y : Type 0} (m most : ℕ) (x : X) (d : Damage) (p q : PlotState) (a b : View) → m ≤ most
    → IsReading m (Ok x) p q a b → IsReading {X = Y} most (Err (Found d)) p q a b
reading_damaged m most x d p q a b few h = record {
  left = leaves_more m most p q a b few h.left;
  faults = faults_none DiskFailed (Err (Found d)) a b h.faults.quiet (λ e. cc);
}

-- ---- so many reads for each place or each challenge, from a first one on

pub steps_more : (n first place : ℕ) → first ≤ place → n * (place - first) + n ≤ n * (place + 1 - first)
steps_more n first place from =
    let e : place + 1 - first ≡ suc (place - first) = omega arith in
    rw (e, mul-suc) (omega arith)

pub steps_to : (n first place second : ℕ) → first ≤ place → place < second → n * (place - first) + n ≤ n * (second - first)
steps_to n first place second from to =
    let a = steps_more n first place from in
    let b : n * (place + 1 - first) ≤ n * (second - first) = mul-le-mul_left n (omega arith) in
    omega arith

-- one more
pub read_more : {X Y : Type 0} (n first place : ℕ) (x : X) (y : Y) (p q r : PlotState) (a v w : View) → first ≤ place
    → IsReading (n * (place - first)) (Ok y) p q a v → IsReading n (Ok x) q r v w → IsReading (n * (place + 1 - first)) (Ok y) p r a w
read_more n first place x y p q r a v w from far step =
    reading_done (n * (place + 1 - first)) (n * (place + 1 - first)) x y p r a w (omega arith)
    (reading_after (n * (place - first)) n (n * (place + 1 - first)) y (Ok x) p q r a v w (steps_more n first place from) far step)

-- one that is refused
pub read_refused : {X Y Z : Type 0} (n first place second : ℕ) (y : Y) (refusal : ReadRefusal) (result : Result Z ReadRefusal) (p q r : PlotState) (a v w : View)
    → first ≤ place → place < second → IsReading (n * (place - first)) (Ok y) p q a v → IsReading {X = X} n (Err refusal) q r v w
    → result ≡ Err refusal → IsReading (n * (second - first)) result p r a w
read_refused n first place second y refusal result p q r a v w from to far step is =
    reading_after (n * (place - first)) n (n * (second - first)) y result p q r a v w (steps_to n first place second from to) far
    (reading_refused n n refusal result q r v w (omega arith) is step)
