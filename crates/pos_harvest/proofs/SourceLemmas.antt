-- Calls on a source of numbers, one after another, and what they say of an open plot.
use Rattle.std.proofs.Common.{◌≡◌, ℕ, ◌+◌, ◌≤◌, List, Some, Result, Ok, Err, IfErr, IsErrOf, refl, ap, ◌∙◌, subst, arith}
use Rattle.pos_edge.specs.View.{View}
use Rattle.pos_layout.specs.declared.damage.Damage.{Damage}
use Rattle.pos_layout.specs.declared.layout.Layout.{Layout}
use Rattle.pos_reader.specs.declared.refusal.ReadRefusal.{ReadRefusal}
use Rattle.pos_reader.specs.declared.refusal.ReadRefusal.TheVariants.{DiskFailed, Damage as Found}
use Rattle.pos_reader.specs.Answers.{Answers}
use Rattle.pos_reader.specs.Plots.{PlotState}
use Rattle.pos_reader.specs.Readings.{LeavesPlot, IsReading}
use Rattle.pos_reader.proofs.ReadLemmas.{reads_then, reads_fewer, faults_after, faults_refused, faults_none}
use Rattle.pos_reader.proofs.ReadingLemmas.{leaves_after}
use Rattle.pos_harvest.specs.declared.refusal.ListRefusal.{ListRefusal}
use Rattle.pos_harvest.specs.declared.refusal.ListRefusal.TheVariants.{DiskFailed as ListDiskFailed}
use Rattle.pos_harvest.specs.Listings.{IsListing, IsSourceListing}
use Rattle.pos_harvest.specs.Places.{AnswersProof, AnswersProofBy, FailsAsProof}
use Rattle.pos_harvest.specs.Sources.{AnswersBy, IsSourceRead, LeavesSource, Source, found_in, opened_source}

-- what holds of the refusal that is answered
pub if_err : {X E : Type 0} (r : Result X E) (e : E) (P : E → Type 0) → r ≡ Err e → P e → IfErr r P
if_err (Ok x) e P is h = tt
if_err (Err f) e P is h = let same : e ≡ f = cc in subst P same h

-- the refusal that is answered is one
pub err_is : {X E : Type 0} (e f : E) → IsErrOf {T = X} (Err e) f → e ≡ f
err_is e f is = cc

pub map_err : {X E : Type 0} (r : Result X E) (P Q : E → Type 0) → ((e : E) → P e → Q e) → IfErr r P → IfErr r Q
map_err (Ok x) P Q f h = tt
map_err (Err e) P Q f h = f e h

-- the damage of a refusal is one
pub named_damage : (d e : Damage) → Some d ≡ Some e → d ≡ e
named_damage d e same = cc

-- ---- answers

-- a refusal answers, where its damage is what was to be answered
pub refusal_answers : {S X E : Type 0} (s : Source S E) (result : Result X E) (refusal : E) (said : Result X Damage) → result ≡ Err refusal
    → ((d : Damage) → s.found refusal ≡ Some d → said ≡ Err d) → AnswersBy s.found result said
refusal_answers s (Ok x) refusal said is damaged = cc
refusal_answers s (Err e) refusal said is damaged = λ d found. damaged d (let same : refusal ≡ e = cc in ap s.found same ∙ found)

pub refusal_fails : {S E : Type 0} (s : Source S E) (l : Layout) (b c : List ℕ) (i : ℕ) (result : Result (List ℕ) E) (refusal : E) → result ≡ Err refusal
    → ((d : Damage) → s.found refusal ≡ Some d → FailsAsProof l b c i d) → AnswersProofBy s.found l b c i result
refusal_fails s l b c i (Ok x) refusal is damaged = cc
refusal_fails s l b c i (Err e) refusal is damaged = λ d found. damaged d (let same : refusal ≡ e = cc in ap s.found same ∙ found)

-- of an open plot
pub plot_answers : {X : Type 0} (result : Result X ReadRefusal) (said : Result X Damage) → AnswersBy found_in result said → Answers result said
plot_answers (Ok x) said h = h
plot_answers (Err DiskFailed) said h = tt
plot_answers (Err (Found d)) said h = h d refl

pub plot_answers_proof : (l : Layout) (b c : List ℕ) (i : ℕ) (result : Result (List ℕ) ReadRefusal) → AnswersProofBy found_in l b c i result
    → AnswersProof l b c i result
plot_answers_proof l b c i (Ok xs) h = h
plot_answers_proof l b c i (Err DiskFailed) h = tt
plot_answers_proof l b c i (Err (Found d)) h = h d refl

-- ---- what is left

module _ {S E : Type 0} (s : Source S E) where
  -- two calls leave a source as one call of both counts does
  pub source_leaves : (m n most : ℕ) (p q r : S) (a b c : View) → m + n ≤ most → LeavesSource s m p q a b → LeavesSource s n q r b c
      → LeavesSource s most p r a c
  source_leaves m n most p q r a b c few h k = record {
    same = k.same ∙ h.same;
    reads = reads_fewer (m + n) most a c few (reads_then m n a b c h.reads k.reads);
    spared = λ is. let x = h.spared is in let y = k.spared (h.stays_spared is) in omega arith;
    stays_spared = λ is. k.stays_spared (h.stays_spared is);
    stays_open = k.stays_open;
    stays = λ bytes holds. k.stays bytes (h.stays bytes holds);
  }

  pub source_more : (m most : ℕ) (p q : S) (a b : View) → m ≤ most → LeavesSource s m p q a b → LeavesSource s most p q a b
  source_more m most p q a b few h = record {
    same = h.same;
    reads = reads_fewer m most a b few h.reads;
    spared = h.spared;
    stays_spared = h.stays_spared;
    stays_open = h.stays_open;
    stays = h.stays;
  }

  -- after a call that went well
  pub source_then : {X Y : Type 0} (m n most : ℕ) (x : X) (result : Result Y E) (p q r : S) (a b c : View) → m + n ≤ most
      → IsSourceRead s m (Ok x) p q a b → IsSourceRead s n result q r b c → IsSourceRead s most result p r a c
  source_then m n most x result p q r a b c few h k = record {
    left = source_leaves m n most p q r a b c few h.left k.left;
    faults = faults_after s.failed result a b c h.faults.quiet k.faults;
  }

  -- a refusal that is handed on
  pub source_refused : {X Y : Type 0} (m most : ℕ) (refusal : E) (result : Result Y E) (p q : S) (a b : View) → m ≤ most
      → result ≡ Err refusal → IsSourceRead {X = X} s m (Err refusal) p q a b → IsSourceRead s most result p q a b
  source_refused m most refusal result p q a b few is h = record {
    left = source_more m most p q a b few h.left;
    faults = faults_refused s.failed refusal result a b is h.faults;
  }

  -- another answer that is no failure of the disk, after a call that went well
  pub source_done : {X Y : Type 0} (m most : ℕ) (x : X) (y : Y) (p q : S) (a b : View) → m ≤ most
      → IsSourceRead s m (Ok x) p q a b → IsSourceRead s most (Ok y) p q a b
  source_done m most x y p q a b few h = record {
    left = source_more m most p q a b few h.left;
    faults = faults_none s.failed (Ok y) a b h.faults.quiet (λ e. cc);
  }

  pub source_damaged : {X Y : Type 0} (m most : ℕ) (x : X) (refusal : E) (p q : S) (a b : View) → m ≤ most → (refusal ≡ s.failed → ⊥)
      → IsSourceRead s m (Ok x) p q a b → IsSourceRead {X = Y} s most (Err refusal) p q a b
  source_damaged {Y} m most x refusal p q a b few other h = record {
    left = source_more m most p q a b few h.left;
    faults = faults_none {X = Y} s.failed (Err refusal) a b h.faults.quiet (λ e. other (err_is {X = Y} refusal s.failed e));
  }

-- of an open plot
pub plot_left : (most : ℕ) (p q : PlotState) (a b : View) → LeavesSource opened_source most p q a b → LeavesPlot most p q a b
plot_left most p q a b h = record { same = h.same; reads = h.reads; stays_open = h.stays_open; stays_file = h.stays }

pub plot_read : {X : Type 0} (most : ℕ) (result : Result X ReadRefusal) (p q : PlotState) (a b : View) → IsSourceRead opened_source most result p q a b
    → IsReading most result p q a b
plot_read most result p q a b h = record { left = plot_left most p q a b h.left; faults = h.faults }

-- a list of places, after a call that went well
pub listing_after : {X Y : Type 0} (m n most : ℕ) (x : X) (result : Result Y ListRefusal) (p q r : PlotState) (a b c : View) → m + n ≤ most
    → IsReading m (Ok x) p q a b → IsSourceListing opened_source n result q r b c → IsListing most result p r a c
listing_after m n most x result p q r a b c few h k = record {
  left = leaves_after m n most p q r a b c few h.left (plot_left n q r b c k.left);
  faults = faults_after ListDiskFailed result a b c h.faults.quiet k.faults;
}
