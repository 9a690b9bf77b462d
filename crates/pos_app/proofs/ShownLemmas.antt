-- What a command finds in an open plot: qualities, or why reading it ended early.
use Rattle.std.proofs.Common.{◌≡◌, ◌⊎◌, ℕ, ◌+◌, ◌*◌, ◌≤◌, List, length, Result, Err, refl, sym, ap, ◌∙◌, subst, inr, arith}
use Rattle.std.specs.Prelude.{IsErrOf}
use Rattle.pos_edge.specs.Faults.{Rose}
use Rattle.pos_edge.specs.Frame.{ChangesOnly, Nothing, SameFaults}
use Rattle.pos_edge.specs.View.{View}
use Rattle.pos_layout.specs.declared.damage.Damage.{Damage}
use Rattle.pos_layout.specs.Fields.{layout_in}
use Rattle.pos_layout.specs.Rules.{Opens}
use Rattle.pos_reader.specs.declared.refusal.ReadRefusal.{ReadRefusal}
use Rattle.pos_reader.specs.declared.refusal.ReadRefusal.TheVariants.{DiskFailed as ReadFailed, Damage as ReadDamaged}
use Rattle.pos_reader.specs.Plots.{PlotState, IsPlotFile}
use Rattle.pos_reader.specs.Readings.{IsPlotOpened, IsReading}
use Rattle.pos_reader.proofs.AnswerLemmas.{layout_said}
use Rattle.pos_harvest.specs.declared.refusal.ListRefusal.{ListRefusal}
use Rattle.pos_harvest.specs.declared.refusal.ListRefusal.TheVariants.{DiskFailed as ListFailed, Damage as ListDamaged, Memory as NoListMemory}
use Rattle.pos_harvest.specs.Listings.{IsListing, ListsQualities}
use Rattle.pos_harvest.specs.PlotDamage.{IsOpeningDamage}
use Rattle.pos_app.specs.declared.refusal.Refusal.{Refusal}
use Rattle.pos_app.specs.ListAnswers.{IsQualitiesText}
use Rattle.pos_app.specs.Refused.{Finds, list_refusal, read_refusal}
use Rattle.pos_app.specs.Texts.{qualities_text}
use Rattle.pos_app.proofs.FileLemmas.{kept_then}

-- an open plot's bytes open
opens_file : (p : PlotState) (b : List ℕ) (view : View) → IsPlotFile p b view → Opens (layout_in b) b
opens_file p b view holds = subst (λ l. Opens l b) (layout_said p.header b holds.header) holds.opens

-- the lines of the qualities of a plot that was opened are right
pub qualities_right : (file c : List ℕ) (p : PlotState) (text : List ℕ) (said qualities : List (List ℕ)) (before between after : View)
    → text ≡ qualities_text said → said ≡ qualities → IsPlotOpened file p before between
    → between.reads ≤ before.reads + 2 → after.reads ≤ between.reads + 100 + 14 * length qualities
    → ((b : List ℕ) → IsPlotFile p b between → ListsQualities (layout_in b) b c qualities) → IsQualitiesText file c before after text
qualities_right file c p text said qualities before between after is same opened two many listed = record {
  qualities = qualities;
  lines = is ∙ ap qualities_text same;
  reads = omega arith;
  told = λ tells. let held = opened.holds tells in record {
    bytes = held.0;
    contents = held.1;
    opens = opens_file p held.0 between held.2;
    listed = listed held.0 held.2;
  };
}

-- a damage that opening finds, or another one of bytes that open
abbrev pub Has : (List ℕ → Damage → Type 0) → List ℕ → Damage → Type 0
Has More b d = IsOpeningDamage b d ⊎ (Opens (layout_in b) b × More b d)

module _ {X Y : Type 0} (IsRight : Y → Type 0) (More : List ℕ → Damage → Type 0) (file : List ℕ) (p q : PlotState) (most : ℕ) (before between after : View)
    (kept : ChangesOnly Nothing Nothing before between) (same : SameFaults before between) (opened : IsPlotOpened file p before between) where
  list_ended : (r : ListRefusal) → IsListing {X = X} most (Err r) p q between after
      → ((d : Damage) → IsErrOf {T = X} (Err r) (ListDamaged d) → (b : List ℕ) → IsPlotFile p b between → More b d)
      → Finds {X = Y} IsRight (Has More) file (Err (list_refusal r)) before after
  list_ended ListFailed listing damage = record {
    kept = kept_then before between after kept listing.left.reads.kept;
    quiet = λ other. absurd (other refl);
    right = tt;
    refused = subst (λ f. Rose f after.faults) same (listing.faults.failed refl);
  }
  list_ended (ListDamaged d) listing damage = record {
    kept = kept_then before between after kept listing.left.reads.kept;
    quiet = λ other. listing.faults.quiet (λ e. cc) ∙ same;
    right = tt;
    refused = λ tells. let held = opened.holds tells in (held.0, held.1, inr (opens_file p held.0 between held.2, damage d refl held.0 held.2));
  }
  list_ended NoListMemory listing damage = record {
    kept = kept_then before between after kept listing.left.reads.kept;
    quiet = λ other. listing.faults.quiet (λ e. cc) ∙ same;
    right = tt;
    refused = tt;
  }

  -- no list was made
  pub no_list : (r : ListRefusal) (result : Result Y Refusal) → result ≡ Err (list_refusal r) → IsListing {X = X} most (Err r) p q between after
      → ((d : Damage) → IsErrOf {T = X} (Err r) (ListDamaged d) → (b : List ℕ) → IsPlotFile p b between → More b d)
      → Finds {X = Y} IsRight (Has More) file result before after
  no_list r result is listing damage = subst (λ (w : Result Y Refusal). Finds {X = Y} IsRight (Has More) file w before after) (sym is) (list_ended r listing damage)

  read_ended : (r : ReadRefusal) → IsReading {X = X} most (Err r) p q between after
      → ((d : Damage) → IsErrOf {T = X} (Err r) (ReadDamaged d) → (b : List ℕ) → IsPlotFile p b between → More b d)
      → Finds {X = Y} IsRight (Has More) file (Err (read_refusal r)) before after
  read_ended ReadFailed reading damage = record {
    kept = kept_then before between after kept reading.left.reads.kept;
    quiet = λ other. absurd (other refl);
    right = tt;
    refused = subst (λ f. Rose f after.faults) same (reading.faults.failed refl);
  }
  read_ended (ReadDamaged d) reading damage = record {
    kept = kept_then before between after kept reading.left.reads.kept;
    quiet = λ other. reading.faults.quiet (λ e. cc) ∙ same;
    right = tt;
    refused = λ tells. let held = opened.holds tells in (held.0, held.1, inr (opens_file p held.0 between held.2, damage d refl held.0 held.2));
  }

  -- nothing was summed up
  pub no_summary : (r : ReadRefusal) (result : Result Y Refusal) → result ≡ Err (read_refusal r) → IsReading {X = X} most (Err r) p q between after
      → ((d : Damage) → IsErrOf {T = X} (Err r) (ReadDamaged d) → (b : List ℕ) → IsPlotFile p b between → More b d)
      → Finds {X = Y} IsRight (Has More) file result before after
  no_summary r result is reading damage = subst (λ (w : Result Y Refusal). Finds {X = Y} IsRight (Has More) file w before after) (sym is) (read_ended r reading damage)
