-- What a command on a plot file finds, or why it has nothing to show, and what is said then.
use Rattle.std.proofs.Common.{◌≡◌, ℕ, ◌+◌, ◌*◌, ◌≤◌, List, length, Ok, ◌∙◌, ap, inl, inr, arith, subst}
use Rattle.std.specs.Prelude.{All}
use Rattle.pos_edge.specs.View.{View}
use Rattle.pos_edge.specs.Frame.{ChangesOnly, Nothing, SameFaults}
use Rattle.pos_edge.proofs.Frames.{frame_then}
use Rattle.pos_tuple.specs.Proof.{Proof}
use Rattle.pos_layout.specs.Fields.{layout_in}
use Rattle.pos_layout.specs.declared.damage.Damage.{Damage}
use Rattle.pos_layout.specs.Rules.{Opens}
use Rattle.pos_reader.specs.Plots.{PlotState, IsPlotFile}
use Rattle.pos_reader.specs.Readings.{IsPlotOpened}
use Rattle.pos_reader.proofs.AnswerLemmas.{layout_said}
use Rattle.pos_harvest.specs.Listings.{ListsProofs}
use Rattle.pos_app.specs.declared.refusal.Refusal.{Refusal}
use Rattle.pos_app.specs.declared.refusal.Refusal.TheVariants.{Absent, DiskFailed, Damage as Damaged, Memory}
use Rattle.pos_edge.specs.Sinks.{Heard}
use Rattle.pos_app.specs.FileAnswers.{SaysOfFile}
use Rattle.pos_app.specs.ListAnswers.{IsProofsText}
use Rattle.pos_app.specs.Texts.{proofs_text}
use Rattle.pos_app.specs.Refused.{Finds, IsRefused, SaysRefusal}

-- why there is nothing to show is said
pub refusal_says : (IsRight : List ℕ → Type 0) (Has : List ℕ → Damage → Type 0) (file : List ℕ) (before after : View) (refusal : Refusal)
    (result : ℕ) (old new : Heard) → IsRefused Has file before after refusal → SaysRefusal file refusal result old new
    → SaysOfFile IsRight Has file before after result old new
refusal_says IsRight Has file before after Absent result old new is (inl speaks) =
    inl (inr (inr (inl (record { said = speaks; absent = is }))))
refusal_says IsRight Has file before after Absent result old new is (inr unsaid) = inr unsaid
refusal_says IsRight Has file before after DiskFailed result old new is speaks =
    inl (inr (inr (inr (record { said = speaks; cause = is }))))
refusal_says IsRight Has file before after (Damaged d) result old new is (inl speaks) =
    inl (inr (inl (record { damage = d; said = speaks; told = is })))
refusal_says IsRight Has file before after (Damaged d) result old new is (inr unsaid) = inr unsaid
refusal_says IsRight Has file before after Memory result old new is unsaid = inr unsaid

-- one frame after another
pub kept_then : (a b c : View) → ChangesOnly Nothing Nothing a b → ChangesOnly Nothing Nothing b c → ChangesOnly Nothing Nothing a c
kept_then a b c first second =
    frame_then Nothing Nothing Nothing Nothing Nothing Nothing a b c (λ n x. x) (λ n x. x) (λ f l x. x) (λ f l x. x) first second

-- what is right was found
pub found_right : {Y : Type 0} (IsRight : Y → Type 0) (Has : List ℕ → Damage → Type 0) (file : List ℕ) (y : Y) (before after : View)
    → IsRight y → ChangesOnly Nothing Nothing before after → SameFaults before after → Finds IsRight Has file (Ok y) before after
found_right IsRight Has file y before after right kept same = record { kept = kept; quiet = same; right = right; refused = tt }

-- the lines of the proofs of a plot that was opened are right
pub proofs_right : (file c : List ℕ) (p q : PlotState) (k : ℕ) (text : List ℕ) (said proofs : List (List ℕ)) (before between after : View)
    → text ≡ proofs_text k said → said ≡ proofs → k ≡ q.header.size → q ≡ p
    → All (λ xs. Proof p.header.id.0 p.header.size c xs) proofs → IsPlotOpened file p before between
    → between.reads ≤ before.reads + 2 → after.reads ≤ between.reads + 100 + 128 * length proofs
    → ((b : List ℕ) → IsPlotFile p b between → ListsProofs (layout_in b) b c proofs) → IsProofsText file c before after text
proofs_right file c p q k text said proofs before between after is same size left true_ones opened two many listed =
    let k_is : k ≡ p.header.size = size ∙ ap (λ r. r.header.size) left in
    record {
      id = p.header.id.0;
      k = p.header.size;
      proofs = proofs;
      lines = is ∙ (ap (λ n. proofs_text n said) k_is ∙ ap (λ out. proofs_text p.header.size out) same);
      true_ones = true_ones;
      reads = omega arith;
      told = λ tells. let held = opened.holds tells in record {
        bytes = held.0;
        contents = held.1;
        opens = subst (λ l. Opens l held.0) (layout_said p.header held.0 held.2.header) held.2.opens;
        same_id = ap (λ h. h.id.0) held.2.header;
        same_size = ap (λ h. h.size) held.2.header;
        listed = listed held.0 held.2;
      };
    }
