-- `inspect` over a file that opens, as the disk tells it.
use Rattle.std.proofs.Common.{◌≡◌, ℕ, List, ◌∙◌, ap, subst, inl, inr}
use Rattle.pos_edge.specs.Sinks.{Heard}
use Rattle.pos_edge.specs.View.{View}
use Rattle.pos_layout.specs.Fields.{header_in, memo_in}
use Rattle.pos_layout.specs.Rules.{Opens}
use Rattle.pos_reader.specs.Plots.{PlotState}
use Rattle.pos_reader.specs.Readings.{IsPlotOpened}
use Rattle.pos_reader.proofs.AnswerLemmas.{layout_said}
use Rattle.pos_app.specs.Answers.{Speaks}
use Rattle.pos_app.specs.FileAnswers.{IsOpeningDamage}
use Rattle.pos_app.specs.InspectAnswers.{HoldsOpenFile, IsHeaderText, SaysInspection, ShowsHeader}
use Rattle.pos_app.specs.Statuses.{done_status}
use Rattle.pos_app.specs.Texts.{inspect_text}
use Rattle.pos_app.proofs.ListLemmas.{not_there, one_bytes, whole_bytes}

-- its header is shown, and no damage
pub shows_header : (file : List ℕ) (before after : View) (result : ℕ) (old new : Heard) (held : HoldsOpenFile file before)
    → SaysInspection file before after result old new → ShowsHeader held.bytes before after result old new
shows_header file before after result old new held (inl (inl shown)) =
    let has = shown.right.told held.tells in
    let same : has.bytes ≡ held.bytes = one_bytes has.bytes held.bytes _ has.contents held.contents in
    let header = has.header_is ∙ ap header_in same in
    let memo = has.memo_is ∙ ap memo_in same in
    let lines = shown.right.lines ∙ ap (λ h. inspect_text h shown.right.memo) header ∙ ap (inspect_text (header_in held.bytes)) memo in
    inl (subst (λ s. Speaks done_status s result old new) lines shown.said)
shows_header file before after result old new held (inl (inr (inl damaged))) =
    let told = damaged.told held.tells in
    let same : told.0 ≡ held.bytes = one_bytes told.0 held.bytes _ told.1 held.contents in
    absurd (whole_bytes held.bytes damaged.damage held.opens (subst (λ s. IsOpeningDamage s damaged.damage) same told.2))
shows_header file before after result old new held (inl (inr (inr (inl none)))) = absurd (not_there held.bytes _ none.absent held.contents)
shows_header file before after result old new held (inl (inr (inr (inr failed)))) = inr (inl failed)
shows_header file before after result old new held (inr unsaid) = inr (inr unsaid)

-- the lines of the header and the memo of a plot that was opened are right
pub header_right : (file : List ℕ) (p : PlotState) (text : List ℕ) (before between : View) → text ≡ inspect_text p.header p.memo
    → IsPlotOpened file p before between → IsHeaderText file before text
header_right file p text before between is opened = record {
  header = p.header;
  memo = p.memo;
  lines = is;
  told = λ tells. let held = opened.holds tells in record {
    bytes = held.0;
    contents = held.1;
    opens = subst (λ l. Opens l held.0) (layout_said p.header held.0 held.2.header) held.2.opens;
    header_is = held.2.header;
    memo_is = held.2.memo_is;
  };
}
