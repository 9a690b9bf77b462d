-- What follows of the answer of `check`: over any file, over a whole file, and over the plot of an id.
use Rattle.std.proofs.Common.{◌≡◌, ℕ, ◌+◌, ◌*◌, ◌≤◌, true, List, Some, ◌∙◌, ap, subst, inl, inr, arith}
use Rattle.pos_edge.specs.Sinks.{Heard, followed_by}
use Rattle.pos_edge.specs.View.{View}
use Rattle.pos_layout.specs.Fields.{layout_in}
use Rattle.pos_layout.specs.declared.damage.Damage.{Damage}
use Rattle.pos_layout.specs.Rules.{Opens}
use Rattle.pos_layout.proofs.FileCauses.{cause_found}
use Rattle.pos_reader.specs.Plots.{PlotState, IsPlotFile}
use Rattle.pos_reader.specs.Readings.{IsPlotOpened}
use Rattle.pos_reader.proofs.AnswerLemmas.{layout_said}
use Rattle.pos_harvest.proofs.DamageLemmas.{proof_list_damage_is_of_the_file}
use Rattle.pos_check.specs.declared.summary.Summary.{Summary}
use Rattle.pos_check.specs.Summaries.{IsSummary, StopsCheck, challenge_of}
use Rattle.pos_check.proofs.WholeSummaries.{each_challenge_is_checked, only_a_place_stops_a_check, summary_is_of_the_proofs}
use Rattle.pos_app.specs.Statuses.{done_status, disk_fault_status, damage_status, name_status}
use Rattle.pos_app.specs.Answers.{Speaks}
use Rattle.pos_app.specs.PlotAnswers.{HoldsPlotOf, HoldsWholeFile}
use Rattle.pos_app.specs.CheckAnswers.{IsCheckDamage, IsCheckedText, IsDamageForCheck, NamesCheckDamage, ReadsForCheck, SaysCheck, SaysTheSummary, ShowsSummaryOrNone}
use Rattle.pos_app.specs.Texts.{absent_line, checked_line, damage_line, disk_fault_line}
use Rattle.pos_app.proofs.ListLemmas.{damage_written, not_damaged, not_there, one_bytes, shown_text, whole_bytes, written}

-- the line of the summary of a plot that was opened is right
pub checked_right : (file : List ℕ) (p : PlotState) (n : ℕ) (s : Summary) (text : List ℕ) (before between after : View)
    → text ≡ checked_line s.challenges s.proofs s.digest → s.challenges ≡ n → IsPlotOpened file p before between
    → between.reads ≤ before.reads + 2 → after.reads ≤ between.reads + (100 * n + 128 * s.proofs)
    → ((b : List ℕ) → IsPlotFile p b between → IsSummary (layout_in b) b n s) → IsCheckedText file n before after text
checked_right file p n s text before between after is many opened two reads summed = record {
  summary = s;
  lines = is ∙ ap (λ n. checked_line n s.proofs s.digest) many;
  reads = omega arith;
  told = λ tells. let held = opened.holds tells in record {
    bytes = held.0;
    contents = held.1;
    opens = subst (λ l. Opens l held.0) (layout_said p.header held.0 held.2.header) held.2.opens;
    summed = summed held.0 held.2;
  };
}

-- ---- how often the file was read

pub reads_for_check : (file : List ℕ) (n : ℕ) (before after : View) (result : ℕ) (old new : Heard) → result ≡ done_status
    → SaysCheck file n before after result old new → ReadsForCheck n before after old new
reads_for_check file n before after result old new done says =
    let shown = shown_text (IsCheckedText file n before after) (IsCheckDamage n) file before after result old new done says in
    record {
      summary = shown.right.summary;
      text = written shown.text result old new done shown.said ∙ ap (λ s. followed_by old.text s) shown.right.lines;
      reads = shown.right.reads;
    }

-- ---- the causes of a damage

check_cause : (n : ℕ) (b : List ℕ) (d : Damage) → IsCheckDamage n b d → IsDamageForCheck n b d
check_cause n b d (inl finds) = inl (cause_found (layout_in b) b d finds)
check_cause n b d (inr stops) =
    inr (stops.1.challenge, stops.1.inside, proof_list_damage_is_of_the_file b (challenge_of b stops.1.challenge) d stops.0 stops.1.here)

pub names_check_damage : (file : List ℕ) (n : ℕ) (before after : View) (result : ℕ) (old new : Heard) → before.tells ≡ true → result ≡ damage_status
    → SaysCheck file n before after result old new → NamesCheckDamage file n before old new
names_check_damage file n before after result old new tells is (inl (inl shown)) =
    absurd (not_damaged done_status shown.text result old new (λ e. omega arith) is shown.said)
names_check_damage file n before after result old new tells is (inl (inr (inl damaged))) =
    let told = damaged.told tells in
    record {
      damage = damaged.damage;
      text = damage_written (damage_line damaged.damage) result old new is damaged.said;
      bytes = told.0;
      contents = told.1;
      cause = check_cause n told.0 damaged.damage told.2;
    }
names_check_damage file n before after result old new tells is (inl (inr (inr (inl none)))) =
    absurd (not_damaged name_status (absent_line file) result old new (λ e. omega arith) is none.said)
names_check_damage file n before after result old new tells is (inl (inr (inr (inr failed)))) =
    absurd (not_damaged disk_fault_status disk_fault_line result old new (λ e. omega arith) is failed.said)
names_check_damage file n before after result old new tells is (inr unsaid) = let ends = unsaid.status in absurd (omega arith)

-- ---- over a whole file

-- a damage in place of a summary of bytes that open is what ends a check
ends_check : (b : List ℕ) (d : Damage) (n : ℕ) → Opens (layout_in b) b → IsCheckDamage n b d → StopsCheck (layout_in b) b n d
ends_check b d n opens (inl finds) = absurd (whole_bytes b d opens finds)
ends_check b d n opens (inr stops) = stops.1

module _ (file : List ℕ) (n : ℕ) (before after : View) (result : ℕ) (old new : Heard) (held : HoldsWholeFile file before) where
  stops_there : (b : List ℕ) (d : Damage) → before.contents file ≡ Some b → IsCheckDamage n b d → StopsCheck (layout_in held.bytes) held.bytes n d
  stops_there b d contents has =
      let same : b ≡ held.bytes = one_bytes b held.bytes _ contents held.contents in
      ends_check held.bytes d n held.well.stores.opens (subst (λ s. IsCheckDamage n s d) same has)

  pub says_of_whole_check : SaysCheck file n before after result old new → ShowsSummaryOrNone file n before held after result old new
  says_of_whole_check (inl (inl shown)) = inl shown
  says_of_whole_check (inl (inr (inl damaged))) =
      let told = damaged.told held.tells in
      let stops = stops_there told.0 damaged.damage told.1 told.2 in
      inr (inl (record {
        damage = damaged.damage;
        place = only_a_place_stops_a_check held.bytes held.lists n damaged.damage held.well stops;
        first = stops;
        said = damaged.said;
      }))
  says_of_whole_check (inl (inr (inr (inl none)))) = absurd (not_there held.bytes _ none.absent held.contents)
  says_of_whole_check (inl (inr (inr (inr failed)))) = inr (inr (inl failed))
  says_of_whole_check (inr unsaid) = inr (inr (inr unsaid))

-- ---- over the plot of an id

module _
    (id : List ℕ) (k n : ℕ) (file : List ℕ) (before after : View) (result : ℕ) (old new : Heard)
    (held : HoldsPlotOf id k file before) where
  pub says_the_summary : SaysCheck file n before after result old new → SaysTheSummary id k n before after result old new
  says_the_summary says = theirs (says_of_whole_check file n before after result old new held.whole says)
    where
      theirs : ShowsSummaryOrNone file n before held.whole after result old new → SaysTheSummary id k n before after result old new
      theirs (inl shown) =
          let has = shown.right.told held.whole.tells in
          let same : has.bytes ≡ held.whole.bytes = one_bytes has.bytes held.whole.bytes _ has.contents held.whole.contents in
          inl (
            shown.right.summary,
            summary_is_of_the_proofs held.whole.bytes held.whole.lists id k n shown.right.summary held.whole.well held.plot
                (subst (λ b. IsSummary (layout_in b) b n shown.right.summary) same has.summed),
            subst (λ s. Speaks done_status s result old new) shown.right.lines shown.said,
          )
      theirs (inr (inl stopped)) =
          absurd (each_challenge_is_checked held.whole.bytes held.whole.lists id k n stopped.damage held.whole.well held.plot stopped.first)
      theirs (inr (inr unless)) = inr unless
