-- No command ends with the status of the usage line, none but `verify` with that of a refused proof, and none but `farm` with that
-- of a bad line.
use Rattle.std.proofs.Common.{◌≡◌, ℕ, true, List, refl, sym, ◌∙◌, inl, inr, arith}
use Rattle.pos_edge.specs.Sinks.{Heard}
use Rattle.pos_edge.specs.View.{View}
use Rattle.pos_layout.specs.declared.damage.Damage.{Damage}
use Rattle.pos_verify.specs.declared.Verdict.{Verdict}
use Rattle.pos_verify.specs.declared.Verdict.TheVariants.{Accepted, WrongLength, NoMatch, WrongChallenge}
use Rattle.pos_app.specs.Statuses.{done_status, refused_status, usage_status, disk_fault_status, damage_status, name_status, sink_fault_status, memory_status, list_status}
use Rattle.pos_app.specs.Answers.{Speaks}
use Rattle.pos_app.specs.CheckAnswers.{IsCheckDamage, IsCheckedText}
use Rattle.pos_app.specs.Command.{Command, Verify, MakePlot, Prove, Quality, Inspect, CheckPlot, Survey, Farm, IsVerify, asks_list}
use Rattle.pos_app.specs.FarmAnswers.{SaysFarm}
use Rattle.pos_app.specs.FarmTexts.{bad_line}
use Rattle.pos_app.specs.FileAnswers.{IsOpeningDamage, SaysOfFile}
use Rattle.pos_app.specs.InspectAnswers.{IsHeaderText}
use Rattle.pos_app.specs.ListAnswers.{IsProofsText, IsProveDamage, IsQualitiesText, IsQualityDamage}
use Rattle.pos_app.specs.Obeyed.{SaysAnswer}
use Rattle.pos_app.specs.Texts.{absent_line, damage_line, disk_fault_line, verdict_line}
use Rattle.pos_app.specs.VerifyAnswers.{SaysVerdict, verdict_status}
use Rattle.pos_app.proofs.PlottingLemmas.{is_plot_status}
use Rattle.pos_app.proofs.SurveyingLemmas.{is_survey_status}

-- a status with which no command on a plot file ends
record IsApart (s : ℕ) : Type 0 where
  done : done_status ≡ s → ⊥
  disk : disk_fault_status ≡ s → ⊥
  damage : damage_status ≡ s → ⊥
  name : name_status ≡ s → ⊥
  sink : sink_fault_status ≡ s → ⊥
  memory : memory_status ≡ s → ⊥

refused_apart : IsApart refused_status
refused_apart = record {
  done = λ e. omega arith;
  disk = λ e. omega arith;
  damage = λ e. omega arith;
  name = λ e. omega arith;
  sink = λ e. omega arith;
  memory = λ e. omega arith;
}

usage_apart : IsApart usage_status
usage_apart = record {
  done = λ e. omega arith;
  disk = λ e. omega arith;
  damage = λ e. omega arith;
  name = λ e. omega arith;
  sink = λ e. omega arith;
  memory = λ e. omega arith;
}

list_apart : IsApart list_status
list_apart = record {
  done = λ e. omega arith;
  disk = λ e. omega arith;
  damage = λ e. omega arith;
  name = λ e. omega arith;
  sink = λ e. omega arith;
  memory = λ e. omega arith;
}

-- a text that was said with another status
not_spoken : (s status : ℕ) (text : List ℕ) (result : ℕ) (old new : Heard) → IsApart s → (status ≡ s → ⊥) → Speaks status text result old new → result ≡ s → ⊥
not_spoken s status text result old new apart other (inl said) is = other (sym said.ends ∙ is)
not_spoken s status text result old new apart other (inr cut) is = apart.sink (sym cut.status ∙ is)

-- a command on a file
not_of_file : (IsRight : List ℕ → Type 0) (Has : List ℕ → Damage → Type 0) (file : List ℕ) (before after : View) (result : ℕ) (old new : Heard) (s : ℕ)
    → IsApart s → SaysOfFile IsRight Has file before after result old new → result ≡ s → ⊥
not_of_file IsRight Has file before after result old new s apart (inl (inl shown)) is =
    not_spoken s done_status shown.text result old new apart apart.done shown.said is
not_of_file IsRight Has file before after result old new s apart (inl (inr (inl damaged))) is =
    not_spoken s damage_status (damage_line damaged.damage) result old new apart apart.damage damaged.said is
not_of_file IsRight Has file before after result old new s apart (inl (inr (inr (inl none)))) is =
    not_spoken s name_status (absent_line file) result old new apart apart.name none.said is
not_of_file IsRight Has file before after result old new s apart (inl (inr (inr (inr failed)))) is =
    not_spoken s disk_fault_status disk_fault_line result old new apart apart.disk failed.said is
not_of_file IsRight Has file before after result old new s apart (inr unsaid) is = apart.memory (sym unsaid.status ∙ is)

-- one on the plots of a list
not_of_farm : (list c : List ℕ) (before after : View) (result : ℕ) (old new : Heard) (s : ℕ) → IsApart s → (list_status ≡ s → ⊥)
    → SaysFarm list c before after result old new → result ≡ s → ⊥
not_of_farm list c before after result old new s apart other (inl (inl shown)) is =
    not_spoken s done_status shown.text result old new apart apart.done shown.said is
not_of_farm list c before after result old new s apart other (inl (inr (inl bad))) is =
    not_spoken s list_status (bad_line bad.number) result old new apart other bad.said is
not_of_farm list c before after result old new s apart other (inl (inr (inr (inl none)))) is =
    not_spoken s name_status (absent_line list) result old new apart apart.name none.absence.said is
not_of_farm list c before after result old new s apart other (inl (inr (inr (inr failed)))) is =
    not_spoken s disk_fault_status disk_fault_line result old new apart apart.disk failed.fault.said is
not_of_farm list c before after result old new s apart other (inr unsaid) is = apart.memory (sym unsaid.status ∙ is)

-- a verdict
no_usage : (verdict : Verdict) → verdict_status verdict ≡ usage_status → ⊥
no_usage (Accepted quality) e = omega arith
no_usage (WrongLength want found) e = omega arith
no_usage (NoMatch level pair) e = omega arith
no_usage (WrongChallenge want found) e = omega arith

no_list : (verdict : Verdict) → verdict_status verdict ≡ list_status → ⊥
no_list (Accepted quality) e = omega arith
no_list (WrongLength want found) e = omega arith
no_list (NoMatch level pair) e = omega arith
no_list (WrongChallenge want found) e = omega arith

of_verdict : (id : List ℕ) (k : ℕ) (challenge proof : List ℕ) (result : ℕ) (old new : Heard) (s : ℕ) → IsApart s
    → ((verdict : Verdict) → verdict_status verdict ≡ s → ⊥) → SaysVerdict id k challenge proof result old new → result ≡ s → ⊥
of_verdict id k challenge proof result old new s apart other (inl told) is =
    not_spoken s (verdict_status told.0) (verdict_line told.0) result old new apart (other told.0) told.2 is
of_verdict id k challenge proof result old new s apart other (inr unsaid) is = apart.memory (sym unsaid.status ∙ is)

-- no command ends as words do that are none
pub never_usage : (c : Command) (before after : View) (result : ℕ) (old new : Heard) → SaysAnswer c before after result old new → result ≡ usage_status → ⊥
never_usage (Verify id k challenge proof) before after result old new says = of_verdict id k challenge proof result old new usage_status usage_apart no_usage says
never_usage (MakePlot id k file base) before after result old new says = (is_plot_status id k file base before after result old new says).not_usage
never_usage (Prove file c) before after result old new says =
    not_of_file (IsProofsText file c before after) (IsProveDamage c) file before after result old new usage_status usage_apart says
never_usage (Quality file c) before after result old new says =
    not_of_file (IsQualitiesText file c before after) (IsQualityDamage c) file before after result old new usage_status usage_apart says
never_usage (Inspect file) before after result old new says =
    not_of_file (IsHeaderText file before) IsOpeningDamage file before after result old new usage_status usage_apart says
never_usage (CheckPlot file n) before after result old new says =
    not_of_file (IsCheckedText file n before after) (IsCheckDamage n) file before after result old new usage_status usage_apart says
never_usage (Survey k number n file base) before after result old new says = (is_survey_status k number n file base before after result old new says).not_usage
never_usage (Farm list c) before after result old new says = not_of_farm list c before after result old new usage_status usage_apart (λ e. omega arith) says

-- and none but one that judges a proof as a refused proof does
pub only_verify_refuses : (c : Command) (before after : View) (result : ℕ) (old new : Heard) → SaysAnswer c before after result old new → result ≡ refused_status → IsVerify c
only_verify_refuses (Verify id k challenge proof) before after result old new says is = tt
only_verify_refuses (MakePlot id k file base) before after result old new says is = (is_plot_status id k file base before after result old new says).not_refused is
only_verify_refuses (Prove file c) before after result old new says is =
    not_of_file (IsProofsText file c before after) (IsProveDamage c) file before after result old new refused_status refused_apart says is
only_verify_refuses (Quality file c) before after result old new says is =
    not_of_file (IsQualitiesText file c before after) (IsQualityDamage c) file before after result old new refused_status refused_apart says is
only_verify_refuses (Inspect file) before after result old new says is =
    not_of_file (IsHeaderText file before) IsOpeningDamage file before after result old new refused_status refused_apart says is
only_verify_refuses (CheckPlot file n) before after result old new says is =
    not_of_file (IsCheckedText file n before after) (IsCheckDamage n) file before after result old new refused_status refused_apart says is
only_verify_refuses (Survey k number n file base) before after result old new says is = (is_survey_status k number n file base before after result old new says).not_refused is
only_verify_refuses (Farm list c) before after result old new says is =
    not_of_farm list c before after result old new refused_status refused_apart (λ e. omega arith) says is

-- and none but one that asks a list as a bad line does
pub only_farm_lists : (c : Command) (before after : View) (result : ℕ) (old new : Heard) → SaysAnswer c before after result old new → result ≡ list_status → asks_list c ≡ true
only_farm_lists (Verify id k challenge proof) before after result old new says is =
    absurd (of_verdict id k challenge proof result old new list_status list_apart no_list says is)
only_farm_lists (MakePlot id k file base) before after result old new says is = absurd ((is_plot_status id k file base before after result old new says).not_list is)
only_farm_lists (Prove file c) before after result old new says is =
    absurd (not_of_file (IsProofsText file c before after) (IsProveDamage c) file before after result old new list_status list_apart says is)
only_farm_lists (Quality file c) before after result old new says is =
    absurd (not_of_file (IsQualitiesText file c before after) (IsQualityDamage c) file before after result old new list_status list_apart says is)
only_farm_lists (Inspect file) before after result old new says is =
    absurd (not_of_file (IsHeaderText file before) IsOpeningDamage file before after result old new list_status list_apart says is)
only_farm_lists (CheckPlot file n) before after result old new says is =
    absurd (not_of_file (IsCheckedText file n before after) (IsCheckDamage n) file before after result old new list_status list_apart says is)
only_farm_lists (Survey k number n file base) before after result old new says is =
    absurd ((is_survey_status k number n file base before after result old new says).not_list is)
only_farm_lists (Farm list c) before after result old new says is = refl

-- what is said of words that are none
pub usage_is_no_refusal : (text : List ℕ) (result : ℕ) (old new : Heard) → Speaks usage_status text result old new → result ≡ refused_status → ⊥
usage_is_no_refusal text result old new says is = not_spoken refused_status usage_status text result old new refused_apart (λ e. omega arith) says is

pub usage_is_no_list : (text : List ℕ) (result : ℕ) (old new : Heard) → Speaks usage_status text result old new → result ≡ list_status → ⊥
usage_is_no_list text result old new says is = not_spoken list_status usage_status text result old new list_apart (λ e. omega arith) says is
