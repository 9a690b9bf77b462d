-- What follows of the answers of the commands on a file.
use Rattle.std.proofs.Common.{◌≡◌, ◌⊎◌, ℕ, ◌<◌, List, [], length, true, sym, ◌∙◌, ap, subst, refl, inl, inr, arith, append-nil}
use Rattle.std.proofs.Math.Seq.{take-length}
use Rattle.std.specs.Prelude.{Option, Some, None}
use Rattle.pos_edge.specs.Sinks.{Heard, followed_by, AppendsPartOf}
use Rattle.pos_edge.specs.View.{View}
use Rattle.pos_layout.specs.Fields.{layout_in}
use Rattle.pos_layout.specs.declared.damage.Damage.{Damage}
use Rattle.pos_layout.specs.Rules.{Opens}
use Rattle.pos_layout.proofs.FileCauses.{cause_found}
use Rattle.pos_harvest.specs.PlotDamage.{IsDamage}
use Rattle.pos_harvest.proofs.DamageLemmas.{proof_list_damage_is_of_the_file, quality_list_damage_is_of_a_number}
use Rattle.pos_layout.proofs.FileOpening.{nothing_where_opens}
use Rattle.pos_app.specs.Statuses.{done_status, disk_fault_status, damage_status, name_status}
use Rattle.pos_app.specs.Answers.{Speaks}
use Rattle.pos_app.specs.Command.{Command, Verify, MakePlot, Prove, Quality, Inspect, CheckPlot, Survey, Farm, IsForChallenge, IsOnFile}
use Rattle.pos_app.specs.FileAnswers.{IsOpeningDamage, NamesDamage, RefusesUnopened, SaysOfFile, SaysUnlessFault, ShowsText}
use Rattle.pos_app.specs.InspectAnswers.{IsHeaderText}
use Rattle.pos_app.specs.CheckAnswers.{IsCheckDamage, IsCheckedText}
use Rattle.pos_app.specs.ListAnswers.{IsProofsText, IsProveDamage, IsQualitiesText, IsQualityDamage, ReadsForProofs, ReadsForQualities, SaysProofs, SaysQualities, WritesNoFalseProof}
use Rattle.pos_app.specs.Obeyed.{SaysAnswer}
use Rattle.pos_app.specs.Texts.{absent_line, damage_line, disk_fault_line}

-- ---- what was written

-- what is said is a front part of its text
pub spoken : (status : ℕ) (text : List ℕ) (result : ℕ) (old new : Heard) → Speaks status text result old new → AppendsPartOf text old.text new.text
spoken status text result old new (inl said) =
    (length text, omega arith, said.whole ∙ ap (λ s. followed_by old.text s) (sym (take-length text)))
spoken status text result old new (inr cut) = cut.part

pub nothing_more : (text : Option (List ℕ)) → followed_by text [] ≡ text
nothing_more None = refl
nothing_more (Some text) = ap Some (append-nil text)

-- `prove` has written no false proof
pub no_false_proof : (file c : List ℕ) (before after : View) (result : ℕ) (old new : Heard)
    → SaysProofs file c before after result old new → WritesNoFalseProof file c old new
no_false_proof file c before after result old new (inl (inl shown)) =
    inl (
      shown.right.id,
      shown.right.k,
      shown.right.proofs,
      shown.right.true_ones,
      subst (λ text. AppendsPartOf text old.text new.text) shown.right.lines (spoken done_status shown.text result old new shown.said),
    )
no_false_proof file c before after result old new (inl (inr (inl damaged))) =
    inr (damage_line damaged.damage, inr (inr (damaged.damage, refl)), spoken damage_status (damage_line damaged.damage) result old new damaged.said)
no_false_proof file c before after result old new (inl (inr (inr (inl none)))) =
    inr (absent_line file, inl refl, spoken name_status (absent_line file) result old new none.said)
no_false_proof file c before after result old new (inl (inr (inr (inr failed)))) =
    inr (disk_fault_line, inr (inl refl), spoken disk_fault_status disk_fault_line result old new failed.said)
no_false_proof file c before after result old new (inr unsaid) =
    inr (disk_fault_line, inr (inl refl), (0, omega arith, unsaid.nothing ∙ sym (nothing_more old.text)))

-- ---- how often the file was read

not_done : (status : ℕ) (text : List ℕ) (result : ℕ) (old new : Heard) → 0 < status → result ≡ done_status → Speaks status text result old new → ⊥
not_done status text result old new some done (inl said) = let ends = said.ends in omega arith
not_done status text result old new some done (inr cut) = let ends = cut.status in omega arith

-- where the text was written to its end
pub written : (text : List ℕ) (result : ℕ) (old new : Heard) → result ≡ done_status → Speaks done_status text result old new → new.text ≡ followed_by old.text text
written text result old new done (inl said) = said.whole
written text result old new done (inr cut) = let ends = cut.status in absurd (omega arith)

-- a command that is done has shown a text
pub shown_text : (IsRight : List ℕ → Type 0) (Has : List ℕ → Damage → Type 0) (file : List ℕ) (before after : View) (result : ℕ) (old new : Heard)
    → result ≡ done_status → SaysOfFile IsRight Has file before after result old new → ShowsText IsRight result old new
shown_text IsRight Has file before after result old new done (inl (inl shown)) = shown
shown_text IsRight Has file before after result old new done (inl (inr (inl damaged))) =
    absurd (not_done damage_status (damage_line damaged.damage) result old new (omega arith) done damaged.said)
shown_text IsRight Has file before after result old new done (inl (inr (inr (inl none)))) =
    absurd (not_done name_status (absent_line file) result old new (omega arith) done none.said)
shown_text IsRight Has file before after result old new done (inl (inr (inr (inr failed)))) =
    absurd (not_done disk_fault_status disk_fault_line result old new (omega arith) done failed.said)
shown_text IsRight Has file before after result old new done (inr unsaid) = let ends = unsaid.status in absurd (omega arith)

pub reads_for_proofs : (file c : List ℕ) (before after : View) (result : ℕ) (old new : Heard) → result ≡ done_status
    → SaysProofs file c before after result old new → ReadsForProofs before after old new
reads_for_proofs file c before after result old new done says =
    let shown = shown_text (IsProofsText file c before after) (IsProveDamage c) file before after result old new done says in
    record {
      k = shown.right.k;
      proofs = shown.right.proofs;
      text = written shown.text result old new done shown.said ∙ ap (λ s. followed_by old.text s) shown.right.lines;
      reads = shown.right.reads;
    }

pub reads_for_qualities : (file c : List ℕ) (before after : View) (result : ℕ) (old new : Heard) → result ≡ done_status
    → SaysQualities file c before after result old new → ReadsForQualities before after old new
reads_for_qualities file c before after result old new done says =
    let shown = shown_text (IsQualitiesText file c before after) (IsQualityDamage c) file before after result old new done says in
    record {
      qualities = shown.right.qualities;
      text = written shown.text result old new done shown.said ∙ ap (λ s. followed_by old.text s) shown.right.lines;
      reads = shown.right.reads;
    }

-- ---- over a disk that tells, a file that is not there or does not open

-- bytes that open have no damage that opening finds
pub whole_bytes : (b : List ℕ) (d : Damage) → Opens (layout_in b) b → IsOpeningDamage b d → ⊥
whole_bytes b d opens damaged = let none = nothing_where_opens (layout_in b) b opens in let both : ◌≡◌ {A = Option Damage} None (Some d) = sym none ∙ damaged in cc

pub one_bytes : (a b : List ℕ) (contents : Option (List ℕ)) → contents ≡ Some a → contents ≡ Some b → a ≡ b
one_bytes a b contents e f = let both : ◌≡◌ {A = Option (List ℕ)} (Some a) (Some b) = sym e ∙ f in cc

pub not_there : (b : List ℕ) (contents : Option (List ℕ)) → contents ≡ None → contents ≡ Some b → ⊥
not_there b contents e f = let both : ◌≡◌ {A = Option (List ℕ)} None (Some b) = sym e ∙ f in cc

-- what is known where the bytes are these: they open, or this is what opening finds
abbrev ShowsOpening : List ℕ → View → Type 0
ShowsOpening file disk = (b : List ℕ) × (disk.contents file ≡ Some b) × Opens (layout_in b) b

-- the damage that was said is the one that opening finds
damage_is : (file b : List ℕ) (d : Damage) (before after : View) (result : ℕ) (old new : Heard) (e : Damage) (a : List ℕ)
    → before.contents file ≡ Some b → IsOpeningDamage b d → Speaks damage_status (damage_line e) result old new
    → before.contents file ≡ Some a → IsOpeningDamage a e ⊎ Opens (layout_in a) a → SaysUnlessFault damage_status (damage_line d) before after result old new
damage_is file b d before after result old new e a held finds said contents (inl found) =
    let same : a ≡ b = one_bytes a b _ contents held in
    let found_here : IsOpeningDamage b e = subst (λ s. IsOpeningDamage s e) same found in
    let both : ◌≡◌ {A = Option Damage} (Some e) (Some d) = sym found_here ∙ finds in
    let one : e ≡ d = cc in inl (subst (λ s. Speaks damage_status (damage_line s) result old new) one said)
damage_is file b d before after result old new e a held finds said contents (inr opens) =
    let same : a ≡ b = one_bytes a b _ contents held in absurd (whole_bytes b d (subst (λ s. Opens (layout_in s) s) same opens) finds)

refuses : (IsRight : List ℕ → Type 0) (Has : List ℕ → Damage → Type 0) (file : List ℕ) (before after : View) (result : ℕ) (old new : Heard)
    → before.tells ≡ true → ((text : List ℕ) → IsRight text → ShowsOpening file before)
    → ((b : List ℕ) (d : Damage) → Has b d → IsOpeningDamage b d ⊎ Opens (layout_in b) b)
    → SaysOfFile IsRight Has file before after result old new → RefusesUnopened file before after result old new
refuses IsRight Has file before after result old new tells opening_shown damage_shown (inl (inl shown)) =
    let told = opening_shown shown.text shown.right in
    record {
      absent = λ none. absurd (not_there told.0 _ none told.1);
      damaged = λ b d held finds. let same : told.0 ≡ b = one_bytes told.0 b _ told.1 held in
          absurd (whole_bytes b d (subst (λ s. Opens (layout_in s) s) same told.2) finds);
    }
refuses IsRight Has file before after result old new tells opening_shown damage_shown (inl (inr (inl damage))) =
    let told = damage.told tells in
    record {
      absent = λ none. absurd (not_there told.0 _ none told.1);
      damaged = λ b d held finds. damage_is file b d before after result old new damage.damage told.0 held finds damage.said told.1 (damage_shown told.0 damage.damage told.2);
    }
refuses IsRight Has file before after result old new tells opening_shown damage_shown (inl (inr (inr (inl none)))) =
    record { absent = λ is. inl none.said; damaged = λ b d held finds. absurd (not_there b _ none.absent held) }
refuses IsRight Has file before after result old new tells opening_shown damage_shown (inl (inr (inr (inr failed)))) =
    record { absent = λ is. inr (inl failed); damaged = λ b d held finds. inr (inl failed) }
refuses IsRight Has file before after result old new tells opening_shown damage_shown (inr unsaid) =
    record { absent = λ is. inr (inr unsaid); damaged = λ b d held finds. inr (inr unsaid) }

-- a damage in place of a list is one that opening finds, or the bytes open
list_damage : (b : List ℕ) (d : Damage) (More : Type 0) → IsOpeningDamage b d ⊎ (Opens (layout_in b) b × More) → IsOpeningDamage b d ⊎ Opens (layout_in b) b
list_damage b d More (inl finds) = inl finds
list_damage b d More (inr listed) = inr listed.0

-- whichever command on the file it is
pub any_file : (m : Command) (file : List ℕ) (before after : View) (result : ℕ) (old new : Heard) → before.tells ≡ true → IsOnFile file m
    → SaysAnswer m before after result old new → RefusesUnopened file before after result old new
any_file (Verify id k challenge proof) file before after result old new tells on says = absurd on
any_file (MakePlot id k name base) file before after result old new tells on says = absurd on
any_file (Prove name c) file before after result old new tells on says =
    subst (λ n. RefusesUnopened n before after result old new) on
    (refuses (IsProofsText name c before after) (IsProveDamage c) name before after result old new tells
    (λ text right. let held = right.told tells in (held.bytes, held.contents, held.opens)) (λ b d has. list_damage b d _ has) says)
any_file (Quality name c) file before after result old new tells on says =
    subst (λ n. RefusesUnopened n before after result old new) on
    (refuses (IsQualitiesText name c before after) (IsQualityDamage c) name before after result old new tells
    (λ text right. let held = right.told tells in (held.bytes, held.contents, held.opens)) (λ b d has. list_damage b d _ has) says)
any_file (Inspect name) file before after result old new tells on says =
    subst (λ n. RefusesUnopened n before after result old new) on
    (refuses (IsHeaderText name before) IsOpeningDamage name before after result old new tells
    (λ text right. let held = right.told tells in (held.bytes, held.contents, held.opens)) (λ b d has. inl has) says)
any_file (CheckPlot name n) file before after result old new tells on says =
    subst (λ n. RefusesUnopened n before after result old new) on
    (refuses (IsCheckedText name n before after) (IsCheckDamage n) name before after result old new tells
    (λ text right. let held = right.told tells in (held.bytes, held.contents, held.opens)) (λ b d has. list_damage b d _ has) says)
any_file (Survey k number n name base) file before after result old new tells on says = absurd on
any_file (Farm list c) file before after result old new tells on says = absurd on

-- ---- the causes of a damage

-- a text with another status is not said where a damage is
pub not_damaged : (status : ℕ) (text : List ℕ) (result : ℕ) (old new : Heard) → (status ≡ damage_status → ⊥) → result ≡ damage_status
    → Speaks status text result old new → ⊥
not_damaged status text result old new other is (inl said) = other (sym said.ends ∙ is)
not_damaged status text result old new other is (inr cut) = let ends = cut.status in omega arith

-- where the line was written to its end
pub damage_written : (text : List ℕ) (result : ℕ) (old new : Heard) → result ≡ damage_status → Speaks damage_status text result old new
    → new.text ≡ followed_by old.text text
damage_written text result old new is (inl said) = said.whole
damage_written text result old new is (inr cut) = let ends = cut.status in absurd (omega arith)

names : (IsRight : List ℕ → Type 0) (Has : List ℕ → Damage → Type 0) (file c : List ℕ) (before after : View) (result : ℕ) (old new : Heard)
    → before.tells ≡ true → result ≡ damage_status → ((b : List ℕ) (d : Damage) → Has b d → IsDamage (layout_in b) b c d)
    → SaysOfFile IsRight Has file before after result old new → NamesDamage file c before old new
names IsRight Has file c before after result old new tells is cause (inl (inl shown)) =
    absurd (not_damaged done_status shown.text result old new (λ e. omega arith) is shown.said)
names IsRight Has file c before after result old new tells is cause (inl (inr (inl damaged))) =
    let told = damaged.told tells in
    record {
      damage = damaged.damage;
      text = damage_written (damage_line damaged.damage) result old new is damaged.said;
      bytes = told.0;
      contents = told.1;
      cause = cause told.0 damaged.damage told.2;
    }
names IsRight Has file c before after result old new tells is cause (inl (inr (inr (inl none)))) =
    absurd (not_damaged name_status (absent_line file) result old new (λ e. omega arith) is none.said)
names IsRight Has file c before after result old new tells is cause (inl (inr (inr (inr failed)))) =
    absurd (not_damaged disk_fault_status disk_fault_line result old new (λ e. omega arith) is failed.said)
names IsRight Has file c before after result old new tells is cause (inr unsaid) = let ends = unsaid.status in absurd (omega arith)

-- what each command names is a damage of the file
prove_cause : (b c : List ℕ) (d : Damage) → IsProveDamage c b d → IsDamage (layout_in b) b c d
prove_cause b c d (inl finds) = inl (cause_found (layout_in b) b d finds)
prove_cause b c d (inr listed) = proof_list_damage_is_of_the_file b c d listed.0 listed.1

quality_cause : (b c : List ℕ) (d : Damage) → IsQualityDamage c b d → IsDamage (layout_in b) b c d
quality_cause b c d (inl finds) = inl (cause_found (layout_in b) b d finds)
quality_cause b c d (inr listed) = inr (listed.0, inl (quality_list_damage_is_of_a_number b c d listed.0 listed.1))

-- whichever command on the file it is
pub names_damage : (m : Command) (file c : List ℕ) (before after : View) (result : ℕ) (old new : Heard) → before.tells ≡ true → result ≡ damage_status
    → IsOnFile file m → IsForChallenge c m → SaysAnswer m before after result old new → NamesDamage file c before old new
names_damage (Verify id k challenge proof) file c before after result old new tells is on asked says = absurd on
names_damage (MakePlot id k name base) file c before after result old new tells is on asked says = absurd on
names_damage (Prove name challenge) file c before after result old new tells is on asked says =
    subst (λ n. NamesDamage n c before old new) on (subst (λ s. NamesDamage name s before old new) asked
    (names (IsProofsText name challenge before after) (IsProveDamage challenge) name challenge before after result old new tells is
    (λ b d has. prove_cause b challenge d has) says))
names_damage (Quality name challenge) file c before after result old new tells is on asked says =
    subst (λ n. NamesDamage n c before old new) on (subst (λ s. NamesDamage name s before old new) asked
    (names (IsQualitiesText name challenge before after) (IsQualityDamage challenge) name challenge before after result old new tells is
    (λ b d has. quality_cause b challenge d has) says))
names_damage (Inspect name) file c before after result old new tells is on asked says =
    subst (λ n. NamesDamage n c before old new) on
    (names (IsHeaderText name before) IsOpeningDamage name c before after result old new tells is (λ b d has. inl (cause_found (layout_in b) b d has)) says)
names_damage (CheckPlot name n) file c before after result old new tells is on asked says = absurd asked
names_damage (Survey k number n name base) file c before after result old new tells is on asked says = absurd on
names_damage (Farm list challenge) file c before after result old new tells is on asked says = absurd on
