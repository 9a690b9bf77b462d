-- What `farm` says, and what follows of it.
use Rattle.std.proofs.Common.{◌≡◌, ℕ, suc, ◌+◌, ◌^◌, ◌<◌, ◌≤◌, true, All, List, [], ◌∷◌, length, Option, Some, None, Err, refl, sym, ap, ◌∙◌, subst, inl, inr, arith}
use Rattle.std.specs.Prelude.{IfSome, IsErrOf}
use Rattle.std.proofs.lemmas.List.Elements.{All-append, All-cons, All-contains, All-head, All-nil, All-tail}
use Rattle.pos_edge.specs.Faults.{RoseBy}
use Rattle.pos_edge.specs.Frame.{ChangesOnly, Nothing, SameFaults}
use Rattle.pos_edge.specs.Sinks.{AppendsPartOf, Heard, followed_by}
use Rattle.pos_edge.specs.View.{View}
use Rattle.pos_reader.specs.Readings.{CountsFaults}
use Rattle.pos_farm.specs.declared.list.ListFault.{ListFault}
use Rattle.pos_farm.specs.declared.list.ListFault.TheVariants.{Absent, DiskFailed, Line, Memory}
use Rattle.pos_farm.specs.declared.list.TheConstants.{MOST_NAMES}
use Rattle.pos_farm.specs.declared.offer.Answer.{Answer}
use Rattle.pos_farm.specs.declared.offer.Offer.{Offer}
use Rattle.pos_farm.specs.NameLists.{HasBadLine, IsNameList}
use Rattle.pos_farm.specs.Offers.{IsFirstOf}
use Rattle.pos_farm.specs.PlotAnswers.{AreAnswers, IsTrueOffer, OffersTruly, best_in, bests_from, failures, numbered}
use Rattle.pos_farm.proofs.AskLemmas.{answer_before}
use Rattle.pos_farm.proofs.NameLemmas.{list_or_bad_line, one_bad_line, one_name_list}
use Rattle.pos_app.specs.Answers.{Speaks}
use Rattle.pos_app.specs.FarmAnswers.{HasFirstBadLine, HasNames, IsAnswersText, IsListRefused, NamesNoFalseProof, SaysAnswers, SaysFarm, SaysListFault, TellsList}
use Rattle.pos_app.specs.FarmTexts.{bad_line, farm_text}
use Rattle.pos_app.specs.Statuses.{disk_fault_status, done_status, list_status, name_status}
use Rattle.pos_app.specs.Texts.{absent_line, disk_fault_line}
use Rattle.pos_app.proofs.ListLemmas.{not_there, nothing_more, one_bytes, spoken}

-- ---- the best offer is a true one

abbrev pub IsTrue : List ℕ → ℕ × Offer → Type 0
IsTrue c x = IsTrueOffer c x.1

numbered_truly : (c : List ℕ) (plot : ℕ) (best : Option Offer) → IfSome best (IsTrueOffer c) → All (IsTrue c) (numbered plot best)
numbered_truly c plot None all = All-nil (IsTrue c)
numbered_truly c plot (Some offer) one = All-cons (IsTrue c) (plot, offer) [] one (All-nil (IsTrue c))

bests_truly : (c : List ℕ) (plot : ℕ) (answers : List Answer) → All (OffersTruly c) answers → All (IsTrue c) (bests_from plot answers)
bests_truly c plot [] all = All-nil (IsTrue c)
bests_truly c plot (answer ∷ answers) all =
    All-append (IsTrue c) (numbered plot (best_in answer)) (bests_from (suc plot) answers)
    (numbered_truly c plot (best_in answer) (All-head (OffersTruly c) answer answers all)) (bests_truly c (suc plot) answers (All-tail (OffersTruly c) answer answers all))

pub best_is_true : (c : List ℕ) (answers : List Answer) (best : Option (ℕ × Offer)) → All (OffersTruly c) answers → IsFirstOf (bests_from 0 answers) best
    → IfSome best (IsTrue c)
best_is_true c answers None all first = tt
best_is_true c answers (Some x) all first = All-contains (IsTrue c) (bests_from 0 answers) x (bests_truly c 0 answers all) first.0

-- so its values have their width
pub best_is_small : (c : List ℕ) (best : Option (ℕ × Offer)) → IfSome best (IsTrue c) → IfSome best (λ (x : ℕ × Offer). All (λ v. v < 2 ^ x.1.size) x.1.proof)
best_is_small c None true_one = tt
best_is_small c (Some x) true_one = true_one.small

-- ---- the text, over the disk as the command began

-- the lines of what the names answered
pub answers_said : (names : List (List ℕ)) (c : List ℕ) (before after : View) (text : List ℕ) (answers asked said : List Answer) (best : Option (ℕ × Offer))
    → text ≡ farm_text said best → said ≡ answers → IsFirstOf (bests_from 0 asked) best → asked ≡ answers → AreAnswers names c before answers
    → All (OffersTruly c) answers → RoseBy (failures answers) before.faults after.faults → (failures answers ≡ 0 → SameFaults before after)
    → IsAnswersText names c before after text
answers_said names c before after text answers asked said best is same_said first same_asked right all rose quiet = record {
  answers = answers;
  best = best;
  lines = is ∙ ap (λ a. farm_text a best) same_said;
  right = right;
  true_ones = all;
  first = subst (λ a. IsFirstOf (bests_from 0 a) best) same_asked first;
  rose = rose;
  quiet = quiet;
}

rose_on : (n a b c : ℕ) → b ≡ a → RoseBy n b c → RoseBy n a c
rose_on n a b c same rose = subst (λ m. RoseBy n m c) same rose

answers_before : (names : List (List ℕ)) (c : List ℕ) (before between after : View) (text : List ℕ) → ChangesOnly Nothing Nothing before between → SameFaults before between
    → IsAnswersText names c between after text → IsAnswersText names c before after text
answers_before names c before between after text kept same said = record {
  answers = said.answers;
  best = said.best;
  lines = said.lines;
  right = record {
    as_many = said.right.as_many;
    each = λ i inside. answer_before _ c before between _ kept (said.right.each i inside);
  };
  true_ones = said.true_ones;
  first = said.first;
  rose = rose_on (failures said.answers) before.faults between.faults after.faults same said.rose;
  quiet = λ none. said.quiet none ∙ same;
}

-- the plots of the names were asked
pub names_asked : (list c : List ℕ) (names : List (List ℕ)) (before between after : View) (result : ℕ) (old new : Heard) → ChangesOnly Nothing Nothing before between
    → SameFaults before between → length names ≤ MOST_NAMES → (before.tells ≡ true → (b : List ℕ) × (before.contents list ≡ Some b) × IsNameList b names)
    → SaysAnswers names c between after result old new → SaysFarm list c before after result old new
names_asked list c names before between after result old new kept same few listed (inl shown) =
    inl (inl (record {
      text = shown.text;
      right = record {
        names = names;
        few = few;
        answered = answers_before names c before between after shown.text kept same shown.right;
        told = λ tells. let h = listed tells in record { bytes = h.0; contents = h.1; listed = h.2 };
      };
      said = shown.said;
    }))
names_asked list c names before between after result old new kept same few listed (inr unsaid) = inr unsaid

-- ---- why there is no list

-- by what reading it answers
pub list_refused : (X : Type 0) (list : List ℕ) (before after : View) (fault : ListFault) → CountsFaults {X = X} DiskFailed (Err fault) before after
    → after.reads ≤ before.reads + 256 → (IsErrOf {T = X} (Err fault) Absent → before.contents list ≡ None)
    → ((number : ℕ) → IsErrOf {T = X} (Err fault) (Line number) → before.tells ≡ true → (b : List ℕ) × (before.contents list ≡ Some b) × HasBadLine b number)
    → IsListRefused list before after fault
list_refused X list before after Absent counts reads absent bad = (absent refl, counts.quiet (λ e. cc))
list_refused X list before after DiskFailed counts reads absent bad = (counts.failed refl, reads)
list_refused X list before after (Line number) counts reads absent bad = (
  (λ tells. let h = bad number refl tells in record { bytes = h.0; contents = h.1; bad = h.2 }),
  counts.quiet (λ e. cc),
)
list_refused X list before after Memory counts reads absent bad = tt

pub list_fault_said : (list c : List ℕ) (before after : View) (fault : ListFault) (result : ℕ) (old new : Heard) → IsListRefused list before after fault
    → SaysListFault list fault result old new → SaysFarm list c before after result old new
list_fault_said list c before after Absent result old new is (inl speaks) =
    inl (inr (inr (inl (record { absence = record { said = speaks; absent = is.0 }; quiet = is.1 }))))
list_fault_said list c before after Absent result old new is (inr unsaid) = inr unsaid
list_fault_said list c before after DiskFailed result old new is speaks =
    inl (inr (inr (inr (record { fault = record { said = speaks; cause = is.0 }; reads = is.1 }))))
list_fault_said list c before after (Line number) result old new is (inl speaks) =
    inl (inr (inl (record { number = number; said = speaks; told = is.0; quiet = is.1 })))
list_fault_said list c before after (Line number) result old new is (inr unsaid) = inr unsaid
list_fault_said list c before after Memory result old new is unsaid = inr unsaid

-- ---- what the list decides

-- two lists of one file have the same names, its bad line is one, and it is not both
one_list : (list : List ℕ) (disk : View) (names others : List (List ℕ)) → HasNames list disk names → HasNames list disk others → names ≡ others
one_list list disk names others x y =
    one_name_list x.bytes names others x.listed (subst (λ b. IsNameList b others) (one_bytes y.bytes x.bytes _ y.contents x.contents) y.listed)

one_bad : (list : List ℕ) (disk : View) (n m : ℕ) → HasFirstBadLine list disk n → HasFirstBadLine list disk m → n ≡ m
one_bad list disk n m x y =
    one_bad_line x.bytes n m x.bad (subst (λ b. HasBadLine b m) (one_bytes y.bytes x.bytes _ y.contents x.contents) y.bad)

not_both : (list : List ℕ) (disk : View) (names : List (List ℕ)) (n : ℕ) → HasNames list disk names → HasFirstBadLine list disk n → ⊥
not_both list disk names n x y =
    list_or_bad_line x.bytes names n x.listed (subst (λ b. HasBadLine b n) (one_bytes y.bytes x.bytes _ y.contents x.contents) y.bad)

-- a text with another status is not said where a bad line is
not_named : (status : ℕ) (text : List ℕ) (result : ℕ) (old new : Heard) → (status ≡ list_status → ⊥) → result ≡ list_status → Speaks status text result old new → ⊥
not_named status text result old new other is (inl said) = other (sym said.ends ∙ is)
not_named status text result old new other is (inr cut) = let ends = cut.status in omega arith

-- where the line was written to its end
line_written : (text : List ℕ) (result : ℕ) (old new : Heard) → result ≡ list_status → Speaks list_status text result old new → new.text ≡ followed_by old.text text
line_written text result old new is (inl said) = said.whole
line_written text result old new is (inr cut) = let ends = cut.status in absurd (omega arith)

pub tells_list : (list c : List ℕ) (before after : View) (result : ℕ) (old new : Heard) → before.tells ≡ true → SaysFarm list c before after result old new
    → TellsList list c before after result old new
tells_list list c before after result old new tells (inl (inl shown)) =
    let has = shown.right.told tells in
    record {
      absent = λ none. absurd (not_there has.bytes _ none has.contents);
      bad = λ number bad. absurd (not_both list before shown.right.names number has bad);
      good = λ names lists.
          let same : shown.right.names ≡ names = one_list list before shown.right.names names has lists in
          inl (record {
            text = shown.text;
            right = subst (λ ns. IsAnswersText ns c before after shown.text) same shown.right.answered;
            said = shown.said;
          });
      named = λ is. absurd (not_named done_status shown.text result old new (λ e. omega arith) is shown.said);
    }
tells_list list c before after result old new tells (inl (inr (inl bad))) =
    let has = bad.told tells in
    record {
      absent = λ none. absurd (not_there has.bytes _ none has.contents);
      bad = λ number other. inl (subst (λ n. Speaks list_status (bad_line n) result old new) (one_bad list before bad.number number has other) bad.said);
      good = λ names lists. absurd (not_both list before names bad.number lists has);
      named = λ is. record { number = bad.number; text = line_written (bad_line bad.number) result old new is bad.said; has = has };
    }
tells_list list c before after result old new tells (inl (inr (inr (inl none)))) = record {
  absent = λ is. inl none.absence.said;
  bad = λ number bad. absurd (not_there bad.bytes _ none.absence.absent bad.contents);
  good = λ names lists. absurd (not_there lists.bytes _ none.absence.absent lists.contents);
  named = λ is. absurd (not_named name_status (absent_line list) result old new (λ e. omega arith) is none.absence.said);
}
tells_list list c before after result old new tells (inl (inr (inr (inr failed)))) = record {
  absent = λ is. inr (inl failed.fault);
  bad = λ number bad. inr (inl failed.fault);
  good = λ names lists. inr (inl failed.fault);
  named = λ is. absurd (not_named disk_fault_status disk_fault_line result old new (λ e. omega arith) is failed.fault.said);
}
tells_list list c before after result old new tells (inr unsaid) = record {
  absent = λ is. inr (inr unsaid);
  bad = λ number bad. inr (inr unsaid);
  good = λ names lists. inr (inr unsaid);
  named = λ is. let ends = unsaid.status in absurd (omega arith);
}

-- ---- what was written, over every disk

-- no false proof
pub names_no_false_proof : (list c : List ℕ) (before after : View) (result : ℕ) (old new : Heard) → SaysFarm list c before after result old new → NamesNoFalseProof list c old new
names_no_false_proof list c before after result old new (inl (inl shown)) =
    let told = shown.right.answered in
    inl (
      told.answers,
      told.best,
      best_is_true c told.answers told.best told.true_ones told.first,
      subst (λ text. AppendsPartOf text old.text new.text) told.lines (spoken done_status shown.text result old new shown.said),
    )
names_no_false_proof list c before after result old new (inl (inr (inl bad))) =
    inr (bad_line bad.number, inr (inr (bad.number, refl)), spoken list_status (bad_line bad.number) result old new bad.said)
names_no_false_proof list c before after result old new (inl (inr (inr (inl none)))) =
    inr (absent_line list, inl refl, spoken name_status (absent_line list) result old new none.absence.said)
names_no_false_proof list c before after result old new (inl (inr (inr (inr failed)))) =
    inr (disk_fault_line, inr (inl refl), spoken disk_fault_status disk_fault_line result old new failed.fault.said)
names_no_false_proof list c before after result old new (inr unsaid) =
    inr (disk_fault_line, inr (inl refl), (0, omega arith, unsaid.nothing ∙ sym (nothing_more old.text)))
