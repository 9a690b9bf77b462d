-- One word after another.
use Rattle.std.proofs.Common.{rules, ◌≡◌, length}
use Rattle.std.specs.Prelude.{string_bytes, Some, None}
use Rattle.pos_app.specs.Words.{size_word, number_word, challenges_word, output_words}
use Rattle.pos_app.proofs.SurveyWords.{five_words, no_challenges, no_names, no_number, not_five}
use Rattle.pos_app.proofs.command.read_survey.Goals as goal

pub returns-then-words-ne5 : goal.returns-then-words-ne5
returns-then-words-ne5 c = not_five c.args.words.now c.if-words-ne5.true

pub returns-in_default-read_number : goal.returns-in_default-read_number
returns-in_default-read_number c =
    let five : length c.args.words.now ≡ 5 = c.if-words-ne5.false in
    let none : number_word (string_bytes c.index-words-1.result) ≡ None = search rules in
    no_number c.args.words.now c.index-words-1.result five c.index-words-1.is none

pub returns-in_default-read_challenges : goal.returns-in_default-read_challenges
returns-in_default-read_challenges c =
    let five : length c.args.words.now ≡ 5 = c.if-words-ne5.false in
    let none : challenges_word (string_bytes c.index-words-2.result) ≡ None = search rules in
    no_challenges c.args.words.now c.index-words-2.result five c.index-words-2.is none

pub returns-in_default-read_names : goal.returns-in_default-read_names
returns-in_default-read_names c =
    let five : length c.args.words.now ≡ 5 = c.if-words-ne5.false in
    let none : output_words (string_bytes c.index-words-3.result) (string_bytes c.index-words-4.result) ≡ None = search rules in
    no_names c.args.words.now c.index-words-3.result c.index-words-4.result five c.index-words-3.is c.index-words-4.is none

pub returns : goal.returns
returns c =
    let five : length c.args.words.now ≡ 5 = c.if-words-ne5.false in
    let k : size_word (string_bytes c.index-words-0.result) ≡ Some c.in-Some.size = search rules in
    let number : number_word (string_bytes c.index-words-1.result) ≡ Some c.in-Some-read_number.number = search rules in
    let n : challenges_word (string_bytes c.index-words-2.result) ≡ Some c.in-Some-read_challenges.challenges = search rules in
    let names : output_words (string_bytes c.index-words-3.result) (string_bytes c.index-words-4.result) ≡ Some (c.in-Some-read_names.names.file.now, c.in-Some-read_names.names.base.now) = search rules in (
      record { few = c.in-Some-read_challenges.ensures.few; apart = c.in-Some-read_names.ensures.apart },
      five_words c.args.words.now c.index-words-0.result c.index-words-1.result c.index-words-2.result c.index-words-3.result c.index-words-4.result
          c.in-Some.size c.in-Some-read_number.number c.in-Some-read_challenges.challenges c.in-Some-read_names.names.file.now c.in-Some-read_names.names.base.now five
          c.index-words-0.is c.index-words-1.is c.index-words-2.is c.index-words-3.is c.index-words-4.is k number n names,
    )
