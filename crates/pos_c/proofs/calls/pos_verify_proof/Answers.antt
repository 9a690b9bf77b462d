use Rattle.std.proofs.Common.{refl, sym, subst, arith}
use Rattle.pos_c.specs.Answers.{FitsCall, IsAnswer}
use Rattle.pos_c.proofs.AnswerLemmas.{answer-verdict}
use Rattle.pos_c.proofs.calls.pos_verify_proof.Goals as goal

-- the number of the verdict is the right answer
answers :
    (c : goal.After-number_of)
    → IsAnswer (FitsCall c.args.id.now c.args.size c.args.challenge.now c.args.quality.now) c.args.id.now c.args.size
    c.args.challenge.now c.args.proof.now c.number_of.result
answers c =
    subst
    (IsAnswer (FitsCall c.args.id.now c.args.size c.args.challenge.now c.args.quality.now) c.args.id.now c.args.size
    c.args.challenge.now c.args.proof.now)
    (sym c.number_of.ensures)
    (answer-verdict (FitsCall c.args.id.now c.args.size c.args.challenge.now c.args.quality.now) c.args.id.now c.args.size
    c.args.challenge.now c.args.proof.now c.in-Some.verdict
    (record { arguments = c.in-Some.ensures.found.0 refl; room_bytes = omega (arith, c.if-quality-ne32.false) })
    c.in-Some.ensures.right)

pub returns-clause-accepted : goal.returns-clause-accepted
returns-clause-accepted c = (answers c).accepted

pub returns-clause-wrong_length : goal.returns-clause-wrong_length
returns-clause-wrong_length c = (answers c).wrong_length

pub returns-clause-no_match : goal.returns-clause-no_match
returns-clause-no_match c = (answers c).no_match

pub returns-clause-wrong_challenge : goal.returns-clause-wrong_challenge
returns-clause-wrong_challenge c = (answers c).wrong_challenge
