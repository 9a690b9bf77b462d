-- More bytes than any size's proof has are no proof.
use Rattle.std.proofs.Common.{◌≢◌, ◌*◌, length, arith}
use Rattle.pos_app.specs.Read.{digits_bytes}
use Rattle.pos_app.proofs.DigitLemmas.{length_digits}
use Rattle.pos_verify.proofs.VerdictLemmas.{no_proof-length}
use Rattle.pos_app.proofs.program.judge.Goals as goal

pub returns-then-count-gt-LONGEST_PROOF-clause-accepts :
    goal.returns-then-count-gt-LONGEST_PROOF-clause-accepts
returns-then-count-gt-LONGEST_PROOF-clause-accepts c =
    let twice = length_digits c.args.judged.now.proof.now c.requires in
    let other : length (digits_bytes c.args.judged.now.proof.now) ≢ 8 * c.args.judged.now.size =
    λ same. omega (arith, twice, same, c.if-count-gt-LONGEST_PROOF.true, c.k.ensures.value, c.k.ensures.at_most)
    in (λ none. absurd none, no_proof-length _ _ _ _ other)
