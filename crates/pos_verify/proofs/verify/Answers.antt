use Rattle.std.proofs.Common.{◌/◌, sym, ap, ◌∙◌, arith, Some}
use Rattle.pos_tuple.specs.Proof.{Proof}
use Rattle.pos_verify.proofs.VerdictLemmas.{f7-node, no_proof-length, no_proof-failing, no_proof-challenge}
use Rattle.pos_verify.proofs.verify.Goals as goal

pub returns-then-found-want-clause-accepts : goal.returns-then-found-want-clause-accepts
returns-then-found-want-clause-accepts c = (
  λ h. absurd h,
  no_proof-length c.args.id.now.0 c.args.size c.args.challenge.now.0 c.args.proof.now (λ e. c.if-found-want.true (omega arith)),
)

pub returns-then-found-want-2-clause-right : goal.returns-then-found-want-2-clause-right
returns-then-found-want-2-clause-right c = (
  c.proof_values-values.result,
  c.proof_values-values.ensures,
  f7-node c.args.id.now.0 c.args.size c.proof_values-values.result c.in-Ok.root c.in-Ok.ensures.ok,
  c.challenge_value-want.ensures.value,
  c.if-found-want-2.true,
)

pub returns-then-found-want-2-clause-accepts : goal.returns-then-found-want-2-clause-accepts
returns-then-found-want-2-clause-accepts c = (
  λ h. absurd h,
  no_proof-challenge c.args.id.now.0 c.args.size c.args.challenge.now.0 c.args.proof.now c.proof_values-values.result
      (c.in-Ok.root.y / 64) c.proof_values-values.ensures
      (f7-node c.args.id.now.0 c.args.size c.proof_values-values.result c.in-Ok.root c.in-Ok.ensures.ok)
      (λ e. c.if-found-want-2.true (e ∙ sym c.challenge_value-want.ensures.value)),
)

pub returns-in-Err-clause-accepts : goal.returns-in-Err-clause-accepts
returns-in-Err-clause-accepts c = (
  λ h. absurd h,
  no_proof-failing c.args.id.now.0 c.args.size c.args.challenge.now.0 c.args.proof.now c.proof_values-values.result
      c.in-Err.field-0.level c.in-Err.field-0.pair c.proof_values-values.ensures c.in-Err.ensures.err,
)

accepted :
    (c : goal.After-quality) → Proof c.args.id.now.0 c.args.size c.args.challenge.now.0 c.proof_values-values.result
accepted c = record {
  values = c.proof_values-values.ensures.count;
  answers = (
      f7-node c.args.id.now.0 c.args.size c.proof_values-values.result c.in-Ok.root c.in-Ok.ensures.ok
      ∙ ap Some (c.if-found-want-2.false ∙ c.challenge_value-want.ensures.value)
      );
}

pub returns-else-found-want-2-clause-right : goal.returns-else-found-want-2-clause-right
returns-else-found-want-2-clause-right c = (
  c.proof_values-values.result,
  c.proof_values-values.ensures,
  accepted c,
  c.quality.ensures.value,
)

pub returns-else-found-want-2-clause-accepts : goal.returns-else-found-want-2-clause-accepts
returns-else-found-want-2-clause-accepts c = (
  λ _. (c.proof_values-values.result, c.proof_values-values.ensures, accepted c),
  λ _. tt,
)
