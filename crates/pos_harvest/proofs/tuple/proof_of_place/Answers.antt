-- The values of the place, turned.
use Rattle.std.proofs.Common.{◌≡◌, ◌∙◌, Err, sym, ap, subst, inl, inr, arith}
use Rattle.std.proofs.lemmas.Result.{err_from_is_err_and}
use Rattle.pos_tuple.specs.Proof.{Proof}
use Rattle.pos_layout.specs.declared.damage.Damage.TheVariants.{NotAProof}
use Rattle.pos_layout.specs.Fields.{layout_in}
use Rattle.pos_harvest.specs.Places.{IsNoProof}
use Rattle.pos_harvest.proofs.SourceLemmas.{named_damage, source_damaged, source_done, refusal_fails}
use Rattle.pos_harvest.proofs.tuple.proof_of_place.Goals as goal

pub returns-in_err-values-clause-answer : goal.returns-in_err-values-clause-answer
returns-in_err-values-clause-answer g c = λ b holds.
    let p = err_from_is_err_and c.from_residual.result c.from_residual.ensures.1 in
    refusal_fails g.N.Numbers.source (layout_in b) b c.args.challenge.now.0 c.args.place c.from_residual.result c.in_err-values.field-0.0 (p.1 ∙ ap (λ e. Err e) p.2)
    (λ d found. inl (c.in_err-values.ensures.values b holds d found))

pub returns-then-is_turned-clause-reading : goal.returns-then-is_turned-clause-reading
returns-then-is_turned-clause-reading g c =
    source_done g.N.Numbers.source 128 128 c.in_ok-values.values c.is_turned.new.values _ _ _ _ (omega arith) c.in_ok-values.ensures.reading

pub returns-then-is_turned-clause-answer : goal.returns-then-is_turned-clause-answer
returns-then-is_turned-clause-answer g c = λ b holds.
    record {
      values = c.in_ok-values.values;
      read = c.in_ok-values.ensures.values b holds;
      turned = c.is_turned.ensures.turned c.if-is_turned.true;
      proof = subst (λ h. Proof h.id.0 h.size c.args.challenge.now.0 c.is_turned.new.values)
          (ap (λ p. p.header) (c.plot.ensures ∙ c.in_ok-values.ensures.reading.left.same) ∙ (g.N.Numbers.source.is_file _ b _ holds).header)
          (c.is_turned.ensures.proof c.if-is_turned.true);
    }

pub returns-else-is_turned-clause-reading : goal.returns-else-is_turned-clause-reading
returns-else-is_turned-clause-reading g c =
    source_damaged g.N.Numbers.source 128 128 c.in_ok-values.values c.damaged.result _ _ _ _ (omega arith) c.damaged.ensures.other c.in_ok-values.ensures.reading

pub returns-else-is_turned-clause-answer : goal.returns-else-is_turned-clause-answer
returns-else-is_turned-clause-answer g c = λ b holds d found.
    let same : NotAProof c.args.place ≡ d = named_damage _ _ (sym c.damaged.ensures.named ∙ found) in
    inr (
      sym same,
      record {
        values = c.in_ok-values.values;
        read = c.in_ok-values.ensures.values b holds;
        never = subst (λ h. IsNoProof h.id.0 h.size c.args.challenge.now.0 c.in_ok-values.values)
            (ap (λ p. p.header) (c.plot.ensures ∙ c.in_ok-values.ensures.reading.left.same) ∙ (g.N.Numbers.source.is_file _ b _ holds).header)
            (c.is_turned.ensures.none c.if-is_turned.false);
      },
    )
