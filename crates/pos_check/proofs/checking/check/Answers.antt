-- One challenge after another, each checked or the end.
use Rattle.std.proofs.Common.{◌≡◌, ◌∙◌, ◌+◌, ◌*◌, Err, Ok, refl, sym, ap, subst, arith}
use Rattle.std.proofs.lemmas.Result.{err_from_is_err_and}
use Rattle.pos_layout.specs.Fields.{count_of, layout_in}
use Rattle.pos_harvest.specs.Listings.{IsProofListDamage}
use Rattle.pos_reader.specs.Readings.{IsReading}
use Rattle.pos_check.specs.Steps.{HoldsSummary, TakesChallenge}
use Rattle.pos_reader.proofs.AnswerLemmas.{handed_on}
use Rattle.pos_reader.proofs.ReadingLemmas.{read_more}
use Rattle.pos_check.proofs.StepLemmas.{asked_is, few_more, reads_more, summary_done, summary_more, summary_stops}
use Rattle.pos_check.proofs.checking.check.Goals as goal

pub returns-in_err-count-clause-damage : goal.returns-in_err-count-clause-damage
returns-in_err-count-clause-damage g c = λ d is b holds.
    let p = err_from_is_err_and c.from_residual.result c.from_residual.ensures.1 in
    let same = handed_on c.in_err-count.field-0.0 d c.from_residual.result (p.1 ∙ ap (λ e. Err e) p.2) is in
    let asked = asked_is b c.check_challenge-challenge.result.0 c.id-id.result.0 c.args.plot.now.header.id.0 c.loop-i.i c.check_challenge-challenge.ensures
    (ap (λ id. id.0) c.id-id.ensures) (ap (λ h. h.id.0) holds.header) in
    summary_stops b c.loop-i.i c.args.n c.loop-i.proofs c.loop-i.hasher d (omega arith) (c.loop-i.invariant.taken b holds)
    (subst (λ challenge. IsProofListDamage (layout_in b) b challenge d) asked
    (c.in_err-count.ensures.damage d (ap (λ e. Err e) same) b (c.loop-i.invariant.far.left.stays_file b holds)))

pub loop-i-preserved : goal.loop-i-preserved
loop-i-preserved g c =
    let kept = c.loop-i.invariant.far.left.same in
    let step = subst (λ p. IsReading (100 + 128 * count_of p.header 7) (Ok c.in_ok-count.count) c.loop-i.plot c.add_challenge.new.plot (g.D.Disk.view c.loop-i.disk) (g.D.Disk.view c.add_challenge.new.disk)) kept
    c.in_ok-count.ensures.reading in
    record {
      far = read_more (100 + 128 * count_of c.args.plot.now.header 7) 0 c.loop-i.i c.in_ok-count.count 0 _ _ _ _ _ _ (omega arith) c.loop-i.invariant.far step;
      reads = reads_more _ _ _ c.loop-i.i c.loop-i.proofs c.in_ok-count.count c.from-proofs.result c.loop-i.invariant.reads c.in_ok-count.ensures.reads c.from-proofs.ensures;
      few = few_more c.loop-i.i c.loop-i.proofs c.in_ok-count.count c.from-proofs.result c.loop-i.invariant.few c.in_ok-count.ensures.small c.from-proofs.ensures;
      taken = λ b holds.
          let asked = asked_is b c.check_challenge-challenge.result.0 c.id-id.result.0 c.args.plot.now.header.id.0 c.loop-i.i c.check_challenge-challenge.ensures
          (ap (λ id. id.0) c.id-id.ensures) (ap (λ h. h.id.0) holds.header) in
          let taken = c.in_ok-count.ensures.checked b (c.loop-i.invariant.far.left.stays_file b holds) in
          subst (λ count. HoldsSummary (layout_in b) b (c.loop-i.i + 1) (c.loop-i.proofs + count) c.add_challenge.new.hasher) (sym c.from-proofs.ensures)
          (summary_more b c.loop-i.i c.loop-i.proofs c.in_ok-count.count c.loop-i.hasher c.add_challenge.new.hasher (c.loop-i.invariant.taken b holds)
          (subst (λ challenge. TakesChallenge (layout_in b) b challenge c.in_ok-count.count c.loop-i.hasher c.add_challenge.new.hasher) asked taken));
    }

pub returns-clause-summary : goal.returns-clause-summary
returns-clause-summary g c = λ b holds.
    let end : c.loop-i.i ≡ c.args.n = omega arith in
    summary_done b c.args.n c.loop-i.proofs c.loop-i.hasher _
    (subst (λ i. HoldsSummary (layout_in b) b i c.loop-i.proofs c.loop-i.hasher) end (c.loop-i.invariant.taken b holds)) refl refl c.finalize.ensures
