-- A place that shows its values shows no damage on its branch, and the branch ends at a pair of them.
use Rattle.std.proofs.Common.{◌≡◌, ◌∙◌, Ok, Err, sym, ap, inl}
use Rattle.std.proofs.lemmas.Result.{err_from_is_err_and}
use Rattle.pos_order.specs.Quality.{pair_quality, quality_index}
use Rattle.pos_laws.specs.Listing.{pair_in}
use Rattle.pos_layout.specs.Fields.{header_in, layout_in}
use Rattle.pos_reader.proofs.AnswerLemmas.{damage_of}
use Rattle.pos_harvest.specs.Places.{tuple_at}
use Rattle.pos_reader.proofs.AnswerLemmas.{handed_on}
use Rattle.pos_check.proofs.BranchLemmas.{quality_of_tuple}
use Rattle.pos_check.proofs.place.proved_quality.Goals as goal

pub returns-in_err-values-clause-damage : goal.returns-in_err-values-clause-damage
returns-in_err-values-clause-damage g c = λ d is b holds.
    let p = err_from_is_err_and c.from_residual.result c.from_residual.ensures.1 in
    let same = handed_on c.in_err-values.field-0.0 d c.from_residual.result (p.1 ∙ ap (λ e. Err e) p.2) is in
    inl (damage_of c.in_err-values.field-0.0 d (tuple_at (layout_in b) b c.args.place) same (c.in_err-values.ensures.values b holds))

pub returns-then-is_turned-clause-quality : goal.returns-then-is_turned-clause-quality
returns-then-is_turned-clause-quality g c = λ b holds.
    let challenge = c.args.challenge.now.0 in
    let pair = pair_in (quality_index challenge) c.in_ok-values.values in
    let size : c.size.result ≡ (header_in b).size =
    c.size.ensures.size ∙ ap (λ p. p.header.size) c.in_ok-values.ensures.reading.left.same ∙ ap (λ h. h.size) holds.header in
    quality_of_tuple b challenge c.args.place c.in_ok-values.values (c.in_ok-values.ensures.values b holds)
    ∙ ap (λ q. Ok q) (sym (c.branch_quality-quality.ensures ∙ ap (λ k. pair_quality k challenge pair.0 pair.1) size))
