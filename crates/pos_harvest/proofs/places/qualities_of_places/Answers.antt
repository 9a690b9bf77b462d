-- One place after another, each a quality or the end.
use Rattle.std.proofs.Common.{◌≡◌, ◌∙◌, ◌+◌, length, List, ℕ, Vec, Global, All, Ok, Err, refl, sym, ap, subst, arith}
use Rattle.std.proofs.lemmas.Result.{err_from_is_err_and}
use Rattle.std.proofs.lemmas.List.Elements.{All-push}
use Rattle.pos_harvest.specs.Places.{quality_in}
use Rattle.pos_harvest.proofs.ListingLemmas.{SoFar, far_more, far_refused, far_stops, far_unsaid}
use Rattle.pos_harvest.specs.declared.refusal.ListRefusal.TheVariants.{Damage as ListFound}
use Rattle.pos_harvest.proofs.SourceLemmas.{err_is}
use Rattle.pos_harvest.proofs.places.qualities_of_places.Goals as goal
use Rattle.pos_layout.specs.Fields.{layout_in}

pub returns-in-Err-clause-listing : goal.returns-in-Err-clause-listing
returns-in-Err-clause-listing g c =
    far_refused g.N.Numbers.source 14 (λ b i quality. quality_in (layout_in b) b c.args.challenge.now.0 i ≡ Ok quality) c.args.first _ _ c.loop-place.place c.args.second _ _ _ _ _ c.in-Err.refusal c.listed.result (Err c.listed.result)
    (omega arith) (omega arith) c.loop-place.invariant.far c.in-Err.ensures.reading refl c.listed.ensures.failed

pub returns-in-Err-clause-damage : goal.returns-in-Err-clause-damage
returns-in-Err-clause-damage g c = λ d is b holds.
    far_stops g.N.Numbers.source 14 (λ b i quality. quality_in (layout_in b) b c.args.challenge.now.0 i ≡ Ok quality) c.args.first _ _ c.loop-place.place c.args.second _ _ _ b
    (λ i. quality_in (layout_in b) b c.args.challenge.now.0 i ≡ Err d) (omega arith) (omega arith) c.loop-place.invariant.far holds
    (c.in-Err.ensures.quality b (c.loop-place.invariant.far.left.stays b holds) d ((c.listed.ensures.named d).0 (err_is {X = Vec (List ℕ) Global} c.listed.result (ListFound d) is)))

pub returns-in_err-push-clause-listing : goal.returns-in_err-push-clause-listing
returns-in_err-push-clause-listing g c =
    let p = err_from_is_err_and c.from_residual.result c.from_residual.ensures.1 in
    far_unsaid g.N.Numbers.source 14 (λ b i quality. quality_in (layout_in b) b c.args.challenge.now.0 i ≡ Ok quality) c.args.first _ _ c.loop-place.place c.args.second _ _ _ _ _ c.in-Ok.quality c.from_residual.result
    (omega arith) (omega arith) c.loop-place.invariant.far c.in-Ok.ensures.reading (p.1 ∙ ap (λ e. Err e) p.2)

pub loop-place-preserved : goal.loop-place-preserved
loop-place-preserved g c =
    record {
      far = subst (λ (out : List (List ℕ)). SoFar g.N.Numbers.source 14 (λ b i quality. quality_in (layout_in b) b c.args.challenge.now.0 i ≡ Ok quality) c.args.first (c.loop-place.place + 1) c.args.source.now (g.D.Disk.view c.args.disk.now) c.quality_of_place.new.source (g.D.Disk.view c.quality_of_place.new.disk) out)
          (sym c.in_ok-push.ensures.items)
          (far_more g.N.Numbers.source 14 (λ b i quality. quality_in (layout_in b) b c.args.challenge.now.0 i ≡ Ok quality) c.args.first _ _ c.loop-place.place _ _ _ _ _ c.in-Ok.quality (omega arith) c.loop-place.invariant.far
          c.in-Ok.ensures.reading c.in-Ok.ensures.quality);
      len = subst (λ (out : List (List ℕ)). All (λ quality. length quality ≡ 32) out) (sym c.in_ok-push.ensures.items)
          (All-push (λ quality. length quality ≡ 32) c.loop-place.qualities.items c.in-Ok.quality c.loop-place.invariant.len c.in-Ok.ensures.len);
    }
