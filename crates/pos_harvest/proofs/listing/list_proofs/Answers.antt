-- The span, and then its places.
use Rattle.std.proofs.Common.{◌+◌, ◌-◌, ◌*◌, ℕ, List, inr, Vec, Global}
use Rattle.pos_layout.specs.Fields.{count_of, layout_in}
use Rattle.pos_reader.specs.Plots.{IsPlotFile}
use Rattle.pos_harvest.specs.Listings.{AreProofsOf, ListsProofs}
use Rattle.pos_harvest.proofs.CallLemmas.{if_ok}
use Rattle.pos_harvest.proofs.ListingLemmas.{span_fits}
use Rattle.pos_harvest.proofs.SourceLemmas.{listing_after}
use Rattle.pos_harvest.proofs.listing.list_proofs.Goals as goal

pub returns-clause-listing : goal.returns-clause-listing
returns-clause-listing g c =
    listing_after 100 (128 * (c.in_ok-first.second - c.in_ok-first.first)) (100 + 128 * count_of c.args.plot.now.header 7) (c.in_ok-first.first, c.in_ok-first.second) c.proofs_of_places.result _ _ _ _ _ _
    (span_fits 128 c.in_ok-first.first c.in_ok-first.second (count_of c.args.plot.now.header 7) c.in_ok-first.ensures.inside) c.in_ok-first.ensures.reading c.proofs_of_places.ensures.listing

pub returns-clause-listed : goal.returns-clause-listed
returns-clause-listed g c =
    if_ok c.proofs_of_places.result
    (λ (out : Vec (List ℕ) Global). (b : List ℕ) → IsPlotFile c.find.new.plot b (g.D.Disk.view c.find.new.disk) → AreProofsOf (layout_in b) b c.args.challenge.now.0 c.in_ok-first.first c.in_ok-first.second out.items)
    (λ (out : Vec (List ℕ) Global). (b : List ℕ) → IsPlotFile c.args.plot.now b (g.D.Disk.view c.args.disk.now) → ListsProofs (layout_in b) b c.args.challenge.now.0 out.items)
    (λ out listed b holds. record {
      first = c.in_ok-first.first;
      second = c.in_ok-first.second;
      span = c.in_ok-first.ensures.span b holds;
      proofs = listed b (c.in_ok-first.ensures.reading.left.stays_file b holds);
    })
    c.proofs_of_places.ensures.listed

pub returns-clause-damage : goal.returns-clause-damage
returns-clause-damage g c = λ d is b holds.
    inr (record {
      first = c.in_ok-first.first;
      second = c.in_ok-first.second;
      span = c.in_ok-first.ensures.span b holds;
      stops = c.proofs_of_places.ensures.damage d is b (c.in_ok-first.ensures.reading.left.stays_file b holds);
    })
