-- Each place that was read has its quality.
use Rattle.std.proofs.Common.{◌≡◌, All, Ok, length}
use Rattle.pos_harvest.specs.Places.{quality_in}
use Rattle.pos_harvest.proofs.ListingLemmas.{SoFar}
use Rattle.pos_harvest.proofs.places.qualities_of_places.Given as goal
use Rattle.pos_layout.specs.Fields.{layout_in}

abbrev pub invariant-loop-place : goal.invariant-loop-place
invariant-loop-place g l = record {
  far : SoFar g.N.Numbers.source 14 (λ b i quality. quality_in (layout_in b) b l.challenge.0 i ≡ Ok quality) l.first l.place l.initial.source (g.D.Disk.view l.initial.disk) l.source (g.D.Disk.view l.disk) l.qualities.items;
  len : All (λ quality. length quality ≡ 32) l.qualities.items;
}
