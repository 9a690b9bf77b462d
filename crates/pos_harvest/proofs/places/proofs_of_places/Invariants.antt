-- Each place that was read shows a proof, and all that are listed are proofs.
use Rattle.std.proofs.Common.{◌<◌, ◌^◌, All}
use Rattle.pos_tuple.specs.Proof.{Proof}
use Rattle.pos_harvest.specs.Places.{ShowsProof}
use Rattle.pos_harvest.proofs.ListingLemmas.{SoFar}
use Rattle.pos_harvest.proofs.places.proofs_of_places.Given as goal
use Rattle.pos_layout.specs.Fields.{layout_in}

abbrev pub invariant-loop-place : goal.invariant-loop-place
invariant-loop-place g l = record {
  far : SoFar g.N.Numbers.source 128 (λ b i xs. ShowsProof (layout_in b) b l.challenge.0 i xs) l.first l.place l.initial.source (g.D.Disk.view l.initial.disk) l.source (g.D.Disk.view l.disk) l.proofs.items;
  proofs : All (λ xs. Proof (g.N.Numbers.source.plot l.initial.source).header.id.0 (g.N.Numbers.source.plot l.initial.source).header.size l.challenge.0 xs) l.proofs.items;
  small : All (λ xs. All (λ x. x < 2 ^ (g.N.Numbers.source.plot l.initial.source).header.size) xs) l.proofs.items;
}
