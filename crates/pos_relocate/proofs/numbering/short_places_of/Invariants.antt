use Rattle.std.proofs.Common.{map}
use Rattle.pos_relocate.proofs.EntryLemmas.{MovedSoFar}
use Rattle.pos_relocate.proofs.numbering.short_places_of.Given as goal

abbrev pub invariant-loop-place : goal.invariant-loop-place
invariant-loop-place g l = MovedSoFar (map g.P.Pointed.pair l.records) l.count l.place l.places.items
