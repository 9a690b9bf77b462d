use Rattle.pos_relocate.proofs.EntryLemmas.{moved_next, shuffled_inside}
use Rattle.std.proofs.Common.{arith}
use Rattle.pos_relocate.proofs.numbering.places_of.Goals as goal

pub loop-place-preserved : goal.loop-place-preserved
loop-place-preserved g c = moved_next g.P.Pointed.pair c.args.records.now c.args.count c.loop-place.place c.old.result c.index-records-place.result c.loop-place.places.items
    c.requires c.loop-place-test.true c.index-records-place.is c.old.ensures c.loop-place.invariant

pub index_mut-requires : goal.index_mut-requires
index_mut-requires g c =
    let inside = shuffled_inside g.P.Pointed.pair c.args.records.now c.args.count c.loop-place.place c.old.result c.index-records-place.result c.requires c.loop-place-test.true c.index-records-place.is c.old.ensures in
    let long = c.loop-place.invariant.as_long in
    let len = c.loop-place.places.ok.0 in
    omega arith
