use Rattle.std.proofs.Common.{map, arith}
use Rattle.std.proofs.lemmas.List.{length-map}
use Rattle.pos_relocate.proofs.EntryLemmas.{moved_next, shuffled_few, shuffled_inside}
use Rattle.pos_relocate.proofs.numbering.short_places_of.Goals as goal

pub loop-place-preserved : goal.loop-place-preserved
loop-place-preserved g c = moved_next g.P.Pointed.pair c.args.records.now c.args.count c.loop-place.place c.old.result c.index-records-place.result c.loop-place.places.items
    c.requires.shuffled c.loop-place-test.true c.index-records-place.is c.old.ensures c.loop-place.invariant

pub index_mut-requires : goal.index_mut-requires
index_mut-requires g c =
    let inside = shuffled_inside g.P.Pointed.pair c.args.records.now c.args.count c.loop-place.place c.old.result c.index-records-place.result c.requires.shuffled c.loop-place-test.true c.index-records-place.is c.old.ensures in
    let long = c.loop-place.invariant.as_long in
    let len = c.loop-place.places.ok.0 in
    omega arith

-- there are no more entries than places
pub overflow_cast-place : goal.overflow_cast-place
overflow_cast-place g c =
    let few = shuffled_few c.args.count (map g.P.Pointed.pair c.args.records.now) c.requires.shuffled in
    let len = length-map c.args.records.now g.P.Pointed.pair in
    let inside = c.loop-place-test.true in
    let short = c.requires.short in
    omega arith
