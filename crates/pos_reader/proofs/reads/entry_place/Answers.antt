-- The entry lies inside the file.
use Rattle.std.proofs.Common.{◌≡◌, ◌+◌, ◌*◌, ap, arith}
use Rattle.pos_layout.specs.Layouts.{entry_bytes}
use Rattle.pos_layout.specs.Fields.{column_of, directory_of}
use Rattle.pos_reader.proofs.EntryLemmas.{entry_inside}
use Rattle.pos_reader.proofs.reads.entry_place.Goals as goal
use Rattle.pos_reader.proofs.reads.entry_place.Goals.{After-entry_bytes}

passed : (c : After-entry_bytes) → c.entry_bytes.result * c.args.park ≡ entry_bytes c.args.header.now.layout * c.args.park
passed c = ap (λ n. n * c.args.park) c.entry_bytes.ensures.value

pub overflow_mul-result : goal.overflow_mul-result
unfolding column_of
overflow_mul-result c =
    let inside = entry_inside c.args.header.now c.args.t c.args.park c.requires.laid_out c.requires.park in
    let before = passed c in
    omega arith

pub overflow_add-result : goal.overflow_add-result
unfolding column_of
overflow_add-result c =
    let inside = entry_inside c.args.header.now c.args.t c.args.park c.requires.laid_out c.requires.park in
    let before = passed (goal.at.overflow_add-result c).After-entry_bytes in
    omega arith

pub returns-clause-place : goal.returns-clause-place
unfolding column_of
returns-clause-place c = ap (λ n. directory_of c.args.header.now c.args.t + n) (passed (goal.at.returns-clause-place c).After-entry_bytes)

pub returns-clause-within : goal.returns-clause-within
unfolding column_of
returns-clause-within c =
    let inside = entry_inside c.args.header.now c.args.t c.args.park c.requires.laid_out c.requires.park in
    let before = passed (goal.at.returns-clause-within c).After-entry_bytes in
    omega arith
