-- A table has at most 2^51 numbers, so its directory is short.
use Rattle.std.proofs.Common.{◌≡◌, ◌*◌, ap₂, arith}
use Rattle.pos_layout.specs.Layouts.{entry_bytes, parks_of}
use Rattle.pos_reader.proofs.HeaderLemmas.{entries_small}
use Rattle.pos_reader.proofs.header.directory_length.Goals as goal
use Rattle.pos_reader.proofs.header.directory_length.Goals.{After-parks_of}

length : (c : After-parks_of) → c.entry_bytes.result * c.parks_of.result ≡ entry_bytes c.args.layout * parks_of c.args.layout c.args.count
length c = ap₂ (λ e n. e * n) c.entry_bytes.ensures.value c.parks_of.ensures

pub overflow_mul-result : goal.overflow_mul-result
overflow_mul-result c =
    let few = entries_small c.args.layout c.args.count c.requires in
    let same = length (goal.at.overflow_mul-result c).After-parks_of in
    omega arith

pub returns-clause-length : goal.returns-clause-length
returns-clause-length c = length (goal.at.returns-clause-length c).After-parks_of

pub returns-clause-small : goal.returns-clause-small
returns-clause-small c =
    let few = entries_small c.args.layout c.args.count c.requires in
    let same = length (goal.at.returns-clause-small c).After-parks_of in
    omega arith
