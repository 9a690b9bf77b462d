-- Where a table ends by its column.
use Rattle.std.proofs.Common.{◌≡◌, ◌+◌, sym, ◌∙◌, ap, arith}
use Rattle.pos_layout.specs.Fields.{column_of, directory_of, end_of}
use Rattle.pos_reader.proofs.HeaderLemmas.{end_of-at, count_small}
use Rattle.pos_reader.proofs.header.end_of.Goals as goal
use Rattle.pos_reader.proofs.header.end_of.Goals.{After-directory_length}

stop : (c : After-directory_length) → directory_of c.args.header.now c.args.t + c.directory_length.result ≡ end_of c.args.header.now.layout c.args.header.now c.args.t
unfolding column_of
stop c = ap (λ n. directory_of c.args.header.now c.args.t + n) c.directory_length.ensures.length ∙ sym (end_of-at c.args.header.now c.args.t (omega arith))

pub returns-then-t-eq0 : goal.returns-then-t-eq0
returns-then-t-eq0 c = c.tables_start.ensures ∙ ap (λ t. end_of c.args.header.now.layout c.args.header.now t) (sym c.if-t-eq0.true)

pub directory_length-requires : goal.directory_length-requires
unfolding column_of
directory_length-requires c = count_small c.args.header.now c.args.t c.requires.counts (omega arith) c.requires.last

pub overflow_add-result : goal.overflow_add-result
unfolding column_of
overflow_add-result c =
    let e = stop (goal.at.overflow_add-result c).After-directory_length in let fits = c.requires.fits in omega arith

pub returns : goal.returns
unfolding column_of
returns c = stop (goal.at.returns c).After-directory_length
