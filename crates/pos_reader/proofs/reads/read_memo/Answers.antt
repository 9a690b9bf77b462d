-- The memo stands behind the header, inside the file.
use Rattle.std.proofs.Common.{◌∙◌, ap, sym, arith}
use Rattle.pos_layout.specs.Bytes.{part}
use Rattle.pos_layout.proofs.LayoutLemmas.{memo_few}
use Rattle.pos_reader.proofs.EntryLemmas.{memo_inside, no_memo_in}
use Rattle.pos_reader.proofs.reads.read_memo.Goals as goal

pub returns-then-header-eq0-clause-ok : goal.returns-then-header-eq0-clause-ok
returns-then-header-eq0-clause-ok g c = λ name b named holds same.
    no_memo_in c.args.memo.now b (c.requires.length ∙ c.if-header-eq0.true) (sym (ap (λ h. h.memo_length) same) ∙ c.if-header-eq0.true)

pub read-requires-clause-short : goal.read-requires-clause-short
read-requires-clause-short g c =
    let few = c.requires.laid_out.memo in let most = memo_few c.args.header.now.layout in let len = c.requires.length in omega arith

pub read-requires-clause-within : goal.read-requires-clause-within
read-requires-clause-within g c =
    let inside = memo_inside c.args.header.now c.requires.laid_out in let len = c.requires.length in let whole = c.requires.whole in omega arith

pub returns-in-Ok-clause-ok : goal.returns-in-Ok-clause-ok
returns-in-Ok-clause-ok g c = λ name b named holds same.
    c.in-Ok.ensures.ok name b named holds ∙ ap (λ n. part b 176 n) (c.requires.length ∙ ap (λ h. h.memo_length) same)
