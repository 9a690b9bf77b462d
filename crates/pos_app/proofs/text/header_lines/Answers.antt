use Rattle.std.proofs.Common.{arith, ◌++◌}
use Rattle.pos_app.specs.Texts.{id_line, size_line}
use Rattle.pos_app.proofs.TextLemmas.{tables-push}
use Rattle.pos_app.proofs.text.header_lines.Goals as goal

pub loop-i-preserved : goal.loop-i-preserved
loop-i-preserved c =
    tables-push (id_line c.args.id.now.0 ++ size_line c.args.k) _ _ c.loop-i.i c.args.counts.now (omega arith) c.loop-i.invariant c.in_ok-push_table.ensures
