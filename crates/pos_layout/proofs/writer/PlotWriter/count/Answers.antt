use Rattle.std.proofs.Common.{refl, arith}
use Rattle.pos_layout.proofs.WriterLemmas.{count-ended, count-open, count-later}
use Rattle.pos_layout.proofs.writer.PlotWriter.count.Goals as goal

pub returns-then-table-self : goal.returns-then-table-self
returns-then-table-self c = rw (← c.self.view_is) (count-ended _ c.self.inside.columns c.self.inside.ended c.args.t refl (omega arith) (omega arith))

pub returns-then-table-self-2 : goal.returns-then-table-self-2
returns-then-table-self-2 c = rw (← c.self.view_is) (count-open _ c.self.inside.columns c.self.inside.ended c.args.t refl (omega arith) (omega arith))

pub returns-else-table-self-2 : goal.returns-else-table-self-2
returns-else-table-self-2 c = rw (← c.self.view_is) (count-later _ c.self.inside.columns c.self.inside.ended c.args.t refl (omega arith) (omega arith))
