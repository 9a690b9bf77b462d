use Rattle.pos_layout.specs.Drafts.{count_so_far}
use Rattle.pos_plot.proofs.CloseLemmas.{seven_at}
use Rattle.pos_plot.proofs.closing.numbers_in.Goals as goal

pub returns : goal.returns
returns c = seven_at (count_so_far c.args.writer.now) _ _ _ _ _ _ _ c.count.ensures c.count-2.ensures c.count-3.ensures c.count-4.ensures c.count-5.ensures c.count-6.ensures c.count-7.ensures
