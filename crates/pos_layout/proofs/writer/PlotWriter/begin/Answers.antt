use Rattle.std.proofs.Common.{refl, rules, arith}
use Rattle.pos_layout.proofs.LayoutLemmas.{memo_few}
use Rattle.pos_layout.proofs.WriterLemmas.{begun_stands}
use Rattle.pos_layout.proofs.writer.PlotWriter.begin.Goals as goal

pub begin_shut-requires-clause-memo : goal.begin_shut-requires-clause-memo
begin_shut-requires-clause-memo g c = let few = c.requires.memo in let most = memo_few c.args.layout in omega arith

pub overflow_cast-result : goal.overflow_cast-result
overflow_cast-result g c = let few = c.requires.memo in let most = memo_few c.args.layout in omega arith

pub returns-clause-ok : goal.returns-clause-ok
returns-clause-ok g c =
    begun_stands _ c.args.layout c.args.memo.now c.args.id.now.0 c.args.size (g.D.Disk.view c.begin_shut.new.disk) (record { few = c.requires.memo; bytes = c.are_bytes.ensures }) c.are_id_bytes.ensures.len c.are_id_bytes.ensures.bytes (search rules) (search rules)
    refl refl refl refl refl refl refl c.new.ensures.items c.new-2.ensures.items refl c.in_ok-begin_shut.ensures.ok
