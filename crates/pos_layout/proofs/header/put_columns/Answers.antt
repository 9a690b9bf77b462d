use Rattle.std.proofs.Common.{refl, take, arith}
use Rattle.pos_layout.proofs.CodecLemmas.{columns_more, columns_none, columns_all}
use Rattle.pos_layout.proofs.header.put_columns.Goals as goal

pub loop-i-init : goal.loop-i-init
loop-i-init c = columns_none c.args.columns.now (take 56 c.args.bytes.now)

pub loop-i-preserved : goal.loop-i-preserved
loop-i-preserved c = columns_more c.loop-i.i _ c.args.columns.now _ (take 56 c.args.bytes.now) c.loop-i.bytes c.put_column.new.bytes (omega arith) refl c.put_column.ensures c.loop-i.invariant

pub returns : goal.returns
returns c = columns_all c.args.columns.now (take 56 c.args.bytes.now) c.loop-i.bytes c.loop-i.i (omega arith) (omega arith) c.loop-i.invariant
