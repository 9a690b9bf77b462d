use Rattle.std.proofs.Common.{refl}
use Rattle.pos_layout.proofs.CodecLemmas.{column_put}
use Rattle.pos_layout.proofs.header.put_column.Goals as goal

pub returns : goal.returns
returns c = column_put c.args.at _ c.args.column c.to_be_bytes.result c.to_be_bytes-2.result c.args.bytes.now c.put.new.bytes c.put-2.new.bytes c.to_be_bytes.ensures c.to_be_bytes-2.ensures refl c.put.ensures.front c.put-2.ensures.front
