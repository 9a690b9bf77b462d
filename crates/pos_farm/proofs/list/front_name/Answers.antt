-- Bytes without a newline begin with no line.
use Rattle.std.proofs.Common.{refl}
use Rattle.pos_farm.proofs.NameLemmas.{front_no_end}
use Rattle.pos_farm.proofs.list.front_name.Goals as goal

pub returns-in-None : goal.returns-in-None
returns-in-None c = front_no_end c.args.bytes.now (c.in-None.ensures.none refl)
