use Rattle.std.proofs.Common.{sym, ap, ◌∙◌}
use Rattle.std.specs.Int.{w32, from_be_bytes}
use Rattle.pos_layout.specs.Bytes.{four_at}
use Rattle.pos_layout.proofs.CodecLemmas.{part-four}
use Rattle.pos_layout.proofs.bytes.four_at.Goals as goal

pub returns : goal.returns
unfolding four_at
returns c = c.from_be_bytes.ensures ∙ ap (from_be_bytes w32) (sym (part-four c.args.bytes.now c.args.at c.requires))
