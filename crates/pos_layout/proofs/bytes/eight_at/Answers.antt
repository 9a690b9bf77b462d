use Rattle.std.proofs.Common.{sym, ap, ◌∙◌}
use Rattle.std.specs.Int.{w64, from_be_bytes}
use Rattle.pos_layout.specs.Bytes.{eight_at}
use Rattle.pos_layout.proofs.CodecLemmas.{part-eight}
use Rattle.pos_layout.proofs.bytes.eight_at.Goals as goal

pub returns : goal.returns
unfolding eight_at
returns c = c.from_be_bytes.ensures ∙ ap (from_be_bytes w64) (sym (part-eight c.args.bytes.now c.args.at c.requires))
