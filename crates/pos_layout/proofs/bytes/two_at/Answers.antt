use Rattle.std.proofs.Common.{sym, ap, ◌∙◌}
use Rattle.std.specs.Int.{w16, from_be_bytes}
use Rattle.pos_layout.specs.Bytes.{two_at}
use Rattle.pos_layout.proofs.CodecLemmas.{part-two}
use Rattle.pos_layout.proofs.bytes.two_at.Goals as goal

pub returns : goal.returns
unfolding two_at
returns c = c.from_be_bytes.ensures ∙ ap (from_be_bytes w16) (sym (part-two c.args.bytes.now c.args.at c.requires))
