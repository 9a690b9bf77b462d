use Rattle.std.proofs.Common.{ap, ◌∙◌}
use Rattle.std.specs.Str.{bytes_eq}
use Rattle.pos_layout.specs.Bytes.{part}
use Rattle.pos_layout.specs.Fields.{name_in}
use Rattle.pos_layout.proofs.header.is_named.Goals as goal

pub returns : goal.returns
unfolding part
returns c = c.eq.ensures ∙ ap (λ name. bytes_eq (name_in c.args.bytes.now) name) c.name.ensures.value
