use Rattle.std.proofs.Common.{◌≡◌, take}
use Rattle.std.specs.Prelude.{map, string_bytes}
use Rattle.hex.specs.Hex.{encode_lower}
use Rattle.pos_text.specs.Texts.{lines_of}
use Rattle.pos_text.proofs.list_text.qualities_text.Given as goal

abbrev pub invariant-loop-quality : goal.invariant-loop-quality
invariant-loop-quality l = string_bytes l.text ≡ lines_of (map encode_lower (take l.quality-index l.qualities))
