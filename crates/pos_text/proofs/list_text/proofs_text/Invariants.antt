use Rattle.std.proofs.Common.{◌≡◌, take}
use Rattle.std.specs.Prelude.{map, string_bytes}
use Rattle.hex.specs.Hex.{encode_lower}
use Rattle.pos_order.specs.Values.{value_bytes}
use Rattle.pos_text.specs.Texts.{lines_of}
use Rattle.pos_text.proofs.list_text.proofs_text.Given as goal

abbrev pub invariant-loop-proof : goal.invariant-loop-proof
invariant-loop-proof l =
    string_bytes l.text ≡ lines_of (map (λ xs. encode_lower (value_bytes l.size xs)) (take l.proof-index l.proofs))
