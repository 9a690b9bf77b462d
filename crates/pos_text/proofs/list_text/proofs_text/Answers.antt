use Rattle.std.proofs.Common.{refl}
use Rattle.hex.specs.Hex.{encode_lower}
use Rattle.pos_order.specs.Values.{value_bytes}
use Rattle.pos_text.proofs.TextLemmas.{lines-push}
use Rattle.pos_text.proofs.list_text.proofs_text.Goals as goal

pub loop-proof-preserved : goal.loop-proof-preserved
loop-proof-preserved c =
    lines-push (λ xs. encode_lower (value_bytes c.args.size xs)) _ _ _ c.loop-proof.proof-index c.args.proofs.now c.loop-proof-test.true refl c.loop-proof.invariant c.in_ok-push_proof.ensures
