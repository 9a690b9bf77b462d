use Rattle.std.proofs.Common.{refl}
use Rattle.hex.specs.Hex.{encode_lower}
use Rattle.pos_text.proofs.TextLemmas.{lines-push}
use Rattle.pos_text.proofs.list_text.qualities_text.Goals as goal

pub loop-quality-preserved : goal.loop-quality-preserved
loop-quality-preserved c =
    lines-push encode_lower _ _ _ c.loop-quality.quality-index c.args.qualities.now c.loop-quality-test.true refl c.loop-quality.invariant c.in_ok-push_bytes.ensures
