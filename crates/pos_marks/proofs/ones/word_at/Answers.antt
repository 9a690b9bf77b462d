use Rattle.std.proofs.Common.{refl, arith}
use Rattle.pos_marks.proofs.BitLemmas.{word_bit}
use Rattle.pos_marks.proofs.ones.word_at.Goals as goal

pub returns : goal.returns
returns c =
    λ j low. word_bit c.args.bytes.now _ c.args.i c.from_le_bytes.result (omega arith) (λ k h. omega (arith, c.type_inv.bytes k)) refl c.from_le_bytes.ensures j low
