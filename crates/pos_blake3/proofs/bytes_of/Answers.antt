use Rattle.std.proofs.Common.{◌≡◌, ◌*◌, take, arith, ◌∙◌, sym, ap}
use Rattle.std.proofs.lemmas.List.{take_all}
use borrow.Rule.Slice.PartMut.{same_len_mid}
use Rattle.pos_blake3.specs.Blake3.{word_bytes}
use Rattle.pos_blake3.proofs.BlakeLemmas.{take-next_word}
use Rattle.pos_blake3.proofs.bytes_of.Goals as goal

pub loop-i-preserved : goal.loop-i-preserved
loop-i-preserved c = (
  same_len_mid _ _ _ _ c.copy_from_slice.ensures.len ∙ c.loop-i.invariant.0,
  take-next_word c.loop-i.out c.args.words _ c.loop-i.i (omega arith) (omega arith)
      (c.copy_from_slice.ensures.after ∙ c.to_le_bytes.ensures) c.loop-i.invariant.1,
)

pub returns : goal.returns
returns c =
    let all : take (4 * c.loop-i.i) c.loop-i.out ≡ c.loop-i.out = take_all _ _ (omega arith) in
    let words : take c.loop-i.i c.args.words ≡ c.args.words = take_all _ _ (omega arith) in
    sym all ∙ c.loop-i.invariant.1 ∙ ap word_bytes words
