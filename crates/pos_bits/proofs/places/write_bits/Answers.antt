use Rattle.std.proofs.Common.{◌≡◌, ◌+◌, ◌++◌, length, take, drop, refl, ap, ◌∙◌, subst, arith, add-zero, append-nil, take_all, take-append-drop}
use Rattle.pos_bits.specs.Bits.{bits_of}
use Rattle.pos_bits.proofs.BytesLemmas.{length-bits_of}
use Rattle.pos_bits.proofs.PlacesLemmas.{string-written}
use Rattle.pos_bits.proofs.places.write_bits.Goals as goal

pub loop-done-init : goal.loop-done-init
loop-done-init c = record {
  at_most = omega arith;
  len = refl;
  written = rw (add-zero c.args.at, append-nil (take c.args.at (bits_of c.args.bytes.now)), take-append-drop c.args.at (bits_of c.args.bytes.now)) refl;
}

pub loop-done-preserved : goal.loop-done-preserved
loop-done-preserved c = record {
  at_most = omega arith;
  len = omega arith;
  written =
      string-written (bits_of c.args.bytes.now) (bits_of c.loop-done.bytes) (bits_of c.write_piece.new.bytes) c.args.value.now c.args.at c.loop-done.done c.min-count.result
      c.number-piece.result (omega (arith, length-bits_of c.args.bytes.now)) (omega arith) c.loop-done.invariant.written c.number-piece.ensures.value c.write_piece.ensures.bits;
}

pub returns-clause-bits : goal.returns-clause-bits
returns-clause-bits c =
    let all : c.loop-done.done ≡ length c.args.value.now = omega arith in
    subst (λ n. bits_of c.loop-done.bytes ≡ take c.args.at (bits_of c.args.bytes.now) ++ take n c.args.value.now ++ drop (c.args.at + n) (bits_of c.args.bytes.now)) all c.loop-done.invariant.written
    ∙ ap (λ t. take c.args.at (bits_of c.args.bytes.now) ++ t ++ drop (c.args.at + length c.args.value.now) (bits_of c.args.bytes.now)) (take_all (length c.args.value.now) c.args.value.now (omega arith))
