use Rattle.std.proofs.Common.{◌≡◌, ◌+◌, ◌++◌, length, take, refl, ap, ◌∙◌, subst, arith, add-zero, append-nil, take_all}
use Rattle.pos_bits.specs.Bits.{bits_of}
use Rattle.pos_bits.proofs.PlacesLemmas.{string-appended}
use Rattle.pos_bits.proofs.places.append_bits.Goals as goal

pub loop-done-init : goal.loop-done-init
loop-done-init c = record {
  at_most = omega arith;
  len = refl;
  put = rw (add-zero c.args.at, append-nil (take c.args.at (bits_of c.args.bytes.now))) refl;
}

pub loop-done-preserved : goal.loop-done-preserved
loop-done-preserved c = record {
  at_most = omega arith;
  len = omega arith;
  put =
      string-appended (bits_of c.args.bytes.now) (bits_of c.loop-done.bytes) (bits_of c.append_number.new.bytes) c.args.value.now c.args.at c.loop-done.done c.min-count.result
      c.number-piece.result (omega arith) c.loop-done.invariant.put c.number-piece.ensures.value c.append_number.ensures.bits;
}

pub returns-clause-bits : goal.returns-clause-bits
returns-clause-bits c =
    let all : c.loop-done.done ≡ length c.args.value.now = omega arith in
    subst (λ n. take (c.args.at + n) (bits_of c.loop-done.bytes) ≡ take c.args.at (bits_of c.args.bytes.now) ++ take n c.args.value.now) all c.loop-done.invariant.put
    ∙ ap (λ t. take c.args.at (bits_of c.args.bytes.now) ++ t) (take_all (length c.args.value.now) c.args.value.now (omega arith))
