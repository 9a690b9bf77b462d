use Rattle.std.proofs.Common.{◌++◌, ap, sym, ◌∙◌, arith, rules, append_assoc}
use Rattle.pos_bits.specs.Bits.{bits, bits_of}
use Rattle.pos_bits.proofs.AppendLemmas.{rest-joined, rest-joined_lt}
use Rattle.pos_bits.proofs.PiecesLemmas.{joined-fits}
use Rattle.pos_bits.proofs.writer.BitWriter.put_short.Goals as goal

pub overflow_add-self : goal.overflow_add-self
overflow_add-self c =
    let f = joined-fits 64 c.self.inside.rest c.self.inside.fill c.args.width c.args.value c.self.invariant.rest_below c.requires.value_fits (omega arith) in
    search rules

pub invariant_of-self : goal.invariant_of-self
invariant_of-self c = record {
  fill_below = omega (arith, c.if-width-self.true);
  rest_below =
      rest-joined_lt c.self.inside.rest c.self.inside.fill c.args.value c.args.width c.self.invariant.rest_below c.requires.value_fits (omega (arith, c.if-width-self.true));
  has_room = λ _. c.self.invariant.has_room c.if-self-gt0.true;
}

pub returns-then-width-self-clause-ok : goal.returns-then-width-self-clause-ok
returns-then-width-self-clause-ok c =
    ap (λ t. bits_of c.self.inside.bytes.items ++ t)
    (rest-joined c.self.inside.rest c.self.inside.fill c.args.value c.args.width c.self.invariant.rest_below c.requires.value_fits (omega (arith, c.if-width-self.true)))
    ∙ sym (append_assoc (bits_of c.self.inside.bytes.items) (bits c.self.inside.rest c.self.inside.fill) (bits c.args.value c.args.width))
    ∙ ap (λ t. t ++ bits c.args.value c.args.width) c.self.view_is
