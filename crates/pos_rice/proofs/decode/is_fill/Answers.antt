use Rattle.std.proofs.lemmas.Bool.Decides.{Decides-eqb}
use Rattle.pos_rice.proofs.StepLemmas.{fill_zero}
use Rattle.pos_rice.proofs.decode.is_fill.Goals as goal

pub returns-in-Some : goal.returns-in-Some
returns-in-Some c =
    let h = fill_zero c.in-Some.value c.left-left.result c.args.reader.now c.take.new.self c.left-left.ensures.value c.if-left-ge-BYTE_BITS.false c.in-Some.ensures.below c.in-Some.ensures.some in
    let zero = Decides-eqb c.in-Some.value 0 in
    ((λ t. h.0 (zero.0 t)), λ f. zero.1 (h.1 f))
