use Rattle.std.proofs.Common.{arith, rules}
use Rattle.pos_bits.proofs.PlacesLemmas.{word-bits, word-fits}
use Rattle.pos_bits.proofs.places.word_behind.Goals as goal

pub overflow_add-result : goal.overflow_add-result
overflow_add-result c =
    let f = word-fits c.args.first c.args.skip c.args.value c.args.width (omega arith) c.requires.skip_fits c.requires.width_fits c.requires.value_fits in
    search rules

pub returns : goal.returns
returns c = word-bits c.args.first c.args.skip c.args.value c.args.width (omega arith) c.requires.skip_fits c.requires.width_fits c.requires.value_fits
