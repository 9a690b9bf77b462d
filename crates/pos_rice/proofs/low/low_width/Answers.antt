use Rattle.std.proofs.Common.{◌-◌, length, arith}
use Rattle.std.proofs.lemmas.Nat.{le-div}
use Rattle.pos_rice.proofs.ParkLemmas.{far}
use Rattle.pos_rice.proofs.low.low_width.Goals as goal

pub overflow_sub-numbers : goal.overflow_sub-numbers
overflow_sub-numbers c = omega (arith, far c.args.numbers.now c.requires.some c.requires.rising)

pub ilog2-requires : goal.ilog2-requires
ilog2-requires c =
    let apart = far c.args.numbers.now c.requires.some c.requires.rising in
    le-div 1 _ (length c.args.numbers.now - 1) (omega arith) (omega (arith, apart))
