use Rattle.std.proofs.Common.{refl, rules}
use Rattle.pos_bits.proofs.CodeLemmas.{short-fits}
use Rattle.pos_bits.proofs.reader.short_code.Goals as goal

pub overflow_add-result : goal.overflow_add-result
overflow_add-result c =
    let f = short-fits c.args.window c.args.ones c.args.low c.requires.within in
    rw (c.from.ensures, f.0) (let e = f.1 in search rules)

pub returns : goal.returns
returns c =
    let f = short-fits c.args.window c.args.ones c.args.low c.requires.within in
    rw (c.from.ensures, f.0) refl
