use Rattle.std.proofs.Common.{◌+◌, ◌*◌, ◌<◌, ◌≤◌, length, sym, ◌∙◌, arith}
use Rattle.pos_bits.proofs.CodeLemmas.{window-code}
use Rattle.pos_bits.proofs.reader.BitReader.take_code.Goals as goal

pub returns-then-ones-low-lt-WINDOW_BITS-clause-some : goal.returns-then-ones-low-lt-WINDOW_BITS-clause-some
returns-then-ones-low-lt-WINDOW_BITS-clause-some c =
    let short : c.leading_ones-ones.result + c.args.low < 57 = c.if-ones-low-lt-WINDOW_BITS.true in
    let there : c.self.inside.at + 57 ≤ 8 * length c.self.inside.bytes.now = omega (arith, c.if-self-ge8.true) in
    let found = window-code c.self.inside.bytes.now c.self.inside.at c.window_at-window.result c.leading_ones-ones.result c.args.low
    c.window_at-window.type_inv c.window_at-window.ensures c.leading_ones-ones.ensures short there in
    rw (c.from-then-ones-low-lt-WINDOW_BITS.ensures, c.short_code.ensures, c.from.ensures) (sym c.self.view_is ∙ found)
