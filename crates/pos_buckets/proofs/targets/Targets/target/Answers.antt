use Rattle.std.proofs.Common.{◌≡◌, ◌+◌, ◌*◌, ◌/◌, ◌%◌, ◌<◌, get_or, length, arith, ◌∙◌}
use Rattle.std.proofs.lemmas.List.{get_or_read}
use Rattle.pos_buckets.proofs.TargetLemmas.{target-sum}
use Rattle.pos_buckets.proofs.targets.Targets.target.Goals as goal

pub returns-clause-value : goal.returns-clause-value
returns-clause-value c =
    let highs = c.args.self.now.highs.items in
    let lows = c.args.self.now.lows.items in
    let made = c.args.self.now.made in
    let high_lt : c.args.place / 127 + c.args.m < length highs = omega (arith, made.high_parts.count) in
    let low_lt : (c.args.parity * 127 + c.args.place % 127) * 64 + c.args.m < length lows = omega (arith, made.low_parts.count) in
    let high : c.from.result ≡ get_or highs (c.args.place / 127 + c.args.m) 0 =
    c.from.ensures ∙ get_or_read highs (c.args.place / 127 + c.args.m) c.index-high.result.now high_lt c.index-high.ensures 0 in
    let low : c.from-2.result ≡ get_or lows ((c.args.parity * 127 + c.args.place % 127) * 64 + c.args.m) 0 =
    c.from-2.ensures ∙ get_or_read lows ((c.args.parity * 127 + c.args.place % 127) * 64 + c.args.m) c.index-low.result.now low_lt c.index-low.ensures 0 in
    let sum = target-sum highs lows c.args.parity c.args.place c.args.m made c.requires.parity c.requires.place c.requires.m in
    rw (high, low) sum
