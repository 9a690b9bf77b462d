-- What was filled is the next bytes, and those behind them are left.
use Rattle.std.proofs.Common.{◌≡◌, ◌≤◌, ◌+◌, length, take, rules, arith}
use Rattle.std.specs.Prelude.{slice_range}
use Rattle.pos_edge.proofs.SourceLemmas.{taken_is}
use Rattle.pos_edge.proofs.doubles.memory_source.MemorySourceSource.take.Goals as goal

pub returns-clause-given : goal.returns-clause-given
returns-clause-given c =
    let at = c.self.inside.at in
    let n = c.min-n.result in
    let bytes = c.self.inside.bytes.items in
    let buf = c.fill.new.buf in
    let filled : take (length (slice_range bytes at (at + n))) buf ≡ slice_range bytes at (at + n) = search rules in
    let within : at + n ≤ length bytes = search rules in
    let room : n ≤ length buf = search rules in
    rw (← c.self.view_is) (taken_is bytes buf at n c.self.inside.taken c.saturating_add-self-inside-2.result c.self.inside.faults within room filled (omega arith) (omega arith))
