use Rattle.std.proofs.Common.{◌≡◌}
use Rattle.pos_forward.specs.Tables.{AreValueRows}
use Rattle.pos_forward.proofs.first.list_values.Given as goal

abbrev pub invariant-loop-x : goal.invariant-loop-x
invariant-loop-x l = AreValueRows l.id.0 l.size l.x l.rows.items × (l.words ≡ l.id.0)
