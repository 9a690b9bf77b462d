use Rattle.std.proofs.Common.{◌≡◌, ◌-◌, ◌/◌, ◌<◌, ◌∙◌, List, length, Some, subst, arith}
use Rattle.std.specs.Prelude.{slice_get}
use Rattle.pos_record.specs.Kinds.{pair_read, pair_width}
use Rattle.pos_record.specs.declared.kinds.Pair.{Pair}
use Rattle.pos_runs.specs.Pages.{ListPages, PageHolds, per_page}
use Rattle.pos_runs.proofs.TablesLemmas.{pair-here}
use Rattle.pos_runs.proofs.tables.Tables.pair.Goals as goal

pub returns-clause-value : goal.returns-clause-value
returns-clause-value g c = λ ts h tells.
    pair-here g.row.K c.reach_pair.new.self ts (c.args.t - 1) c.args.i (c.args.i / per_page (pair_width g.row.K)) c.here-found.result (g.D.Disk.view c.reach_pair.new.disk)
    (let first = c.requires.first in omega arith) (let last = c.requires.last in omega arith) (let count = c.reach_pair.ensures.read.count in let there = c.requires.there in omega arith)
    c.in_ok-reach_pair.ensures.page (c.reach_pair.ensures.read.only.kept.tells ∙ tells) (c.in_ok-reach_pair.ensures.stands ts h)
    (subst (λ (s : ListPages). (xs : List Pair) → PageHolds (pair_read g.row.K) (pair_width g.row.K) (c.args.i / per_page (pair_width g.row.K)) xs s.bytes → c.args.i < length xs → slice_get xs c.args.i ≡ Some c.here-found.result)
    c.pairs.ensures c.here-found.ensures.value)
