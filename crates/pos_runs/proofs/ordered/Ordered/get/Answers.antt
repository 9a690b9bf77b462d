use Rattle.std.proofs.Common.{◌/◌, ◌∙◌, List, subst, arith}
use Rattle.pos_runs.specs.Pages.{ListHolds, PageHolds, per_page}
use Rattle.pos_runs.proofs.ordered.Ordered.get.Goals as goal

pub returns-clause-value : goal.returns-clause-value
returns-clause-value g c = λ (xs : List g.row.R.Denot) holds tells.
    let w = g.R.Record.bit_count in
    let after : ListHolds {R = g.row.R.Denot} g.R.Record.read w c.reach.new.self xs (g.D.Disk.view c.reach.new.disk) = c.in_ok-reach.ensures.list xs holds in
    let memory : PageHolds {R = g.row.R.Denot} g.R.Record.read w (c.args.i / per_page w) xs c.reach.new.self.bytes =
    subst (λ p. PageHolds {R = g.row.R.Denot} g.R.Record.read w p xs c.reach.new.self.bytes) c.in_ok-reach.ensures.page (after.memory (c.reach.ensures.read.only.kept.tells ∙ tells)) in
    c.here.ensures.value xs memory (let count = holds.count in let there = c.requires.there in omega arith)
