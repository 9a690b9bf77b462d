use Rattle.std.proofs.Common.{◌≡◌, true, false, List, sym, ap, ◌∙◌, subst}
use Rattle.pos_runs.specs.Pages.{ListPages, ListHolds, ListStands}
use Rattle.pos_runs.proofs.ListLemmas.{seal-holds, seal-long, seal-long_none}
use Rattle.pos_runs.proofs.ordered.Ordered.seal.Goals as goal

pub returns-then-self-eq0-clause-long : goal.returns-then-self-eq0-clause-long
returns-then-self-eq0-clause-long g c =
    seal-long_none g.R.Record.bit_count _ (g.D.Disk.view c.args.disk.now)
    (subst (λ (s : ListPages). ListStands g.R.Record.bit_count s (g.D.Disk.view c.args.disk.now)) (sym c.self.view_is) c.requires.stands)
    (subst (λ (s : ListPages). s.is_sealed ≡ false) (sym c.self.view_is) c.requires.open) c.if-self-eq0.true

pub returns-clause-long : goal.returns-clause-long
returns-clause-long g c =
    seal-long g.R.Record.bit_count c.args.self.now c.self-2.inside.count c.self-2.inside.file.0 (g.D.Disk.view c.args.disk.now) (g.D.Disk.view c.flush.new.disk)
    c.requires.stands c.requires.open
    (ap (λ (s : ListPages). s.count) (c.self-2.view_is ∙ c.in_ok-flush.ensures.flushed))
    (ap (λ (s : ListPages). s.file) (c.self-2.view_is ∙ c.in_ok-flush.ensures.flushed))
    c.in_ok-flush.ensures.written

pub returns-clause-list : goal.returns-clause-list
returns-clause-list g c = λ (xs : List g.row.R.Denot) holds.
    subst (λ (s : ListPages). ListHolds {R = g.row.R.Denot} g.R.Record.read g.R.Record.bit_count (record s { is_sealed = true }) xs (g.D.Disk.view c.flush.new.disk))
    (sym (c.self-2.view_is ∙ c.in_ok-flush.ensures.flushed))
    (seal-holds g.R.Record.read g.R.Record.bit_count c.args.self.now (g.D.Disk.view c.args.disk.now) (g.D.Disk.view c.flush.new.disk) (g.met.D.Disk.is_disk c.args.disk.now)
    c.requires.stands c.requires.open c.in_ok-flush.ensures.write.ids c.in_ok-flush.ensures.written xs holds)
