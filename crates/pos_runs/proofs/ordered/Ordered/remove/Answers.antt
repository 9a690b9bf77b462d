use Rattle.std.proofs.Common.{◌≡◌, ap}
use Rattle.pos_runs.specs.Pages.{ListPages}
use Rattle.pos_runs.proofs.ListLemmas.{remove-done, remove-work}
use Rattle.pos_runs.proofs.ordered.Ordered.remove.Goals as goal

pub returns-clause-work : goal.returns-clause-work
returns-clause-work g c =
    let same : c.self.inside.file.0 ≡ c.args.self.file = ap (λ (x : ListPages). x.file) c.self.view_is in
    remove-work c.args.scratch.now c.remove.new.self c.self.inside.file.0 c.args.self.file (g.D.Disk.view c.args.disk.now) (g.D.Disk.view c.remove.new.disk) same
    c.remove.ensures.left (g.met.D.Disk.is_disk c.args.disk.now) c.requires.left c.remove.ensures.kept c.remove.ensures.stands

pub returns-clause-done : goal.returns-clause-done
returns-clause-done g c =
    let same : c.self.inside.file.0 ≡ c.args.self.file = ap (λ (x : ListPages). x.file) c.self.view_is in
    remove-done c.remove.result c.args.scratch.now c.remove.new.self c.self.inside.file.0 c.args.self.file (g.D.Disk.view c.args.disk.now) (g.D.Disk.view c.remove.new.disk) same
    c.remove.ensures.left (g.met.D.Disk.is_disk c.remove.new.disk) c.remove.ensures.kept c.remove.ensures.was_or_gone c.remove.ensures.ok
