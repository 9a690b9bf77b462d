use Rattle.std.proofs.Common.{◌≡◌, ap, arith, Err}
use Rattle.pos_edge.specs.declared.scratch.WorkFault.TheVariants.{Exists}
use Rattle.pos_edge.proofs.ScratchWorkLemmas.{refused_untouched}
use Rattle.pos_runs.proofs.ListLemmas.{new-done, new-refused, new-stands, new-work}
use Rattle.pos_runs.proofs.ordered.Ordered.new.Goals as goal

pub returns-in-Err-clause-work : goal.returns-in-Err-clause-work
returns-in-Err-clause-work g c =
    new-refused c.args.scratch.now c.create.new.self (g.D.Disk.view c.args.disk.now) (g.D.Disk.view c.create.new.disk) c.in-Err.ensures.refused c.create.ensures.kept c.create.ensures.stands
    (refused_untouched (Err c.in-Err.fault) c.args.scratch.now (g.D.Disk.view c.args.disk.now) (g.D.Disk.view c.create.new.disk) c.in-Err.ensures.exists c.in-Err.ensures.failed c.in-Err.ensures.no_damage c.in-Err.ensures.memory)

pub returns-in-Err-clause-exists : goal.returns-in-Err-clause-exists
returns-in-Err-clause-exists g c = λ file is.
    let same : c.in-Err.fault ≡ Exists file = cc in
    c.in-Err.ensures.exists file (ap (λ e. Err e) same)

pub returns-clause-work : goal.returns-clause-work
returns-clause-work g c =
    new-work c.args.scratch.now c.create.new.self c.in-Ok-create.file.0 (g.D.Disk.view c.args.disk.now) (g.D.Disk.view c.create.new.disk)
    c.in-Ok-create.ensures.made c.create.ensures.kept c.in-Ok-create.ensures.ok c.create.ensures.stands

pub returns-clause-done : goal.returns-clause-done
returns-clause-done g c =
    new-done c.args.scratch.now c.create.new.self c.in-Ok-create.file.0 (g.D.Disk.view c.args.disk.now) (g.D.Disk.view c.create.new.disk)
    c.in-Ok-create.ensures.made c.requires.few c.create.ensures.kept c.in-Ok-create.ensures.ok

pub returns-clause-stands : goal.returns-clause-stands
returns-clause-stands g c =
    new-stands g.R.Record.bit_count c.args.scratch.now c.in-Ok-create.file.0 c.made-number.result c.in-Ok.bytes.items (g.D.Disk.view c.args.disk.now) (g.D.Disk.view c.create.new.disk) c.in-Ok-create.ensures.ok
    (omega (arith, c.in-Ok.ensures.len))
