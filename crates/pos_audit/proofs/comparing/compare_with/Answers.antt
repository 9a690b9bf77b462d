-- The second file was compared, and removed or not.
use Rattle.std.proofs.Common.{◌∙◌, Err, ap}
use Rattle.std.proofs.lemmas.Result.{err_from_is_err_and}
use Rattle.pos_audit.proofs.ComparingLemmas.{not_removed, second_removed}
use Rattle.pos_audit.proofs.comparing.compare_with.Goals as goal

pub returns-in_err-remove : goal.returns-in_err-remove
returns-in_err-remove g c =
    let p = err_from_is_err_and c.from_residual-in_err-remove.result c.from_residual-in_err-remove.ensures.1 in
    not_removed c.args.name.now c.args.found.0 c.in_ok-want.want.0 _ _ _
    c.in_ok-want.ensures.kept c.in_ok-want.ensures.quiet c.in_ok-want.ensures.ok c.in_ok-audited.ensures.look.reads
    _ c.in_ok-audited.ensures.look.quiet c.in_err-remove.ensures.kept (g.met.D.Disk.is_disk c.compare.new.disk)
    c.from_residual-in_err-remove.result (p.1 ∙ ap (λ e. Err e) p.2) c.in_err-remove.ensures.failed

pub returns : goal.returns
returns g c =
    second_removed c.args.name.now c.args.found.0 c.in_ok-want.want.0 _ _ _
    c.in_ok-want.ensures.kept c.in_ok-want.ensures.quiet c.in_ok-want.ensures.ok c.in_ok-audited.ensures.look.reads
    _ c.in_ok-audited.ensures.look.quiet c.in_ok-remove.ensures.kept (g.met.D.Disk.is_disk c.compare.new.disk)
    c.in_ok-audited.audited (g.met.D.Disk.is_disk c.args.disk.now) (g.met.D.Disk.is_disk c.remove.new.self) c.requires.readable
    c.in_ok-audited.ensures.compared c.in_ok-remove.ensures.ok c.in_ok-remove.ensures.quiet
