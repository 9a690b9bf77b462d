use Rattle.std.proofs.lemmas.Result.{err_from_is_err_and}
use Rattle.std.proofs.Common.{Err, sym, ap, ◌∙◌, subst}
use Rattle.pos_plot.specs.Steps.{IsClose}
use Rattle.pos_plot.proofs.CloseLemmas.{still_standing, not_cleared, not_finished, is_closed, finished_closed}
use Rattle.pos_plot.proofs.closing.close.Goals as goal

pub finish-requires : goal.finish-requires
finish-requires g c = record {
  stands = still_standing c.args.files.now c.args.writer (g.D.Disk.view c.args.disk.now) (g.D.Disk.view c.clear.new.disk) c.in_ok-clear.ensures.kept c.requires.apart c.requires.other c.requires.stands;
  tables = c.requires.ended;
}

pub returns-in_err-clear-clause-close : goal.returns-in_err-clear-clause-close
returns-in_err-clear-clause-close g c =
    let a = g.D.Disk.view c.args.disk.now in
    let m = g.D.Disk.view c.clear.new.disk in
    let p = err_from_is_err_and c.from_residual.result c.from_residual.ensures.1 in
    subst (λ r. IsClose c.args.files.now c.args.writer r a m) (sym (p.1 ∙ ap (λ y. Err y) p.2))
    (not_cleared c.args.files.now c.args.writer a m c.in_err-clear.ensures.kept c.requires.apart c.requires.other _ c.in_err-clear.field-0.0 c.in_err-clear.ensures.fault c.in_err-clear.ensures.failed)

pub returns-in_err-length-clause-close : goal.returns-in_err-length-clause-close
returns-in_err-length-clause-close g c =
    let a = g.D.Disk.view c.args.disk.now in
    let m = g.D.Disk.view c.clear.new.disk in
    let b = g.D.Disk.view c.finish.new.disk in
    let p = err_from_is_err_and c.from_residual-in_err-length.result c.from_residual-in_err-length.ensures.1 in
    subst (λ r. IsClose c.args.files.now c.args.writer r a b) (sym (p.1 ∙ ap (λ y. Err y) p.2))
    (not_finished c.args.files.now c.args.writer a m c.in_ok-clear.ensures.kept c.requires.apart c.requires.other c.requires.stands c.in_err-length.field-0.0 b c.in_ok-clear.ensures.quiet c.in_err-length.ensures.works)

pub returns : goal.returns
returns g c =
    let a = g.D.Disk.view c.args.disk.now in
    let m = g.D.Disk.view c.clear.new.disk in
    let b = g.D.Disk.view c.finish.new.disk in record {
      close = is_closed c.args.files.now c.args.writer a m c.in_ok-clear.ensures.kept c.requires.apart c.requires.other c.requires.stands c.in_ok-length.length _ b c.in_ok-clear.ensures.quiet c.in_ok-length.ensures.works;
      ok = finished_closed c.args.files.now c.args.writer a m c.in_ok-clear.ensures.kept c.requires.apart c.requires.other c.requires.stands c.in_ok-length.length _ b
          c.in_ok-clear.ensures.was_or_gone c.in_ok-clear.ensures.ok c.in_ok-length.ensures.works c.numbers_in-tables.ensures c.in_ok-length.ensures.ok;
    }
