use Rattle.std.proofs.lemmas.Result.{err_from_is_err_and}
use Rattle.std.proofs.Common.{◌≡◌, ◌≤◌, Err, Ok, refl, sym, ap, ◌∙◌, subst, inl, arith}
use Rattle.pos_layout.specs.Drafts.{begun}
use Rattle.pos_plot.specs.Steps.{IsFill}
use Rattle.pos_plot.specs.Faults.{of_forward, of_work}
use Rattle.pos_plot.proofs.StartLemmas.{failure_of_work}
use Rattle.pos_plot.proofs.FillLemmas.{can_fill_from, failure_of_forward, filled, forward_cause, fresh_on, fresh_room, from_cause, has_filled, not_forwarded}
use Rattle.pos_plot.proofs.filling.fill.Goals as goal

pub forward-requires : goal.forward-requires
forward-requires g c =
    let s = c.args.files.now in
    (omega arith, ((c.requires.least, c.requires.greatest), (c.requires.plan, (fresh_room s c.requires.fresh, fresh_on s (g.D.Disk.view c.args.disk.now) c.requires.fresh))))

pub fill_from-requires : goal.fill_from-requires
fill_from-requires g c =
    let s = c.args.files.now in
    let t = c.forward.new.scratch in
    let a = g.D.Disk.view c.args.disk.now in
    let b = g.D.Disk.view c.forward.new.disk in
    let w = c.args.writer.now in
    let made = c.in_ok-tables.ensures in
    let seven = made.made in
    let stands = c.requires.stands in
    let p = begun stands.0 stands.1 c.args.id.now.0 g.row.K in (
      omega arith,
      can_fill_from s t w a b made.work c.requires.fresh (p, stands.2) c.requires.other g.row.K c.in_ok-tables.tables (c.requires.least, c.requires.greatest)
          (λ n low high. let i = seven.within n (omega arith) high in let q = c.requires.plan in omega arith) seven.left (seven.tables.0, seven.tables.1, λ told. (seven.tables.2 told).inside) c.requires.begins,
    )

pub returns-in_err-tables-clause-fill : goal.returns-in_err-tables-clause-fill
returns-in_err-tables-clause-fill g c =
    let s = c.args.files.now in
    let t = c.forward.new.scratch in
    let a = g.D.Disk.view c.args.disk.now in
    let b = g.D.Disk.view c.forward.new.disk in
    let e = c.in_err-tables.field-0.0 in
    let ens = c.in_err-tables.ensures in
    let q = err_from_is_err_and c.from_residual.result c.from_residual.ensures.1 in
    let stands = c.requires.stands in
    let p = begun stands.0 stands.1 c.args.id.now.0 g.row.K in
    subst (λ r. IsFill c.args.id.now.0 g.row.K c.args.plan.now s.base c.args.writer.now.file r a b) (sym (q.1 ∙ ap (λ y. Err y) q.2))
    (not_forwarded s t c.args.writer.now a b ens.work c.requires.fresh (p, stands.2) c.requires.other c.args.id.now.0 g.row.K c.args.plan.now (of_forward e)
    (forward_cause c.args.id.now.0 g.row.K c.args.plan.now s t e a b c.requires.fresh ens.work ens.cause)
    (λ not_failed. ens.quiet (λ is. not_failed (failure_of_forward e is))))

pub returns-in_err-fill_from-clause-fill : goal.returns-in_err-fill_from-clause-fill
returns-in_err-fill_from-clause-fill g c =
    let s = c.args.files.now in
    let t = c.forward.new.scratch in
    let u = c.fill_from.new.files in
    let a = g.D.Disk.view c.args.disk.now in
    let b = g.D.Disk.view c.forward.new.disk in
    let d = g.D.Disk.view c.fill_from.new.disk in
    let w = c.args.writer.now in
    let id = c.args.id.now.0 in
    let made = c.in_ok-tables.ensures in
    let ts = made.made.tables in
    let e = c.in_err-fill_from.field-0.0 in
    let ens = c.in_err-fill_from.ensures in
    let q = err_from_is_err_and c.from_residual-in_err-fill_from.result c.from_residual-in_err-fill_from.ensures.1 in
    let stands = c.requires.stands in
    let p = begun stands.0 stands.1 id g.row.K in
    subst (λ r. IsFill id g.row.K c.args.plan.now s.base w.file r a d) (sym (q.1 ∙ ap (λ y. Err y) q.2))
    (filled s t w a b made.work c.requires.fresh (p, stands.2) c.requires.other g.row.K c.in_ok-tables.tables u d (Err e) ens.filling id c.args.plan.now (Err (of_work e))
    (from_cause s t w a b made.work c.requires.fresh (p, stands.2) c.requires.other g.row.K c.in_ok-tables.tables u d (Err e) ens.filling id c.args.plan.now e refl made.done
    (λ x is told. let told_then = made.work.kept.tells ∙ told in ens.filling.never x (ap (λ y. Err y) is) ts.0 id ts.1 told_then (ts.2 told_then)))
    (λ not_failed. ens.filling.quiet (λ is. not_failed (failure_of_work e is)) ∙ made.quiet))

pub returns : goal.returns
returns g c =
    let s = c.args.files.now in
    let t = c.forward.new.scratch in
    let u = c.fill_from.new.files in
    let a = g.D.Disk.view c.args.disk.now in
    let b = g.D.Disk.view c.forward.new.disk in
    let d = g.D.Disk.view c.fill_from.new.disk in
    let w = c.args.writer.now in
    let id = c.args.id.now.0 in
    let made = c.in_ok-tables.ensures in
    let seven = made.made in
    let ens = c.in_ok-fill_from.ensures in
    let stands = c.requires.stands in
    let p = begun stands.0 stands.1 id g.row.K in record {
      fill = filled s t w a b made.work c.requires.fresh (p, stands.2) c.requires.other g.row.K c.in_ok-tables.tables u d (Ok tt) ens.filling id c.args.plan.now (Ok tt) tt (ens.filling.quiet ∙ made.quiet);
      ok = has_filled s t w a b made.work c.requires.fresh (p, stands.2) c.requires.other g.row.K c.in_ok-tables.tables u d (Ok tt) ens.filling id c.args.plan.now c.fill_from.new.writer made.done seven.made ens.ok
          seven.none_above seven.tables;
    }
