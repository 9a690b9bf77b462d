use Rattle.std.proofs.lemmas.Result.{err_from_is_err_and}
use Rattle.std.proofs.Common.{◌≡◌, ◌+◌, ◌^◌, ◌≤◌, Err, Ok, refl, sym, ap, ◌∙◌, subst, inr, arith}
use Rattle.pos_edge.specs.declared.scratch.WorkFault.TheVariants.{Scratch}
use Rattle.pos_layout.specs.Drafts.{begun, plot_of}
use Rattle.pos_layout.specs.Writing.{with_tables}
use Rattle.pos_relocate.proofs.PassLemmas.{ok_no_fault}
use Rattle.pos_plot.specs.Filling.{IsFilling}
use Rattle.pos_plot.proofs.FillLemmas.{all_used, can_relocate, described_inside, filling_outside, filling_stands, filling_standing, filling_turned, not_pruned, relocated_from, seven_ended, whole_done, whole_name}
use Rattle.pos_plot.proofs.filling.fill_from.Goals as goal

pub prune-requires : goal.prune-requires
prune-requires g c =
    let can = c.requires in
    (omega arith, (omega arith, (can.size, (can.room, (can.stand, (can.left, can.tables_stand))))))

pub relocate_tables-requires : goal.relocate_tables-requires
relocate_tables-requires g c =
    let can = c.requires in
    let s = c.args.files.now in
    let u = c.prune.new.scratch in
    let w = c.args.writer.now in
    let a = g.D.Disk.view c.args.disk.now in
    let m = g.D.Disk.view c.prune.new.disk in
    let pruned = c.in_ok-kept.ensures in
    let kept = c.in_ok-kept.kept in
    let ts = can.tables_stand in (
      omega arith,
      can_relocate g.row.K u kept.tables kept.m2 kept.m3 kept.m4 kept.m5 kept.m6 ts.0 w m can.size
          (λ n low high. subst (λ q. q ≤ 2 ^ (g.row.K + 1)) (sym (pruned.counts n)) (can.few n low high))
          (filling_standing s u w a m pruned.work can.stand can.standing can.apart can.other) can.begins
          (filling_outside s u w a m pruned.work can.stand can.standing can.apart can.other (g.met.D.Disk.is_disk c.prune.new.disk)) (pruned.kept ts.0 ts.1 ts.2),
    )

pub returns-in_err-kept-clause-filling : goal.returns-in_err-kept-clause-filling
returns-in_err-kept-clause-filling g c =
    let a = g.D.Disk.view c.args.disk.now in
    let m = g.D.Disk.view c.prune.new.disk in
    let e = c.in_err-kept.field-0.0 in
    let ens = c.in_err-kept.ensures in
    let q = err_from_is_err_and c.from_residual.result c.from_residual.ensures.1 in
    subst (λ r. IsFilling g.row.K c.args.tables c.args.files.now c.prune.new.scratch c.args.writer.now.file r a m) (sym (q.1 ∙ ap (λ y. Err y) q.2))
    (not_pruned g.row.K c.args.tables c.args.files.now c.prune.new.scratch c.args.writer.now e a m c.requires ens.work (λ n is. ens.exists n (ap (λ y. Err y) is)) (λ is. ens.failed (ap (λ y. Err y) is)) ens.quiet
    (λ d is. (inr (ens.damage d (ap (λ y. Err y) is)).2.found, ens.never d (ap (λ y. Err y) is))))

pub returns-in_err-relocate_tables-clause-filling : goal.returns-in_err-relocate_tables-clause-filling
returns-in_err-relocate_tables-clause-filling g c =
    let can = c.requires in
    let k = g.row.K in
    let s = c.args.files.now in
    let u = c.prune.new.scratch in
    let w = c.args.writer.now in
    let a = g.D.Disk.view c.args.disk.now in
    let m = g.D.Disk.view c.prune.new.disk in
    let d = g.D.Disk.view c.relocate_tables.new.disk in
    let pruned = c.in_ok-kept.ensures in
    let kept = c.in_ok-kept.kept in
    let e = c.in_err-relocate_tables.field-0.0 in
    let ens = c.in_err-relocate_tables.ensures in
    let q = err_from_is_err_and c.from_residual-in_err-relocate_tables.result c.from_residual-in_err-relocate_tables.ensures.1 in
    subst (λ r. IsFilling k c.args.tables s u w.file r a d) (sym (q.1 ∙ ap (λ y. Err y) q.2))
    (filling_turned k c.args.tables s u w.file e a d
    (relocated_from k c.args.tables s u w (Err e) a m d can pruned.work pruned.quiet ens.pass
    (λ x is ts id stands told describes.
    let told_then = pruned.work.kept.tells ∙ told in
    let stand = pruned.kept ts stands (λ t. described_inside ts id k describes) in
    ens.never x is ts id stand.tables told_then describes (all_used k u kept.tables kept.m2 kept.m3 kept.m4 kept.m5 kept.m6 ts m told_then stand))))

pub returns : goal.returns
returns g c =
    let can = c.requires in
    let k = g.row.K in
    let s = c.args.files.now in
    let u = c.prune.new.scratch in
    let w = c.args.writer.now in
    let a = g.D.Disk.view c.args.disk.now in
    let m = g.D.Disk.view c.prune.new.disk in
    let d = g.D.Disk.view c.relocate_tables.new.disk in
    let after = c.relocate_tables.new.writer in
    let pruned = c.in_ok-kept.ensures in
    let kept = c.in_ok-kept.kept in
    let ens = c.in_ok-relocate_tables.ensures in
    let lists = ens.ok.lists in
    let disk = g.met.D.Disk.is_disk c.prune.new.disk in
    let still = filling_stands s u w a m pruned.work can.stand can.standing can.apart can.other in
    let p = can.standing in record {
      filling = relocated_from k c.args.tables s u w (Ok tt) a m d can pruned.work pruned.quiet ens.pass (λ x is. absurd (ok_no_fault tt (Scratch x) is));
      ok = record {
        done = whole_done s u w a m pruned.work can.stand can.standing can.apart can.other d ens.pass.writes disk pruned.done;
        made = pruned.made;
        file = ens.same.file;
        name = whole_name s u w a m pruned.work can.stand can.standing can.apart can.other d ens.pass.writes;
        ended = seven_ended k w after p.0 lists m d can.begins (still p.0 p.1) (ens.ok.added p.0 (still p.0 p.1)) ens.ok.seven;
        lists = λ l memo id stands. (
          with_tables lists (begun l memo id k),
          ens.ok.added (begun l memo id k) (still (begun l memo id k) stands),
          record {
            layout = refl;
            memo_is = refl;
            id_is = refl;
            size = refl;
            counted = λ ts standing told sound.
                let told_then = pruned.work.kept.tells ∙ told in
                let stand = pruned.kept ts standing (λ t. sound.inside) in
                ens.ok.counts ts (plot_of (with_tables lists (begun l memo id k))) stand.tables told_then sound (all_used k u kept.tables kept.m2 kept.m3 kept.m4 kept.m5 kept.m6 ts m told_then stand) refl refl;
            plot = λ ts standing told describes.
                let told_then = pruned.work.kept.tells ∙ told in
                let stand = pruned.kept ts standing (λ t. described_inside ts id k describes) in
                ens.ok.plot ts id l memo stand.tables told_then describes (all_used k u kept.tables kept.m2 kept.m3 kept.m4 kept.m5 kept.m6 ts m told_then stand) (still (begun l memo id k) stands);
          },
        );
      };
    }
