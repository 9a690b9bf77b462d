-- The plot was opened, its proofs were listed, and their lines are the text.
use Rattle.std.proofs.Common.{◌∙◌, Err, ap}
use Rattle.pos_app.specs.ListAnswers.{IsProveDamage}
use Rattle.pos_app.proofs.FileLemmas.{found_right, kept_then, proofs_right}
use Rattle.pos_app.proofs.shown.listed_proofs.Goals as goal
use Rattle.std.proofs.lemmas.Result.{err_from_is_err_and}
use Rattle.pos_layout.specs.Fields.{layout_in}
use Rattle.pos_harvest.specs.Listings.{IsProofListDamage}
use Rattle.pos_app.proofs.ShownLemmas.{no_list}

pub returns : goal.returns
returns g c =
    let before = g.D.Disk.view c.args.disk.now in
    let between = g.D.Disk.view c.open_plot.new.disk in
    let after = g.D.Disk.view c.list_proofs.new.disk in
    found_right _ (IsProveDamage c.args.challenge.now.0) c.args.file.now _ before after
    (proofs_right c.args.file.now c.args.challenge.now.0 c.in_ok-plot.plot c.list_proofs.new.plot c.size.result _ c.as_slice.result.now c.in_ok-proofs.proofs.items
    before between after c.in_ok-proofs_text.ensures c.as_slice.ensures.value c.size.ensures.size c.in_ok-proofs.ensures.listing.left.same c.in_ok-proofs.ensures.proofs
    c.in_ok-plot.ensures.opened.right c.in_ok-plot.ensures.reads c.in_ok-proofs.ensures.reads c.in_ok-proofs.ensures.listed)
    (kept_then before between after c.in_ok-plot.ensures.opened.kept c.in_ok-proofs.ensures.listing.left.reads.kept)
    (c.in_ok-proofs.ensures.listing.faults.quiet ∙ c.in_ok-plot.ensures.opened.quiet)

pub returns-in_err-proofs : goal.returns-in_err-proofs
returns-in_err-proofs g c =
    let p = err_from_is_err_and c.from_residual-in_err-proofs.result c.from_residual-in_err-proofs.ensures.1 in
    no_list _ (λ b d. IsProofListDamage (layout_in b) b c.args.challenge.now.0 d) c.args.file.now c.in_ok-plot.plot _ _
    _ _ _ c.in_ok-plot.ensures.opened.kept c.in_ok-plot.ensures.opened.quiet c.in_ok-plot.ensures.opened.right
    c.in_err-proofs.field-0.0 _ (p.1 ∙ ap (λ e. Err e) p.2) c.in_err-proofs.ensures.listing c.in_err-proofs.ensures.damage
