-- The plot was opened, its qualities were listed, and their lines are the text.
use Rattle.std.proofs.Common.{◌∙◌, Err, ap}
use Rattle.std.proofs.lemmas.Result.{err_from_is_err_and}
use Rattle.pos_layout.specs.Fields.{layout_in}
use Rattle.pos_harvest.specs.Listings.{IsQualityListDamage}
use Rattle.pos_app.specs.ListAnswers.{IsQualityDamage}
use Rattle.pos_app.proofs.FileLemmas.{found_right, kept_then}
use Rattle.pos_app.proofs.ShownLemmas.{no_list, qualities_right}
use Rattle.pos_app.proofs.shown.listed_qualities.Goals as goal

pub returns : goal.returns
returns g c =
    let before = g.D.Disk.view c.args.disk.now in
    let between = g.D.Disk.view c.open_plot.new.disk in
    let after = g.D.Disk.view c.list_qualities.new.disk in
    found_right _ (IsQualityDamage c.args.challenge.now.0) c.args.file.now _ before after
    (qualities_right c.args.file.now c.args.challenge.now.0 c.in_ok-plot.plot _ c.as_slice.result.now c.in_ok-qualities.qualities.items
    before between after c.in_ok-qualities_text.ensures c.as_slice.ensures.value
    c.in_ok-plot.ensures.opened.right c.in_ok-plot.ensures.reads c.in_ok-qualities.ensures.reads c.in_ok-qualities.ensures.listed)
    (kept_then before between after c.in_ok-plot.ensures.opened.kept c.in_ok-qualities.ensures.listing.left.reads.kept)
    (c.in_ok-qualities.ensures.listing.faults.quiet ∙ c.in_ok-plot.ensures.opened.quiet)

pub returns-in_err-qualities : goal.returns-in_err-qualities
returns-in_err-qualities g c =
    let p = err_from_is_err_and c.from_residual-in_err-qualities.result c.from_residual-in_err-qualities.ensures.1 in
    no_list _ (λ b d. IsQualityListDamage (layout_in b) b c.args.challenge.now.0 d) c.args.file.now c.in_ok-plot.plot _ _
    _ _ _ c.in_ok-plot.ensures.opened.kept c.in_ok-plot.ensures.opened.quiet c.in_ok-plot.ensures.opened.right
    c.in_err-qualities.field-0.0 _ (p.1 ∙ ap (λ e. Err e) p.2) c.in_err-qualities.ensures.listing c.in_err-qualities.ensures.damage
