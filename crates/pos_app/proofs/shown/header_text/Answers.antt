-- The plot was opened, and the lines of its header and memo are the text.
use Rattle.pos_app.specs.FileAnswers.{IsOpeningDamage}
use Rattle.pos_app.proofs.FileLemmas.{found_right}
use Rattle.pos_app.proofs.InspectLemmas.{header_right}
use Rattle.pos_app.proofs.shown.header_text.Goals as goal

pub returns : goal.returns
returns g c =
    let before = g.D.Disk.view c.args.disk.now in
    let between = g.D.Disk.view c.open_plot.new.disk in
    found_right _ IsOpeningDamage c.args.file.now _ before between
    (header_right c.args.file.now c.in_ok-plot.plot _ before between c.in_ok-inspect_text.ensures c.in_ok-plot.ensures.opened.right)
    c.in_ok-plot.ensures.opened.kept c.in_ok-plot.ensures.opened.quiet
