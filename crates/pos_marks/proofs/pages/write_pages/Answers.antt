use Rattle.std.proofs.Common.{◌+◌, ◌*◌, refl, arith}
use Rattle.std.specs.Prelude.{slice_range}
use Rattle.pos_marks.proofs.PageLemmas.{written_none, written_more, still_there}
use Rattle.pos_marks.proofs.pages.write_pages.Goals as goal

pub loop-page-init : goal.loop-page-init
loop-page-init g c = written_none c.args.file.0 c.args.bytes.now (g.D.Disk.view c.args.disk.now) c.requires.live

pub write_at-requires-clause-live : goal.write_at-requires-clause-live
write_at-requires-clause-live g c = c.loop-page.invariant.kept.live

pub write_at-requires-clause-there : goal.write_at-requires-clause-there
write_at-requires-clause-there g c =
    let kept = c.loop-page.invariant.kept in
    still_there c.args.file.0 (g.D.Disk.view c.args.disk.now) (g.D.Disk.view c.loop-page.disk) kept.frame.tells kept.name c.requires.there

pub write_at-requires-clause-within : goal.write_at-requires-clause-within
write_at-requires-clause-within g c = let size = c.loop-page.invariant.size in omega arith

pub loop-page-preserved : goal.loop-page-preserved
loop-page-preserved g c =
    let at = c.loop-page.page * 65536 in
    written_more c.args.file.0 c.loop-page.page c.args.bytes.now (slice_range c.args.bytes.now at (at + 65536)) (g.D.Disk.view c.args.disk.now) (g.D.Disk.view c.loop-page.disk) (g.D.Disk.view c.write_at.new.self)
    (g.met.D.Disk.is_disk c.loop-page.disk) (omega arith) c.loop-page.invariant c.requires.live refl c.write_at.ensures.kept c.write_at.ensures.ids c.write_at.ensures.reads c.in-Ok.ensures.quiet c.in-Ok.ensures.ok
