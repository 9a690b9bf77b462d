use Rattle.pos_marks.proofs.PageLemmas.{WrittenTo}
use Rattle.pos_marks.proofs.pages.write_pages.Given as goal

abbrev pub invariant-loop-page : goal.invariant-loop-page
invariant-loop-page g l = WrittenTo l.file.0 l.page l.bytes (g.D.Disk.view l.initial.disk) (g.D.Disk.view l.disk)
