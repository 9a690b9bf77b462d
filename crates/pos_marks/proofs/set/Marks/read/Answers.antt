use Rattle.std.proofs.Common.{◌≡◌, length, refl, ap, ◌∙◌, arith}
use Rattle.std.proofs.lemmas.List.{with_items_is}
use Rattle.pos_marks.proofs.MarkLemmas.{marked_read}
use Rattle.pos_marks.proofs.set.Marks.read.Goals as goal

pub returns-clause-marked : goal.returns-clause-marked
returns-clause-marked g c = λ p h.
    let m = c.args.self.now in
    let room = (h.pages c.requires.sealed).room in
    let buffer = c.read_page.new.buffer in
    let len : length buffer ≡ 65536 = c.read_page.ensures.len in
    let ok = m.page.ok.0 in
    let same : length buffer ≡ m.page.len = omega arith in
    marked_read m _ p c.args.page buffer (g.D.Disk.view c.args.disk.now) (g.D.Disk.view c.read_page.new.disk) (g.met.D.Disk.is_disk c.args.disk.now) h c.requires.sealed c.requires.inside
    c.read_page.ensures.only_reads c.in_ok-read_page.ensures.ok len refl refl refl refl refl (with_items_is m.page buffer same)

pub returns-clause-room : goal.returns-clause-room
returns-clause-room g c =
    let m = c.args.self.now in
    let room = (c.requires.stands.1.pages c.requires.sealed).room in
    let buffer = c.read_page.new.buffer in
    let len : length buffer ≡ 65536 = c.read_page.ensures.len in
    let ok = m.page.ok.0 in
    let same : length buffer ≡ m.page.len = omega arith in
    ap length (with_items_is m.page buffer same) ∙ len
