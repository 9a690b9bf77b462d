use Rattle.std.proofs.Common.{◌≡◌, ◌/◌, ◌%◌, length, sym, ◌∙◌, arith}
use Rattle.std.proofs.lemmas.List.{get_or_read_under}
use Rattle.pos_marks.proofs.MarkLemmas.{marked_bit}
use Rattle.pos_marks.proofs.set.Marks.has.Goals as goal

pub index-byte-requires : goal.index-byte-requires
index-byte-requires g c =
    let room : length c.load.new.self.page.items ≡ 65536 = c.in_ok-load.ensures.room in
    let ok = c.load.new.self.page.ok.0 in
    omega arith

pub returns-clause-value : goal.returns-clause-value
returns-clause-value g c = λ p h told.
    let room : length c.load.new.self.page.items ≡ 65536 = c.in_ok-load.ensures.room in
    let byte = get_or_read_under c.load.new.self.page.items (c.args.i % 524288 / 8) 65536 c.index-byte.result.now 0 c.index-byte.ensures (omega arith) (sym room) in
    marked_bit c.load.new.self p c.args.i c.index-byte.result.now (g.D.Disk.view c.load.new.disk) (c.in_ok-load.ensures.marked p h) c.load.ensures.sealed c.in_ok-load.ensures.loaded
    (c.load.ensures.only_reads.kept.tells ∙ told) byte
