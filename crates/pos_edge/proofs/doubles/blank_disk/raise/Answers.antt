-- The file that was read is at least as long as the write's end.
use Rattle.std.proofs.Common.{arith, max}
use Rattle.pos_edge.specs.BlankDisks.{BlankName}
use Rattle.pos_edge.proofs.Blanks.{change_is, lengthened}
use Rattle.pos_edge.proofs.doubles.blank_disk.raise.Goals as goal

pub returns-then-slot-len : goal.returns-then-slot-len
returns-then-slot-len c =
    let file = c.index_mut-file.result.now in
    change_is (λ (kept : BlankName). record { name = kept.name; there = kept.there; length = max kept.length c.args.end }) c.args.files.now.items c.args.slot file
    (record { name = file.name; there = file.there; length = c.max-file.result })
    (omega (arith, c.if-slot-len.true, c.len.ensures, c.args.files.now.ok.0)) c.index_mut-file.ensures.value (lengthened file c.max-file.result c.args.end c.max-file.ensures)
