-- The file that was read is no longer there.
use Rattle.std.proofs.Common.{refl, arith, false}
use Rattle.pos_edge.specs.BlankDisks.{BlankName}
use Rattle.pos_edge.proofs.Blanks.{change_is}
use Rattle.pos_edge.proofs.doubles.blank_disk.forget.Goals as goal

pub returns-then-slot-len : goal.returns-then-slot-len
returns-then-slot-len c =
    change_is (λ (kept : BlankName). record { name = kept.name; there = false; length = kept.length }) c.args.files.now.items c.args.slot c.index_mut.result.now
    (record { name = c.index_mut.result.now.name; there = false; length = c.index_mut.result.now.length })
    (omega (arith, c.if-slot-len.true, c.len.ensures, c.args.files.now.ok.0)) c.index_mut.ensures.value refl
