use Rattle.std.proofs.Common.{ap, ◌∙◌, ◌+◌, ◌/◌, sym}
use Rattle.pos_bits.proofs.HeldLemmas.{held-len}
use Rattle.pos_bits.proofs.OutLemmas.{WroteWords-all, WroteWords-more, WroteWords-none}
use Rattle.pos_bits.proofs.string.BitString.to_block.Goals as goal

pub loop-i-init : goal.loop-i-init
loop-i-init c = WroteWords-none c.self.inside.words c.args.out.now c.told-out

pub loop-i-preserved : goal.loop-i-preserved
loop-i-preserved c =
    WroteWords-more c.self.inside.words c.loop-i.out c.copy_from_slice.new.self c.loop-i.i c.loop-i.invariant c.loop-i-test.true c.self.told
    (c.copy_from_slice.ensures.after ∙ c.to_be_bytes.ensures)

pub returns-clause-bytes : goal.returns-clause-bytes
returns-clause-bytes c =
    WroteWords-all c.self.inside.words c.loop-i.out c.loop-i.i c.self.inside.len c.args.self.now c.self.invariant c.self.view_is c.loop-i-test.false c.loop-i.auto.i-end c.loop-i.invariant

pub returns-clause-count : goal.returns-clause-count
returns-clause-count c =
    ap (λ n. (n + 7) / 8) (sym (held-len c.self.inside.words c.self.inside.len c.args.self.now c.self.invariant c.self.view_is))
