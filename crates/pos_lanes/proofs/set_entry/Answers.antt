use Rattle.std.proofs.Common.{◌+◌, ◌∙◌, ap, take}
use Rattle.pos_bits.specs.Bits.{bits_of, number}
use Rattle.pos_lanes.proofs.EntryLemmas.{made_entry}
use Rattle.pos_lanes.proofs.set_entry.Goals as goal

pub returns-clause-entry : goal.returns-clause-entry
returns-clause-entry c =
    made_entry c.args.size c.args.t c.args.left.now c.args.right.now c.args.hash.now c.number_at-made.result c.set_metadata.new.meta c.requires.hash
    (c.number_at-made.ensures.value ∙ ap (λ n. number (take (n + 6) (bits_of c.args.hash.now))) c.k.ensures.value) c.set_metadata.ensures.value
