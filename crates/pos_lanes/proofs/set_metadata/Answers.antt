use Rattle.std.proofs.Common.{◌≡◌, ◌+◌, ◌*◌, ◌∙◌, ap₂, arith, take, drop}
use Rattle.pos_tuple.specs.Node.{metadata_units}
use Rattle.pos_bits.specs.Bits.{bits_of}
use Rattle.pos_lanes.proofs.EntryLemmas.{joined_metadata, read_metadata}
use Rattle.pos_lanes.proofs.set_metadata.Goals as goal

pub returns-then-t-lt4-clause-value : goal.returns-then-t-lt4-clause-value
returns-then-t-lt4-clause-value c =
    c.join.ensures.bits ∙ joined_metadata c.args.size c.args.t c.args.left.now c.args.right.now (omega arith)

pub returns-clause-value : goal.returns-clause-value
returns-clause-value c =
    let width : c.k-2.result * c.units_of.result ≡ c.args.size * metadata_units c.args.t = ap₂ (λ a b. a * b) c.k-2.ensures.value c.units_of.ensures.value in
    let rest : drop (c.k.result + 6) c.from_bytes-whole.result ≡ drop (c.args.size + 6) (bits_of c.args.hash.now) =
    ap₂ (λ n s. drop (n + 6) s) c.k.ensures.value c.from_bytes-whole.ensures.value
    in
    c.set_part.ensures.value ∙ ap₂ take width rest
    ∙ read_metadata c.args.size c.args.t c.args.left.now c.args.right.now c.args.hash.now (omega arith) (omega arith) c.requires.hash
