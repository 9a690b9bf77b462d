use Rattle.std.proofs.Common.{◌≡◌, ◌+◌, ◌-◌, take, drop, ap, ◌∙◌, arith}
use Rattle.pos_layout.specs.Bytes.{part, eight_at}
use Rattle.pos_layout.specs.Layouts.{digest_of}
use Rattle.pos_layout.specs.Fields.{entry_of}
use Rattle.pos_layout.proofs.CodecLemmas.{entry_from}
use Rattle.pos_layout.proofs.entry.decode_entry.Goals as goal

pub returns : goal.returns
unfolding entry_of part
returns c =
    let b = c.args.bytes.now in
    let digest = c.digest_bytes-head.ensures.value in
    let many : 16 + c.digest_bytes-head.result - 16 ≡ digest_of c.args.layout = omega arith in
    entry_from _ _ _ _ _ _ _ _ _ _ c.eight_at.ensures c.four_at.ensures c.four_at-2.ensures (c.of.ensures ∙ ap (λ n. take n (drop 16 b)) many) (c.eight_at-2.ensures ∙ ap (λ n. eight_at b (16 + n)) digest)
