use Rattle.std.proofs.Common.{length, ap, ◌∙◌, arith}
use Rattle.std.proofs.lemmas.List.{length-take-le}
use Rattle.sha2.specs.Sha256.{sha256}
use Rattle.sha2.proofs.Facts256.{length-sha256}
use Rattle.pos_layout.specs.Layouts.{digest_of}
use Rattle.pos_layout.specs.Fields.{entry_fields}
use Rattle.pos_layout.proofs.LayoutLemmas.{digest_few}
use Rattle.pos_layout.proofs.NumberLemmas.{park_fits, entry_for-is}
use Rattle.pos_layout.proofs.entry.park_entry.Goals as goal

pub overflow_cast-entry : goal.overflow_cast-entry
overflow_cast-entry c =
    let most = c.k-k.ensures.at_most in
    let value = c.k-k.ensures.value in
    let few = c.requires.park.numbers.few in
    let h = park_fits c.args.size c.args.numbers.now c.args.park.now (omega arith) c.requires.park in
    omega arith

pub encode_entry-requires : goal.encode_entry-requires
encode_entry-requires c =
    let few = digest_few c.args.layout in
    ap length c.park_digest.ensures ∙ length-take-le (digest_of c.args.layout) (sha256 c.args.park.now) (omega (arith, length-sha256 c.args.park.now))

pub returns-clause-bytes : goal.returns-clause-bytes
returns-clause-bytes c =
    c.encode_entry.ensures.bytes ∙ ap entry_fields (entry_for-is c.args.layout c.args.size c.args.t c.args.offset c.args.numbers.now c.args.park.now _ _ c.requires.park c.park_digest.ensures c.park_head.ensures)
