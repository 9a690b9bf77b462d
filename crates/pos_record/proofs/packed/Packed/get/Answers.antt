use Rattle.std.proofs.Common.{◌+◌, ◌*◌, ◌/◌, ◌<◌, ◌≤◌, ℕ, take, drop, length, sym, ap, ◌∙◌, subst, arith}
use Rattle.std.specs.Prelude.{Some}
use Rattle.pos_bits.specs.Bits.{bits_of}
use Rattle.pos_record.proofs.PackingLemmas.{get-records_in, length-records_in, record-fits}
use Rattle.pos_record.proofs.packed.Packed.get.Goals as goal
use Rattle.pos_record.proofs.packed.Packed.get.Goals.{After-width}

-- the record at this place stands within the bytes
fits : (g : _) (c : After-width g) → c.args.i * c.width.result + g.R.Record.bit_count ≤ 8 * length c.args.bytes.now
fits g c =
    let w : ℕ = g.R.Record.bit_count in
    let n : ℕ = 8 * length c.args.bytes.now / w in
    let below : c.args.i < n = omega (arith, length-records_in g.R.Record.read w n (bits_of c.args.bytes.now), c.requires.there) in
    subst (λ k. c.args.i * k + w ≤ 8 * length c.args.bytes.now) (sym c.width.ensures) (record-fits c.args.i (8 * length c.args.bytes.now) w below)

pub overflow_mul-i : goal.overflow_mul-i
overflow_mul-i g c = let f = fits g c in let few = c.requires.few in omega arith

pub take_at-requires-clause-there : goal.take_at-requires-clause-there
take_at-requires-clause-there g c = fits g c

pub returns : goal.returns
returns g c =
    let w : ℕ = g.R.Record.bit_count in
    let n : ℕ = 8 * length c.args.bytes.now / w in
    let below : c.args.i < n = omega (arith, length-records_in g.R.Record.read w n (bits_of c.args.bytes.now), c.requires.there) in
    get-records_in g.R.Record.read w n c.args.i (bits_of c.args.bytes.now) below
    ∙ ap (λ x. Some x) (sym (c.take_at.ensures ∙ ap (λ k. g.R.Record.read (take w (drop (c.args.i * k) (bits_of c.args.bytes.now)))) c.width.ensures))
