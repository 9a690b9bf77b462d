use Rattle.std.proofs.Common.{◌≡◌, ◌+◌, ◌*◌, ◌/◌, ◌<◌, ◌≤◌, ◌++◌, ℕ, Bool, List, take, drop, length, sym, ap, ap₂, ◌∙◌, subst, arith}
use Rattle.std.specs.Prelude.{slice_set}
use Rattle.pos_bits.specs.Bits.{bits_of}
use Rattle.pos_bits.proofs.BytesLemmas.{length-bits_of}
use Rattle.pos_record.specs.Packing.{records_in}
use Rattle.pos_record.proofs.PackingLemmas.{count-fits, length-records_in, record-fits, set-records_in}
use Rattle.pos_record.proofs.packed.Packed.set.Goals as goal

pub overflow_mul-i : goal.overflow_mul-i
overflow_mul-i g c =
    let w : ℕ = g.R.Record.bit_count in
    let n : ℕ = 8 * length c.args.bytes.now / w in
    let below : c.args.i < n = omega (arith, length-records_in g.R.Record.read w n (bits_of c.args.bytes.now), c.requires.there) in
    let f : c.args.i * c.width.result + w ≤ 8 * length c.args.bytes.now =
    subst (λ k. c.args.i * k + w ≤ 8 * length c.args.bytes.now) (sym c.width.ensures) (record-fits c.args.i (8 * length c.args.bytes.now) w below) in
    let few = c.requires.few in omega arith

pub write_bits-requires-clause-there : goal.write_bits-requires-clause-there
write_bits-requires-clause-there g c =
    let w : ℕ = g.R.Record.bit_count in
    let n : ℕ = 8 * length c.args.bytes.now / w in
    let below : c.args.i < n = omega (arith, length-records_in g.R.Record.read w n (bits_of c.args.bytes.now), c.requires.there) in
    let f : c.args.i * c.width.result + w ≤ 8 * length c.args.bytes.now =
    subst (λ k. c.args.i * k + w ≤ 8 * length c.args.bytes.now) (sym c.width.ensures) (record-fits c.args.i (8 * length c.args.bytes.now) w below) in
    let long : length c.put.result ≡ w = ap length c.put.ensures ∙ g.met.R.Record.code_length c.args.item.now c.requires.size c.requires.fits in
    omega arith

pub returns-clause-bits : goal.returns-clause-bits
returns-clause-bits g c =
    let w : ℕ = g.R.Record.bit_count in
    let s : List Bool = bits_of c.args.bytes.now in
    let long : length c.put.result ≡ w = ap length c.put.ensures ∙ g.met.R.Record.code_length c.args.item.now c.requires.size c.requires.fits in
    c.write_bits.ensures.bits
    ∙ ap₂ (λ k m. take (c.args.i * k) s ++ c.put.result ++ drop (c.args.i * k + m) s) c.width.ensures long
    ∙ ap (λ t. take (c.args.i * w) s ++ t ++ drop (c.args.i * w + w) s) c.put.ensures

pub returns-clause-records : goal.returns-clause-records
returns-clause-records g c =
    let w : ℕ = g.R.Record.bit_count in
    let n : ℕ = 8 * length c.args.bytes.now / w in
    let s : List Bool = bits_of c.args.bytes.now in
    let below : c.args.i < n = omega (arith, length-records_in g.R.Record.read w n s, c.requires.there) in
    let size : 8 * length c.write_bits.new.bytes / w ≡ n = ap (λ k. 8 * k / w) c.write_bits.ensures.len in
    let room : n * w ≤ length s = omega (arith, length-bits_of c.args.bytes.now, count-fits (8 * length c.args.bytes.now) w) in
    let law = g.met.R.Record in
    ap₂ (λ k t. records_in g.R.Record.read w k t) size (returns-clause-bits g c)
    ∙ set-records_in g.R.Record.read w n c.args.i s (g.R.Record.code c.args.item.now) below (law.code_length c.args.item.now c.requires.size c.requires.fits) room
    ∙ ap (λ x. slice_set (records_in g.R.Record.read w n s) c.args.i x) (law.read_code c.args.item.now c.requires.size c.requires.fits)
