use Rattle.std.proofs.Common.{◌≡◌, ◌+◌, ◌-◌, ◌*◌, ◌/◌, ◌%◌, ◌≤◌, ℕ, List, take, drop, refl, sym, ap, ◌∙◌, arith}
use Rattle.pos_bits.specs.Bits.{bits_of}
use Rattle.pos_bits.proofs.BytesLemmas.{drop-bits_of, take-bits_of}
use Rattle.pos_record.specs.Fields.{part_at}
use Rattle.pos_record.proofs.FieldsLemmas.{part-inside}
use Rattle.pos_runs.proofs.ordered.record_at.Goals as goal

-- the bits of a few bytes are bits of the whole
part-of_some : (bytes : List ℕ) (at w n : ℕ) → at % 8 + w ≤ 8 * n → part_at at w (bits_of bytes) ≡ part_at (at % 8) w (bits_of (take n (drop (at / 8) bytes)))
part-of_some bytes at w n h =
    part-inside (bits_of bytes) (8 * (at / 8)) (8 * n) (at % 8) w at w (omega arith) refl h
    ∙ ap (part_at (at % 8) w) (ap (take (8 * n)) (drop-bits_of (at / 8) bytes) ∙ take-bits_of n (drop (at / 8) bytes))

pub returns-then-bytes-byte-ge-WINDOW : goal.returns-then-bytes-byte-ge-WINDOW
returns-then-bytes-byte-ge-WINDOW g c =
    let n : ℕ = c.args.at / 8 + 80 - c.args.at / 8 in
    let size : n ≡ 80 = omega arith in
    let range = g.met.R.Record.width_in_range c.requires.size in
    c.take_at.ensures ∙ ap g.R.Record.read (sym (part-of_some c.args.bytes.now c.args.at g.R.Record.bit_count n (omega arith)))
