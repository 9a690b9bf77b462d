use Rattle.std.proofs.Common.{◌≡◌, ◌+◌, ◌*◌, ◌/◌, ◌%◌, ◌<◌, ◌≤◌, ℕ, List, length, take, drop, sym, subst, arith}
use Rattle.pos_bits.specs.Bits.{bits_of}
use Rattle.pos_bits.proofs.BytesLemmas.{length-bits_of}
use Rattle.pos_bits.proofs.PiecesLemmas.{length-part}
use Rattle.pos_record.specs.Fields.{part_at}
use Rattle.pos_runs.specs.Pages.{ListPages, PageHolds, per_page}
use Rattle.pos_runs.proofs.PageLemmas.{per_page_ge, place_in_page, record-read, record_within}
use Rattle.pos_runs.proofs.ordered.Ordered.here.Goals as goal
use Rattle.pos_runs.proofs.ordered.Ordered.here.Goals.{After-record_at}

-- the record's place on its page
place : (g : _) (c : After-record_at g) → (per_page g.R.Record.bit_count * (c.args.i / per_page g.R.Record.bit_count) + c.args.i % per_page g.R.Record.bit_count ≡ c.args.i) × (c.args.i % per_page g.R.Record.bit_count < per_page g.R.Record.bit_count)
place g c =
    let range = g.met.R.Record.width_in_range c.requires.size in
    place_in_page c.args.i (per_page g.R.Record.bit_count) (let ge = per_page_ge g.R.Record.bit_count range.0 range.1 in omega arith)

-- what was answered, by the bytes of the page in memory
answered : (g : _) (c : After-record_at g) → c.record_at.result ≡ g.R.Record.read (part_at (c.args.i % per_page g.R.Record.bit_count * g.R.Record.bit_count) g.R.Record.bit_count (bits_of c.self.inside.bytes.items))
answered g c =
    let w : ℕ = g.R.Record.bit_count in
    subst (λ k. c.record_at.result ≡ g.R.Record.read (take w (drop (c.args.i % per_page w * k) (bits_of c.self.inside.bytes.items)))) c.width.ensures
    (subst (λ k. c.record_at.result ≡ g.R.Record.read (take w (drop (c.args.i % k * c.width.result) (bits_of c.self.inside.bytes.items)))) c.records_on_page.ensures
    (subst (λ (bytes : List ℕ). c.record_at.result ≡ g.R.Record.read (take w (drop (c.args.i % c.records_on_page.result * c.width.result) (bits_of bytes)))) c.as_slice.ensures.value c.record_at.ensures))

pub returns-clause-fits : goal.returns-clause-fits
returns-clause-fits g c =
    let w : ℕ = g.R.Record.bit_count in
    let bytes : length c.self.inside.bytes.items ≡ 65536 = subst (λ (s : ListPages). length s.bytes ≡ 65536) (sym c.self.view_is) c.requires.long in
    let within : c.args.i % per_page w * w + w ≤ length (bits_of c.self.inside.bytes.items) = omega (arith, length-bits_of c.self.inside.bytes.items, record_within w (c.args.i % per_page w) (place g c).1) in
    subst (λ (r : g.row.R.Denot). g.R.Record.fits r) (sym (answered g c))
    (g.met.R.Record.read_fits (part_at (c.args.i % per_page w * w) w (bits_of c.self.inside.bytes.items)) c.requires.size
    (length-part (bits_of c.self.inside.bytes.items) (c.args.i % per_page w * w) w within))

pub returns-clause-value : goal.returns-clause-value
returns-clause-value g c = λ (xs : List g.row.R.Denot) holds there.
    let w : ℕ = g.R.Record.bit_count in
    let memory : PageHolds {R = g.row.R.Denot} g.R.Record.read w (c.args.i / per_page w) xs c.self.inside.bytes.items =
    subst (λ (s : ListPages). PageHolds {R = g.row.R.Denot} g.R.Record.read w (c.args.i / per_page w) xs s.bytes) (sym c.self.view_is) holds in
    record-read g.R.Record.read w (c.args.i / per_page w) (c.args.i % per_page w) c.args.i xs c.record_at.result c.self.inside.bytes.items (place g c).1 (place g c).0
    there (answered g c) memory
