-- The entry lies inside the file, and is what the definition reads there.
use Rattle.std.proofs.Common.{◌≡◌, List, ℕ, sym, ◌∙◌, ap₂}
use Rattle.std.proofs.lemmas.List.{length-take-le}
use Rattle.pos_layout.specs.Bytes.{part}
use Rattle.pos_layout.specs.Fields.{layout_in}
use Rattle.pos_layout.specs.Reading.{read_entry}
use Rattle.pos_reader.specs.Plots.{HoldsPlot}
use Rattle.pos_reader.specs.Steps.{listed}
use Rattle.pos_reader.proofs.EntryLemmas.{entry_read}
use Rattle.pos_reader.proofs.reads.read_entry.Goals as goal
use Rattle.pos_reader.proofs.reads.read_entry.Given.{Over}
use Rattle.pos_reader.proofs.reads.read_entry.Goals.{In_ok-read}

-- the bytes that were read are those of the entry
are : (g : Over) (c : In_ok-read g) (memo b : List ℕ) → HoldsPlot c.args.file.0 c.args.header.now memo b (g.D.Disk.view c.args.disk.now)
    → read_entry (layout_in b) b c.args.t c.args.park ≡ listed c.args.header.now.layout c.args.header.now c.args.t c.args.park c.read.new.buf
are g c memo b holds =
    entry_read b c.read.new.buf c.args.header.now c.args.t c.args.park holds.header
    (c.in_ok-read.ensures.ok holds.name b holds.named holds.contents ∙ ap₂ (λ at n. part b at n) c.entry_place-at.ensures.place (length-take-le c.entry_bytes.result _ c.entry_bytes.ensures.few ∙ c.entry_bytes.ensures.value))

pub returns-in-Ok-clause-entry : goal.returns-in-Ok-clause-entry
returns-in-Ok-clause-entry g c = λ memo b holds. are g (goal.at.returns-in-Ok-clause-entry g c).In_ok-read memo b holds ∙ sym c.in-Ok.ensures

pub returns-in-Err-clause-entry : goal.returns-in-Err-clause-entry
returns-in-Err-clause-entry g c = λ memo b holds. are g (goal.at.returns-in-Err-clause-entry g c).In_ok-read memo b holds ∙ sym c.in-Err.ensures
