-- The entry, then the park that it names, then the tests of the park.
use Rattle.std.proofs.Common.{◌≡◌, ◌∙◌, ◌≤◌, ℕ, List, Err, sym, ap, take, length, arith}
use Rattle.std.proofs.lemmas.List.{length-take-le}
use Rattle.std.proofs.lemmas.Result.{err_from_is_err_and}
use Rattle.pos_layout.specs.Bytes.{part}
use Rattle.pos_reader.proofs.HeaderLemmas.{end_of-at}
use Rattle.pos_layout.specs.Fields.{layout_in}
use Rattle.pos_layout.specs.Reading.{read_park, numbers_by}
use Rattle.pos_reader.specs.declared.refusal.ReadRefusal.TheVariants.{Damage as Found}
use Rattle.pos_reader.proofs.AnswerLemmas.{damage_of}
use Rattle.pos_reader.specs.Plots.{HoldsPlot}
use Rattle.pos_reader.specs.ReadingCauses.{IsListed}
use Rattle.pos_reader.proofs.EntryLemmas.{listed_means, longest_small, park_found, park_refused}
use Rattle.pos_reader.proofs.ReadLemmas.{reads_then, holds_after, size_after}
use Rattle.pos_reader.proofs.reads.read_park.Goals as goal
use Rattle.pos_reader.proofs.reads.read_park.Given.{Over}
use Rattle.pos_reader.proofs.reads.read_park.Goals.{In_ok-entry, In_ok-read}

is : (g : Over) (c : In_ok-entry g) → IsListed c.args.header.now.layout c.args.header.now c.args.t c.args.park c.in_ok-entry.entry
is g c = listed_means c.args.header.now c.args.t c.args.park c.in_ok-entry.entry c.in_ok-entry.ensures.listed

fits : (g : Over) (c : In_ok-entry g) → c.in_ok-entry.entry.park_length ≤ length c.args.bytes.now
fits g c = let l = is g c in let short = l.short in let room = c.requires.bytes in omega arith

taken : (g : Over) (c : In_ok-entry g) → length (take c.in_ok-entry.entry.park_length c.args.bytes.now) ≡ c.in_ok-entry.entry.park_length
taken g c = length-take-le c.in_ok-entry.entry.park_length c.args.bytes.now (fits g c)

-- the numbers are those of the park's bytes
found : (g : Over) (c : In_ok-read g) (memo b : List ℕ) → HoldsPlot c.args.file.0 c.args.header.now memo b (g.D.Disk.view c.args.disk.now)
    → read_park (layout_in b) b c.args.t c.args.park ≡ numbers_by c.args.header.now.layout c.args.header.now c.args.t c.args.park c.in_ok-entry.entry c.read.new.buf
found g c memo b holds =
    let after = holds_after 1 _ _ memo b _ _ c.in_ok-entry.ensures.reads c.requires.live holds in
    park_found b c.read.new.buf c.args.header.now c.args.t c.args.park c.in_ok-entry.entry holds.header (c.in_ok-entry.ensures.entry memo b holds)
    (c.in_ok-read.ensures.ok after.name b after.named after.contents ∙ ap (λ n. part b c.in_ok-entry.entry.offset n) (taken g (goal.at.In_ok-read g c).In_ok-entry))

pub returns-in_err-entry-clause-damage : goal.returns-in_err-entry-clause-damage
returns-in_err-entry-clause-damage g c = λ d same memo b holds.
    let p = err_from_is_err_and c.from_residual.result c.from_residual.ensures.1 in
    let e : c.in_err-entry.field-0.0 ≡ Found d = cc (p.1, p.2, same) in
    park_refused b c.args.t c.args.park d (damage_of c.in_err-entry.field-0.0 d _ e (c.in_err-entry.ensures.entry memo b holds))

pub slice_bounds-bytes-end : goal.slice_bounds-bytes-end
slice_bounds-bytes-end g c = fits g c

pub slice_bounds-bytes-end-2 : goal.slice_bounds-bytes-end-2
slice_bounds-bytes-end-2 g c = sym (taken g (goal.at.slice_bounds-bytes-end-2 g c).In_ok-entry)

pub read-requires-clause-short : goal.read-requires-clause-short
read-requires-clause-short g c =
    let len = taken g (goal.at.read-requires-clause-short g c).In_ok-entry in
    let l = is g (goal.at.read-requires-clause-short g c).In_ok-entry in
    let short = l.short in
    let small = longest_small c.args.header.now.layout c.args.header.now.size in
    omega arith

pub read-requires-clause-within : goal.read-requires-clause-within
read-requires-clause-within g c =
    let ok = (goal.at.read-requires-clause-within g c).In_ok-entry in
    let len = taken g ok in
    let inside = (is g ok).inside in
    let table = (c.requires.laid_out.placed c.args.t c.requires.park.first c.requires.park.last).inside in
    let stop = end_of-at c.args.header.now c.args.t c.requires.park.first in
    let whole = c.requires.whole in
    let size = size_after 1 _ _ _ c.in_ok-entry.ensures.reads c.requires.live in
    omega arith

pub returns-in_err-read-clause-reads : goal.returns-in_err-read-clause-reads
returns-in_err-read-clause-reads g c = reads_then 1 1 _ _ _ c.in_ok-entry.ensures.reads c.in_err-read.ensures.reads

pub returns-in-Err-clause-reads : goal.returns-in-Err-clause-reads
returns-in-Err-clause-reads g c = reads_then 1 1 _ _ _ c.in_ok-entry.ensures.reads c.in_ok-read.ensures.reads

pub returns-in-Ok-clause-reads : goal.returns-in-Ok-clause-reads
returns-in-Ok-clause-reads g c = reads_then 1 1 _ _ _ c.in_ok-entry.ensures.reads c.in_ok-read.ensures.reads

pub returns-in-Ok-clause-count : goal.returns-in-Ok-clause-count
returns-in-Ok-clause-count g c = (is g (goal.at.returns-in-Ok-clause-count g c).In_ok-entry).count

pub returns-in-Ok-clause-ok : goal.returns-in-Ok-clause-ok
returns-in-Ok-clause-ok g c = λ memo b holds.
    found g (goal.at.returns-in-Ok-clause-ok g c).In_ok-read memo b holds ∙ c.in-Ok.ensures.ok

pub returns-in-Err-clause-damage : goal.returns-in-Err-clause-damage
returns-in-Err-clause-damage g c = λ d same memo b holds.
    let e : c.in-Err.damage ≡ d = cc in
    found g (goal.at.returns-in-Err-clause-damage g c).In_ok-read memo b holds ∙ c.in-Err.ensures.damage ∙ ap (λ x. Err x) e
