use Rattle.std.proofs.Common.{◌≡◌, ℕ, ◌<◌, ◌≤◌, ◌+◌, ◌*◌, ◌^◌, List, Err, Ok, map, length, sym, ap, ◌∙◌, refl, subst}
use Rattle.std.proofs.lemmas.List.Sorted.{IsPermutation-map}
use Rattle.std.specs.List.Sorted.{IsPermutation}
use Rattle.std.proofs.lemmas.Result.{err_from_is_err_and}
use Rattle.pos_edge.specs.declared.scratch.WorkFault.TheVariants.{Scratch}
use Rattle.pos_lists.specs.Rank.{first_in}
use Rattle.pos_laws.specs.Renumbering.{firsts}
use Rattle.pos_layout.specs.Writing.{with_numbers}
use Rattle.pos_relocate.specs.Passes.{IsPass, IsRepetition, IsPointedTable}
use Rattle.pos_relocate.proofs.EntryLemmas.{items_sorted, repeats_before, sorted_few, sorted_small}
use Rattle.pos_relocate.proofs.PassLemmas.{pass_done, pass_exit, pass_then, works_pass}
use Rattle.pos_relocate.proofs.numbering.add_sorted.Goals as goal

pub add_points-requires-clause-small : goal.add_points-requires-clause-small
add_points-requires-clause-small g c =
    let xs = c.args.records.items in
    let p : IsPermutation xs c.sort.new.records = subst (λ (olds : List g.row.P.Denot). IsPermutation olds c.sort.new.records) c.as_mut_slice.ensures.value c.sort.ensures.permuted in
    let is : c.deref.result.now ≡ c.sort.new.records = c.deref.ensures.value ∙ items_sorted c.args.records xs c.sort.new.records refl p in
    subst (λ (now : List g.row.P.Denot). (s : ℕ) → s < length now → first_in (map g.P.Pointed.pair now) s < 2 ^ (2 * g.row.K + 2)) (sym is)
    (sorted_small g.P.Pointed.pair c.args.count (2 ^ (2 * g.row.K + 2)) xs c.sort.new.records c.requires.listed p)

pub add_points-requires-clause-few : goal.add_points-requires-clause-few
add_points-requires-clause-few g c =
    let xs = c.args.records.items in
    let p : IsPermutation xs c.sort.new.records = subst (λ (olds : List g.row.P.Denot). IsPermutation olds c.sort.new.records) c.as_mut_slice.ensures.value c.sort.ensures.permuted in
    let is : c.deref.result.now ≡ c.sort.new.records = c.deref.ensures.value ∙ items_sorted c.args.records xs c.sort.new.records refl p in
    subst (λ (now : List g.row.P.Denot). length now ≤ 2 ^ (g.row.K + 1)) (sym is)
    (sorted_few g.P.Pointed.pair c.args.count (2 ^ (2 * g.row.K + 2)) (2 ^ (g.row.K + 1)) xs c.sort.new.records c.requires.listed p c.requires.few)

pub returns-in_err-add_points-clause-damage : goal.returns-in_err-add_points-clause-damage
returns-in_err-add_points-clause-damage g c = λ damage is_err.
    let xs = c.args.records.items in
    let p : IsPermutation xs c.sort.new.records = subst (λ (olds : List g.row.P.Denot). IsPermutation olds c.sort.new.records) c.as_mut_slice.ensures.value c.sort.ensures.permuted in
    let is : c.deref.result.now ≡ c.sort.new.records = c.deref.ensures.value ∙ items_sorted c.args.records xs c.sort.new.records refl p in
    let e = err_from_is_err_and c.from_residual.result c.from_residual.ensures.1 in
    let same : c.in_err-add_points.field-0.0 ≡ Scratch damage = (let a = e.1 in let b = e.2 in cc) in
    let found = c.in_err-add_points.ensures.damage damage (ap (λ f. Err f) same) in
    repeats_before g.P.Pointed.pair c.args.file (2 ^ (2 * g.row.K + 2)) xs c.sort.new.records damage p
    (subst (λ (now : List g.row.P.Denot). IsRepetition c.args.file (2 ^ (2 * g.row.K + 2)) (map g.P.Pointed.pair now) damage) is found)

pub end_table-requires-clause-stands : goal.end_table-requires-clause-stands
end_table-requires-clause-stands g c =
    let s = c.requires.stands in
    (with_numbers (firsts (map g.P.Pointed.pair c.deref.result.now)) s.0, c.in_ok-add_points.ensures.ok s.0 s.1)

pub returns-in_err-end_table-clause-pass : goal.returns-in_err-end_table-clause-pass
returns-in_err-end_table-clause-pass g c =
    let file = c.args.writer.now.file in
    let old = g.D.Disk.view c.args.disk.now in
    let mid = g.D.Disk.view c.add_points.new.disk in
    let new = g.D.Disk.view c.end_table.new.disk in
    let first = c.in_ok-add_points.ensures in
    let e = err_from_is_err_and c.from_residual-in_err-end_table.result c.from_residual-in_err-end_table.ensures.1 in
    pass_exit file c.from_residual-in_err-end_table.result e.0 c.in_err-end_table.field-0.0 old new e.1 e.2
    (pass_then file (Err c.in_err-end_table.field-0.0) old mid new c.requires.stands.1.keeps.file.bytes.live first.pass.writes first.pass.quiet
    (subst (λ (f : ℕ). IsPass f (Err c.in_err-end_table.field-0.0) mid new) first.same.file
    (works_pass c.add_points.new.writer.file (Err c.in_err-end_table.field-0.0) mid new c.in_err-end_table.ensures.works)))

pub returns-clause-pass : goal.returns-clause-pass
returns-clause-pass g c =
    let file = c.args.writer.now.file in
    let old = g.D.Disk.view c.args.disk.now in
    let mid = g.D.Disk.view c.add_points.new.disk in
    let new = g.D.Disk.view c.end_table.new.disk in
    let first = c.in_ok-add_points.ensures in
    let whole = pass_then file (Ok c.in_ok-end_table.field-0) old mid new c.requires.stands.1.keeps.file.bytes.live first.pass.writes first.pass.quiet
    (subst (λ (f : ℕ). IsPass f (Ok c.in_ok-end_table.field-0) mid new) first.same.file
    (works_pass c.add_points.new.writer.file (Ok c.in_ok-end_table.field-0) mid new c.in_ok-end_table.ensures.works)) in
    pass_done file _ old new whole.writes whole.quiet

pub returns-clause-ok : goal.returns-clause-ok
returns-clause-ok g c =
    let xs = c.args.records.items in
    let p : IsPermutation xs c.sort.new.records = subst (λ (olds : List g.row.P.Denot). IsPermutation olds c.sort.new.records) c.as_mut_slice.ensures.value c.sort.ensures.permuted in
    let items = items_sorted c.args.records xs c.sort.new.records refl p in
    let is : c.deref.result.now ≡ c.sort.new.records = c.deref.ensures.value ∙ items in
    let first = c.in_ok-add_points.ensures in
    let ns = map g.P.Pointed.pair c.deref.result.now in
    let table : IsPointedTable (map g.P.Pointed.pair xs) ns c.args.writer.now c.end_table.new.self (g.D.Disk.view c.args.disk.now) (g.D.Disk.view c.end_table.new.disk) = record {
      permuted = subst (λ (now : List g.row.P.Denot). IsPermutation (map g.P.Pointed.pair xs) (map g.P.Pointed.pair now)) (sym is) (IsPermutation-map g.P.Pointed.pair xs c.sort.new.records p);
      rise = first.rise;
      added = λ q s. c.in_ok-end_table.ensures.ok (with_numbers (firsts ns) q) (first.ok q s);
    } in
    subst (λ (now : List g.row.P.Denot). IsPointedTable (map g.P.Pointed.pair xs) (map g.P.Pointed.pair now) c.args.writer.now c.end_table.new.self (g.D.Disk.view c.args.disk.now) (g.D.Disk.view c.end_table.new.disk))
    c.deref.ensures.value table
