use Rattle.std.proofs.Common.{◌≡◌, ℕ, ◌<◌, ◌≤◌, ◌+◌, ◌*◌, ◌^◌, ◌%◌, map, Err, sym, subst, inl, arith, lit<}
use Rattle.std.proofs.Math.Pow.{pow_mono}
use Rattle.std.proofs.lemmas.List.{length-map}
use Rattle.std.proofs.lemmas.Nat.{one_shl}
use Rattle.std.proofs.lemmas.Result.{err_from_is_err_and}
use Rattle.pos_lists.specs.Rank.{first_in}
use Rattle.pos_layout.specs.Drafts.{added}
use Rattle.pos_layout.specs.Writing.{Goes, OneMore}
use Rattle.pos_relocate.specs.Passes.{IsPass}
use Rattle.pos_relocate.proofs.EntryLemmas.{point_at, place_at}
use Rattle.pos_relocate.proofs.AddingLemmas.{AddedSoFar, added_all, added_next, added_none, added_repeats, added_stands, added_takes}
use Rattle.pos_relocate.proofs.PassLemmas.{pass_damage, pass_exit, pass_then, works_pass}
use Rattle.pos_relocate.proofs.numbering.add_points.Goals as goal

pub loop-entry-init : goal.loop-entry-init
loop-entry-init g c = added_none g.row.K (map g.P.Pointed.pair c.args.records.now) c.args.writer.now (g.D.Disk.view c.args.disk.now) c.requires.stands c.requires.empty

pub loop-entry-preserved : goal.loop-entry-preserved
loop-entry-preserved g c =
    let xs = map g.P.Pointed.pair c.args.records.now in
    let i = c.loop-entry.entry-index in
    let is : c.point-point.result ≡ first_in xs i = point_at g.P.Pointed.pair c.args.records.now i c.point-point.result c.entry-item.result c.loop-entry-test.true c.entry-item.is c.point-point.ensures in
    let len = length-map c.args.records.now g.P.Pointed.pair in
    let not_below = c.if-point-least.false in
    let old = g.D.Disk.view c.args.disk.now in
    let mid = g.D.Disk.view c.loop-entry.disk in
    let new = g.D.Disk.view c.add.new.disk in
    let ensured = c.in_ok-add.ensures in
    let next : AddedSoFar g.row.K (i + 1) (first_in xs i + 1) xs c.args.writer.now c.add.new.self old new = added_next c.in_ok-add.field-0 g.row.K i c.loop-entry.least xs c.args.writer.now c.loop-entry.writer c.add.new.self old mid new
    (omega (arith, len, c.loop-entry-test.true)) c.loop-entry.invariant (omega (arith, not_below, is)) ensured.works ensured.same ensured.columns
    (subst (λ (n : ℕ). OneMore n c.loop-entry.writer c.add.new.self) is ensured.one_more)
    (subst (λ (n : ℕ). Goes (added n) c.loop-entry.writer c.add.new.self mid new) is ensured.ok) in
    subst (λ (n : ℕ). AddedSoFar g.row.K (i + 1) (n + 1) xs c.args.writer.now c.add.new.self old new) (sym is) next

pub returns-then-point-least-clause-damage : goal.returns-then-point-least-clause-damage
returns-then-point-least-clause-damage g c = λ damage is.
    let i = c.loop-entry.entry-index in
    let k = g.row.K in
    let size = c.requires.size in
    let limit : 1 * 2 ^ (2 * k + 2) % 2 ^ 128 ≡ 2 ^ (2 * k + 2) = one_shl (2 * k + 2) 128 (omega arith) in
    added_repeats g.P.Pointed.pair c.args.records.now k i c.loop-entry.least c.point-point.result c.old.result c.args.file (1 * 2 ^ (2 * k + 2) % 2 ^ 128) (2 ^ (2 * k + 2))
    c.args.writer.now c.loop-entry.writer (g.D.Disk.view c.args.disk.now) (g.D.Disk.view c.loop-entry.disk) damage c.requires.sorted c.loop-entry-test.true c.loop-entry.invariant c.if-point-least.true
    (point_at g.P.Pointed.pair c.args.records.now i c.point-point.result c.entry-item.result c.loop-entry-test.true c.entry-item.is c.point-point.ensures)
    (place_at g.P.Pointed.pair c.args.records.now i c.old.result c.entry-item.result c.loop-entry-test.true c.entry-item.is c.old.ensures)
    limit (cc)

pub returns-then-point-least-clause-pass : goal.returns-then-point-least-clause-pass
returns-then-point-least-clause-pass g c = pass_damage _ c.args.writer.now.file _ (g.D.Disk.view c.args.disk.now) (g.D.Disk.view c.loop-entry.disk) (inl c.if-point-least.true) c.loop-entry.invariant.writes c.loop-entry.invariant.faults

pub add-requires-clause-stands : goal.add-requires-clause-stands
add-requires-clause-stands g c = added_stands g.row.K c.loop-entry.entry-index c.loop-entry.least (map g.P.Pointed.pair c.args.records.now) c.args.writer.now c.loop-entry.writer
    (g.D.Disk.view c.args.disk.now) (g.D.Disk.view c.loop-entry.disk) c.loop-entry.invariant

pub add-requires-clause-next : goal.add-requires-clause-next
add-requires-clause-next g c =
    let xs = map g.P.Pointed.pair c.args.records.now in
    let i = c.loop-entry.entry-index in
    let is : c.point-point.result ≡ first_in xs i = point_at g.P.Pointed.pair c.args.records.now i c.point-point.result c.entry-item.result c.loop-entry-test.true c.entry-item.is c.point-point.ensures in
    let low = c.requires.small i c.loop-entry-test.true in
    added_takes g.row.K i c.loop-entry.least c.point-point.result xs c.args.writer.now c.loop-entry.writer (g.D.Disk.view c.args.disk.now) (g.D.Disk.view c.loop-entry.disk) c.loop-entry.invariant
    c.if-point-least.false (subst (λ (n : ℕ). n < 2 ^ (2 * g.row.K + 2)) (sym is) low) (let few = c.requires.few in let l = c.loop-entry-test.true in omega arith)

pub returns-in_err-add-clause-pass : goal.returns-in_err-add-clause-pass
returns-in_err-add-clause-pass g c =
    let was = c.loop-entry.invariant in
    let old = g.D.Disk.view c.args.disk.now in
    let mid = g.D.Disk.view c.loop-entry.disk in
    let new = g.D.Disk.view c.add.new.disk in
    let p = err_from_is_err_and c.from_residual.result c.from_residual.ensures.1 in
    pass_exit c.args.writer.now.file c.from_residual.result p.0 c.in_err-add.field-0.0 old new p.1 p.2
    (pass_then c.args.writer.now.file (Err c.in_err-add.field-0.0) old mid new was.standing.1.keeps.file.bytes.live was.writes was.faults
    (subst (λ (f : ℕ). IsPass f (Err c.in_err-add.field-0.0) mid new) was.same.file (works_pass c.loop-entry.writer.file (Err c.in_err-add.field-0.0) mid new c.in_err-add.ensures.works)))

pub overflow_add-least : goal.overflow_add-least
overflow_add-least g c =
    let xs = map g.P.Pointed.pair c.args.records.now in
    let i = c.loop-entry.entry-index in
    let k = g.row.K in
    let is : c.point-point.result ≡ first_in xs i = point_at g.P.Pointed.pair c.args.records.now i c.point-point.result c.entry-item.result c.loop-entry-test.true c.entry-item.is c.point-point.ensures in
    let low = c.requires.small i c.loop-entry-test.true in
    let size = c.requires.size in
    let wide : 2 * k + 2 ≤ 102 = omega arith in
    let most : 2 ^ (2 * k + 2) ≤ 2 ^ 102 = pow_mono wide in
    let few : 2 ^ 102 + 1 < 2 ^ 128 = lit< tt in
    omega arith

pub returns-clause-rise : goal.returns-clause-rise
returns-clause-rise g c =
    (added_all g.row.K c.loop-entry.least c.loop-entry.entry-index (map g.P.Pointed.pair c.args.records.now) c.args.writer.now c.loop-entry.writer (g.D.Disk.view c.args.disk.now) (g.D.Disk.view c.loop-entry.disk)
    (let len = length-map c.args.records.now g.P.Pointed.pair in let end = c.loop-entry-test.false in let most = c.loop-entry.auto.entry-index-end in omega arith) c.loop-entry.invariant).0

pub returns-clause-ok : goal.returns-clause-ok
returns-clause-ok g c =
    (added_all g.row.K c.loop-entry.least c.loop-entry.entry-index (map g.P.Pointed.pair c.args.records.now) c.args.writer.now c.loop-entry.writer (g.D.Disk.view c.args.disk.now) (g.D.Disk.view c.loop-entry.disk)
    (let len = length-map c.args.records.now g.P.Pointed.pair in let end = c.loop-entry-test.false in let most = c.loop-entry.auto.entry-index-end in omega arith) c.loop-entry.invariant).1
