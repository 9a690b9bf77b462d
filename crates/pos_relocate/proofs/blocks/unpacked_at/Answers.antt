use Rattle.std.proofs.Common.{◌≡◌, ℕ, suc, ◌-◌, ◌≤◌, refl, ◌∙◌, subst, inl, inr, arith, lit<}
use Rattle.pos_record.specs.Kinds.{pair_width}
use Rattle.pos_runs.specs.Runs.{StandsSealed, pages_at}
use Rattle.pos_runs.proofs.TablesLemmas.{same_read}
use Rattle.pos_relocate.specs.Gathering.{IsOutsideBelow}
use Rattle.pos_relocate.proofs.PointingLemmas.{pair_outside}
use Rattle.pos_relocate.proofs.blocks.unpacked_at.Goals as goal

pub pair-requires : goal.pair-requires
pair-requires g c =
    let first = c.requires.can.first in
    let last = c.requires.can.last in
    let level : suc (c.args.t - 2) ≡ c.args.t - 1 = omega arith in
    let low : suc (c.args.t - 2) ≤ 6 = omega arith in
    let stands = subst (λ (n : ℕ). StandsSealed (pair_width g.row.K) (pages_at c.args.tables.now n) (g.D.Disk.view c.args.disk.now)) level (c.requires.can.stands.1.levels (suc (c.args.t - 2)) low) in
    (lit< tt, (c.requires.can.size, (first, (last, (stands, c.requires.there)))))

pub returns-then-left-count-clause-damage : goal.returns-then-left-count-clause-damage
returns-then-left-count-clause-damage g c = λ damage is ts stands told.
    let first = c.requires.can.first in
    let read = same_read g.row.K c.args.tables.now c.pair.new.self (c.args.t - 1) (g.D.Disk.view c.args.disk.now) (g.D.Disk.view c.pair.new.disk)
    (let e = stands.eight in let l = c.requires.can.last in omega arith) c.in_ok-left.ensures.others c.in_ok-left.ensures.read c.in_ok-left.ensures.stands in
    let file : c.file.result ≡ (pages_at c.args.tables.now (c.args.t - 1)).number = c.file.ensures ∙ read.numbers (c.args.t - 1) in
    (subst (λ (n : ℕ). IsOutsideBelow ts (c.args.t - 2) c.args.i n (pages_at c.args.tables.now (c.args.t - 1)).number damage) c.len-count.ensures
    (pair_outside ts c.args.t c.args.i c.in_ok-left.left c.in_ok-left.right c.in_ok-left.left c.len-count.result c.file.result _ damage first (c.in_ok-left.ensures.value ts stands told) (inl refl)
    c.if-left-count.true file (let e = c.outside.ensures in cc)))

pub returns-then-right-count-clause-damage : goal.returns-then-right-count-clause-damage
returns-then-right-count-clause-damage g c = λ damage is ts stands told.
    let first = c.requires.can.first in
    let read = same_read g.row.K c.args.tables.now c.pair.new.self (c.args.t - 1) (g.D.Disk.view c.args.disk.now) (g.D.Disk.view c.pair.new.disk)
    (let e = stands.eight in let l = c.requires.can.last in omega arith) c.in_ok-left.ensures.others c.in_ok-left.ensures.read c.in_ok-left.ensures.stands in
    let file : c.file-then-right-count.result ≡ (pages_at c.args.tables.now (c.args.t - 1)).number =
    c.file-then-right-count.ensures ∙ read.numbers (c.args.t - 1) in
    (subst (λ (n : ℕ). IsOutsideBelow ts (c.args.t - 2) c.args.i n (pages_at c.args.tables.now (c.args.t - 1)).number damage) c.len-count.ensures
    (pair_outside ts c.args.t c.args.i c.in_ok-left.left c.in_ok-left.right c.in_ok-left.right c.len-count.result c.file-then-right-count.result _ damage first (c.in_ok-left.ensures.value ts stands told) (inr refl)
    c.if-right-count.true file (let e = c.outside-then-right-count.ensures in cc)))

pub returns-clause-tables : goal.returns-clause-tables
returns-clause-tables g c = same_read g.row.K c.args.tables.now c.pair.new.self (c.args.t - 1) (g.D.Disk.view c.args.disk.now) (g.D.Disk.view c.pair.new.disk)
    (let e = c.requires.can.stands.1.eight in let l = c.requires.can.last in omega arith) c.in_ok-left.ensures.others c.in_ok-left.ensures.read c.in_ok-left.ensures.stands
