-- The first table that is not placed is the damage; with all placed, the end of the file is.
use Rattle.std.proofs.Common.{◌≡◌, ◌==◌, ◌-◌, ◌∙◌, [], sym, ap, arith}
use Rattle.pos_layout.specs.Fields.{end_of}
use Rattle.pos_layout.specs.declared.damage.Damage.TheVariants.{Directory}
use Rattle.pos_reader.proofs.HeaderLemmas.{eq_true, eq_false, first_passes, first_fails, misplaced_first, placed_all}
use Rattle.pos_reader.proofs.header.test_directories.Goals as goal

pub loop-table-init : goal.loop-table-init
loop-table-init c = record { ends = c.tables_start-end.ensures; placed = λ t first last. absurd (omega arith) }

pub returns-in-None-clause-damage : goal.returns-in-None-clause-damage
returns-in-None-clause-damage c =
    misplaced_first c.args.header.now c.loop-table.table (omega arith) (omega arith) c.loop-table.invariant.placed c.in-None.ensures.misplaced

pub returns-then-end-header-clause-ok : goal.returns-then-end-header-clause-ok
returns-then-end-header-clause-ok c =
    let h = c.args.header.now in
    let last : c.loop-table.table - 1 ≡ 7 = omega arith in
    let ends = c.loop-table.invariant.ends ∙ ap (λ t. end_of h.layout h t) last in
    placed_all h (λ s first to. c.loop-table.invariant.placed s first (omega arith))
    ∙ first_passes (end_of h.layout h 7 == h.file_length) (Directory 7 0) [] (eq_true _ _ (sym ends ∙ c.if-end-header.true))

pub returns-else-end-header-clause-damage : goal.returns-else-end-header-clause-damage
returns-else-end-header-clause-damage c =
    let h = c.args.header.now in
    let last : c.loop-table.table - 1 ≡ 7 = omega arith in
    let ends = c.loop-table.invariant.ends ∙ ap (λ t. end_of h.layout h t) last in
    placed_all h (λ s first to. c.loop-table.invariant.placed s first (omega arith))
    ∙ first_fails (end_of h.layout h 7 == h.file_length) (Directory 7 0) [] (eq_false _ _ (λ e. c.if-end-header.false (ends ∙ e)))
