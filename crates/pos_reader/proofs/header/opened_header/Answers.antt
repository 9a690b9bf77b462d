-- The tests of opening, in their order.
use Rattle.std.proofs.Common.{◌≡◌, ◌∙◌, Some, sym, ap, subst, true}
use Rattle.pos_layout.specs.declared.damage.Damage.TheVariants.{Length}
use Rattle.pos_layout.specs.Fields.{header_in, layout_in}
use Rattle.pos_layout.proofs.LayoutLemmas.{header_layout}
use Rattle.pos_layout.specs.Damages.{directory_fault, opening}
use Rattle.pos_reader.specs.Steps.{HasCounts}
use Rattle.pos_reader.proofs.HeaderLemmas.{is_gated, gated, short_gate, shut_gate, opening-gate, opening-header, opening-length, opening-rest, header_right}
use Rattle.pos_reader.proofs.header.opened_header.Goals as goal
use Rattle.pos_reader.proofs.header.opened_header.Goals.{Else-gate-ne-OPEN_GATE, In-Ok, then-file_length-via-then-file_length, then-file_length-via-else-file_length+then-gate-ne-OPEN_GATE}

open_gate : (c : Else-gate-ne-OPEN_GATE) → is_gated c.args.bytes.now c.args.file_length ≡ true
open_gate c = gated c.args.bytes.now c.args.file_length c.if-file_length.false c.if-gate-ne-OPEN_GATE.false

pub returns-then-file_length-clause-damage : goal.returns-then-file_length-clause-damage
returns-then-file_length-clause-damage c = opening-gate c.args.bytes.now c.args.file_length
    (elim c.then-file_length.branch [
      | then-file_length-via-then-file_length w ↦ short_gate c.args.bytes.now c.args.file_length w.if-file_length.true
      | then-file_length-via-else-file_length+then-gate-ne-OPEN_GATE w ↦ shut_gate c.args.bytes.now c.args.file_length w.if-gate-ne-OPEN_GATE.true
    ])

pub returns-in-Err-clause-damage : goal.returns-in-Err-clause-damage
returns-in-Err-clause-damage c =
    opening-header c.args.bytes.now c.args.file_length c.in-Err.field (open_gate (goal.at.returns-in-Err-clause-damage c).Else-gate-ne-OPEN_GATE) c.in-Err.ensures.fault

pub returns-then-header-file_length-clause-damage :
    goal.returns-then-header-file_length-clause-damage
returns-then-header-file_length-clause-damage c =
    let gate = open_gate (goal.at.returns-then-header-file_length-clause-damage c).Else-gate-ne-OPEN_GATE in
    let same = c.in-Ok.ensures.ok in
    opening-length c.args.bytes.now c.args.file_length gate c.in-Ok.ensures.no_fault (λ e. c.if-header-file_length.true (ap (λ h. h.file_length) same ∙ e))
    ∙ ap (λ h. Some (Length h.file_length c.args.file_length)) (sym same)

pub test_directories-requires : goal.test_directories-requires
test_directories-requires c = subst HasCounts (sym c.in-Ok.ensures.ok) (header_right c.args.bytes.now c.in-Ok.ensures.no_fault).counts

-- opening finds what the test of the directories finds
rest : (c : In-Ok) (said : c.in-Ok.header.file_length ≡ c.args.file_length) → opening (layout_in c.args.bytes.now) c.args.bytes.now c.args.file_length ≡ directory_fault c.in-Ok.header.layout c.in-Ok.header
rest c said =
    let same = c.in-Ok.ensures.ok in
    opening-rest c.args.bytes.now c.args.file_length (open_gate (goal.at.In-Ok c).Else-gate-ne-OPEN_GATE) c.in-Ok.ensures.no_fault (sym (ap (λ h. h.file_length) same) ∙ said)
    ∙ ap (λ l. directory_fault l (header_in c.args.bytes.now)) (sym (header_layout c.args.bytes.now)) ∙ ap (λ h. directory_fault h.layout h) (sym same)

pub returns-in-Ok-test_directories-clause-no_damage :
    goal.returns-in-Ok-test_directories-clause-no_damage
returns-in-Ok-test_directories-clause-no_damage c =
    rest (goal.at.returns-in-Ok-test_directories-clause-no_damage c).In-Ok c.if-header-file_length.false ∙ c.in-Ok-test_directories.ensures.ok

pub returns-in-Err-test_directories-clause-damage :
    goal.returns-in-Err-test_directories-clause-damage
returns-in-Err-test_directories-clause-damage c =
    rest (goal.at.returns-in-Err-test_directories-clause-damage c).In-Ok c.if-header-file_length.false ∙ c.in-Err-test_directories.ensures.damage
