-- The list was read and its plots were asked, or why there is no list is said.
use Rattle.std.proofs.Common.{◌≤◌, Global, String, List, map, string_bytes, subst, sym}
use Rattle.std.proofs.lemmas.List.{length-map}
use Rattle.pos_farm.specs.declared.list.TheConstants.{MOST_NAMES}
use Rattle.pos_app.specs.FarmAnswers.{SaysAnswers}
use Rattle.pos_app.proofs.FarmLemmas.{list_fault_said, list_refused, names_asked}
use Rattle.pos_app.proofs.FileLemmas.{kept_then}
use Rattle.pos_app.proofs.farming.run_farm.Goals as goal

pub returns-in-Ok-clause-farm : goal.returns-in-Ok-clause-farm
returns-in-Ok-clause-farm g c =
    let before = g.D.Disk.view c.args.disk.now in
    let between = g.D.Disk.view c.read_list.new.disk in
    let after = g.D.Disk.view c.ask_names.new.disk in
    names_asked c.args.question.now.file.now c.args.question.now.challenge.0 (map (string_bytes {Z = Global}) c.in-Ok.names.items) before between after
    c.ask_names.result _ _ c.in-Ok.ensures.kept c.in-Ok.ensures.faults.quiet
    (subst (λ n. n ≤ MOST_NAMES) (sym (length-map c.in-Ok.names.items (string_bytes {Z = Global}))) c.in-Ok.ensures.few) c.in-Ok.ensures.names
    (subst (λ (ns : List (String Global)). SaysAnswers (map (string_bytes {Z = Global}) ns) c.args.question.now.challenge.0 between after c.ask_names.result
    (g.S.Sink.heard c.args.out.now) (g.S.Sink.heard c.ask_names.new.out)) c.as_slice.ensures.value c.ask_names.ensures.said)

pub returns-in-Ok-clause-files : goal.returns-in-Ok-clause-files
returns-in-Ok-clause-files g c = kept_then _ _ _ c.in-Ok.ensures.kept c.ask_names.ensures.files

pub returns-in-Err-clause-farm : goal.returns-in-Err-clause-farm
returns-in-Err-clause-farm g c =
    let before = g.D.Disk.view c.args.disk.now in
    let after = g.D.Disk.view c.read_list.new.disk in
    list_fault_said c.args.question.now.file.now c.args.question.now.challenge.0 before after c.in-Err.fault c.say_list_fault.result _ _
    (list_refused _ c.args.question.now.file.now before after c.in-Err.fault c.in-Err.ensures.faults c.in-Err.ensures.reads c.in-Err.ensures.absent c.in-Err.ensures.line)
    c.say_list_fault.ensures.said
