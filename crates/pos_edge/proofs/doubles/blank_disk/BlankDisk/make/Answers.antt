-- The name was not there, and is now.
use Rattle.std.proofs.Common.{◌≡◌, refl, ◌∙◌, ap, subst, rules, string_bytes}
use Rattle.pos_edge.specs.BlankDisks.{BlankState}
use Rattle.pos_edge.specs.BlankFiles.{blank_names, IsThereAt}
use Rattle.pos_edge.proofs.Blanks.{no_name, has_name, found_of, none_of, place_named, memory_exactly, made_exactly}
use Rattle.pos_edge.proofs.doubles.blank_disk.BlankDisk.make.Goals as goal

pub returns-then-is_some-clause-exactly : goal.returns-then-is_some-clause-exactly
returns-then-is_some-clause-exactly c =
    let found = found_of c.deref.result.now c.self.inside.files.items c.args.name.now c.find.result c.deref.ensures.value c.if-is_some.ensures c.find.ensures.found in
    let there = has_name c.args.self.now found.0 c.args.name.now (subst (λ (d : BlankState). IsThereAt d.names found.0 c.args.name.now) c.self.view_is found.2) in
    (λ e. there, λ h. refl)

pub returns-clause-made : goal.returns-clause-made
returns-clause-made c =
    let name : string_bytes c.in-Ok.text ≡ c.args.name.now = search rules in
    let same : blank_names c.reserve.new.self.items ≡ c.args.self.now.names = ap blank_names c.reserve.ensures.items ∙ ap (λ (d : BlankState). d.names) c.self.view_is in
    place_named c.reserve.new.self.items c.args.name.now (string_bytes c.in-Ok.text) (blank_names c.add.new.files.items) c.args.self.now same c.add.ensures name

pub returns-then-is_err-clause-exactly : goal.returns-then-is_err-clause-exactly
returns-then-is_err-clause-exactly c = memory_exactly c.args.name.now c.args.self.now
    (no_name c.self.inside.files.items c.args.self.now c.args.name.now (ap (λ (d : BlankState). d.names) c.self.view_is)
    (none_of c.deref.result.now c.self.inside.files.items c.args.name.now c.find.result c.deref.ensures.value c.if-is_some.ensures c.find.ensures.none))

pub returns-in_default-clause-exactly : goal.returns-in_default-clause-exactly
returns-in_default-clause-exactly c = memory_exactly c.args.name.now c.args.self.now
    (no_name c.self.inside.files.items c.args.self.now c.args.name.now (ap (λ (d : BlankState). d.names) c.self.view_is)
    (none_of c.deref.result.now c.self.inside.files.items c.args.name.now c.find.result c.deref.ensures.value c.if-is_some.ensures c.find.ensures.none))

pub returns-clause-exactly : goal.returns-clause-exactly
returns-clause-exactly c = made_exactly (record { 0 = c.give.result }) c.args.name.now c.args.self.now
    (no_name c.self.inside.files.items c.args.self.now c.args.name.now (ap (λ (d : BlankState). d.names) c.self.view_is)
    (none_of c.deref.result.now c.self.inside.files.items c.args.name.now c.find.result c.deref.ensures.value c.if-is_some.ensures c.find.ensures.none))
