use Rattle.std.proofs.Common.{◌≡◌, ◌++◌, Some, None, ap}
use Rattle.std.proofs.lemmas.Bool.Decides.{Decides-eqb}
use Rattle.std.proofs.lemmas.Slice.Eq.{strip_prefix_is}
use Rattle.pos_app.proofs.NameLemmas.{behind_base, without_base}
use Rattle.pos_app.proofs.command.begins_as_scratch.Goals as goal

pub returns-in-Some : goal.returns-in-Some
returns-in-Some c =
    let e : c.args.name.now ≡ c.args.base.now ++ c.in-Some.rest.now =
    ap (λ s. s) (strip_prefix_is Decides-eqb c.args.name.now c.args.base.now (Some c.in-Some.rest) (rw (c.as_bytes.ensures.value, c.as_bytes-2.ensures.value) at c.in-Some.ensures.cases)) in
    behind_base c.args.base.now c.args.name.now c.in-Some.rest.now _ e c.begins_with_stop.ensures

pub returns-in-None : goal.returns-in-None
returns-in-None c = without_base c.args.base.now c.args.name.now
    (strip_prefix_is Decides-eqb c.args.name.now c.args.base.now None (rw (c.as_bytes.ensures.value, c.as_bytes-2.ensures.value) at c.in-None.ensures.cases))
