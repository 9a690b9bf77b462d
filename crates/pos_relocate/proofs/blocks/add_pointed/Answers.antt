use Rattle.std.proofs.Common.{◌≡◌, ℕ, ◌+◌, ◌<◌, ◌≤◌, ◌++◌, Err, List, length, map, take, get_or, refl, inl, inr, sym, ap, ◌∙◌, subst, arith}
use Rattle.std.specs.Prelude.{IfErr}
use Rattle.std.proofs.lemmas.List.{get_or_default, take_all}
use Rattle.std.proofs.lemmas.List.Elements.{All-get_or, Contains-get_or}
use Rattle.std.proofs.lemmas.Result.{err_from_is_err_and}
use Rattle.pos_relocate.specs.declared.blocks.Unpacked.{Unpacked}
use Rattle.pos_relocate.specs.Blocks.{AreApartOver, IsPointFault, pointed_of}
use Rattle.pos_relocate.specs.Numbers.{numbers_of}
use Rattle.pos_relocate.proofs.BlockLemmas.{apart_next, apart_none, no_pair, pointed_next, pointed_none}
use Rattle.pos_relocate.proofs.blocks.add_pointed.Goals as goal

pub loop-i-init : goal.loop-i-init
loop-i-init g c = record { put = pointed_none g.P.Pointed.pair (numbers_of c.args.below.now) c.args.entries.now.items; apart = apart_none (numbers_of c.args.below.now) }

pub loop-i-preserved : goal.loop-i-preserved
loop-i-preserved g c =
    let below = numbers_of c.args.below.now in
    let us = c.args.pairs.now in
    let i = c.loop-i.i in
    let u = get_or us i no_pair in
    let l = c.loop-i-test.true in
    let is : u ≡ get_or us i u = get_or_default us i no_pair u l in
    record {
      put = pointed_next g.P.Pointed.pair below c.args.entries.now.items c.loop-i.entries.items c.push.new.items.items us i u c.in_ok-entry.entry l is c.loop-i.invariant.put c.in_ok-push.ensures.ok c.in_ok-entry.ensures.ok;
      apart = apart_next below us i u l is c.loop-i.invariant.apart c.in_ok-entry.ensures.apart;
    }

pub pointed-requires : goal.pointed-requires
pointed-requires g c =
    let both = All-get_or (λ (pair : Unpacked). (pair.left < length (numbers_of c.args.below.now)) × (pair.right < length (numbers_of c.args.below.now))) c.args.pairs.now c.loop-i.i no_pair c.loop-i-test.true c.requires.inside in
    record {
      numbers = c.requires.numbers;
      small = c.requires.small;
      exact = c.requires.exact;
      left = both.0;
      right = both.1;
    }

pub returns-clause-ok : goal.returns-clause-ok
returns-clause-ok g c =
    c.loop-i.invariant.put ∙ ap (λ (ps : List Unpacked). map g.P.Pointed.pair c.args.entries.now.items ++ pointed_of (numbers_of c.args.below.now) ps) (take_all c.loop-i.i c.args.pairs.now c.loop-i-test.false)

pub returns-clause-apart : goal.returns-clause-apart
returns-clause-apart g c = subst (λ (ps : List Unpacked). AreApartOver (numbers_of c.args.below.now) ps) (take_all c.loop-i.i c.args.pairs.now c.loop-i-test.false) c.loop-i.invariant.apart

pub returns-in_err-entry-clause-fault : goal.returns-in_err-entry-clause-fault
returns-in_err-entry-clause-fault g c =
    let e = err_from_is_err_and c.from_residual.result c.from_residual.ensures.1 in
    let us = c.args.pairs.now in
    let P = IsPointFault c.args.limit c.args.file (numbers_of c.args.below.now) us in
    subst (λ r. IfErr r P) (sym (e.1 ∙ ap (λ f. Err f) e.2))
    (inr (get_or us c.loop-i.i no_pair, Contains-get_or us c.loop-i.i no_pair c.loop-i-test.true, c.in_err-entry.ensures.same, c.in_err-entry.ensures.damage))

pub returns-in_err-push-clause-fault : goal.returns-in_err-push-clause-fault
returns-in_err-push-clause-fault g c =
    let e = err_from_is_err_and c.from_residual-in_err-push.result c.from_residual-in_err-push.ensures.1 in
    let P = IsPointFault c.args.limit c.args.file (numbers_of c.args.below.now) c.args.pairs.now in
    subst (λ r. IfErr r P) (sym (e.1 ∙ ap (λ f. Err f) e.2)) (inl c.in_err-push.ensures.fault)
