use Rattle.std.proofs.Common.{◌≡◌, length, arith, sym, ◌∙◌}
use Rattle.std.proofs.lemmas.Option.{slice_get-get_or}
use Rattle.pos_verify.proofs.LevelLemmas.{twice_groups, levels-next, levels-stop, levels-all}
use Rattle.pos_verify.proofs.root_of.Goals as goal

pub join_pairs-requires-clause-fit : goal.join_pairs-requires-clause-fit
join_pairs-requires-clause-fit c =
    let twice = twice_groups c.loop-level.level (omega arith) in
    λ q e below is. c.loop-level.invariant.fit q e (omega (arith, twice)) is

pub returns-in-Err-clause-err : goal.returns-in-Err-clause-err
returns-in-Err-clause-err c =
    levels-stop c.args.id.now.0 c.args.size c.args.values.now c.loop-level.level c.in-Err.pair c.loop-level.entries
    c.loop-level.auto.level (omega arith) c.in-Err.ensures.err c.loop-level.invariant

pub loop-level-preserved : goal.loop-level-preserved
loop-level-preserved c =
    levels-next c.args.id.now.0 c.args.size c.args.values.now c.loop-level.level c.loop-level.entries c.join_pairs.new.entries
    c.loop-level.auto.level (omega arith) c.in_default.ensures.len c.in_default.ensures.ok c.loop-level.invariant

pub returns-clause-ok : goal.returns-clause-ok
returns-clause-ok c =
    let len : length c.args.values.now ≡ 64 = omega arith in
    sym (levels-all c.args.id.now.0 c.args.size c.args.values.now c.loop-level.level c.loop-level.entries (omega arith) len c.loop-level.invariant)
    ∙ slice_get-get_or c.loop-level.entries 0 c.index-entries-0.result (omega (arith, c.loop-level.invariant.count))
