use Rattle.std.proofs.Common.{◌≡◌, ◌+◌, ◌-◌, ◌<◌, suc, ap, ◌∙◌, subst, arith}
use Rattle.pos_runs.specs.Runs.{pages_at}
use Rattle.pos_prune.proofs.PassLemmas.{lists_none, lists_then}
use Rattle.pos_table_uses.proofs.tuple_tests.next_values.Goals as goal

-- numbers, found where nothing else is known
size : 640 < 9223372036854775808
size = omega arith

above : (level : _) → level + 2 - 1 ≡ suc level
above level = omega arith

pub loop-i-init : goal.loop-i-init
loop-i-init g c = record { stands = c.requires.stands; lists = lists_none c.args.tables.now }

pub joined_at-requires : goal.joined_at-requires
joined_at-requires g c =
    let now = c.loop-i.invariant in
    let there : c.loop-i.i < (pages_at c.loop-i.tables (suc c.args.level)).count = (let same = now.lists.count (suc c.args.level) in let all = c.count-i-end.ensures ∙ ap (λ x. (pages_at c.args.tables.now x).count) (above c.args.level) in let more = c.loop-i-test.true in omega arith) in
    (size, (c.requires.level, (c.requires.size, (now.stands, there))))

pub loop-i-preserved : goal.loop-i-preserved
loop-i-preserved g c =
    let now = c.loop-i.invariant in
    let got = c.in_ok-values.ensures in
    record { stands = got.stands; lists = lists_then c.args.tables.now c.loop-i.tables c.joined_at.new.tables now.lists got.lists }
