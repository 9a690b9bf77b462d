use Rattle.std.proofs.Common.{◌<◌, refl, subst, sym, ◌∙◌}
use Rattle.std.proofs.lemmas.Option.{get_or_from_slice_get}
use Rattle.pos_forward.proofs.StoreLemmas.{more_none, more_step, writes_none, writes_then}
use Rattle.pos_forward.proofs.store.push_all.Goals as goal

pub returns-in_err-push_both-clause-writes : goal.returns-in_err-push_both-clause-writes
returns-in_err-push_both-clause-writes g c = writes_then _ _ _ _ _ _ _ _ _ c.loop-i.invariant.writes c.push_both.ensures.writes

pub loop-i-init : goal.loop-i-init
loop-i-init g c = record {
  writes = writes_none c.args.first.now c.args.second.now (g.D.Disk.view c.args.disk.now);
  more = more_none g.R.Record.read g.R.Record.bit_count g.S.Record.read g.S.Record.bit_count c.args.first.now c.args.second.now (g.D.Disk.view c.args.disk.now) c.requires.first_open c.requires.second_open;
  quiet = refl;
}

pub loop-i-preserved : goal.loop-i-preserved
loop-i-preserved g c =
    let before = c.loop-i.invariant in
    let one = c.in_ok-push_both.ensures in
    record {
      writes = writes_then _ _ _ _ _ _ _ _ _ before.writes one.writes;
      more = more_step g.R.Record.read g.R.Record.bit_count g.S.Record.read g.S.Record.bit_count g.R.MadeOf.made_of g.S.MadeOf.made_of (g.W.Rows.rows c.args.rows.now) c.loop-i.i c.row-row.result c.made_of.result c.made_of-in-loop-i.result
          _ _ _ _ _ _ _ _ _ (subst (λ n. c.loop-i.i < n) c.count-i-end.ensures c.loop-i-test.true) (sym (get_or_from_slice_get (g.W.Rows.rows c.args.rows.now) c.loop-i.i c.row-row.result c.row-row.result c.row-row.ensures)) c.made_of.ensures c.made_of-in-loop-i.ensures before.more one.more;
      quiet = one.quiet ∙ before.quiet;
    }
