use Rattle.pos_forward.proofs.StoreLemmas.{both_written, first_written, more_both}
use Rattle.pos_forward.proofs.store.push_both.Goals as goal

pub returns-in_err-push-clause-writes : goal.returns-in_err-push-clause-writes
returns-in_err-push-clause-writes g c =
    first_written c.args.first.now c.push.new.self c.args.second.now (g.D.Disk.view c.args.disk.now) (g.D.Disk.view c.push.new.disk) c.in_err-push.ensures.write

pub returns-in_err-push-2-clause-writes : goal.returns-in_err-push-2-clause-writes
returns-in_err-push-2-clause-writes g c =
    both_written c.args.first.now c.push.new.self c.args.second.now c.push-2.new.self (g.D.Disk.view c.args.disk.now) (g.D.Disk.view c.push.new.disk) (g.D.Disk.view c.push-2.new.disk)
    c.in_ok-push.ensures.write c.in_err-push-2.ensures.write

pub returns-clause-writes : goal.returns-clause-writes
returns-clause-writes g c =
    both_written c.args.first.now c.push.new.self c.args.second.now c.push-2.new.self (g.D.Disk.view c.args.disk.now) (g.D.Disk.view c.push.new.disk) (g.D.Disk.view c.push-2.new.disk)
    c.in_ok-push.ensures.write c.in_ok-push-2.ensures.write

pub returns-clause-more : goal.returns-clause-more
returns-clause-more g c =
    let one = c.in_ok-push.ensures in
    let two = c.in_ok-push-2.ensures in
    more_both g.R.Record.read g.R.Record.bit_count g.S.Record.read g.S.Record.bit_count c.args.first.now c.push.new.self c.args.second.now c.push-2.new.self c.args.item.now c.args.other.now
    (g.D.Disk.view c.args.disk.now) (g.D.Disk.view c.push.new.disk) (g.D.Disk.view c.push-2.new.disk) (g.met.D.Disk.is_disk c.args.disk.now) (g.met.D.Disk.is_disk c.push.new.disk)
    one.write one.stands one.more one.list two.write two.stands two.more two.list
