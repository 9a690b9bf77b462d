use Rattle.pos_forward.proofs.StoreLemmas.{both_written, first_written, sealed_both}
use Rattle.pos_forward.proofs.store.seal_both.Goals as goal

pub returns-in_err-seal-clause-writes : goal.returns-in_err-seal-clause-writes
returns-in_err-seal-clause-writes g c =
    first_written c.args.first.now c.seal.new.self c.args.second.now (g.D.Disk.view c.args.disk.now) (g.D.Disk.view c.seal.new.disk) c.in_err-seal.ensures.write

pub returns-in_err-seal-2-clause-writes : goal.returns-in_err-seal-2-clause-writes
returns-in_err-seal-2-clause-writes g c =
    both_written c.args.first.now c.seal.new.self c.args.second.now c.seal-2.new.self (g.D.Disk.view c.args.disk.now) (g.D.Disk.view c.seal.new.disk) (g.D.Disk.view c.seal-2.new.disk)
    c.in_ok-seal.ensures.write c.in_err-seal-2.ensures.write

pub returns-clause-writes : goal.returns-clause-writes
returns-clause-writes g c =
    both_written c.args.first.now c.seal.new.self c.args.second.now c.seal-2.new.self (g.D.Disk.view c.args.disk.now) (g.D.Disk.view c.seal.new.disk) (g.D.Disk.view c.seal-2.new.disk)
    c.in_ok-seal.ensures.write c.in_ok-seal-2.ensures.write

pub returns-clause-sealed : goal.returns-clause-sealed
returns-clause-sealed g c =
    let one = c.in_ok-seal.ensures in
    let two = c.in_ok-seal-2.ensures in
    sealed_both g.R.Record.read g.R.Record.bit_count g.S.Record.read g.S.Record.bit_count c.args.first.now c.seal.new.self c.args.second.now c.seal-2.new.self
    (g.D.Disk.view c.args.disk.now) (g.D.Disk.view c.seal.new.disk) (g.D.Disk.view c.seal-2.new.disk) (g.met.D.Disk.is_disk c.args.disk.now) (g.met.D.Disk.is_disk c.seal.new.disk)
    one.write one.stands one.sealed one.list two.write two.stands two.sealed two.list
