use Rattle.pos_list_uses.proofs.UsesLemmas.{copied-more}
use Rattle.pos_list_uses.proofs.copy.copy_pairs.Goals as goal

pub loop-i-preserved : goal.loop-i-preserved
loop-i-preserved g c =
    let got = c.in_ok-pair.ensures in
    let pushed = c.in_ok-push.ensures in record {
      copied =
          copied-more g.row.K c.loop-i.i c.args.from.now c.loop-i.from c.get.new.self c.args.to.now c.loop-i.to c.push.new.self c.in_ok-pair.pair (g.D.Disk.view c.args.disk.now) (g.D.Disk.view c.loop-i.disk)
          (g.D.Disk.view c.get.new.disk) (g.D.Disk.view c.push.new.disk) (g.met.D.Disk.is_disk c.get.new.disk) c.requires.apart got.read got.stands got.list got.value got.quiet pushed.write pushed.stands pushed.more
          pushed.list pushed.quiet c.loop-i.invariant.copied;
      end = c.loop-i.invariant.end;
    }
