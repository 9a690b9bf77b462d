use Rattle.std.proofs.Common.{ℕ, List}
use Rattle.pos_list_uses.specs.Eight.{EightPlainLists}
use Rattle.pos_list_uses.proofs.UsesLemmas.{eight-after}
use Rattle.pos_list_uses.proofs.eight.EightLists.pass_on.Goals as goal

pub returns-clause-kept : goal.returns-clause-kept
returns-clause-kept g c = λ (base : List ℕ) (xs : EightPlainLists) kept.
    let got = c.in_ok-pair.ensures in
    let pushed = c.in_ok-push.ensures in (
      c.in_ok-pair.pair,
      got.value xs.p6 kept.p6.holds,
      eight-after g.row.K base c.args.self.now xs c.get.new.self c.push.new.self c.in_ok-pair.pair (g.D.Disk.view c.args.disk.now) (g.D.Disk.view c.get.new.disk) (g.D.Disk.view c.push.new.disk)
          (g.met.D.Disk.is_disk c.get.new.disk) got.read got.stands got.list pushed.write pushed.stands pushed.list kept,
    )
