use Rattle.std.proofs.Common.{ℕ, List, [], ◌∷◌, ◌++◌, sym, ◌∙◌}
use Rattle.pos_record.specs.Kinds.{pair_read, pair_width, value_read}
use Rattle.pos_record.specs.declared.kinds.Pair.{Pair}
use Rattle.pos_record.specs.declared.kinds.Value.{Value}
use Rattle.pos_runs.proofs.KeptLemmas.{kept-beside, kept-got, kept-read, kept-write}
use Rattle.pos_list_uses.proofs.client.read_and_push.Goals as goal

pub returns-clause-from : goal.returns-clause-from
returns-clause-from g c = λ (base : List ℕ) (xs : List Pair) (ys : List Pair) from to.
    let k = g.row.K in
    let got = c.in_ok-item.ensures in
    let pushed = c.in_ok-push.ensures in
    kept-beside base (pair_read k) (pair_width k) c.get.new.self xs (pair_read k) (pair_width k) c.args.to.now ys (g.D.Disk.view c.get.new.disk) (g.D.Disk.view c.push.new.disk)
    (g.met.D.Disk.is_disk c.get.new.disk) pushed.write.frame pushed.write.ids (λ e. c.requires.to_apart (sym got.read.same.number ∙ e))
    (kept-read base (pair_read k) (pair_width k) c.args.to.now ys (g.D.Disk.view c.args.disk.now) (g.D.Disk.view c.get.new.disk) got.read.only to)
    (kept-got base (pair_read k) (pair_width k) c.args.from.now c.get.new.self xs (g.D.Disk.view c.args.disk.now) (g.D.Disk.view c.get.new.disk) got.read got.stands (got.list xs) from)

pub returns-clause-to : goal.returns-clause-to
returns-clause-to g c = λ (base : List ℕ) (xs : List Pair) (ys : List Pair) from to tells.
    let k = g.row.K in
    let got = c.in_ok-item.ensures in
    let pushed = c.in_ok-push.ensures in (
      c.in_ok-item.item,
      got.value xs from.holds tells,
      kept-write base (pair_read k) (pair_width k) c.args.to.now c.push.new.self ys (ys ++ c.in_ok-item.item ∷ []) (g.D.Disk.view c.get.new.disk) (g.D.Disk.view c.push.new.disk) pushed.write pushed.stands (pushed.list ys)
          (kept-read base (pair_read k) (pair_width k) c.args.to.now ys (g.D.Disk.view c.args.disk.now) (g.D.Disk.view c.get.new.disk) got.read.only to),
    )

pub returns-clause-idle : goal.returns-clause-idle
returns-clause-idle g c = λ (base : List ℕ) (ys : List Pair) (zs : List Value) to idle.
    let k = g.row.K in
    let got = c.in_ok-item.ensures in
    let pushed = c.in_ok-push.ensures in
    kept-beside base (value_read k) k c.args.idle.now zs (pair_read k) (pair_width k) c.args.to.now ys (g.D.Disk.view c.get.new.disk) (g.D.Disk.view c.push.new.disk)
    (g.met.D.Disk.is_disk c.get.new.disk) pushed.write.frame pushed.write.ids c.requires.idle_apart
    (kept-read base (pair_read k) (pair_width k) c.args.to.now ys (g.D.Disk.view c.args.disk.now) (g.D.Disk.view c.get.new.disk) got.read.only to)
    (kept-read base (value_read k) k c.args.idle.now zs (g.D.Disk.view c.args.disk.now) (g.D.Disk.view c.get.new.disk) got.read.only idle)
