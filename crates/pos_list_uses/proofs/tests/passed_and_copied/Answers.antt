use Rattle.std.proofs.Common.{◌+◌, arith}
use Rattle.pos_edge.specs.ScratchWork.{IsNameBetween}
use Rattle.pos_list_uses.proofs.UsesLemmas.{stands-made}
use Rattle.pos_list_uses.proofs.tests.passed_and_copied.Goals as goal

pub copy_pairs-requires : goal.copy_pairs-requires
copy_pairs-requires g c =
    let lists = c.in_ok-lists.ensures in
    let passed = c.in_ok-pass_on.ensures in
    let sealed = c.in_ok-seal.ensures in
    let copy = c.in_ok-copy.ensures in
    let none = lists.none in
    let one = passed.more.count in
    let same_count = sealed.sealed.count in
    let empty = copy.ok.count in
    let seventh = lists.number in
    let after_passing = passed.same.number in
    let after_sealing = sealed.write.same.number in
    let eighth = copy.ok.number in
    let made = lists.made in (
      omega arith,
      (
        (omega arith, omega arith),
        (
          sealed.sealed.is_sealed,
          (
            copy.ok.is_sealed,
            (
              omega arith,
              (
                stands-made 26 c.with_two_pairs.new.scratch c.seal.new.self c.in_ok-copy.copy
                    (IsNameBetween c.with_two_pairs.new.scratch.base c.with_two_pairs.new.scratch.made (c.new-2.new.scratch.made + 1)) (g.D.Disk.view c.seal.new.disk) (g.D.Disk.view c.new-2.new.disk)
                    c.new-2.ensures.work.kept copy.ok sealed.stands,
                (copy.stands, λ e. omega arith),
              ),
            ),
          ),
        ),
      ),
    )
