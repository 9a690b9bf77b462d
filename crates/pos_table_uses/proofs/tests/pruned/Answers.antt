use Rattle.std.proofs.Common.{◌<◌, sym, ◌∙◌, arith}
use Rattle.pos_edge.specs.Frame.{Nothing}
use Rattle.pos_edge.proofs.ScratchWorkLemmas.{work_read}
use Rattle.pos_table_uses.proofs.tests.pruned.Goals as goal

-- numbers, found where nothing else is known
size : 640 < 9223372036854775808
size = omega arith

wide : 1240 < 9223372036854775808
wide = omega arith

pub prune-requires : goal.prune-requires
prune-requires g c =
    let a = g.D.Disk.view c.args.disk.now in
    let b = g.D.Disk.view c.find_reached.new.disk in
    let read = c.in_ok-found.ensures.read in
    let ts = c.requires.stands in (
      size,
      (
        wide,
        (
          c.requires.size,
          (
            c.requires.room,
            (
              (work_read Nothing Nothing c.args.scratch.now a b read.only).stands c.requires.files,
              (
                λ file is. c.requires.left file (is.0, is.1, is.2 ∙ read.lists.file is.0),
                (ts.0, read.stands ts.0 ts.1, λ told. ts.2 (sym read.only.kept.tells ∙ told)),
              ),
            ),
          ),
        ),
      ),
    )

pub all_compared-requires : goal.all_compared-requires
all_compared-requires g c =
    let found = c.in_ok-found.ensures in
    let count = c.in_ok-kept.ensures.counts in
    let read = found.read in
    let ts = c.requires.stands in
    let kept = c.in_ok-kept.ensures.kept ts.0 (read.stands ts.0 ts.1) (λ told. ts.2 (sym read.only.kept.tells ∙ told)) in (
      wide,
      (
        (c.prune.new.scratch, ts.0, kept),
        (
          found.of_table_2 ∙ (sym (read.lists.count 1) ∙ sym (count 1)),
          (
            found.of_table_3 ∙ (sym (read.lists.count 2) ∙ sym (count 2)),
            (
              found.of_table_4 ∙ (sym (read.lists.count 3) ∙ sym (count 3)),
              (
                found.of_table_5 ∙ (sym (read.lists.count 4) ∙ sym (count 4)),
                found.of_table_6 ∙ (sym (read.lists.count 5) ∙ sym (count 5)),
              ),
            ),
          ),
        ),
      ),
    )
