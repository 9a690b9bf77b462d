-- The place that was read has the name, or not.
use Rattle.std.proofs.Common.{◌∙◌, sym, below_more, arith}
use Rattle.std.proofs.lemmas.Bool.{false≢true, both_ways}
use Rattle.std.proofs.lemmas.Slice.Eq.{bytes_eq-Decides}
use Rattle.pos_edge.proofs.Blanks.{there_at, not_there_at}
use Rattle.pos_edge.proofs.doubles.blank_disk.find.Goals as goal
use Rattle.pos_edge.proofs.doubles.blank_disk.find.Goals.{else-file-via-then-file+else-eq, else-file-via-else-file}

pub returns-then-eq-clause-found : goal.returns-then-eq-clause-found
returns-then-eq-clause-found c = (
  c.loop-i-test.true,
  there_at c.args.files.now c.loop-i.i c.index-files-i.result c.args.name.now c.loop-i-test.true c.index-files-i.is c.if-file.true
      (sym c.as_str.ensures.value ∙ (bytes_eq-Decides c.as_str.result.now c.args.name.now).0 (sym c.eq.ensures ∙ c.if-eq.true)),
)

pub loop-i-preserved : goal.loop-i-preserved
loop-i-preserved c = below_more _ _ c.loop-i.invariant
    (not_there_at c.args.files.now c.loop-i.i c.index-files-i.result c.args.name.now c.loop-i-test.true c.index-files-i.is
    (λ there is. elim c.else-file.branch [
      | else-file-via-then-file+else-eq w ↦ false≢true (sym w.if-eq.false ∙ (w.eq.ensures ∙ (bytes_eq-Decides w.as_str.result.now c.args.name.now).1 (w.as_str.ensures.value ∙ is)))
      | else-file-via-else-file w ↦ both_ways _ w.if-file.false there
    ]))

pub returns-clause-none : goal.returns-clause-none
returns-clause-none c = λ i h. c.loop-i.invariant i (omega (arith, c.loop-i-test.false))
