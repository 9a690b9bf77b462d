-- The name that was read is the name at its place.
use Rattle.std.proofs.Common.{[], string_bytes, below_more, sym, ◌∙◌}
use Rattle.std.proofs.lemmas.Bool.{false≢true}
use Rattle.std.proofs.lemmas.Slice.Eq.{bytes_eq-Decides}
use Rattle.pos_edge.proofs.Kept.{map_read}
use Rattle.pos_edge.proofs.doubles.history.find.Goals as goal

pub returns-then-eq-clause-found : goal.returns-then-eq-clause-found
returns-then-eq-clause-found c = (
  c.loop-i-test.true,
  map_read string_bytes c.args.names.now c.loop-i.i c.index-names-i.result [] c.loop-i-test.true c.index-names-i.is
      ∙ (sym c.as_str.ensures.value ∙ (bytes_eq-Decides c.as_str.result.now c.args.name.now).0 (sym c.eq.ensures ∙ c.if-eq.true)),
)

pub loop-i-preserved : goal.loop-i-preserved
loop-i-preserved c = below_more _ _ c.loop-i.invariant
    (λ e. false≢true (sym c.if-eq.false ∙ (c.eq.ensures ∙ (bytes_eq-Decides c.as_str.result.now c.args.name.now).1
    (c.as_str.ensures.value ∙ (sym (map_read string_bytes c.args.names.now c.loop-i.i c.index-names-i.result [] c.loop-i-test.true c.index-names-i.is) ∙ e)))))
