use Rattle.std.proofs.Common.{◌≡◌, ◌^◌, ◌<◌, arith, refl, ap, subst, ◌∙◌}
use Rattle.pos_tuple.specs.Stream.{f1_of}
use Rattle.pos_forward.specs.Tables.{AreValueRows}
use Rattle.pos_forward.proofs.FirstLemmas.{rows-none, rows-more}
use Rattle.pos_forward.proofs.first.list_values.Goals as goal

pub loop-x-init : goal.loop-x-init
loop-x-init c = (rows-none c.args.id.now.0 c.args.size c.clear.new.self.items c.clear.ensures.items, c.stream_words-words.ensures)

pub loop-x-preserved : goal.loop-x-preserved
loop-x-preserved c =
    let small : c.loop-x.x < 2 ^ c.args.size = omega arith in
    let y_is : c.f1_in_order-y.result ≡ f1_of c.args.id.now.0 c.args.size c.loop-x.x =
    c.f1_in_order-y.ensures.value ∙ ap (λ i. f1_of i c.args.size c.loop-x.x) c.loop-x.invariant.1 in (
      rows-more c.args.id.now.0 c.args.size c.loop-x.x c.loop-x.rows.items _ (record { y = c.f1_in_order-y.result; x = c.loop-x.x })
          c.loop-x.invariant.0 refl (record { y = y_is; fits = (c.f1_in_order-y.ensures.below, small) }) c.in_ok-push.ensures,
      c.f1_in_order-y.ensures.same ∙ c.loop-x.invariant.1,
    )

pub returns : goal.returns
returns c =
    let done : c.loop-x.x ≡ 2 ^ c.args.size = omega arith in
    subst (λ n. AreValueRows c.args.id.now.0 c.args.size n c.loop-x.rows.items) done c.loop-x.invariant.0
