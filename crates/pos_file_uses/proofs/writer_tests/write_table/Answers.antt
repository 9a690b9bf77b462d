use Rattle.std.proofs.Common.{◌≡◌, ◌≤◌, ◌<◌, ◌+◌, ◌*◌, ◌^◌, length, sym, ap, ◌∙◌, subst, rules, arith}
use Rattle.std.proofs.Math.Pow.{pow_mono}
use Rattle.pos_layout.specs.Drafts.{added, table_ended}
use Rattle.pos_layout.proofs.ShutLemmas.{on_ok}
use Rattle.pos_file_uses.proofs.writer_tests.write_table.Goals as goal

pub add-requires-clause-next : goal.add-requires-clause-next
add-requires-clause-next g c =
    let s = c.args.writer.now.size in
    let few = c.requires.few in
    let was = c.loop-number.invariant in
    let n : c.from.result ≡ c.loop-number.number = search rules in
    let wide : s + 1 ≤ 2 * s + 2 = omega arith in
    let p : 2 ^ (s + 1) ≤ 2 ^ (2 * s + 2) = pow_mono wide in
    let open' : length c.loop-number.writer.columns < 7 = omega (arith, ap length was.1, c.requires.tables) in
    let room : c.loop-number.number < 2 ^ (s + 1) = omega arith in record {
      tables = open';
      above = omega (arith, was.4);
      below = subst (λ k. c.from.result < 2 ^ (2 * k + 2)) (sym was.2) (omega arith);
      few = subst (λ k. c.loop-number.writer.count < 2 ^ (k + 1)) (sym was.2) (omega (arith, was.3));
    }

pub loop-number-preserved : goal.loop-number-preserved
loop-number-preserved g c =
    let was = c.loop-number.invariant in
    let n : c.from.result ≡ c.loop-number.number = search rules in
    ((added c.from.result was.0.0, c.in_ok-add.ensures.ok was.0.0 was.0.1), c.add.ensures.columns ∙ was.1, c.add.ensures.same.size ∙ was.2, c.in_ok-add.ensures.one_more.count ∙ ap (λ j. j + 1) was.3, c.in_ok-add.ensures.one_more.least ∙ ap (λ j. j + 1) n)

pub returns-clause-stands : goal.returns-clause-stands
returns-clause-stands g c =
    let was = c.loop-number.invariant in
    on_ok c.end_table.result (λ done. (table_ended was.0.0, done was.0.0 was.0.1)) c.end_table.ensures.ok
