-- One plot after another.
use Rattle.std.proofs.Common.{◌≡◌, ◌∙◌, ◌+◌, ◌<◌, ℕ, [], Global, All, List, length, map, slice_index_or, string_bytes, sym, ap, subst, arith}
use Rattle.std.proofs.lemmas.List.{length_push}
use Rattle.std.proofs.lemmas.List.Elements.{All-push}
use Rattle.pos_edge.specs.Faults.{RoseBy}
use Rattle.pos_edge.specs.Frame.{SameFaults}
use Rattle.pos_farm.specs.declared.offer.Answer.{Answer}
use Rattle.pos_farm.specs.declared.offer.Answer.TheVariants.{Absent}
use Rattle.pos_farm.specs.PlotAnswers.{IsPlotAnswer, OffersTruly, failures}
use Rattle.pos_farm.proofs.AskLemmas.{answer_before}
use Rattle.pos_farm.proofs.FarmLemmas.{answers_more, both_kept, name_at, quiet_more, rose_more}
use Rattle.pos_farm.proofs.farming.farm.Goals as goal

pub returns-in_err-answer-clause-kept : goal.returns-in_err-answer-clause-kept
returns-in_err-answer-clause-kept g c = both_kept _ _ _ c.loop-i.invariant.kept c.in_err-answer.ensures.kept

pub returns-in_default-clause-kept : goal.returns-in_default-clause-kept
returns-in_default-clause-kept g c = both_kept _ _ _ c.loop-i.invariant.kept c.in_ok-answer.ensures.kept

pub loop-i-preserved : goal.loop-i-preserved
loop-i-preserved g c =
    let so_far = c.loop-i.invariant in
    let answer = c.in_ok-answer.answer in
    let items = c.loop-i.answers.items in
    let asked = c.args.challenge.now.0 in
    let before = g.D.Disk.view c.args.disk.now in
    let between = g.D.Disk.view c.loop-i.disk in
    let after = g.D.Disk.view c.ask.new.disk in
    let names : List (List ℕ) = map (string_bytes {Z = Global}) c.args.names.now in
    let more = c.in-Ok.ensures.items in
    let here : IsPlotAnswer (slice_index_or names (length items) []) asked before answer =
    subst (λ name. IsPlotAnswer name asked before answer)
    (c.as_str.ensures.value ∙ sym (name_at c.args.names.now c.loop-i.i (length items) c.index-names-i.result (omega arith) so_far.as_many c.index-names-i.is))
    (answer_before c.as_str.result.now asked before between answer so_far.kept c.in_ok-answer.ensures.answer) in
    record {
      as_many = ap length more ∙ length_push items answer ∙ ap (λ n. n + 1) so_far.as_many;
      kept = both_kept before between after so_far.kept c.in_ok-answer.ensures.kept;
      each = subst (λ (told : List Answer). (j : ℕ) → j < length told → IsPlotAnswer (slice_index_or names j []) asked before (slice_index_or told j Absent)) (sym more)
          (answers_more names asked before items answer so_far.each here);
      truly = subst (λ (told : List Answer). All (OffersTruly asked) told) (sym more) (All-push (OffersTruly asked) items answer so_far.truly c.in_ok-answer.ensures.truly);
      failed = subst (λ told. RoseBy (failures told) before.faults after.faults) (sym more) (rose_more items answer before between after so_far.failed c.in_ok-answer.ensures.faults);
      quiet = subst (λ told. failures told ≡ 0 → SameFaults before after) (sym more) (quiet_more items answer before between after so_far.quiet c.in_ok-answer.ensures.faults);
    }
