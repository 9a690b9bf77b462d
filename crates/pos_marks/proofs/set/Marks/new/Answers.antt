use Rattle.std.proofs.Common.{◌≡◌, ◌*◌, length, replicate, refl, ap, ◌∙◌, arith, rules}
use Rattle.std.proofs.lemmas.List.{length-replicate}
use Rattle.pos_marks.specs.Marks.{page_count}
use Rattle.pos_marks.proofs.MarkLemmas.{marked_new}
use Rattle.pos_marks.proofs.set.Marks.new.Goals as goal

pub returns-clause-new : goal.returns-clause-new
returns-clause-new g c =
    let n : c.div_ceil-pages.result * 65536 ≡ 65536 * page_count c.args.places = omega (arith, c.div_ceil-pages.ensures) in
    let zeros : c.in_ok-bits.bits.items ≡ replicate (65536 * page_count c.args.places) 0 = c.in_ok-bits.ensures.ok ∙ ap (λ k. replicate k 0) n in
    record { places = refl; number = search rules; unsealed = refl; marked = marked_new _ _ _ _ c.in_ok-file.ensures.ok (omega arith) refl zeros (ap length zeros ∙ length-replicate (65536 * page_count c.args.places) 0) refl }
