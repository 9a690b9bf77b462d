use Rattle.std.proofs.Common.{◌≡◌, eqb, ◌||◌, length, refl, ap, ◌∙◌, arith}
use Rattle.std.proofs.lemmas.List.{with_items_is}
use Rattle.pos_marks.specs.Bits.{has_bit}
use Rattle.pos_marks.proofs.MarkLemmas.{marked_set}
use Rattle.pos_marks.proofs.set.Marks.set.Goals as goal

pub set_bit-requires : goal.set_bit-requires
set_bit-requires g c =
    let h = c.requires.stands.1 in
    let memory = h.memory c.requires.unsealed in
    let room = memory.room in
    let inside = c.requires.inside in
    let len = c.as_mut_slice.ensures.len in
    let ok = c.args.self.now.bits.ok.0 in
    omega arith

pub returns-clause-marked : goal.returns-clause-marked
returns-clause-marked g c = λ p h.
    let m = c.args.self.now in
    let value = c.as_mut_slice.ensures.value in
    let new = c.set_bit.new.bytes in
    let kept : length new ≡ length c.as_mut_slice.result.now = c.set_bit.auto.bytes in
    let len : length new ≡ m.bits.len = omega (arith, c.as_mut_slice.ensures.len) in
    let is = with_items_is m.bits new len in
    let same : length new ≡ length m.bits.items = len ∙ m.bits.ok.0 in
    marked_set m _ p c.args.i _ h c.requires.unsealed c.requires.inside refl refl refl
    (λ j. ap (λ xs. has_bit xs j) is ∙ (c.set_bit.ensures j ∙ ap (λ xs. eqb j c.args.i || has_bit xs j) value)) (ap length is ∙ same) refl
