use Rattle.std.proofs.Common.{◌≡◌, ℕ, length, refl, ap, subst, ◌∙◌, arith}
use Rattle.std.proofs.lemmas.List.{length-replicate}
use Rattle.pos_marks.specs.Bits.{AreRankCounts}
use Rattle.pos_marks.specs.Pages.{BeginsWith}
use Rattle.pos_marks.proofs.MarkLemmas.{marked_sealed}
use Rattle.pos_marks.proofs.set.Marks.seal.Goals as goal

pub returns-clause-marked : goal.returns-clause-marked
returns-clause-marked g c = λ p h.
    let m = c.args.self.now in
    let b = g.D.Disk.view c.write_pages.new.disk in
    let bits : c.deref.result.now ≡ m.bits.items = c.deref.ensures.value in
    let same : c.deref-2.result.now ≡ m.bits.items = c.deref-2.ensures.value in
    let len = ap length same in
    let size = c.in_ok-write_pages.ensures.size in
    marked_sealed m _ p (g.D.Disk.view c.args.disk.now) b h c.requires.unsealed c.write_pages.ensures.kept refl refl refl refl
    (ap length c.in_ok-page.ensures.ok ∙ length-replicate {A = ℕ} 65536 0)
    (subst (λ xs. AreRankCounts xs c.in_ok-counts.counts.items) bits c.in_ok-counts.ensures.ok)
    (omega arith)
    (subst (λ xs. BeginsWith m.file.0 xs b) same c.in_ok-write_pages.ensures.ok)

pub returns-clause-size : goal.returns-clause-size
returns-clause-size g c =
    let m = c.args.self.now in
    let room = (c.requires.stands.1.memory c.requires.unsealed).room in
    let len = ap length c.deref-2.ensures.value in
    let size = c.in_ok-write_pages.ensures.size in
    omega arith
