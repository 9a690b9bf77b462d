-- The gate is written and synced, and then the rest: at each exit what was done so far.
use Rattle.std.proofs.Common.{◌≡◌, ◌+◌, refl, ap, ◌∙◌, subst, [], ◌∷◌, ◌++◌, length, take, replicate, inl, inr, arith}
use Rattle.std.proofs.lemmas.Result.{err_from_is_err_and}
use Rattle.pos_edge.specs.Images.{written}
use Rattle.pos_layout.specs.Images.{IsTiny, IsShut, IsTinyOrShut, HoldsShut}
use Rattle.pos_gate.proofs.GateLemmas.{written_end, on_ok}
use Rattle.pos_gate.proofs.WorksLemmas.{works_weaker, works_then, works_exit}
use Rattle.pos_layout.proofs.shut.begin_shut.Goals as goal

pub write_past-requires-clause-held : goal.write_past-requires-clause-held
write_past-requires-clause-held g c = (0 ∷ [], c.in_ok-begin.ensures.ok, omega arith)

pub returns-in_err-begin-clause-works : goal.returns-in_err-begin-clause-works
returns-in_err-begin-clause-works g c =
    let u = g.D.Disk.view c.args.disk.now in
    let v = g.D.Disk.view c.begin.new.disk in
    let p = err_from_is_err_and c.from_residual.result c.from_residual.ensures.1 in
    works_exit IsTinyOrShut c.args.file.0 c.from_residual.result p.0 c.in_err-begin.field-0.0 u v p.1 p.2
    (works_weaker IsTiny IsTinyOrShut c.args.file.0 _ u v (λ i t. inl t) c.in_err-begin.ensures.works)

pub returns-clause-works : goal.returns-clause-works
returns-clause-works g c =
    let u = g.D.Disk.view c.args.disk.now in
    let v = g.D.Disk.view c.begin.new.disk in
    let w = g.D.Disk.view c.write_past.new.disk in
    works_then IsTinyOrShut c.args.file.0 _ c.write_past.result u v w c.requires.fresh.bytes.live
    (works_weaker IsTiny IsTinyOrShut c.args.file.0 _ u v (λ i t. inl t) c.in_ok-begin.ensures.works)
    (works_weaker IsShut IsTinyOrShut c.args.file.0 c.write_past.result v w (λ i t. inr t) c.write_past.ensures.works)

pub returns-clause-ok : goal.returns-clause-ok
returns-clause-ok g c =
    let v = g.D.Disk.view c.begin.new.disk in
    let w = g.D.Disk.view c.write_past.new.disk in
    let piece : take (175 + length c.args.memo.now) c.put.new.bytes ≡ replicate 175 0 ++ c.args.memo.now = c.put.ensures.front in
    let all : written 1 (take (175 + length c.args.memo.now) c.put.new.bytes) (0 ∷ []) ≡ replicate 176 0 ++ c.args.memo.now = written_end 1 _ (0 ∷ []) refl ∙ ap (λ y. 0 ∷ y) piece in
    on_ok c.write_past.result (λ wrote. subst (λ b. HoldsShut c.args.file.0 b w) all (wrote (0 ∷ []) c.in_ok-begin.ensures.ok (omega arith)))
    c.write_past.ensures.ok
