use Rattle.std.proofs.Common.{ap, arith}
use Rattle.std.proofs.lemmas.Result.{err_from_is_err_and}
use Rattle.pos_edge.specs.ScratchNames.{ScratchState}
use Rattle.pos_edge.proofs.ScratchWorkLemmas.{between_done, between_then}
use Rattle.pos_forward.proofs.StoreLemmas.{new_both}
use Rattle.pos_forward.proofs.WorkLemmas.{answer_err, answer_new, answer_then, made_few, new_frame, one_then, two_made}
use Rattle.pos_forward.proofs.store.make_two.Goals as goal

pub returns-in_err-second-clause-work : goal.returns-in_err-second-clause-work
returns-in_err-second-clause-work g c =
    let one = ap (λ (z : ScratchState). z.made) c.in_ok-first.ensures.made in
    let two = ap (λ (z : ScratchState). z.made) c.in_err-second.ensures.refused in
    between_then _ _ _ _ _ _ (omega arith) c.in_ok-first.ensures.work c.in_err-second.ensures.work

pub returns-in_err-second-clause-answer : goal.returns-in_err-second-clause-answer
returns-in_err-second-clause-answer g c =
    let p = err_from_is_err_and c.from_residual-in_err-second.result c.from_residual-in_err-second.ensures.1 in
    let first = c.in_ok-first.ensures in
    let second = c.in_err-second.ensures in
    let one = ap (λ (z : ScratchState). z.made) first.made in
    let two = ap (λ (z : ScratchState). z.made) second.refused in
    let few = c.requires.files in
    answer_err c.from_residual-in_err-second.result p.0 c.in_err-second.field-0.0 _ _ _ _ p.1 p.2
    (answer_then _ _ _ _ _ _ _ (ap (λ (z : ScratchState). z.base) first.made) (omega arith) (omega arith) first.done first.quiet
    (answer_new c.in_err-second.field-0.0 _ _ _ _ second.refused second.exists second.failed second.no_damage second.quiet))

pub returns-clause-work : goal.returns-clause-work
returns-clause-work g c =
    let one = ap (λ (z : ScratchState). z.made) c.in_ok-first.ensures.made in
    let two = ap (λ (z : ScratchState). z.made) c.in_ok-second.ensures.made in
    between_then _ _ _ _ _ _ (omega arith) c.in_ok-first.ensures.work c.in_ok-second.ensures.work

pub returns-clause-done : goal.returns-clause-done
returns-clause-done g c =
    let one = ap (λ (z : ScratchState). z.made) c.in_ok-first.ensures.made in
    let two = ap (λ (z : ScratchState). z.made) c.in_ok-second.ensures.made in
    let few = c.requires.files in
    between_done _ _ _ _ _ _ (ap (λ (z : ScratchState). z.base) c.in_ok-first.ensures.made) (omega arith) (omega arith) (omega arith) c.in_ok-first.ensures.done c.in_ok-second.ensures.done

pub returns-clause-lists : goal.returns-clause-lists
returns-clause-lists g c =
    let first = c.in_ok-first.ensures in
    let second = c.in_ok-second.ensures in
    new_both g.R.Record.read g.R.Record.bit_count g.S.Record.read g.S.Record.bit_count c.args.scratch.now c.new.new.scratch c.new-2.new.scratch c.in_ok-first.first c.in_ok-second.second
    (g.D.Disk.view c.args.disk.now) (g.D.Disk.view c.new.new.disk) (g.D.Disk.view c.new-2.new.disk) (g.met.D.Disk.is_disk c.args.disk.now) (g.met.D.Disk.is_disk c.new.new.disk) c.requires.files
    first.ok first.made first.stands first.list (new_frame _ _ _ _ _ second.made second.done) second.ok second.made second.stands second.list first.done.kept

pub returns-in_err-first-clause-most : goal.returns-in_err-first-clause-most
returns-in_err-first-clause-most g c = made_few c.args.scratch.now c.new.new.scratch (ap (λ (z : ScratchState). z.made) c.in_err-first.ensures.refused)

pub returns-in_err-second-clause-most : goal.returns-in_err-second-clause-most
returns-in_err-second-clause-most g c =
    one_then c.args.scratch.now c.new.new.scratch c.new-2.new.scratch (ap (λ (z : ScratchState). z.made) c.in_ok-first.ensures.made) (ap (λ (z : ScratchState). z.made) c.in_err-second.ensures.refused)

pub returns-clause-most : goal.returns-clause-most
returns-clause-most g c =
    two_made c.args.scratch.now c.new.new.scratch c.new-2.new.scratch (ap (λ (z : ScratchState). z.made) c.in_ok-first.ensures.made) (ap (λ (z : ScratchState). z.made) c.in_ok-second.ensures.made)
