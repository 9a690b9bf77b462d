use Rattle.std.proofs.Common.{map, []}
use Rattle.std.proofs.lemmas.Result.{err_from_is_err_and}
use Rattle.pos_forward.proofs.WayLemmas.{way_answer, way_new, way_pushed, way_sealed, way_stored, way_work}
use Rattle.pos_forward.proofs.WorkLemmas.{answer_err}
use Rattle.pos_forward.proofs.store.store.Goals as goal

pub returns-in_err-first-clause-answer : goal.returns-in_err-first-clause-answer
returns-in_err-first-clause-answer g c =
    let p = err_from_is_err_and c.from_residual.result c.from_residual.ensures.1 in
    answer_err c.from_residual.result p.0 c.in_err-first.field-0.0 c.args.scratch.now c.make_two.new.scratch (g.D.Disk.view c.args.disk.now) (g.D.Disk.view c.make_two.new.disk) p.1 p.2 c.in_err-first.ensures.answer

pub returns-in_err-push_all-clause-work : goal.returns-in_err-push_all-clause-work
returns-in_err-push_all-clause-work g c =
    let first = c.in_ok-first.ensures in
    let made = way_new g.R.Record.read g.R.Record.bit_count g.S.Record.read g.S.Record.bit_count c.args.scratch.now c.make_two.new.scratch c.in_ok-first.first c.in_ok-first.second (g.D.Disk.view c.args.disk.now) (g.D.Disk.view c.make_two.new.disk) first.work first.done first.answer.quiet first.lists in
    way_work g.R.Record.read g.R.Record.bit_count g.S.Record.read g.S.Record.bit_count c.args.scratch.now c.make_two.new.scratch c.in_ok-first.first c.push_all.new.first c.in_ok-first.second c.push_all.new.second [] [] (g.D.Disk.view c.args.disk.now) (g.D.Disk.view c.make_two.new.disk) (g.D.Disk.view c.push_all.new.disk) (g.met.D.Disk.is_disk c.make_two.new.disk) made c.in_err-push_all.ensures.writes

pub returns-in_err-push_all-clause-answer : goal.returns-in_err-push_all-clause-answer
returns-in_err-push_all-clause-answer g c =
    let first = c.in_ok-first.ensures in
    let made = way_new g.R.Record.read g.R.Record.bit_count g.S.Record.read g.S.Record.bit_count c.args.scratch.now c.make_two.new.scratch c.in_ok-first.first c.in_ok-first.second (g.D.Disk.view c.args.disk.now) (g.D.Disk.view c.make_two.new.disk) first.work first.done first.answer.quiet first.lists in
    let p = err_from_is_err_and c.from_residual-in_err-push_all.result c.from_residual-in_err-push_all.ensures.1 in
    let fault = c.in_err-push_all.ensures in
    way_answer g.R.Record.read g.R.Record.bit_count g.S.Record.read g.S.Record.bit_count c.args.scratch.now c.make_two.new.scratch c.in_ok-first.first c.in_ok-first.second [] [] (g.D.Disk.view c.args.disk.now) (g.D.Disk.view c.make_two.new.disk) (g.D.Disk.view c.push_all.new.disk) c.from_residual-in_err-push_all.result p.0 c.in_err-push_all.field-0.0 c.requires.files made p.1 p.2 fault.failed fault.quiet fault.fault

pub returns-in_err-seal_both-clause-work : goal.returns-in_err-seal_both-clause-work
returns-in_err-seal_both-clause-work g c =
    let first = c.in_ok-first.ensures in
    let made = way_new g.R.Record.read g.R.Record.bit_count g.S.Record.read g.S.Record.bit_count c.args.scratch.now c.make_two.new.scratch c.in_ok-first.first c.in_ok-first.second (g.D.Disk.view c.args.disk.now) (g.D.Disk.view c.make_two.new.disk) first.work first.done first.answer.quiet first.lists in
    let more = c.in_ok-push_all.ensures in
    let pushed = way_pushed g.R.Record.read g.R.Record.bit_count g.S.Record.read g.S.Record.bit_count c.args.scratch.now c.make_two.new.scratch c.in_ok-first.first c.push_all.new.first c.in_ok-first.second c.push_all.new.second (map g.R.MadeOf.made_of (g.W.Rows.rows c.args.rows.now)) (map g.S.MadeOf.made_of (g.W.Rows.rows c.args.rows.now)) (g.D.Disk.view c.args.disk.now) (g.D.Disk.view c.make_two.new.disk) (g.D.Disk.view c.push_all.new.disk) (g.met.D.Disk.is_disk c.make_two.new.disk) made more.writes more.quiet more.more in
    way_work g.R.Record.read g.R.Record.bit_count g.S.Record.read g.S.Record.bit_count c.args.scratch.now c.make_two.new.scratch c.push_all.new.first c.seal_both.new.first c.push_all.new.second c.seal_both.new.second (map g.R.MadeOf.made_of (g.W.Rows.rows c.args.rows.now)) (map g.S.MadeOf.made_of (g.W.Rows.rows c.args.rows.now)) (g.D.Disk.view c.args.disk.now) (g.D.Disk.view c.push_all.new.disk) (g.D.Disk.view c.seal_both.new.disk) (g.met.D.Disk.is_disk c.push_all.new.disk) pushed c.in_err-seal_both.ensures.writes

pub returns-in_err-seal_both-clause-answer : goal.returns-in_err-seal_both-clause-answer
returns-in_err-seal_both-clause-answer g c =
    let first = c.in_ok-first.ensures in
    let made = way_new g.R.Record.read g.R.Record.bit_count g.S.Record.read g.S.Record.bit_count c.args.scratch.now c.make_two.new.scratch c.in_ok-first.first c.in_ok-first.second (g.D.Disk.view c.args.disk.now) (g.D.Disk.view c.make_two.new.disk) first.work first.done first.answer.quiet first.lists in
    let more = c.in_ok-push_all.ensures in
    let pushed = way_pushed g.R.Record.read g.R.Record.bit_count g.S.Record.read g.S.Record.bit_count c.args.scratch.now c.make_two.new.scratch c.in_ok-first.first c.push_all.new.first c.in_ok-first.second c.push_all.new.second (map g.R.MadeOf.made_of (g.W.Rows.rows c.args.rows.now)) (map g.S.MadeOf.made_of (g.W.Rows.rows c.args.rows.now)) (g.D.Disk.view c.args.disk.now) (g.D.Disk.view c.make_two.new.disk) (g.D.Disk.view c.push_all.new.disk) (g.met.D.Disk.is_disk c.make_two.new.disk) made more.writes more.quiet more.more in
    let p = err_from_is_err_and c.from_residual-in_err-seal_both.result c.from_residual-in_err-seal_both.ensures.1 in
    let fault = c.in_err-seal_both.ensures in
    way_answer g.R.Record.read g.R.Record.bit_count g.S.Record.read g.S.Record.bit_count c.args.scratch.now c.make_two.new.scratch c.push_all.new.first c.push_all.new.second (map g.R.MadeOf.made_of (g.W.Rows.rows c.args.rows.now)) (map g.S.MadeOf.made_of (g.W.Rows.rows c.args.rows.now)) (g.D.Disk.view c.args.disk.now) (g.D.Disk.view c.push_all.new.disk) (g.D.Disk.view c.seal_both.new.disk) c.from_residual-in_err-seal_both.result p.0 c.in_err-seal_both.field-0.0 c.requires.files pushed p.1 p.2 fault.failed fault.quiet fault.fault

pub returns-clause-work : goal.returns-clause-work
returns-clause-work g c =
    let first = c.in_ok-first.ensures in
    let made = way_new g.R.Record.read g.R.Record.bit_count g.S.Record.read g.S.Record.bit_count c.args.scratch.now c.make_two.new.scratch c.in_ok-first.first c.in_ok-first.second (g.D.Disk.view c.args.disk.now) (g.D.Disk.view c.make_two.new.disk) first.work first.done first.answer.quiet first.lists in
    let more = c.in_ok-push_all.ensures in
    let pushed = way_pushed g.R.Record.read g.R.Record.bit_count g.S.Record.read g.S.Record.bit_count c.args.scratch.now c.make_two.new.scratch c.in_ok-first.first c.push_all.new.first c.in_ok-first.second c.push_all.new.second (map g.R.MadeOf.made_of (g.W.Rows.rows c.args.rows.now)) (map g.S.MadeOf.made_of (g.W.Rows.rows c.args.rows.now)) (g.D.Disk.view c.args.disk.now) (g.D.Disk.view c.make_two.new.disk) (g.D.Disk.view c.push_all.new.disk) (g.met.D.Disk.is_disk c.make_two.new.disk) made more.writes more.quiet more.more in
    let last = c.in_ok-seal_both.ensures in
    let sealed = way_sealed g.R.Record.read g.R.Record.bit_count g.S.Record.read g.S.Record.bit_count c.args.scratch.now c.make_two.new.scratch c.push_all.new.first c.seal_both.new.first c.push_all.new.second c.seal_both.new.second (map g.R.MadeOf.made_of (g.W.Rows.rows c.args.rows.now)) (map g.S.MadeOf.made_of (g.W.Rows.rows c.args.rows.now)) (g.D.Disk.view c.args.disk.now) (g.D.Disk.view c.push_all.new.disk) (g.D.Disk.view c.seal_both.new.disk) (g.met.D.Disk.is_disk c.push_all.new.disk) pushed last.writes last.quiet last.sealed in
    sealed.work

pub returns-clause-done : goal.returns-clause-done
returns-clause-done g c =
    let first = c.in_ok-first.ensures in
    let made = way_new g.R.Record.read g.R.Record.bit_count g.S.Record.read g.S.Record.bit_count c.args.scratch.now c.make_two.new.scratch c.in_ok-first.first c.in_ok-first.second (g.D.Disk.view c.args.disk.now) (g.D.Disk.view c.make_two.new.disk) first.work first.done first.answer.quiet first.lists in
    let more = c.in_ok-push_all.ensures in
    let pushed = way_pushed g.R.Record.read g.R.Record.bit_count g.S.Record.read g.S.Record.bit_count c.args.scratch.now c.make_two.new.scratch c.in_ok-first.first c.push_all.new.first c.in_ok-first.second c.push_all.new.second (map g.R.MadeOf.made_of (g.W.Rows.rows c.args.rows.now)) (map g.S.MadeOf.made_of (g.W.Rows.rows c.args.rows.now)) (g.D.Disk.view c.args.disk.now) (g.D.Disk.view c.make_two.new.disk) (g.D.Disk.view c.push_all.new.disk) (g.met.D.Disk.is_disk c.make_two.new.disk) made more.writes more.quiet more.more in
    let last = c.in_ok-seal_both.ensures in
    let sealed = way_sealed g.R.Record.read g.R.Record.bit_count g.S.Record.read g.S.Record.bit_count c.args.scratch.now c.make_two.new.scratch c.push_all.new.first c.seal_both.new.first c.push_all.new.second c.seal_both.new.second (map g.R.MadeOf.made_of (g.W.Rows.rows c.args.rows.now)) (map g.S.MadeOf.made_of (g.W.Rows.rows c.args.rows.now)) (g.D.Disk.view c.args.disk.now) (g.D.Disk.view c.push_all.new.disk) (g.D.Disk.view c.seal_both.new.disk) (g.met.D.Disk.is_disk c.push_all.new.disk) pushed last.writes last.quiet last.sealed in
    sealed.done

pub returns-clause-stored : goal.returns-clause-stored
returns-clause-stored g c =
    let first = c.in_ok-first.ensures in
    let made = way_new g.R.Record.read g.R.Record.bit_count g.S.Record.read g.S.Record.bit_count c.args.scratch.now c.make_two.new.scratch c.in_ok-first.first c.in_ok-first.second (g.D.Disk.view c.args.disk.now) (g.D.Disk.view c.make_two.new.disk) first.work first.done first.answer.quiet first.lists in
    let more = c.in_ok-push_all.ensures in
    let pushed = way_pushed g.R.Record.read g.R.Record.bit_count g.S.Record.read g.S.Record.bit_count c.args.scratch.now c.make_two.new.scratch c.in_ok-first.first c.push_all.new.first c.in_ok-first.second c.push_all.new.second (map g.R.MadeOf.made_of (g.W.Rows.rows c.args.rows.now)) (map g.S.MadeOf.made_of (g.W.Rows.rows c.args.rows.now)) (g.D.Disk.view c.args.disk.now) (g.D.Disk.view c.make_two.new.disk) (g.D.Disk.view c.push_all.new.disk) (g.met.D.Disk.is_disk c.make_two.new.disk) made more.writes more.quiet more.more in
    let last = c.in_ok-seal_both.ensures in
    let sealed = way_sealed g.R.Record.read g.R.Record.bit_count g.S.Record.read g.S.Record.bit_count c.args.scratch.now c.make_two.new.scratch c.push_all.new.first c.seal_both.new.first c.push_all.new.second c.seal_both.new.second (map g.R.MadeOf.made_of (g.W.Rows.rows c.args.rows.now)) (map g.S.MadeOf.made_of (g.W.Rows.rows c.args.rows.now)) (g.D.Disk.view c.args.disk.now) (g.D.Disk.view c.push_all.new.disk) (g.D.Disk.view c.seal_both.new.disk) (g.met.D.Disk.is_disk c.push_all.new.disk) pushed last.writes last.quiet last.sealed in
    way_stored g.R.Record.read g.R.Record.bit_count g.S.Record.read g.S.Record.bit_count c.args.scratch.now c.make_two.new.scratch c.push_all.new.first c.seal_both.new.first c.push_all.new.second c.seal_both.new.second (map g.R.MadeOf.made_of (g.W.Rows.rows c.args.rows.now)) (map g.S.MadeOf.made_of (g.W.Rows.rows c.args.rows.now)) (g.D.Disk.view c.args.disk.now) (g.D.Disk.view c.push_all.new.disk) (g.D.Disk.view c.seal_both.new.disk) sealed last.sealed
