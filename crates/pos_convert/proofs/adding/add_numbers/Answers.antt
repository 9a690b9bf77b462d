-- The first number that is not sound, or all of them.
use Rattle.std.proofs.Common.{◌∙◌, ◌<◌, ◌+◌, ◌*◌, ◌^◌, Err, get_or, refl, ap, arith}
use Rattle.std.proofs.lemmas.List.Elements.{All-get_or}
use Rattle.std.proofs.lemmas.Result.{err_from_is_err_and}
use Rattle.pos_convert.proofs.AddingLemmas.{added_next, added_none, added_refused, added_standing, answer_none, small_number}
use Rattle.pos_convert.proofs.adding.add_numbers.Goals as goal

pub loop-i-init : goal.loop-i-init
loop-i-init g c = added_none c.args.plot.now c.args.t c.args.next c.args.numbers.now c.args.writer.now (g.D.Disk.view c.args.disk.now) c.requires.stands c.requires.least

pub add-requires-clause-stands : goal.add-requires-clause-stands
add-requires-clause-stands g c =
    added_standing c.args.plot.now c.args.t c.args.numbers.now c.loop-i.i c.loop-i.least c.args.writer.now c.loop-i.writer _ (g.D.Disk.view c.loop-i.disk) c.loop-i.invariant c.requires.stands

pub returns-in_err-add-clause-copying : goal.returns-in_err-add-clause-copying
returns-in_err-add-clause-copying g c =
    let p = err_from_is_err_and c.from_residual.result c.from_residual.ensures.1 in
    added_refused c.args.plot.now c.args.t c.args.numbers.now c.loop-i.i c.loop-i.least c.args.writer.now c.loop-i.writer (g.D.Disk.view c.args.disk.now) (g.D.Disk.view c.loop-i.disk) c.loop-i.invariant
    (omega arith) (get_or c.args.numbers.now c.loop-i.i 0) refl c.in_err-add.field-0.0 c.add.new.self c.from_residual.result (g.D.Disk.view c.add.new.disk) c.requires.stands (p.1 ∙ ap (λ e. Err e) p.2)
    c.in_err-add.ensures.works c.in_err-add.ensures.same

pub overflow_add-least : goal.overflow_add-least
overflow_add-least g c =
    let most = small_number c.args.plot.now.header.size (get_or c.args.numbers.now c.loop-i.i 0) c.requires.small
    (All-get_or (λ n. n < 2 ^ (2 * c.args.plot.now.header.size + 2)) c.args.numbers.now c.loop-i.i 0 (omega arith) c.requires.numbers.below) in
    omega (arith, most)

pub loop-i-preserved : goal.loop-i-preserved
loop-i-preserved g c =
    let answer = answer_none c.args.plot.now c.args.t _ c.loop-i.least (get_or c.args.numbers.now c.loop-i.i 0) c.damage_of.result c.in-None.is c.damage_of.ensures in
    added_next c.args.plot.now c.args.t c.args.numbers.now c.loop-i.i c.loop-i.least c.args.writer.now c.loop-i.writer (g.D.Disk.view c.args.disk.now) (g.D.Disk.view c.loop-i.disk) c.loop-i.invariant
    (omega arith) (get_or c.args.numbers.now c.loop-i.i 0) refl c.in_ok-add.field-0 c.add.new.self (g.D.Disk.view c.add.new.disk) c.requires.stands answer.0 answer.1
    c.in_ok-add.ensures.works c.in_ok-add.ensures.same c.in_ok-add.ensures.columns c.in_ok-add.ensures.one_more c.in_ok-add.ensures.ok
