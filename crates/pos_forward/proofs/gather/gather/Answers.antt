use Rattle.std.proofs.Common.{◌≡◌, ◌-◌, ◌≤◌, refl, sym, subst, ◌∙◌, arith}
use Rattle.std.proofs.lemmas.Result.{err_from_is_err_and, on_ok_weaker}
use Rattle.pos_forward.specs.Eights.{CountsEights}
use Rattle.pos_tuple.specs.Node.{IsEntry}
use Rattle.std.proofs.lemmas.List.Elements.{All-weaker}
use Rattle.pos_forward.specs.Matched.{IsOverfull}
use Rattle.pos_forward.proofs.GatheringLemmas.{answer_last, answer_match, answer_read, gathering_all, gathering_more, gathering_none, read_then}
use Rattle.pos_forward.proofs.gather.gather.Goals as goal

pub loop-i-init : goal.loop-i-init
loop-i-init g c =
    record {
      gathering = gathering_none c.args.size c.args.t g.R.Stored.entry g.R.Record.read g.R.Record.bit_count c.args.rows.now c.args.room.now.matcher c.clear.new.self (g.D.Disk.view c.args.disk.now) c.requires.stands.stands c.clear.ensures (c.requires.ready c.args.size c.args.t);
      capacity = refl;
      eights = subst (λ ds. CountsEights c.args.lanes.now c.args.lanes.now ds) (sym c.clear.ensures) (omega arith);
    }

pub loop-i-preserved : goal.loop-i-preserved
loop-i-preserved g c =
    let before = c.loop-i.invariant in
    let got = c.in_ok-entry.ensures in
    let took = c.in_ok-take_entry.ensures in
    let there = c.loop-i-test.true in
    let long = c.len-i-end.ensures in
    record {
      gathering = gathering_more c.args.size c.args.t g.R.Stored.entry g.R.Record.read g.R.Record.bit_count c.args.rows.now c.loop-i.rows c.read_entry.new.rows c.loop-i.i c.loop-i.least c.loop-i.room.matcher c.take_entry.new.room.matcher c.loop-i.room.drafts c.take_entry.new.room.drafts c.in_ok-entry.entry (g.D.Disk.view c.args.disk.now) (g.D.Disk.view c.loop-i.disk) (g.D.Disk.view c.read_entry.new.disk)
          c.requires.stands (omega arith) before.gathering got.read got.same got.refusal.quiet got.reads got.entry.rise got.entry.same took.taken;
      capacity = took.capacity ∙ before.capacity;
      eights = took.lanes c.args.lanes.now before.eights;
    }

pub returns-in_err-entry-clause-read : goal.returns-in_err-entry-clause-read
returns-in_err-entry-clause-read g c =
    read_then c.args.rows.now c.loop-i.rows c.read_entry.new.rows (g.D.Disk.view c.args.disk.now) (g.D.Disk.view c.loop-i.disk) (g.D.Disk.view c.read_entry.new.disk) c.loop-i.invariant.gathering.read_only c.read_entry.ensures.read

pub returns-in_err-take_entry-clause-read : goal.returns-in_err-take_entry-clause-read
returns-in_err-take_entry-clause-read g c =
    read_then c.args.rows.now c.loop-i.rows c.read_entry.new.rows (g.D.Disk.view c.args.disk.now) (g.D.Disk.view c.loop-i.disk) (g.D.Disk.view c.read_entry.new.disk) c.loop-i.invariant.gathering.read_only c.read_entry.ensures.read

pub returns-in_err-entry-clause-answer : goal.returns-in_err-entry-clause-answer
returns-in_err-entry-clause-answer g c =
    let p = err_from_is_err_and c.from_residual.result c.from_residual.ensures.1 in
    let there = c.loop-i-test.true in
    let long = c.len-i-end.ensures in
    answer_read c.from_residual.result p.0 c.in_err-entry.field-0.0 g.row.K c.args.size c.args.t c.args.room.now.capacity g.R.Stored.entry g.R.Record.read g.R.Record.bit_count c.args.rows.now c.loop-i.rows c.loop-i.i c.loop-i.least c.loop-i.room.matcher c.loop-i.room.drafts (g.D.Disk.view c.args.disk.now) (g.D.Disk.view c.loop-i.disk) (g.D.Disk.view c.read_entry.new.disk) p.1 p.2 c.requires.size (omega arith) c.loop-i.invariant.gathering c.in_err-entry.ensures.refusal

pub take_entry-requires-clause-next : goal.take_entry-requires-clause-next
take_entry-requires-clause-next g c =
    let before = c.loop-i.invariant.gathering in
    let got = c.in_ok-entry.ensures in
    let there = c.loop-i-test.true in
    let long = c.len-i-end.ensures in
    let few = c.requires.stands.stands.few in
    let count = before.count in
    let table : g.R.Stored.table ≡ c.args.t - 1 = (let e = c.requires.below in omega arith) in
    record {
      es = before.es;
      matched = before.matched;
      rise = All-weaker (λ b. b.y ≤ c.loop-i.least) (λ b. b.y ≤ c.in_ok-entry.entry.y) (λ b h. let above = got.entry.rise in omega arith) before.es before.rise;
      few = omega arith;
      entry = subst (λ t. IsEntry c.args.size t c.in_ok-entry.entry) table (subst (λ k. IsEntry k g.R.Stored.table c.in_ok-entry.entry) (sym c.requires.size) got.entry.each);
    }

pub returns-in_err-take_entry-clause-answer : goal.returns-in_err-take_entry-clause-answer
returns-in_err-take_entry-clause-answer g c =
    let p = err_from_is_err_and c.from_residual-in_err-take_entry.result c.from_residual-in_err-take_entry.ensures.1 in
    let fault = c.in_err-take_entry.ensures in
    let before = c.loop-i.invariant in
    answer_match c.from_residual-in_err-take_entry.result p.0 c.in_err-take_entry.field-0.0 g.row.K c.args.size c.args.t c.args.room.now.capacity g.R.Stored.entry g.R.Record.read g.R.Record.bit_count c.args.rows.now c.loop-i.rows c.loop-i.i c.loop-i.least c.loop-i.room.matcher c.loop-i.room.drafts (g.D.Disk.view c.args.disk.now) (g.D.Disk.view c.loop-i.disk) (g.D.Disk.view c.read_entry.new.disk) p.1 p.2 before.gathering c.in_ok-entry.ensures.refusal.quiet fault.refusal
    (λ is es matched. subst (λ n. IsOverfull n es) before.capacity (fault.full is es matched))

pub returns-clause-made : goal.returns-clause-made
returns-clause-made g c =
    let all : c.loop-i.i ≡ c.args.rows.now.count = (let past = c.loop-i-test.false in let within = c.loop-i.auto.i-end in let long = c.len-i-end.ensures in omega arith) in
    on_ok_weaker c.finish.result (λ made. gathering_all c.args.size c.args.t g.R.Stored.entry g.R.Record.read g.R.Record.bit_count c.args.rows.now c.loop-i.rows c.loop-i.i c.loop-i.least c.loop-i.room.matcher c.loop-i.room.drafts c.finish.new.room.drafts (g.D.Disk.view c.args.disk.now) (g.D.Disk.view c.loop-i.disk) all c.loop-i.invariant.gathering made) c.finish.ensures.made

pub returns-clause-answer : goal.returns-clause-answer
returns-clause-answer g c =
    let before = c.loop-i.invariant in
    answer_last c.finish.result g.row.K c.args.size c.args.t c.args.room.now.capacity g.R.Stored.entry g.R.Record.read g.R.Record.bit_count c.args.rows.now c.loop-i.rows c.loop-i.i c.loop-i.least c.loop-i.room.matcher c.loop-i.room.drafts (g.D.Disk.view c.args.disk.now) (g.D.Disk.view c.loop-i.disk) before.gathering c.finish.ensures.refusal
    (λ is es matched. subst (λ n. IsOverfull n es) before.capacity (c.finish.ensures.full is es matched))
