use Rattle.std.proofs.Common.{◌≡◌, ◌-◌, ◌<◌, length, sym, ap, ◌∙◌, arith}
use Rattle.std.proofs.lemmas.List.{with_items_is}
use Rattle.pos_runs.specs.Runs.{pages_at}
use Rattle.pos_table_uses.proofs.ReadingLemmas.{read_none, read_then, still_stand}
use Rattle.pos_table_uses.proofs.tests.named_by.Goals as goal

-- numbers, found where nothing else is known
size : 640 < 9223372036854775808
size = omega arith

pub loop-i-init : goal.loop-i-init
loop-i-init g c = record {
  read = read_none g.row.K c.args.tables.now (g.D.Disk.view c.args.disk.now);
  count = c.in_ok-noted.ensures ∙ c.count.ensures;
}

pub note_pair-requires : goal.note_pair-requires
note_pair-requires g c =
    let now = c.loop-i.invariant in
    let stands = still_stand g.row.K c.args.tables.now c.loop-i.tables (g.D.Disk.view c.args.disk.now) (g.D.Disk.view c.loop-i.disk) now.read c.requires.stands in
    let there : c.loop-i.i < (pages_at c.loop-i.tables (c.args.t - 1)).count = (let same = now.read.lists.count (c.args.t - 1) in let all = c.requires.places in let more = c.loop-i-test.true in omega arith) in
    (size, (c.requires.size, (c.requires.first, (c.requires.last, (stands, there)))))

pub loop-i-preserved : goal.loop-i-preserved
loop-i-preserved g c =
    let now = c.loop-i.invariant in
    let got = c.in_ok-note_pair.ensures in
    let same : length c.note_pair.new.noted ≡ length c.loop-i.noted.items = got.count ∙ ap length c.as_mut_slice.ensures.value in
    record {
      read = read_then g.row.K c.args.tables.now c.loop-i.tables c.note_pair.new.tables (g.D.Disk.view c.args.disk.now) (g.D.Disk.view c.loop-i.disk) (g.D.Disk.view c.note_pair.new.disk) now.read got.read;
      count = ap length (with_items_is c.loop-i.noted c.note_pair.new.noted (same ∙ sym c.loop-i.noted.ok.0)) ∙ (same ∙ now.count);
    }
