use Rattle.std.proofs.Common.{◌<◌, ap, arith}
use Rattle.pos_runs.specs.Pages.{ListPages, per_page}
use Rattle.pos_runs.proofs.PageLemmas.{pages_few, per_page_ge, per_page_le}
use Rattle.pos_runs.proofs.ListLemmas.{room-holds, room-room, room-stands}
use Rattle.pos_runs.proofs.ordered.Ordered.make_room.Goals as goal

pub flush-requires : goal.flush-requires
flush-requires g c =
    let range = g.met.R.Record.width_in_range c.requires.size in (
      omega arith,
      (
        c.requires.stands.live,
        (
          c.requires.stands.there,
          (
            c.requires.stands.size,
            (
              pages_few g.R.Record.bit_count c.args.self.now.written c.args.self.now.count (per_page_ge g.R.Record.bit_count range.0 range.1) c.requires.stands.few_pages (per_page_le g.R.Record.bit_count range.0) c.requires.stands.few,
              c.requires.stands.bytes,
            ),
          ),
        ),
      ),
    )

pub returns-clause-stands : goal.returns-clause-stands
returns-clause-stands g c =
    room-stands g.R.Record.bit_count c.args.self.now c.flush.new.self (g.D.Disk.view c.args.disk.now) (g.D.Disk.view c.flush.new.disk) c.requires.stands c.requires.open (let used = ap (λ (s : ListPages). s.used) c.self.view_is in let e = c.requires.per_page in omega arith)
    c.in_ok-flush.ensures.flushed c.in_ok-flush.ensures.write c.in_ok-flush.ensures.written

pub returns-clause-room : goal.returns-clause-room
returns-clause-room g c =
    let range = g.met.R.Record.width_in_range c.requires.size in
    let some : 0 < per_page g.R.Record.bit_count = (let ge = per_page_ge g.R.Record.bit_count range.0 range.1 in omega arith) in
    room-room g.R.Record.bit_count c.args.self.now c.flush.new.self some c.requires.open c.in_ok-flush.ensures.flushed

pub returns-clause-list : goal.returns-clause-list
returns-clause-list g c =
    room-holds g.R.Record.read g.R.Record.bit_count c.args.self.now c.flush.new.self (g.D.Disk.view c.args.disk.now) (g.D.Disk.view c.flush.new.disk) (g.met.D.Disk.is_disk c.args.disk.now)
    c.requires.stands c.requires.open c.in_ok-flush.ensures.flushed c.in_ok-flush.ensures.write c.in_ok-flush.ensures.written
