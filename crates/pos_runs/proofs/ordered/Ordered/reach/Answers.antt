use Rattle.std.proofs.Common.{◌/◌, ◌<◌, sym, subst, arith}
use Rattle.pos_runs.specs.Pages.{per_page}
use Rattle.pos_runs.proofs.PageLemmas.{page_below, pages_few, per_page_ge, per_page_le}
use Rattle.pos_runs.proofs.ordered.Ordered.reach.Goals as goal

pub ready-requires : goal.ready-requires
ready-requires g c =
    let range = g.met.R.Record.width_in_range c.requires.size in (
      omega arith,
      (
        c.requires.stands,
        (
          c.requires.sealed,
          (
            subst (λ k. c.args.i / k < c.args.self.now.written) (sym c.records_on_page.ensures)
                (page_below c.args.i (per_page g.R.Record.bit_count) c.args.self.now.written c.args.self.now.count c.requires.there (c.requires.stands.sealed c.requires.sealed)),
            pages_few g.R.Record.bit_count c.args.self.now.written c.args.self.now.count (per_page_ge g.R.Record.bit_count range.0 range.1) c.requires.stands.few_pages (per_page_le g.R.Record.bit_count range.0) c.requires.stands.few,
          ),
        ),
      ),
    )
