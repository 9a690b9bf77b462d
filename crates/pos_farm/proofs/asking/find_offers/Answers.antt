-- The span, and then its places.
use Rattle.pos_farm.proofs.AskLemmas.{opens_in}
use Rattle.pos_farm.proofs.asking.find_offers.Goals as goal

pub returns-clause-offers : goal.returns-clause-offers
returns-clause-offers g c = λ b holds. record {
  opens = opens_in b c.args.plot.now (g.D.Disk.view c.args.disk.now) holds;
  first = c.in_ok-first.first;
  second = c.in_ok-first.second;
  span = c.in_ok-first.ensures.span b holds;
  offered = c.in_ok-best.ensures.offered b (c.in_ok-first.ensures.reading.left.stays_file b holds);
}
