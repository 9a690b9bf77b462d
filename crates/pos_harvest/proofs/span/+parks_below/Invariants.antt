use Rattle.std.proofs.Common.{◌-◌}
use Rattle.pos_harvest.proofs.span.+parks_below.Given as goal

abbrev pub decreases-parks_below : goal.decreases-parks_below
decreases-parks_below g l = l.high - l.low
