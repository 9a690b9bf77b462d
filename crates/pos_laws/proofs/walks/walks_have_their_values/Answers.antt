use Rattle.pos_laws.proofs.Readings.{walks_have_their_values}
use Rattle.pos_laws.proofs.walks.walks_have_their_values.Goals as goal

pub returns : goal.returns
returns g c = walks_have_their_values
