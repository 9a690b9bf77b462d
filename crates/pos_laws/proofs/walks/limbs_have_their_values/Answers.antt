use Rattle.pos_laws.proofs.Readings.{limbs_have_their_values}
use Rattle.pos_laws.proofs.walks.limbs_have_their_values.Goals as goal

pub returns : goal.returns
returns g c = limbs_have_their_values
