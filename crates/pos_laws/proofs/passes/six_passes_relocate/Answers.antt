use Rattle.pos_laws.proofs.PassLemmas.{six_passes_relocate}
use Rattle.pos_laws.proofs.passes.six_passes_relocate.Goals as goal

pub returns : goal.returns
returns c = six_passes_relocate
