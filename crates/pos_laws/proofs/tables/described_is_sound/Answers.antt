use Rattle.pos_laws.proofs.Sound.{described_is_sound}
use Rattle.pos_laws.proofs.tables.described_is_sound.Goals as goal

pub returns : goal.returns
returns c = described_is_sound
