-- Two pieces, one after the other.
use Rattle.std.proofs.Common.{◌∙◌, [], ◌++◌, ap}
use Rattle.sha2.specs.Sha256.{sha256}
use Rattle.pos_layout.specs.Bytes.{four}
use Rattle.pos_check.specs.Challenges.{check_challenge}
use Rattle.pos_check.proofs.challenges.check_challenge.Goals as goal

pub returns : goal.returns
unfolding check_challenge four
returns c =
    let first = c.update.ensures [] c.new-hasher.ensures in
    let second = c.update-2.ensures c.to_be_bytes.result first in
    c.finalize.ensures (c.to_be_bytes.result ++ c.args.id.now.0) second
    ∙ ap (λ s. sha256 (s ++ c.args.id.now.0)) c.to_be_bytes.ensures
