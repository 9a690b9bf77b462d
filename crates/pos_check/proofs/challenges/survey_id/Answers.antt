-- Two pieces, one after the other.
use Rattle.std.proofs.Common.{◌∙◌, [], ◌++◌, ap}
use Rattle.std.specs.Prelude.{codes}
use Rattle.sha2.specs.Sha256.{sha256}
use Rattle.pos_layout.specs.Bytes.{eight}
use Rattle.pos_check.specs.Challenges.{survey_id}
use Rattle.pos_check.proofs.challenges.survey_id.Goals as goal

pub returns : goal.returns
unfolding survey_id eight
returns c =
    let first = c.update.ensures [] c.new-hasher.ensures in
    let second = c.update-2.ensures (codes "survey-plot-") first in
    c.finalize.ensures (codes "survey-plot-" ++ c.to_be_bytes.result) second
    ∙ ap (λ s. sha256 (codes "survey-plot-" ++ s)) c.to_be_bytes.ensures
