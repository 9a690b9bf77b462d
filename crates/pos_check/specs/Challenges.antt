-- The challenges that a check asks a plot for, and the id of the plot that a survey makes: both follow from a number, so that
-- each run asks and makes the same.
-- Source: this project's own. An id and a challenge are lists of 32 bytes.
use Rattle.std.specs.Prelude.{ℕ, List, ◌++◌, codes}
use Rattle.sha2.specs.Sha256.{sha256}
use Rattle.pos_layout.specs.Bytes.{four, eight}

-- challenge number i, from 0, of the plot of this id: SHA-256 of i as four bytes, the first on top, and of the id
unfoldable pub check_challenge : List ℕ → ℕ → List ℕ
check_challenge id i = sha256 (four i ++ id)

-- the id of the plot of this number: SHA-256 of the bytes of `survey-plot-` and of the number as eight bytes, the first on top
unfoldable pub survey_id : ℕ → List ℕ
survey_id number = sha256 (codes "survey-plot-" ++ eight number)
