-- The lines of `farm`: one for each plot of the list, and then that of the best of all proofs. Plots count from 0.
-- Source: this project's own lines.
use Rattle.std.specs.Prelude.{ℕ, suc, List, [], ◌∷◌, ◌++◌, codes, Option, Some, None}
use Rattle.std.specs.Fmt.{decimal}
use Rattle.hex.specs.Hex.{encode_lower}
use Rattle.pos_order.specs.Values.{value_bytes}
use Rattle.pos_text.specs.Texts.{damage_words, line}
use Rattle.pos_farm.specs.declared.offer.Answer.{Answer}
use Rattle.pos_farm.specs.declared.offer.Answer.TheVariants.{Absent, DiskFailed, Damaged, Proofs}
use Rattle.pos_farm.specs.declared.offer.Offer.{Offer}

-- what a plot answers
abbrev pub answer_words : Answer → List (List ℕ)
answer_words Absent = codes "absent" ∷ []
answer_words DiskFailed = codes "disk" ∷ codes "fault" ∷ []
answer_words (Damaged d) = codes "damage" ∷ damage_words d
answer_words (Proofs number best) = codes "proofs" ∷ decimal number ∷ []

-- the line of a plot, and those of the plots from this number on
abbrev pub plot_line : ℕ → Answer → List ℕ
plot_line plot answer = line (codes "plot" ∷ decimal plot ∷ answer_words answer)

abbrev pub plot_lines : ℕ → List Answer → List ℕ
plot_lines plot [] = []
plot_lines plot (answer ∷ answers) = plot_line plot answer ++ plot_lines (suc plot) answers

-- the line of the best proof: its quality, the number of its plot, its place and its bytes
abbrev pub best_line : Option (ℕ × Offer) → List ℕ
best_line None = line (codes "best" ∷ codes "none" ∷ [])
best_line (Some best) =
    line (codes "best" ∷ encode_lower best.1.quality ∷ decimal best.0 ∷ decimal best.1.place
    ∷ encode_lower (value_bytes best.1.size best.1.proof) ∷ [])

-- what is said of all plots of a list
abbrev pub farm_text : List Answer → Option (ℕ × Offer) → List ℕ
farm_text answers best = plot_lines 0 answers ++ best_line best

-- what is said of a list whose line of this number, from 0, is not that of a name, or is one too many
abbrev pub bad_line : ℕ → List ℕ
bad_line number = line (codes "list" ∷ codes "line" ∷ decimal number ∷ [])
