-- The lines of plots, one more at a time.
use Rattle.std.proofs.Common.{◌≡◌, ℕ, zero, suc, ◌+◌, ◌<◌, List, [], ◌∷◌, ◌++◌, length, take, refl, sym, ap, ◌∙◌, arith, append_assoc, append-nil}
use Rattle.std.specs.Prelude.{codes, slice_index_or}
use Rattle.std.specs.Fmt.{decimal}
use Rattle.pos_farm.specs.declared.offer.Answer.{Answer}
use Rattle.pos_farm.specs.declared.offer.Answer.TheVariants.{Absent, DiskFailed, Damaged, Proofs}
use Rattle.pos_app.specs.FarmTexts.{answer_words, plot_line, plot_lines}
use Rattle.pos_app.specs.Texts.{line}

-- behind the number of a plot stands what it answers
pub plot_line_is : (plot : ℕ) (answer : Answer) → plot_line plot answer ≡ codes "plot" ++ 32 ∷ (decimal plot ++ 32 ∷ line (answer_words answer))
plot_line_is plot Absent = refl
plot_line_is plot DiskFailed = refl
plot_line_is plot (Damaged d) = refl
plot_line_is plot (Proofs number best) = refl

plot_lines-push : (first i plot : ℕ) (answers : List Answer) (answer : Answer) → i < length answers → answer ≡ slice_index_or answers i answer → plot ≡ first + i
    → plot_lines first (take (suc i) answers) ≡ plot_lines first (take i answers) ++ plot_line plot answer
plot_lines-push first i plot [] answer below is e = absurd (omega arith)
plot_lines-push first zero plot (a ∷ answers) answer below is e =
    append-nil (plot_line first a) ∙ (ap (λ m. plot_line m a) (omega (arith, e)) ∙ ap (λ b. plot_line plot b) (sym is))
plot_lines-push first (suc i) plot (a ∷ answers) answer below is e =
    ap (λ more. plot_line first a ++ more) (plot_lines-push (suc first) i plot answers answer (omega arith) is (omega (arith, e)))
    ∙ sym (append_assoc (plot_line first a) (plot_lines (suc first) (take i answers)) (plot_line plot answer))

-- a text of the lines of the plots so far, and the line of one more
pub plots-push : (old new : List ℕ) (i : ℕ) (answers : List Answer) (answer : Answer) → i < length answers → answer ≡ slice_index_or answers i answer
    → old ≡ plot_lines 0 (take i answers) → new ≡ old ++ plot_line i answer → new ≡ plot_lines 0 (take (i + 1) answers)
plots-push old new i answers answer below is was e =
    e ∙ (ap (λ s. s ++ plot_line i answer) was
    ∙ (sym (plot_lines-push 0 i i answers answer below is (omega arith))
    ∙ let same : suc i ≡ i + 1 = omega arith in ap (λ m. plot_lines 0 (take m answers)) same))
