-- The lines of a text, one more at a time.
use Rattle.std.proofs.Common.{◌≡◌, ℕ, zero, suc, ◌+◌, ◌<◌, List, [], ◌∷◌, ◌++◌, length, take, arith, sym, ap, ◌∙◌, append_assoc, append-nil}
use Rattle.std.specs.Prelude.{slice_index}
use Rattle.pos_app.specs.Texts.{table_line, table_lines}

table_lines-push : (t i n : ℕ) (counts : List ℕ) → i < length counts → n ≡ t + i
    → table_lines t (take (suc i) counts) ≡ table_lines t (take i counts) ++ table_line n (slice_index counts i)
table_lines-push t i n [] below e = absurd (omega arith)
table_lines-push t zero n (c ∷ counts) below e = append-nil (table_line t c) ∙ ap (λ m. table_line m c) (omega (arith, e))
table_lines-push t (suc i) n (c ∷ counts) below e =
    ap (λ more. table_line t c ++ more) (table_lines-push (suc t) i n counts (omega arith) (omega (arith, e)))
    ∙ sym (append_assoc (table_line t c) (table_lines (suc t) (take i counts)) (table_line n (slice_index counts i)))

-- a text that ends with the lines of some tables, and the line of one more
pub tables-push : (head old new : List ℕ) (i : ℕ) (counts : List ℕ) → i < length counts → old ≡ head ++ table_lines 1 (take i counts)
    → new ≡ old ++ table_line (i + 1) (slice_index counts i) → new ≡ head ++ table_lines 1 (take (i + 1) counts)
tables-push head old new i counts below was e =
    e ∙ (ap (λ s. s ++ table_line (i + 1) (slice_index counts i)) was
    ∙ (append_assoc head (table_lines 1 (take i counts)) (table_line (i + 1) (slice_index counts i))
    ∙ (ap (λ s. head ++ s) (sym (table_lines-push 1 i (i + 1) counts below (omega arith)))
    ∙ let same : suc i ≡ i + 1 = omega arith in ap (λ m. head ++ table_lines 1 (take m counts)) same)))
