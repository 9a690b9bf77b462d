-- What opening finds in the first bytes is what it finds in the file.
use Rattle.std.proofs.Common.{◌≡◌, ◌∙◌, ◌++◌, ℕ, List, Some, None, sym, ap, subst, take, drop, length, replicate}
use Rattle.pos_edge.specs.Frame.{NameOf}
use Rattle.pos_layout.specs.Fields.{layout_in}
use Rattle.pos_layout.proofs.LayoutLemmas.{header_layout}
use Rattle.pos_layout.specs.Damages.{opening}
use Rattle.pos_layout.specs.Rules.{IsLaidOut, Opens}
use Rattle.pos_reader.proofs.OpeningLemmas.{IsGood, good-from_opening, header_padded, opening_padded}
use Rattle.pos_layout.proofs.FileOpening.{opens_where_nothing}
use Rattle.pos_reader.proofs.reads.read_header.Goals as goal
use Rattle.pos_reader.proofs.reads.read_header.Given.{Over}
use Rattle.pos_reader.proofs.reads.read_header.Goals.{In-Ok, In_ok-read_front}

good : (g : Over) (c : In-Ok g) → IsGood c.read_front.new.buf c.size-file_length.result
good g c = good-from_opening c.read_front.new.buf c.size-file_length.result c.in-Ok.ensures.no_damage

-- the buffer, by the file's bytes
padded : (g : Over) (c : In_ok-read_front g) (name b : List ℕ) → NameOf c.args.file.0 (g.D.Disk.view c.args.disk.now) name
    → (g.D.Disk.view c.args.disk.now).contents name ≡ Some b → c.size-file_length.result ≡ length b
    → c.read_front.new.buf ≡ take 176 b ++ drop c.size-file_length.result (replicate 176 0)
padded g c name b named holds len = c.in_ok-read_front.ensures.ok name b named holds len ∙ ap (λ n. take 176 b ++ drop n (replicate 176 0)) (sym len)

pub returns-in-Ok-clause-laid_out : goal.returns-in-Ok-clause-laid_out
returns-in-Ok-clause-laid_out g c = subst (λ h. IsLaidOut h.layout h) (sym c.in-Ok.ensures.ok) (good g (goal.at.returns-in-Ok-clause-laid_out g c).In-Ok).laid_out

pub returns-in-Ok-clause-whole : goal.returns-in-Ok-clause-whole
returns-in-Ok-clause-whole g c =
    ap (λ h. h.file_length) c.in-Ok.ensures.ok ∙ (good g (goal.at.returns-in-Ok-clause-whole g c).In-Ok).said ∙ c.size-file_length.ensures

pub returns-in-Ok-clause-ok : goal.returns-in-Ok-clause-ok
returns-in-Ok-clause-ok g c = λ name b named holds size.
    let n = c.size-file_length.result in
    let len : n ≡ length b = c.size-file_length.ensures ∙ size in
    let is = padded g (goal.at.returns-in-Ok-clause-ok g c).In_ok-read_front name b named holds len in
    let same = c.in-Ok.ensures.ok ∙ header_padded b c.read_front.new.buf n len is (good g (goal.at.returns-in-Ok-clause-ok g c).In-Ok).long in
    let none : opening (layout_in b) b n ≡ None = sym (opening_padded b c.read_front.new.buf n len is) ∙ c.in-Ok.ensures.no_damage in (
      subst (λ l. Opens l b) (sym (ap (λ h. h.layout) same ∙ header_layout b)) (opens_where_nothing (layout_in b) b (ap (λ k. opening (layout_in b) b k) (sym len) ∙ none)),
      same,
    )

pub returns-in-Err-clause-damage : goal.returns-in-Err-clause-damage
returns-in-Err-clause-damage g c = λ d same name b named holds size.
    let n = c.size-file_length.result in
    let len : n ≡ length b = c.size-file_length.ensures ∙ size in
    let is = padded g (goal.at.returns-in-Err-clause-damage g c).In_ok-read_front name b named holds len in
    let e : c.in-Err.damage ≡ d = cc in
    ap (λ k. opening (layout_in b) b k) (sym len) ∙ sym (opening_padded b c.read_front.new.buf n len is) ∙ c.in-Err.ensures.damage ∙ ap (λ x. Some x) e
