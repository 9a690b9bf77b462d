-- The file of the plot of an id: it is one, and of the images of a run nothing else opens.
use Rattle.std.proofs.Common.{ℕ, zero, suc, ◌-◌, ◌≤◌, ◌<◌, ◌≡◌, List, [], ◌∷◌, length, get_or, take, Option, Some, None, refl, sym, ap, ◌∙◌, subst, inl, inr, arith}
use Rattle.std.proofs.lemmas.List.{take_all}
use Rattle.pos_edge.specs.View.{View}
use Rattle.pos_lists.specs.PlotLists.{PlotLists, numbers, count}
use Rattle.pos_lists.specs.Trees.{IsInRange}
use Rattle.pos_laws.specs.PlotOf.{PlotOf}
use Rattle.pos_laws.proofs.OnePlotOnly.{one_plot}
use Rattle.pos_layout.specs.declared.header.Column.{Column}
use Rattle.pos_layout.specs.declared.layout.Layout.{Layout}
use Rattle.pos_layout.specs.Fields.{after_memo, layout_in, memo_in}
use Rattle.pos_layout.specs.Rules.{Well}
use Rattle.pos_layout.specs.Files.{file_of, columns_for}
use Rattle.pos_layout.specs.Drafts.{Draft, WriterState, Stands, count_so_far, plot_of}
use Rattle.pos_layout.specs.Images.{IsShut, IsShutOr, IsTinyOrShut}
use Rattle.pos_layout.proofs.FileBytes.{file-are_bytes}
use Rattle.pos_layout.proofs.FileImages.{tiny_is_closed, shut_is_closed, but_gate_is_the_file}
use Rattle.pos_layout.proofs.FileOnly.{one_file}
use Rattle.pos_layout.proofs.FilePlots.{file_memo, file_stores}
use Rattle.pos_layout.proofs.LayoutLemmas.{layout_named}
use Rattle.pos_layout.proofs.WriterLemmas.{all_ended, plot_from_draft, count-ended}
use Rattle.pos_plot.specs.PlotFiles.{IsFileOfPlot, IsFileWith, OpensAs}

-- at most one file of a layout and a memo is that of the plot of an id and a size
pub one_plot_file : (b c id : List ℕ) (k : ℕ) → IsFileOfPlot b id k → IsFileOfPlot c id k → layout_in b ≡ layout_in c → memo_in b ≡ memo_in c → b ≡ c
one_plot_file b c id k f g layout memo =
    let same : f.plot ≡ g.plot = one_plot f.plot g.plot id k f.plot_of f.well.in_range g.plot_of g.well.in_range in
    one_file (layout_in b) b f.plot f.bytes f.well.stores
    ∙ (ap (file_of (layout_in b) (memo_in b)) same
    ∙ (ap (λ (l : Layout). file_of l (memo_in b) g.plot) layout ∙ (ap (λ (m : List ℕ). file_of (layout_in c) m g.plot) memo ∙ sym (one_file (layout_in c) c g.plot g.bytes g.well.stores))))

-- ---- images

pub tiny_opens_as : (l : Layout) (memo id : List ℕ) (k : ℕ) (image : Option (List ℕ)) → IsTinyOrShut image → OpensAs l memo id k image
tiny_opens_as l memo id k None is = tt
tiny_opens_as l memo id k (Some b) (inl tiny) = λ opens. absurd (tiny_is_closed (layout_in b) b tiny opens)
tiny_opens_as l memo id k (Some b) (inr shut) = λ opens. absurd (shut_is_closed (layout_in b) b shut opens)

pub shut_opens_as : (l : Layout) (memo id : List ℕ) (k : ℕ) (image : Option (List ℕ)) → IsShut image → OpensAs l memo id k image
shut_opens_as l memo id k None is = tt
shut_opens_as l memo id k (Some b) shut = λ opens. absurd (shut_is_closed (layout_in b) b shut opens)

pub finished_opens_as : (l : Layout) (memo id : List ℕ) (k : ℕ) (p : PlotLists) (image : Option (List ℕ)) → IsFileWith l memo (file_of l memo p) id k → IsShutOr (file_of l memo p) image → OpensAs l memo id k image
finished_opens_as l memo id k p None file is = tt
finished_opens_as l memo id k p (Some b) file (inl shut) = λ opens. absurd (shut_is_closed (layout_in b) b shut opens)
finished_opens_as l memo id k p (Some b) file (inr but) = λ opens. subst (λ x. IsFileWith l memo x id k) (sym (but_gate_is_the_file l (layout_in b) b memo p but opens)) file

-- the same layout and memo by other names
pub opens_with : (l : Layout) (memo : List ℕ) (m : Layout) (other id : List ℕ) (k : ℕ) (image : Option (List ℕ)) → l ≡ m → memo ≡ other → OpensAs l memo id k image → OpensAs m other id k image
opens_with l memo m other id k image layout same h = subst (λ (n : Layout). OpensAs n other id k image) layout (subst (λ (q : List ℕ). OpensAs l q id k image) same h)

-- ---- the finished file

-- a writer that ended seven tables stands for the file of its plot
abbrev pub finished_is_of_plot : (id : List ℕ) (k : ℕ) (w : WriterState) (p : Draft) (v : View) → Stands w p v → length w.columns ≡ 7 → PlotOf (plot_of p) id k → IsInRange (plot_of p)
    → IsFileWith p.layout p.memo (file_of p.layout p.memo (plot_of p)) id k
finished_is_of_plot id k w p v stands seven plot in_range =
    let is_plot = plot_from_draft p stands.keeps.draft (all_ended w p v stands seven).0 in
    let allowed = stands.keeps.draft.memo in
    let file = file_of p.layout p.memo (plot_of p) in
    let stores = file_stores p.layout p.memo (plot_of p) allowed is_plot in
    let named : layout_in file ≡ p.layout = layout_named p.layout file stores.opens.name in record {
      of_plot = record {
        bytes = file-are_bytes p.layout p.memo (plot_of p) allowed is_plot;
        plot = plot_of p;
        well = subst (λ (l : Layout). Well l file (plot_of p)) (sym named) (record { stores = stores; in_range = in_range });
        plot_of = plot;
      };
      layout = named;
      memo_is = file_memo p.layout p.memo (plot_of p) allowed is_plot;
    }

-- the header's column of a table has the count of its numbers
column_counts : (l : Layout) (k t at : ℕ) (tables : List (List ℕ)) (i : ℕ) (d : Column) → i < length tables → (get_or (columns_for l k t at tables) i d).count ≡ length (get_or tables i [])
unfolding columns_for
column_counts l k t at [] i d h = absurd (omega arith)
column_counts l k t at (ns ∷ tables) zero d h = refl
column_counts l k t at (ns ∷ tables) (suc i) d h = column_counts l k (suc t) _ tables i d (omega arith)

numbers_at : (p : Draft) (n : ℕ) → length (get_or p.ended n []) ≡ count (plot_of p) (suc n)
unfolding numbers
numbers_at p n = refl

-- and so has the writer
pub counts_are : (w : WriterState) (p : Draft) (v : View) → Stands w p v → length w.columns ≡ 7 → (t : ℕ) → 1 ≤ t → t ≤ 7 → count_so_far w t ≡ count (plot_of p) t
counts_are w p v stands seven zero first last = absurd (omega arith)
counts_are w p v stands seven (suc n) first last =
    let d : Column = record { count = 0; directory = 0 } in
    let ended = (all_ended w p v stands seven).0 in
    let less : n < length p.ended = omega arith in
    let all : w.columns ≡ take 7 w.columns = sym (take_all 7 w.columns (omega arith)) in
    sym (count-ended w w.columns 7 (suc n) all (omega arith) (omega arith))
    ∙ (ap (λ i. (get_or w.columns i d).count) (less_one n) ∙ (ap (λ cs. (get_or cs n d).count) stands.keeps.columns ∙ (column_counts p.layout p.k 1 (after_memo p.memo) p.ended n d less ∙ numbers_at p n)))
  where
    less_one : (n : ℕ) → suc n - 1 ≡ n
    less_one n = omega arith
