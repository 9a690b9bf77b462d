-- A writer while other files change, and drafts that grow by several numbers.
use Rattle.std.proofs.Common.{◌≡◌, ℕ, true, List, [], ◌++◌, ap, append-nil, append_assoc}
use Rattle.pos_edge.specs.View.{View}
use Rattle.pos_edge.specs.Frame.{ChangesOnly, NameOf}
use Rattle.pos_layout.specs.Drafts.{Draft, WriterState, Stands, draft_bytes}
use Rattle.pos_layout.specs.Images.{HoldsShut}
use Rattle.pos_layout.specs.Writing.{with_numbers}
use Rattle.pos_gate.proofs.WorksLemmas.{holds_beside}
pub use Rattle.pos_gate.proofs.WorksLemmas.{works_only, writes_none, writes_then, shut_beside}

-- the writer stands for its draft as before
pub stands_beside : (w : WriterState) (p : Draft) (names : List ℕ → Type 0) (ids : ℕ → Type 0) (a b : View) → ChangesOnly names ids a b
    → (ids w.file → ⊥) → ((n : List ℕ) → NameOf w.file a n → names n → ⊥) → Stands w p a → Stands w p b
stands_beside w p names ids a b kept other apart s = record {
  parks = s.parks;
  keeps = record {
    draft = s.keeps.draft;
    layout = s.keeps.layout;
    memo_length = s.keeps.memo_length;
    id = s.keeps.id;
    size = s.keeps.size;
    columns = s.keeps.columns;
    count = s.keeps.count;
    least = s.keeps.least;
    written = s.keeps.written;
    numbers = s.keeps.numbers;
    entries = s.keeps.entries;
    file_length = s.keeps.file_length;
    file = holds_beside names ids w.file (draft_bytes p s.parks) a b kept other apart s.keeps.file;
  };
  full = s.full;
  short = s.short;
}

-- what a writer stands for is live, and its file has a closed gate
pub stands_live : (w : WriterState) (p : Draft) (v : View) → Stands w p v → v.is_live w.file ≡ true
stands_live w p v s = s.keeps.file.bytes.live

pub stands_shut : (w : WriterState) (p : Draft) (v : View) (s : Stands w p v) → HoldsShut w.file (draft_bytes p s.parks) v
stands_shut w p v s = s.keeps.file

-- ---- drafts

pub with_numbers-none : (p : Draft) → with_numbers [] p ≡ p
with_numbers-none p = ap (λ ns. let d : Draft = record { layout = p.layout; memo = p.memo; id = p.id; k = p.k; ended = p.ended; numbers = ns } in d) (append-nil p.numbers)

pub with_numbers-append : (xs ys : List ℕ) (p : Draft) → with_numbers ys (with_numbers xs p) ≡ with_numbers (xs ++ ys) p
with_numbers-append xs ys p = ap (λ ns. let d : Draft = record { layout = p.layout; memo = p.memo; id = p.id; k = p.k; ended = p.ended; numbers = ns } in d) (append_assoc p.numbers xs ys)
