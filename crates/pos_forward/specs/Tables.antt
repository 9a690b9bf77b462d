-- Tables as they are gathered: table 1 as rows, and a table from 2 to 7 as drafts, before and after they are ordered.
-- Source: the Construction document, "forward propagation". Levels count from 0: level n is table n + 1.
use Rattle.std.specs.Prelude.{◌≡◌, ◌≢◌, ℕ, ◌+◌, ◌^◌, ◌<◌, List, length, map, slice_index_or, All, AllPairs, Contains}
use Rattle.pos_tuple.specs.declared.entry.Entry.{Entry}
use Rattle.pos_tuple.specs.Stream.{f1_of}
use Rattle.pos_buckets.specs.Pairs.{IsPair}
use Rattle.pos_record.specs.declared.kinds.First.{First}
use Rattle.pos_record.specs.Kinds.{FirstFits}
use Rattle.pos_laws.specs.Making.{IsFirstTable, IsNextTable, NeverFalls}
use Rattle.pos_forward.specs.declared.drafts.Draft.{Draft}
use Rattle.pos_forward.specs.Drafts.{draft_entry, draft_pair, first_row_entry, IsNextDraft, IsPairDraft}

-- the y of entries
abbrev pub ys_of : List Entry → List ℕ
ys_of es = map (λ e. e.y) es

-- these rows are table 1 of an id, in the order of y
pub record AreFirstRows (id : List ℕ) (k : ℕ) (rows : List First) : Type 0 where
  pub table : IsFirstTable id k (map (λ r. r.x) rows) (map (first_row_entry k) rows)
  pub rise : NeverFalls (map (first_row_entry k) rows)
  pub fit : All (FirstFits k) rows
  pub count : length rows ≡ 2 ^ k

-- the row of a value
pub record IsValueRow (id : List ℕ) (k : ℕ) (r : First) : Type 0 where
  pub y : r.y ≡ f1_of id k r.x
  pub fits : FirstFits k r

-- the rows of the first n values, by value
pub record AreValueRows (id : List ℕ) (k n : ℕ) (rows : List First) : Type 0 where
  pub each : All (IsValueRow id k) rows
  pub at : (i : ℕ) → i < n → (slice_index_or rows i (record { y = 0; x = 0 })).x ≡ i
  pub count : length rows ≡ n

-- these are the matching pairs of places of a table whose right place is below n, each once
pub record ArePairsTo (es : List Entry) (n : ℕ) (pairs : List (ℕ × ℕ)) : Type 0 where
  pub each : All (IsPair (ys_of es) (ys_of es)) pairs
  pub below : All (λ p. p.1 < n) pairs
  pub all : (p : ℕ × ℕ) → IsPair (ys_of es) (ys_of es) p → p.1 < n → Contains pairs p
  pub once : AllPairs ◌≢◌ pairs

-- these are the drafts of table t, in no order: one for each matching pair of places of the table below, es
pub record AreUnsorted (k t : ℕ) (es : List Entry) (drafts : List Draft) : Type 0 where
  pub pairs : ArePairsTo es (length es) (map draft_pair drafts)
  pub made : All (IsNextDraft k t es) drafts
  pub fit : All (IsPairDraft k t (length es)) drafts

-- these are the drafts of level n + 1, made of level n, es, in the order of y
pub record IsSortedTable (k n : ℕ) (es : List Entry) (drafts : List Draft) : Type 0 where
  pub table : IsNextTable k n es (map draft_pair drafts) (map (draft_entry k (n + 2)) drafts)
  pub rise : NeverFalls (map (draft_entry k (n + 2)) drafts)
  pub fit : All (IsPairDraft k (n + 2) (length es)) drafts
