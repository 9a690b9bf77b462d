-- How drafts are kept while a table is gathered. Source: this project's own. Units: places and metadata as numbers.
use Rattle.std.specs.Prelude.{◌≡◌, ◌/◌, ◌%◌, ◌^◌, ◌<◌, List, [], ◌∷◌, map}
use Rattle.pos_forward.specs.declared.drafts.Draft.{Draft}
use Rattle.pos_forward.specs.declared.drafts.ShortDraft.{ShortDraft}

-- the draft that a short one stands for: its key is y, 33 bits of the left place and 33 of the right one
abbrev pub whole_draft : ShortDraft → Draft
whole_draft s = record { y = s.key / 2 ^ 66; high = 0; low = s.low; left = s.key / 2 ^ 33 % 2 ^ 33; right = s.key % 2 ^ 33 }

-- the drafts that are kept: the whole ones where there are any, else the short ones
abbrev pub kept_drafts : List ShortDraft → List Draft → List Draft
kept_drafts short [] = map whole_draft short
kept_drafts short (d ∷ ds) = d ∷ ds

-- a draft that a short one can stand for: with no high metadata, y of 62 bits, and places of 33
pub record IsShort (d : Draft) : Type 0 where
  pub high : d.high ≡ 0
  pub y : d.y < 2 ^ 62
  pub left : d.left < 2 ^ 33
  pub right : d.right < 2 ^ 33
