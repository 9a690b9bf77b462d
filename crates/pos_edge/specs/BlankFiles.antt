-- The names that a blank disk keeps, by their places.
use Rattle.std.specs.Prelude.{ℕ, ◌≡◌, max, true, false, List, map, slice_get, slice_set, Option, Some, None, string_bytes}
use Rattle.pos_edge.specs.declared.doubles.blank_disk.BlankFile.{BlankFile}
use Rattle.pos_edge.specs.BlankDisks.{BlankName}

abbrev pub name_of : BlankFile → BlankName
name_of file = record { name = string_bytes file.name; there = file.there; length = file.length }

abbrev pub blank_names : List BlankFile → List BlankName
blank_names files = map name_of files

-- the file at this place is there and has this name
abbrev pub IsThereAt : List BlankName → ℕ → List ℕ → Type 0
IsThereAt names i name = (kept : BlankName) × (slice_get names i ≡ Some kept) × (kept.there ≡ true) × (kept.name ≡ name)

abbrev pub change_at : (BlankName → BlankName) → ℕ → List BlankName → Option BlankName → List BlankName
change_at f slot names None = names
change_at f slot names (Some kept) = slice_set names slot (f kept)

abbrev pub lengthened : ℕ → ℕ → List BlankName → List BlankName
lengthened slot end names = change_at (λ kept. record { name = kept.name; there = kept.there; length = max kept.length end }) slot names (slice_get names slot)

abbrev pub removed : ℕ → List BlankName → List BlankName
removed slot names = change_at (λ kept. record { name = kept.name; there = false; length = kept.length }) slot names (slice_get names slot)
