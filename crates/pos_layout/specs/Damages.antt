-- The first test of opening that fails, by the bytes of a file.
-- Source: this project's plot file format. Offsets and lengths are in bytes, tables count from 1 to 7.
use Rattle.std.specs.Prelude.{ℕ, ◌+◌, ◌-◌, ◌^◌, ◌==◌, ◌&&◌, ◌||◌, not, nat_le, Bool, if◌then◌else◌, List, [], ◌∷◌, Option, Some, None, option_map}
use Rattle.std.specs.List.{list_all}
use Rattle.std.specs.Str.{bytes_eq}
use Rattle.pos_layout.specs.declared.header.Column.{Column}
use Rattle.pos_layout.specs.declared.header.Header.{Header}
use Rattle.pos_layout.specs.declared.damage.HeaderField.{HeaderField}
use Rattle.pos_layout.specs.declared.damage.HeaderField.TheVariants.{Name, Size, Zeros, Memo, Counts}
use Rattle.pos_layout.specs.declared.damage.Damage.{Damage}
use Rattle.pos_layout.specs.declared.damage.Damage.TheVariants.{NotOpen, Header as WrongHeader, Length, Directory}
use Rattle.pos_layout.specs.declared.header.TheConstants.{HEADER_BYTES, LEAST_SIZE, GREATEST_SIZE}
use Rattle.pos_layout.specs.Layouts.{Layout, name_of, memo_of}
use Rattle.pos_layout.specs.Fields.{gate_in, name_in, zeros_in, header_in, count_of, directory_of, end_of}

-- what a test finds that has to hold
abbrev pub unless : {D : Type 0} → Bool → D → Option D
unless holds d = if holds then None else Some d

-- what the first of some tests finds that finds anything
abbrev pub first_found : {D : Type 0} → List (Option D) → Option D
first_found [] = None
first_found (None ∷ tests) = first_found tests
first_found (Some d ∷ tests) = Some d

-- the tests of the header alone: name, size, zeros, memo, counts
unfoldable pub header_fault : Layout → List ℕ → Option HeaderField
header_fault l b =
    let h = header_in b in
    first_found (
    unless (bytes_eq (name_in b) (name_of l)) Name
    ∷ unless (nat_le LEAST_SIZE h.size && nat_le h.size GREATEST_SIZE) Size
    ∷ unless (list_all (λ x. x == 0) (zeros_in l b)) Zeros
    ∷ unless (nat_le h.memo_length (memo_of l)) Memo
    ∷ unless (list_all (λ (c : Column). nat_le c.count (2 ^ (h.size + 1))) h.columns) Counts
    ∷ []
    )

-- whether table t's directory lies after the table before and ends inside the file
abbrev pub is_placed : Layout → Header → ℕ → Bool
is_placed l h t =
    nat_le (end_of l h (t - 1)) (directory_of h t) && nat_le (end_of l h t) h.file_length
    && (not (count_of h t == 0) || (directory_of h t == end_of l h (t - 1)))

abbrev pub place_fault : Layout → Header → ℕ → Option Damage
place_fault l h t = unless (is_placed l h t) (Directory t 0)

-- the tests of the directories' places, table by table, and that the file ends with the last one
unfoldable pub directory_fault : Layout → Header → Option Damage
directory_fault l h =
    first_found (
    place_fault l h 1 ∷ place_fault l h 2 ∷ place_fault l h 3 ∷ place_fault l h 4 ∷ place_fault l h 5 ∷ place_fault l h 6
    ∷ place_fault l h 7 ∷ unless (end_of l h 7 == h.file_length) (Directory 7 0) ∷ []
    )

-- what opening a file of n bytes finds, by its first 176 bytes
unfoldable pub opening : Layout → List ℕ → ℕ → Option Damage
opening l b n =
    let h = header_in b in
    first_found (
    unless (nat_le HEADER_BYTES n && (gate_in b == 1)) (NotOpen n (gate_in b))
    ∷ option_map (λ field. WrongHeader field) (header_fault l b)
    ∷ unless (h.file_length == n) (Length h.file_length n)
    ∷ directory_fault l h
    ∷ []
    )
