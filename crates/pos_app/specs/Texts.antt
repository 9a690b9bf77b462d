-- The lines that the program writes: words with one blank between two of them, and one newline at the end. Numbers are
-- decimal without leading zeros, bytes are hexadecimal in lower case.
use Rattle.std.specs.Prelude.{ℕ, suc, ◌==◌, if◌then◌else◌, List, [], ◌∷◌, ◌++◌, codes, length, slice_index}
use Rattle.std.specs.Fmt.{decimal}
use Rattle.hex.specs.Hex.{encode_lower}
use Rattle.pos_edge.specs.declared.scratch.ScratchDamage.{ScratchDamage}
use Rattle.pos_layout.specs.declared.header.Header.{Header}
use Rattle.pos_layout.specs.declared.layout.Layout.{Layout}
use Rattle.pos_layout.specs.declared.layout.Layout.TheVariants.{One, Two}
use Rattle.pos_layout.specs.Fields.{count_of}
use Rattle.pos_verify.specs.declared.Verdict.{Verdict}
use Rattle.pos_verify.specs.declared.Verdict.TheVariants.{Accepted, WrongLength, NoMatch, WrongChallenge}
pub use Rattle.pos_text.specs.Texts.{line, lines_of, proofs_text, qualities_text, field_name, damage_words, damage_line}

-- what is said where the words are no command
abbrev pub usage_line : List ℕ
usage_line = line (codes "usage:" ∷ codes "pos_main" ∷ codes "COMMAND" ∷ codes "WORDS" ∷ [])

-- what is said of a verdict
abbrev pub verdict_line : Verdict → List ℕ
verdict_line (Accepted quality) = line (codes "accepted" ∷ encode_lower quality ∷ [])
verdict_line (WrongLength want found) = line (codes "refused" ∷ codes "length" ∷ decimal want ∷ decimal found ∷ [])
verdict_line (NoMatch level pair) = line (codes "refused" ∷ codes "match" ∷ decimal level ∷ decimal pair ∷ [])
verdict_line (WrongChallenge want found) = line (codes "refused" ∷ codes "challenge" ∷ decimal want ∷ decimal found ∷ [])

-- what is said of a plot of size k that was made, by the counts of its seven tables
abbrev pub plotted_line : ℕ → List ℕ → List ℕ
plotted_line k counts =
    line (codes "plotted" ∷ decimal k ∷ decimal (slice_index counts 0) ∷ decimal (slice_index counts 1) ∷ decimal (slice_index counts 2)
    ∷ decimal (slice_index counts 3) ∷ decimal (slice_index counts 4) ∷ decimal (slice_index counts 5) ∷ decimal (slice_index counts 6) ∷ [])

-- what is said where the table has too many entries
abbrev pub full_line : ℕ → List ℕ
full_line table = line (codes "table" ∷ codes "full" ∷ decimal table ∷ [])

-- what is said of a record that was read back out of its range: 58 is a colon, 46 a full stop
abbrev pub scratch_line : ScratchDamage → List ℕ
scratch_line d =
    line (codes "scratch" ∷ decimal d.file ∷ codes "record" ∷ (decimal d.at ++ 58 ∷ []) ∷ decimal d.found ∷ codes "outside"
    ∷ (decimal d.least ++ 46 ∷ 46 ∷ decimal d.limit) ∷ [])

-- the lines of an id and of a size
abbrev pub id_line : List ℕ → List ℕ
id_line id = line (codes "id" ∷ encode_lower id ∷ [])

abbrev pub size_line : ℕ → List ℕ
size_line k = line (codes "k" ∷ decimal k ∷ [])

-- the line of table t, and those of the tables from t on by their counts
abbrev pub table_line : ℕ → ℕ → List ℕ
table_line t count = line (codes "table" ∷ decimal t ∷ decimal count ∷ [])

abbrev pub table_lines : ℕ → List ℕ → List ℕ
table_lines t [] = []
table_lines t (count ∷ counts) = table_line t count ++ table_lines (suc t) counts

abbrev pub length_line : ℕ → List ℕ
length_line file_length = line (codes "length" ∷ decimal file_length ∷ [])

-- the lines of an id, a size, the counts of the tables from 1 on and a length
abbrev pub header_lines : List ℕ → ℕ → List ℕ → ℕ → List ℕ
header_lines id k counts file_length =
    id_line id ++ (size_line k ++ (table_lines 1 counts ++ length_line file_length))

-- the line of a memo, which may be empty
abbrev pub memo_line : List ℕ → List ℕ
memo_line memo = if length memo == 0 then line (codes "memo" ∷ []) else line (codes "memo" ∷ encode_lower memo ∷ [])

-- the lines of a layout: the first one has none, so that what is said of a file of it stays
abbrev pub layout_lines : Layout → List ℕ → List ℕ
layout_lines One memo = []
layout_lines Two memo = line (codes "layout" ∷ codes "2" ∷ []) ++ memo_line memo

-- the lines of a header in either layout
abbrev pub header_part : Header → List ℕ
header_part h =
    header_lines h.id.0 h.size
    (count_of h 1 ∷ count_of h 2 ∷ count_of h 3 ∷ count_of h 4 ∷ count_of h 5 ∷ count_of h 6 ∷ count_of h 7 ∷ [])
    h.file_length

-- what is said of the header and the memo of a plot file
abbrev pub inspect_text : Header → List ℕ → List ℕ
inspect_text h memo = header_part h ++ layout_lines h.layout memo

-- what is said of a plot that was tested by n challenges: how many proofs it has for them, and the digest of their qualities
abbrev pub checked_line : ℕ → ℕ → List ℕ → List ℕ
checked_line n proofs digest =
    line (codes "checked" ∷ decimal n ∷ codes "proofs" ∷ decimal proofs ∷ codes "digest" ∷ encode_lower digest ∷ [])

-- what is said where no file has the name, where one has it that was to be made, and where the disk failed
abbrev pub absent_line : List ℕ → List ℕ
absent_line name = line (codes "absent" ∷ name ∷ [])

abbrev pub exists_line : List ℕ → List ℕ
exists_line name = line (codes "exists" ∷ name ∷ [])

abbrev pub disk_fault_line : List ℕ
disk_fault_line = line (codes "disk" ∷ codes "fault" ∷ [])
