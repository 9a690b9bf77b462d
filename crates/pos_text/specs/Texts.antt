-- The lines that list proofs and qualities and that name a damage: words with one blank between two of them, and one newline at
-- the end. Numbers are decimal without leading zeros, bytes are hexadecimal in lower case.
-- Source: this project's own lines.
use Rattle.std.specs.Prelude.{ℕ, List, [], ◌∷◌, ◌++◌, codes, length, map}
use Rattle.std.specs.Fmt.{decimal}
use Rattle.hex.specs.Hex.{encode_lower}
use Rattle.pos_order.specs.Values.{value_bytes}
use Rattle.pos_layout.specs.declared.damage.HeaderField.{HeaderField}
use Rattle.pos_layout.specs.declared.damage.HeaderField.TheVariants.{Name, Size, Zeros, Memo, Counts}
use Rattle.pos_layout.specs.declared.damage.Damage.{Damage}
use Rattle.pos_layout.specs.declared.damage.Damage.TheVariants.{NotOpen, Header as WrongHeader, Length, Directory, Digest, Form, Pointer, Order, NotAProof}

-- the line of some words; 32 is a blank, 10 a newline
abbrev pub line : List (List ℕ) → List ℕ
line [] = 10 ∷ []
line (word ∷ []) = word ++ 10 ∷ []
line (word ∷ next ∷ words) = word ++ (32 ∷ line (next ∷ words))

-- a line for each word
abbrev pub lines_of : List (List ℕ) → List ℕ
lines_of [] = []
lines_of (word ∷ words) = line (word ∷ []) ++ lines_of words

-- what is said of proofs of size k: the bytes of each on a line, and then how many they are
abbrev pub proofs_text : ℕ → List (List ℕ) → List ℕ
proofs_text k proofs =
    lines_of (map (λ xs. encode_lower (value_bytes k xs)) proofs) ++ line (decimal (length proofs) ∷ codes "proofs" ∷ [])

-- what is said of qualities: each on a line, and then how many they are
abbrev pub qualities_text : List (List ℕ) → List ℕ
qualities_text qualities =
    lines_of (map encode_lower qualities) ++ line (decimal (length qualities) ∷ codes "qualities" ∷ [])

-- a field of the header
abbrev pub field_name : HeaderField → List ℕ
field_name Name = codes "name"
field_name Size = codes "size"
field_name Zeros = codes "zeros"
field_name Memo = codes "memo"
field_name Counts = codes "counts"

-- what is said of a damage
abbrev pub damage_words : Damage → List (List ℕ)
damage_words (NotOpen file_length gate) = codes "not-open" ∷ decimal file_length ∷ decimal gate ∷ []
damage_words (WrongHeader field) = codes "header" ∷ field_name field ∷ []
damage_words (Length said found) = codes "length" ∷ decimal said ∷ decimal found ∷ []
damage_words (Directory table park) = codes "directory" ∷ decimal table ∷ decimal park ∷ []
damage_words (Digest table park) = codes "digest" ∷ decimal table ∷ decimal park ∷ []
damage_words (Form table park) = codes "form" ∷ decimal table ∷ decimal park ∷ []
damage_words (Pointer table at) = codes "pointer" ∷ decimal table ∷ decimal at ∷ []
damage_words (Order table at) = codes "order" ∷ decimal table ∷ decimal at ∷ []
damage_words (NotAProof at) = codes "not-a-proof" ∷ decimal at ∷ []

abbrev pub damage_line : Damage → List ℕ
damage_line d = line (codes "damage" ∷ damage_words d)
