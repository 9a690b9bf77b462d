-- What a word of the command line writes. A word is the list of its bytes.
use Rattle.std.specs.Prelude.{ℕ, ◌^◌, ◌==◌, ◌&&◌, ◌||◌, not, nat_le, nat_lt, Bool, if◌then◌else◌, List, [], ◌∷◌, ◌++◌, length, slice_index, Option, Some, None}
use Rattle.std.specs.List.{starts_with}
use Rattle.std.specs.Option.{option_and_then}
use Rattle.std.specs.Result.{result_ok}
use Rattle.std.specs.Str.{all_ascii_digits}
use Rattle.std.specs.Str.Parse.{digits_value}
use Rattle.hex.specs.Hex.{decode_of}

-- decimal digits without a sign, and without a leading zero except in 0 itself; 48 is the digit 0
abbrev pub is_decimal : List ℕ → Bool
is_decimal word =
    nat_lt 0 (length word) && all_ascii_digits word && (length word == 1 || not (slice_index word 0 == 48))

-- the number that a word writes in decimal
abbrev pub decimal_word : List ℕ → Option ℕ
decimal_word word = if is_decimal word then Some (digits_value 10 word) else None

-- a size k, from 10 to 50
abbrev pub size_word : List ℕ → Option ℕ
size_word word = option_and_then (λ k. if nat_le 10 k && nat_le k 50 then Some k else None) (decimal_word word)

-- how many challenges a check asks for, at most 1,000,000
abbrev pub challenges_word : List ℕ → Option ℕ
challenges_word word = option_and_then (λ n. if nat_le n 1000000 then Some n else None) (decimal_word word)

-- the number of a survey's plot, below 2 ^ 64
abbrev pub number_word : List ℕ → Option ℕ
number_word word = option_and_then (λ n. if nat_lt n (2 ^ 64) then Some n else None) (decimal_word word)

-- the bytes that an even number of hexadecimal digits write, in either case
abbrev pub bytes_word : List ℕ → Option (List ℕ)
bytes_word word = result_ok (decode_of word)

-- the 32 bytes that 64 hexadecimal digits write
abbrev pub hash_word : List ℕ → Option (List ℕ)
hash_word word = if length word == 64 then bytes_word word else None

-- the name of a file: not empty, and with no `-` (45) in front
abbrev pub file_word : List ℕ → Option (List ℕ)
file_word word = if nat_lt 0 (length word) && not (slice_index word 0 == 45) then Some word else None

-- the name begins with the base of scratch files' names and a full stop (46), as all of their names do
abbrev pub begins_as_scratch : List ℕ → List ℕ → Bool
begins_as_scratch base name = starts_with ◌==◌ name (base ++ 46 ∷ [])

-- the names of a file that is to be made and of the scratch files for it, if both words are names and the file's does not
-- begin as theirs do
abbrev pub output_names : Option (List ℕ) → Option (List ℕ) → Option (List ℕ × List ℕ)
output_names (Some file) (Some base) = if begins_as_scratch base file then None else Some (file, base)
output_names file base = None

abbrev pub output_words : List ℕ → List ℕ → Option (List ℕ × List ℕ)
output_words file base = output_names (file_word file) (file_word base)
