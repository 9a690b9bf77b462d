-- Words of hexadecimal digits, and the bytes that they write.
use Rattle.std.proofs.Common.{◌≡◌, ℕ, ◌*◌, ◌%◌, List, [], length, refl}
use Rattle.std.specs.Prelude.{None, IsSome, unwrap_or, Result, Ok, Err, MatchResult}
use Rattle.std.specs.List.{AllPass}
use Rattle.std.specs.Result.{result_ok}
use Rattle.std.proofs.lemmas.Bool.{false≢true}
use Rattle.hex.specs.Hex.{decode_of, decode_sized, is_hex_digit}
use Rattle.hex.specs.declared.error.FromHexError.{FromHexError}
use Rattle.hex.proofs.HexLemmas.{decode_of-digits, decode_of-ok, decode_sized-twice}
use Rattle.pos_app.specs.Words.{bytes_word}
use Rattle.pos_app.specs.Read.{digits_bytes}

-- an even number of digits writes bytes
pub some_digits : (word : List ℕ) → length word % 2 ≡ 0 → AllPass is_hex_digit word → IsSome (bytes_word word)
some_digits word even digits = let r = decode_of-digits word even digits in rw (r.1) refl

none_where : (word : List ℕ) (d : Result (List ℕ) FromHexError) → decode_of word ≡ d
    → ((length word % 2 ≡ 0) × AllPass is_hex_digit word → ⊥) → result_ok d ≡ None
none_where word (Ok bytes) e other = let ok = decode_of-ok word bytes e in absurd (other (ok.0, ok.1))
none_where word (Err fault) e other = refl

-- anything else writes none
pub none_digits : (word : List ℕ) → ((length word % 2 ≡ 0) × AllPass is_hex_digit word → ⊥) → bytes_word word ≡ None
none_digits word other = none_where word (decode_of word) refl other

decoded_as : (d : Result (List ℕ) FromHexError) (r : Result (Unit {0}) FromHexError) (out : List ℕ) → IsSome (result_ok d)
    → MatchResult d (λ bytes. (r ≡ Ok tt) × (out ≡ bytes)) (λ e. r ≡ Err e)
    → (r ≡ Ok tt) × (out ≡ unwrap_or (result_ok d) [])
decoded_as (Ok bytes) r out some h = h
decoded_as (Err e) r out some h = absurd (false≢true some)

-- digits decode into room for their bytes
pub decoded_digits : (word : List ℕ) (n : ℕ) (r : Result (Unit {0}) FromHexError) (out : List ℕ)
    → IsSome (bytes_word word) → length word ≡ 2 * n
    → MatchResult (decode_sized word n) (λ bytes. (r ≡ Ok tt) × (out ≡ bytes)) (λ e. r ≡ Err e)
    → (r ≡ Ok tt) × (out ≡ digits_bytes word)
decoded_digits word n r out some twice h =
    decoded_as (decode_of word) r out some (rw (decode_sized-twice word n twice) at h)

length_as : (word : List ℕ) (d : Result (List ℕ) FromHexError) → decode_of word ≡ d → IsSome (result_ok d)
    → length word ≡ 2 * length (unwrap_or (result_ok d) [])
length_as word (Ok bytes) e some = (decode_of-ok word bytes e).2
length_as word (Err fault) e some = absurd (false≢true some)

-- and are twice as many as these
pub length_digits : (word : List ℕ) → IsSome (bytes_word word) → length word ≡ 2 * length (digits_bytes word)
length_digits word some = length_as word (decode_of word) refl some
