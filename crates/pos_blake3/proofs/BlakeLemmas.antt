-- Lemmas on the definition of the hash.
use Rattle.std.proofs.Common.{◌≡◌, ℕ, zero, suc, ◌+◌, ◌-◌, ◌*◌, List, [], ◌∷◌, ◌++◌, get_or, refl, ap, sym, ◌∙◌, append_assoc, arith, take, add-one, ◌<◌, ◌≤◌}
use Rattle.std.specs.Prelude.{replicate, length}
use Rattle.std.proofs.Math.Seq.{take-suc}
use Rattle.std.proofs.lemmas.Slice.{take-put_mid}
use borrow.Rule.Slice.PartMut.{put_mid}
use Rattle.std.specs.Int.{w32, to_le_bytes}
use Rattle.pos_blake3.specs.Blake3.{message_words, word_bytes}

-- past its end a list of zeros has zeros
pub get_or-zeros : (n i : ℕ) → get_or (replicate {A = ℕ} n 0) i 0 ≡ 0
get_or-zeros zero i = refl
get_or-zeros (suc n) zero = refl
get_or-zeros (suc n) (suc i) = get_or-zeros n i

-- zeros behind a list don't show where it is read with the default 0
pub get_or-padded : (s : List ℕ) (n i : ℕ) → get_or (s ++ replicate n 0) i 0 ≡ get_or s i 0
get_or-padded [] n i = get_or-zeros n i
get_or-padded (x ∷ s) n zero = refl
get_or-padded (x ∷ s) n (suc i) = get_or-padded s n i

pub words_of_padded : (s : List ℕ) (n : ℕ) → message_words (s ++ replicate n 0) ≡ message_words s
unfolding message_words
words_of_padded s n = simp (get_or-padded)

pub word_bytes-append : (ws : List ℕ) (w : ℕ) → word_bytes (ws ++ w ∷ []) ≡ word_bytes ws ++ to_le_bytes w32 w
unfolding word_bytes
word_bytes-append [] w = refl
word_bytes-append (x ∷ ws) w = rw (word_bytes-append ws w, append_assoc)

-- with the bytes of word i put at their place, the bytes of the words up to it stand in front
pub take-next_word :
    (out words put : List ℕ) (i : ℕ) → i < length words → 4 * i ≤ length out
    → put ≡ to_le_bytes w32 (get_or words i 0) → take (4 * i) out ≡ word_bytes (take i words)
    → take (4 * (i + 1)) (put_mid (4 * i) (4 * i + 4 - 4 * i) out put) ≡ word_bytes (take (i + 1) words)
take-next_word out words put i inside room is so_far =
    let four : length put ≡ 4 = ap length is in
    let here : take (4 * (i + 1)) (put_mid (4 * i) (4 * i + 4 - 4 * i) out put) ≡ take (4 * i) out ++ put =
    take-put_mid (4 * i) (4 * i + 4 - 4 * i) out put (4 * (i + 1)) (omega arith) room
    in
    let front : take (i + 1) words ≡ take i words ++ (get_or words i 0 ∷ []) =
    rw add-one (take-suc words i 0 inside)
    in
    let right : word_bytes (take (i + 1) words) ≡ word_bytes (take i words) ++ to_le_bytes w32 (get_or words i 0) =
    rw front (word_bytes-append (take i words) (get_or words i 0))
    in here ∙ (rw (so_far, is) (sym right))
