-- Five words, one by one.
use Rattle.std.proofs.Common.{◌≡◌, ℕ, List, [], ◌∷◌, length, get_or, refl, sym, ap, ◌∙◌, subst, arith}
use Rattle.std.specs.Prelude.{map, String, string_bytes, Option, Some, None}
use Rattle.std.specs.declared.alloc.Global.{Global}
use Rattle.pos_app.specs.Words.{size_word, number_word, challenges_word, output_words}
use Rattle.pos_app.specs.Command.{Survey, survey_command, survey_of}

at_five : (P : List (String Global) → Type 0) → ((v w x y z : String Global) → P (v ∷ w ∷ x ∷ y ∷ z ∷ [])) → (ws : List (String Global)) → length ws ≡ 5 → P ws
at_five P five [] len = absurd (omega arith)
at_five P five (v ∷ []) len = absurd (omega arith)
at_five P five (v ∷ w ∷ []) len = absurd (omega arith)
at_five P five (v ∷ w ∷ x ∷ []) len = absurd (omega arith)
at_five P five (v ∷ w ∷ x ∷ y ∷ []) len = absurd (omega arith)
at_five P five (v ∷ w ∷ x ∷ y ∷ z ∷ []) len = five v w x y z
at_five P five (v ∷ w ∷ x ∷ y ∷ z ∷ u ∷ ws) len = absurd (omega arith)

-- they are no command, where they are not five
pub not_five : (ws : List (String Global)) → (length ws ≡ 5 → ⊥) → survey_command (map string_bytes ws) ≡ None
not_five [] apart = refl
not_five (v ∷ []) apart = refl
not_five (v ∷ w ∷ []) apart = refl
not_five (v ∷ w ∷ x ∷ []) apart = refl
not_five (v ∷ w ∷ x ∷ y ∷ []) apart = refl
not_five (v ∷ w ∷ x ∷ y ∷ z ∷ []) apart = absurd (apart refl)
not_five (v ∷ w ∷ x ∷ y ∷ z ∷ u ∷ ws) apart = refl

-- a word that is none makes all of them none
none_of_number : (k n : Option ℕ) (names : Option (List ℕ × List ℕ)) → survey_of k None n names ≡ None
none_of_number None n names = refl
none_of_number (Some k) n names = refl

none_of_challenges : (k number : Option ℕ) (names : Option (List ℕ × List ℕ)) → survey_of k number None names ≡ None
none_of_challenges None number names = refl
none_of_challenges (Some k) None names = refl
none_of_challenges (Some k) (Some number) names = refl

none_of_names : (k number n : Option ℕ) → survey_of k number n None ≡ None
none_of_names None number n = refl
none_of_names (Some k) None n = refl
none_of_names (Some k) (Some number) None = refl
none_of_names (Some k) (Some number) (Some n) = refl

pub no_number : (ws : List (String Global)) (b : String Global) → length ws ≡ 5 → b ≡ get_or ws 1 b → number_word (string_bytes b) ≡ None
    → survey_command (map string_bytes ws) ≡ None
no_number ws b len at none =
    at_five (λ ws. b ≡ get_or ws 1 b → survey_command (map string_bytes ws) ≡ None) (λ v w x y z e.
    subst (λ o. survey_of (size_word (string_bytes v)) o (challenges_word (string_bytes x)) (output_words (string_bytes y) (string_bytes z)) ≡ None)
    (sym (subst (λ s. number_word (string_bytes s) ≡ None) e none)) (none_of_number _ _ _)) ws len at

pub no_challenges : (ws : List (String Global)) (c : String Global) → length ws ≡ 5 → c ≡ get_or ws 2 c → challenges_word (string_bytes c) ≡ None
    → survey_command (map string_bytes ws) ≡ None
no_challenges ws c len at none =
    at_five (λ ws. c ≡ get_or ws 2 c → survey_command (map string_bytes ws) ≡ None) (λ v w x y z e.
    subst (λ o. survey_of (size_word (string_bytes v)) (number_word (string_bytes w)) o (output_words (string_bytes y) (string_bytes z)) ≡ None)
    (sym (subst (λ s. challenges_word (string_bytes s) ≡ None) e none)) (none_of_challenges _ _ _)) ws len at

pub no_names : (ws : List (String Global)) (d e : String Global) → length ws ≡ 5 → d ≡ get_or ws 3 d → e ≡ get_or ws 4 e → output_words (string_bytes d) (string_bytes e) ≡ None
    → survey_command (map string_bytes ws) ≡ None
no_names ws d e len at_d at_e none =
    at_five (λ ws. d ≡ get_or ws 3 d → e ≡ get_or ws 4 e → survey_command (map string_bytes ws) ≡ None) (λ v w x y z f g.
    subst (λ o. survey_of (size_word (string_bytes v)) (number_word (string_bytes w)) (challenges_word (string_bytes x)) o ≡ None)
    (sym (subst (λ s. output_words (string_bytes s) (string_bytes z) ≡ None) f (subst (λ s. output_words (string_bytes d) (string_bytes s) ≡ None) g none))) (none_of_names _ _ _)) ws len at_d at_e

-- five words that are what they have to be
pub five_words : (ws : List (String Global)) (a b c d e : String Global) (k number n : ℕ) (file base : List ℕ) → length ws ≡ 5
    → a ≡ get_or ws 0 a → b ≡ get_or ws 1 b → c ≡ get_or ws 2 c → d ≡ get_or ws 3 d → e ≡ get_or ws 4 e
    → size_word (string_bytes a) ≡ Some k → number_word (string_bytes b) ≡ Some number → challenges_word (string_bytes c) ≡ Some n
    → output_words (string_bytes d) (string_bytes e) ≡ Some (file, base)
    → survey_command (map string_bytes ws) ≡ Some (Survey k number n file base)
five_words ws a b c d e k number n file base len at_a at_b at_c at_d at_e k_is number_is n_is names_are =
    at_five (λ ws. a ≡ get_or ws 0 a → b ≡ get_or ws 1 b → c ≡ get_or ws 2 c → d ≡ get_or ws 3 d → e ≡ get_or ws 4 e
    → survey_command (map string_bytes ws) ≡ Some (Survey k number n file base)) (λ v w x y z ea eb ec ed ee.
    ap (λ o. survey_of o (number_word (string_bytes w)) (challenges_word (string_bytes x)) (output_words (string_bytes y) (string_bytes z)))
    (subst (λ s. size_word (string_bytes s) ≡ Some k) ea k_is)
    ∙ ap (λ o. survey_of (Some k) o (challenges_word (string_bytes x)) (output_words (string_bytes y) (string_bytes z)))
    (subst (λ s. number_word (string_bytes s) ≡ Some number) eb number_is)
    ∙ ap (λ o. survey_of (Some k) (Some number) o (output_words (string_bytes y) (string_bytes z)))
    (subst (λ s. challenges_word (string_bytes s) ≡ Some n) ec n_is)
    ∙ ap (λ o. survey_of (Some k) (Some number) (Some n) o)
    (subst (λ s. output_words (string_bytes s) (string_bytes z) ≡ Some (file, base)) ed (subst (λ s. output_words (string_bytes d) (string_bytes s) ≡ Some (file, base)) ee names_are)))
    ws len at_a at_b at_c at_d at_e
