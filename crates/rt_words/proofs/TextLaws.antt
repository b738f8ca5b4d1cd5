-- The word of a text, character by character.
use Rattle.std.proofs.Common.{◌≡◌, ◌∙◌, ℕ, ◌<◌, Bool, true, false, ◌||◌, List, [], ◌∷◌, ◌++◌, length, refl, ap, arith}
use Rattle.std.specs.List.{flat_map, list_any}
use Rattle.std.specs.Prelude.{encode_utf8, encode_utf8_all}
use Rattle.std.proofs.lemmas.Grind.{flat_map-append}
use Rattle.std.proofs.lemmas.List.Folds.{list_any-append}
use Rattle.std.proofs.lemmas.List.{nil_from_length}
use Rattle.std.proofs.lemmas.Str.{length-le-encodes}
use Rattle.rt_words.specs.Spelling.{escape_of}
use Rattle.rt_words.specs.Writing.{needs_quotes, text_of_word}

-- what the bytes of a text are made, each character's bytes are
pub flat_map_encoded : (f : ℕ → List ℕ) (text : List ℕ) → flat_map f (encode_utf8_all text) ≡ flat_map (λ c. flat_map f (encode_utf8 c)) text
flat_map_encoded f [] = refl
flat_map_encoded f (c ∷ text) = flat_map-append f (encode_utf8 c) (encode_utf8_all text) ∙ ap (λ v. flat_map f (encode_utf8 c) ++ v) (flat_map_encoded f text)

-- a byte of a text passes a test where a byte of one of its characters does
pub any_encoded : (p : ℕ → Bool) (text : List ℕ) → list_any p (encode_utf8_all text) ≡ list_any (λ c. list_any p (encode_utf8 c)) text
any_encoded p [] = refl
any_encoded p (c ∷ text) = list_any-append p (encode_utf8 c) (encode_utf8_all text) ∙ ap (λ v. list_any p (encode_utf8 c) || v) (any_encoded p text)

pub encoded : (text : List ℕ) → encode_utf8_all text ≡ flat_map encode_utf8 text
encoded [] = refl
encoded (c ∷ text) = ap (λ v. encode_utf8 c ++ v) (encoded text)

quoted_bytes : (word : List ℕ) → list_any needs_quotes word ≡ true → text_of_word word ≡ 34 ∷ flat_map escape_of word ++ (34 ∷ [])
quoted_bytes [] h = refl
quoted_bytes (c ∷ word) h = rw h refl

bare_bytes : (word : List ℕ) → (word ≡ [] → ⊥) → list_any needs_quotes word ≡ false → text_of_word word ≡ word
bare_bytes [] h k = absurd (h refl)
bare_bytes (c ∷ word) h k = rw k refl

-- a text with a character that wants quotes
pub quoted_text : (text : List ℕ) → list_any (λ c. list_any needs_quotes (encode_utf8 c)) text ≡ true
    → text_of_word (encode_utf8_all text) ≡ 34 ∷ flat_map (λ c. flat_map escape_of (encode_utf8 c)) text ++ (34 ∷ [])
quoted_text text h = quoted_bytes (encode_utf8_all text) (any_encoded needs_quotes text ∙ h) ∙ ap (λ v. 34 ∷ v ++ (34 ∷ [])) (flat_map_encoded escape_of text)

-- a text without characters
pub empty_text : (text : List ℕ) → length text ≡ 0 → text_of_word (encode_utf8_all text) ≡ 34 ∷ 34 ∷ []
empty_text text h = ap (λ t. text_of_word (encode_utf8_all t)) (nil_from_length text h)

-- any other text
pub bare_text : (text : List ℕ) → 0 < length text → list_any (λ c. list_any needs_quotes (encode_utf8 c)) text ≡ false
    → text_of_word (encode_utf8_all text) ≡ flat_map encode_utf8 text
bare_text text some h =
    let long = length-le-encodes text in
    bare_bytes (encode_utf8_all text) (λ none. let e = ap length none in omega arith) (any_encoded needs_quotes text ∙ h) ∙ encoded text
