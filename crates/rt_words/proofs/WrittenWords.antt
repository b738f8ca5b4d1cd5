-- A word as it is written spells that word, and so do several with a space before each.
use Rattle.std.proofs.Common.{◌≡◌, inl, inr, ℕ, ◌==◌, List, [], ◌∷◌, Bool, true, false, true≢false, refl, sym, ◌∙◌, ap}
use Rattle.std.specs.List.{flat_map, list_any}
use Rattle.std.proofs.lemmas.Bool.{ne_eqb}
use Rattle.rt_stamps.specs.Words.{Word}
use Rattle.rt_words.specs.Spelling.{EndsWord, IsBare, IsEscaped, IsSpelling, Spells, SpellsBy, SpellsList, escape_of, is_blank, is_list_blank}
use Rattle.rt_words.specs.Writing.{needs_quotes, text_of_word}
use Rattle.rt_words.proofs.BareWords.{both_false}

not_needed : (c n : ℕ) → needs_quotes n ≡ true → needs_quotes c ≡ false → (c == n) ≡ false
not_needed c n y h = ne_eqb c n (λ e. true≢false (sym y ∙ sym (ap needs_quotes e) ∙ h))

-- a character that needs no quotes separates no words
abbrev AreQuoted : (ℕ → Bool) → Type 0
AreQuoted separates = (c : ℕ) → needs_quotes c ≡ false → separates c ≡ false

blanks_are_quoted : AreQuoted is_blank
blanks_are_quoted c h = rw (not_needed c 32 refl h, not_needed c 9 refl h) refl

list_blanks_are_quoted : AreQuoted is_list_blank
list_blanks_are_quoted c h = rw (not_needed c 32 refl h, not_needed c 9 refl h, not_needed c 10 refl h) refl

none_separates : (separates : ℕ → Bool) → AreQuoted separates → (word : List ℕ) → list_any needs_quotes word ≡ false → list_any separates word ≡ false
none_separates separates q [] h = refl
none_separates separates q (c ∷ word) h =
    let p = both_false (needs_quotes c) (list_any needs_quotes word) h in rw (q c p.0) (none_separates separates q word p.1)

written_bare : (separates : ℕ → Bool) → AreQuoted separates → (c : ℕ) (word : List ℕ) → list_any needs_quotes (c ∷ word) ≡ false → IsBare separates (c ∷ word)
written_bare separates q c word h =
    let p = (both_false (needs_quotes c) (list_any needs_quotes word) h).0 in
    (rw (not_needed c 34 refl p, not_needed c 123 refl p) refl, none_separates separates q (c ∷ word) h)

written_escaped : (word : Word) → IsEscaped (flat_map escape_of word) word
written_escaped [] = refl
written_escaped (c ∷ word) = (escape_of c, flat_map escape_of word, refl, inl refl, written_escaped word)

written_by : (separates : ℕ → Bool) → AreQuoted separates → (b : Bool) (c : ℕ) (word : Word) → list_any needs_quotes (c ∷ word) ≡ b → list_any needs_quotes (c ∷ word) ≡ b
    → IsSpelling separates (text_of_word (c ∷ word)) (c ∷ word)
written_by separates q true c word e f = rw e (inr (inl (flat_map escape_of (c ∷ word), refl, written_escaped (c ∷ word))))
written_by separates q false c word e f = rw e (inl (written_bare separates q c word f, refl))

written : (separates : ℕ → Bool) → AreQuoted separates → (word : Word) → IsSpelling separates (text_of_word word) word
written separates q [] = inr (inl ([], refl, refl))
written separates q (c ∷ word) = written_by separates q (list_any needs_quotes (c ∷ word)) c word refl refl

-- words with a space before each
abbrev pub spaced_words : List Word → List ℕ
spaced_words words = flat_map (λ word. 32 ∷ text_of_word word) words

spaced_ends : (separates : ℕ → Bool) → separates 32 ≡ true → (words : List Word) → EndsWord separates (spaced_words words)
spaced_ends separates s [] = tt
spaced_ends separates s (word ∷ words) = s

spaced_by : (separates : ℕ → Bool) → AreQuoted separates → separates 32 ≡ true → (words : List Word) → SpellsBy separates (spaced_words words) words
spaced_by separates q s [] = refl
spaced_by separates q s (word ∷ words) =
    (32 ∷ [], text_of_word word, spaced_words words, refl, rw s refl, written separates q word, spaced_ends separates s words, spaced_by separates q s words)

-- a list of words
pub listed : (words : List Word) → SpellsList (spaced_words words) words
listed words = spaced_by is_list_blank list_blanks_are_quoted refl words

-- a line of words
pub lined : (words : List Word) → Spells (spaced_words words) words
lined words = spaced_by is_blank blanks_are_quoted refl words

pub line_ends : (words : List Word) → EndsWord is_blank (spaced_words words)
line_ends words = spaced_ends is_blank refl words
