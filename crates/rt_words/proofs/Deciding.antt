-- Whether a text spells words: its first word is looked for, then those of what follows it.
use Rattle.std.proofs.Common.{◌≡◌, ◌≢◌, ◌⊎◌, inl, inr, ℕ, ◌≤◌, zero, suc, List, [], ◌∷◌, Bool, true, false, length, drop, refl, sym, ◌∙◌, subst, arith}
use Rattle.std.proofs.lemmas.Bool.{cases_eq, cases_Bool}
use Rattle.std.proofs.lemmas.List.{length-drop}
use Rattle.rt_stamps.specs.Words.{Word}
use Rattle.rt_words.specs.Spelling.{EndsWord, IsBadlyQuoted, IsBadlyQuotedBy, IsBadlyQuotedList, Spells, SpellsBy, SpellsList, is_blank, is_list_blank}
use Rattle.rt_words.specs.FirstWord.{BeginsWith, HasNoBracedFront, HasNoFirstWord, HasNoQuotedFront, IsFirstWord}
use Rattle.rt_words.specs.declared.words.Separators.TheVariants.{OfLine, OfList}
use Rattle.rt_words.proofs.ClosingBraces.{HasBracedFront, braced_or_not}
use Rattle.rt_words.proofs.ClosingQuotes.{HasQuotedFront, quoted_or_not}
use Rattle.rt_words.proofs.Separating.{IsSeparating, separating}
use Rattle.rt_words.proofs.Spelling.{after_first, bare_first, braced_followed, no_braced_first, no_quoted_first, no_words, quoted_followed, spells_blank}
use Rattle.rt_words.proofs.Spelling.{spells_first, spells_past_blank}
use Rattle.rt_words.proofs.WordSteps.{word_some}

module _ (separates : ℕ → Bool) (sound : IsSeparating separates) where
  -- a separator or nothing is at the front, or neither is
  ends : (text : List ℕ) → EndsWord separates text ⊎ (EndsWord separates text → ⊥)
  ends [] = inl tt
  ends (c ∷ rest) = by (cases_Bool (separates c))
    where
      by : (separates c ≡ true) ⊎ (separates c ≡ false) → EndsWord separates (c ∷ rest) ⊎ (EndsWord separates (c ∷ rest) → ⊥)
      by (inl e) = inl e
      by (inr d) = inr (λ e. let f : true ≡ false = sym e ∙ d in cc)

  -- ---- the word at the front of a text

  abbrev HasFirstWord : List ℕ → Type 0
  HasFirstWord text = (len : ℕ) × (word : Word) × IsFirstWord separates text len word

  abbrev IsFirstDecided : List ℕ → Type 0
  IsFirstDecided text = HasFirstWord text ⊎ HasNoFirstWord separates text

  quoted : (text : List ℕ) → BeginsWith text 34 → HasQuotedFront text ⊎ HasNoQuotedFront text → IsFirstDecided text
  quoted text b (inl q) = by (ends (drop q.0 text))
    where
      by : EndsWord separates (drop q.0 text) ⊎ (EndsWord separates (drop q.0 text) → ⊥) → IsFirstDecided text
      by (inl e) = inl (q.0, q.1, (q.2.0, inr (inl q.2.1), e))
      by (inr n) = inr (quoted_followed separates sound text q.0 q.1 b q.2 n)
  quoted text b (inr none) = inr (no_quoted_first separates sound text b none)

  braced : (text : List ℕ) → BeginsWith text 123 → HasBracedFront text ⊎ HasNoBracedFront text → IsFirstDecided text
  braced text b (inl q) = by (ends (drop q.0 text))
    where
      by : EndsWord separates (drop q.0 text) ⊎ (EndsWord separates (drop q.0 text) → ⊥) → IsFirstDecided text
      by (inl e) = inl (q.0, q.1, (q.2.0, inr (inr q.2.1), e))
      by (inr n) = inr (braced_followed separates sound text q.0 q.1 b q.2 n)
  braced text b (inr none) = inr (no_braced_first separates sound text b none)

  -- a text that begins with no separator
  begun : (c : ℕ) (rest : List ℕ) → separates c ≡ false → IsFirstDecided (c ∷ rest)
  begun c rest d = by (cases_eq c 34) (cases_eq c 123)
    where
      by : (c ≡ 34) ⊎ (c ≢ 34) → (c ≡ 123) ⊎ (c ≢ 123) → IsFirstDecided (c ∷ rest)
      by (inl e) m = subst (λ z. IsFirstDecided (z ∷ rest)) (sym e) (quoted (34 ∷ rest) (omega arith, refl) (quoted_or_not rest))
      by (inr q) (inl e) = subst (λ z. IsFirstDecided (z ∷ rest)) (sym e) (braced (123 ∷ rest) (omega arith, refl) (braced_or_not rest))
      by (inr q) (inr b) = inl (_, _, bare_first separates sound (c ∷ rest) (omega arith) d q b)

  -- ---- all words

  abbrev IsDecided : List ℕ → Type 0
  IsDecided text = ((words : List Word) × SpellsBy separates text words) ⊎ IsBadlyQuotedBy separates text

  -- a separator first
  blank : (c : ℕ) (rest : List ℕ) → separates c ≡ true → IsDecided rest → IsDecided (c ∷ rest)
  blank c rest e (inl h) = inl (h.0, spells_blank separates sound c rest h.0 e h.1)
  blank c rest e (inr none) = inr (λ words h. none words (spells_past_blank separates sound c rest words e h))

  -- a word first, and what is decided of what follows it
  dark : (c : ℕ) (rest : List ℕ) → separates c ≡ false → IsFirstDecided (c ∷ rest)
      → ((text : List ℕ) → length text ≤ length rest → IsDecided text) → IsDecided (c ∷ rest)
  dark c rest d (inl f) on = by (on (drop f.0 (c ∷ rest)) shorter)
    where
      shorter : length (drop f.0 (c ∷ rest)) ≤ length rest
      shorter = omega (arith, word_some separates sound (c ∷ rest) f.0 f.1 f.2, length-drop f.0 (c ∷ rest))

      by : IsDecided (drop f.0 (c ∷ rest)) → IsDecided (c ∷ rest)
      by (inl h) = inl (f.1 ∷ h.0, spells_first separates sound (c ∷ rest) f.0 f.1 h.0 f.2 h.1)
      by (inr none) = inr (λ words h. let p = after_first separates sound (c ∷ rest) f.0 f.1 (omega arith) d f.2 words h in none p.0 p.1)
  dark c rest d (inr none) on = inr (no_words separates sound (c ∷ rest) (omega arith) d none)

  -- what is decided of shorter texts is decided of a longer one
  next : (c : ℕ) (rest : List ℕ) → ((text : List ℕ) → length text ≤ length rest → IsDecided text) → IsDecided (c ∷ rest)
  next c rest on = by (cases_Bool (separates c))
    where
      by : (separates c ≡ true) ⊎ (separates c ≡ false) → IsDecided (c ∷ rest)
      by (inl e) = blank c rest e (on rest (omega arith))
      by (inr d) = dark c rest d (begun c rest d) on

  -- texts of at most a size
  decided_by : (size : ℕ) (text : List ℕ) → length text ≤ size → IsDecided text
  decided_by size [] l = inl ([], refl)
  decided_by zero (c ∷ rest) l = absurd (omega arith)
  decided_by (suc size) (c ∷ rest) l = next c rest (λ text m. decided_by size text (omega arith))

  -- a text spells words or is badly quoted
  decided : (text : List ℕ) → IsDecided text
  decided text = decided_by (length text) text (omega arith)

-- ---- lines and lists

pub line_spells : (line : List ℕ) → ((words : List Word) × Spells line words) ⊎ IsBadlyQuoted line
line_spells = decided is_blank (separating OfLine)

pub list_spells : (list : List ℕ) → ((words : List Word) × SpellsList list words) ⊎ IsBadlyQuotedList list
list_spells = decided is_list_blank (separating OfList)
