-- Whether a quote closes what stands within quotes, and so whether a quoted word is at the front of a text.
use Rattle.std.proofs.Common.{◌≡◌, ◌≢◌, ◌⊎◌, inl, inr, ℕ, List, [], ◌∷◌, ◌++◌, length, drop, refl, sym, ◌∙◌, ap, subst, append_assoc}
use Rattle.std.proofs.Common.{take-append-drop}
use Rattle.std.proofs.lemmas.Bool.{cases_eq}
use Rattle.rt_stamps.specs.Words.{Word}
use Rattle.rt_words.specs.Spelling.{IsEscaped, escape_of}
use Rattle.rt_words.specs.FirstWord.{HasNoQuotedFront, IsQuotedFront}
use Rattle.rt_words.proofs.Fronts.{front_is, front_within, heads}
use Rattle.rt_words.proofs.Quotes.{StaysOpen, escaped_append, no_escape, open_end, open_letter, open_nothing, past}

-- a text that is within quotes, the quote that closes it, and what follows
record Closes (rest : List ℕ) : Type 0 where
  pub text : List ℕ
  pub after : List ℕ
  pub word : Word
  pub split : rest ≡ text ++ 34 ∷ after
  pub escaped : IsEscaped text word

-- one closes it or none does
abbrev IsQuoteDecided : List ℕ → Type 0
IsQuoteDecided rest = Closes rest ⊎ StaysOpen rest

-- characters within quotes in front of it change nothing
behind : (front rest : List ℕ) (word : Word) → IsEscaped front word → IsQuoteDecided rest → IsQuoteDecided (front ++ rest)
behind front rest word e (inl h) = inl (record {
  text = front ++ h.text;
  after = h.after;
  word = word ++ h.word;
  split = ap (λ (u : List ℕ). front ++ u) h.split ∙ sym (append_assoc front h.text (34 ∷ h.after));
  escaped = escaped_append front h.text word h.word e h.escaped;
})
behind front rest word e (inr none) = inr (λ more after tail h s. let p = past front word rest more after tail e h s in none p.0 after p.1 p.3 p.2)

-- behind a backslash a letter stands for a character, or for none
abbrev IsLetterDecided : ℕ → Type 0
IsLetterDecided l = ((c : ℕ) × (escape_of c ≡ 92 ∷ l ∷ [])) ⊎ ((c : ℕ) → escape_of c ≢ 92 ∷ l ∷ [])

letter_is : (l m c : ℕ) → l ≡ m → escape_of c ≡ 92 ∷ m ∷ [] → IsLetterDecided l
letter_is l m c e h = inl (c, h ∙ ap (λ z. 92 ∷ z ∷ []) (sym e))

letter : (l : ℕ) → IsLetterDecided l
letter l = by (cases_eq l 110) (cases_eq l 116) (cases_eq l 114) (cases_eq l 92) (cases_eq l 34)
  where
    by : (l ≡ 110) ⊎ (l ≢ 110) → (l ≡ 116) ⊎ (l ≢ 116) → (l ≡ 114) ⊎ (l ≢ 114) → (l ≡ 92) ⊎ (l ≢ 92) → (l ≡ 34) ⊎ (l ≢ 34) → IsLetterDecided l
    by (inl a) q r s t = letter_is l 110 10 a refl
    by (inr p) (inl a) r s t = letter_is l 116 9 a refl
    by (inr p) (inr q) (inl a) s t = letter_is l 114 13 a refl
    by (inr p) (inr q) (inr r) (inl a) t = letter_is l 92 92 a refl
    by (inr p) (inr q) (inr r) (inr s) (inl a) = letter_is l 34 34 a refl
    by (inr p) (inr q) (inr r) (inr s) (inr t) = inr (no_escape l p q r s t)

closes_escape : (l : ℕ) (rest : List ℕ) → IsLetterDecided l → IsQuoteDecided rest → IsQuoteDecided (92 ∷ l ∷ rest)
closes_escape l rest (inl e) h = behind (92 ∷ l ∷ []) rest (e.0 ∷ []) (92 ∷ l ∷ [], [], refl, inl (sym e.1), refl) h
closes_escape l rest (inr none) h = inr (open_letter l rest none)

-- a quote, a backslash or another character
closes_by : (c : ℕ) (rest : List ℕ) → (c ≡ 34) ⊎ (c ≢ 34) → (c ≡ 92) ⊎ (c ≢ 92) → IsQuoteDecided rest → IsQuoteDecided (92 ∷ rest) → IsQuoteDecided (c ∷ rest)
closes_by c rest (inl q) m h k = inl (record { text = []; after = rest; word = []; split = ap (λ z. z ∷ rest) q; escaped = refl })
closes_by c rest (inr q) (inl b) h k = subst (λ z. IsQuoteDecided (z ∷ rest)) (sym b) k
closes_by c rest (inr q) (inr b) h k = behind (c ∷ []) rest (c ∷ []) (c ∷ [], [], refl, inr (refl, q, b), refl) h

closes : (rest : List ℕ) → IsQuoteDecided rest
closes [] = inr open_nothing
closes (c ∷ []) = closes_by c [] (cases_eq c 34) (cases_eq c 92) (inr open_nothing) (inr open_end)
closes (c ∷ l ∷ rest) =
    closes_by c (l ∷ rest) (cases_eq c 34) (cases_eq c 92) (closes (l ∷ rest)) (closes_escape l rest (letter l) (closes rest))

-- ---- a quoted word at the front of a text

abbrev pub HasQuotedFront : List ℕ → Type 0
HasQuotedFront text = (len : ℕ) × (word : Word) × IsQuotedFront text len word

quoted_front : (rest : List ℕ) → IsQuoteDecided rest → HasQuotedFront (34 ∷ rest) ⊎ HasNoQuotedFront (34 ∷ rest)
quoted_front rest (inl h) =
    inl (length piece, h.word, (front_within (34 ∷ rest) piece h.after whole, (h.text, front_is (34 ∷ rest) piece h.after whole, h.escaped)))
  where
    piece : List ℕ
    piece = 34 ∷ h.text ++ (34 ∷ [])

    whole : 34 ∷ rest ≡ piece ++ h.after
    whole = ap (λ (u : List ℕ). 34 ∷ u) (h.split ∙ sym (append_assoc h.text (34 ∷ []) h.after))
quoted_front rest (inr unclosed) = inr none
  where
    none : HasNoQuotedFront (34 ∷ rest)
    none len word q =
        let after : List ℕ = drop len (34 ∷ rest) in
        let whole : 34 ∷ rest ≡ 34 ∷ ((q.1.0 ++ (34 ∷ [])) ++ after) = sym (take-append-drop len (34 ∷ rest)) ∙ ap (λ (u : List ℕ). u ++ after) q.1.1 in
        unclosed q.1.0 after word q.1.2 ((heads 34 34 rest ((q.1.0 ++ (34 ∷ [])) ++ after) whole).1 ∙ append_assoc q.1.0 (34 ∷ []) after)

pub quoted_or_not : (rest : List ℕ) → HasQuotedFront (34 ∷ rest) ⊎ HasNoQuotedFront (34 ∷ rest)
quoted_or_not rest = quoted_front rest (closes rest)
