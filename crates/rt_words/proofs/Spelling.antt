-- The words that a text spells: the separators, the word after them, what follows it.
use Rattle.std.proofs.Common.{◌≡◌, inl, inr, ℕ, ◌+◌, ◌<◌, ◌≤◌, ◌≢◌, cond, List, [], ◌∷◌, ◌++◌, Bool, true, false, length, take, drop, get_or, refl, sym, ◌∙◌, ap, subst, arith, take-append-drop}
use Rattle.std.specs.List.{list_any, list_all, prefix_len}
use Rattle.std.proofs.lemmas.Bool.{eqb-false}
use Rattle.std.proofs.lemmas.List.{take_at, drop_at, length-take-le, length-append, append_cancel_left}
use Rattle.std.proofs.lemmas.List.Sums.{prefix_len-le-length}
use Rattle.rt_words.specs.Spelling.{is_blank}
use Rattle.rt_stamps.specs.Words.{Word}
use Rattle.rt_words.specs.Spelling.{AreSeparators, EndsWord, IsQuoted, IsBraced, IsSpelling, Spells, SpellsBy, SpellsList, is_list_blank}
use Rattle.rt_words.specs.FirstWord.{IsFirstWord, HasNoFirstWord, BeginsWith, IsQuotedFront, HasNoQuotedFront, IsBracedFront, HasNoBracedFront}
use Rattle.rt_words.proofs.BareWords.{is_dark, both_true, both_false, not_both, bare_dark, dark_once, bare_other, dark_ends, bare_front}
use Rattle.rt_words.proofs.Fronts.{heads, one_more, begins, whole_twice}
use Rattle.rt_words.proofs.Quotes.{quoted_once}
use Rattle.rt_words.proofs.Braces.{braced_once}
use Rattle.rt_words.proofs.Separating.{IsSeparating, separating}
use Rattle.rt_words.specs.declared.words.Separators.TheVariants.{OfLine, OfList}

-- what follows the separators at the front
abbrev pub after_blanks : (ℕ → Bool) → List ℕ → List ℕ
after_blanks separates text = drop (prefix_len separates text) text

-- the piece of a word begins with no separator
pub record Starts (separates : ℕ → Bool) (piece : List ℕ) : Type 0 where
  pub first : ℕ
  pub rest : List ℕ
  pub split : piece ≡ first ∷ rest
  pub dark : separates first ≡ false

-- a piece at the front of a text, and what follows it
pub record Parts (separates : ℕ → Bool) (text : List ℕ) (word : Word) (words : List Word) : Type 0 where
  pub piece : List ℕ
  pub rest : List ℕ
  pub split : text ≡ piece ++ rest
  pub spelling : IsSpelling separates piece word
  pub ends : EndsWord separates rest
  pub others : SpellsBy separates rest words

module _ (separates : ℕ → Bool) (sound : IsSeparating separates) where
  -- ---- blanks

  -- a blank more at the front spells nothing more
  pub spells_blank : (c : ℕ) (text : List ℕ) (words : List Word) → separates c ≡ true → SpellsBy separates text words → SpellsBy separates (c ∷ text) words
  spells_blank c text [] e h = rw e h
  spells_blank c text (word ∷ words) e h = (c ∷ h.0, h.1, h.2, ap (λ v. c ∷ v) h.3, rw e h.4, h.5, h.6, h.7)

  pub starts : (piece : List ℕ) (word : Word) → IsSpelling separates piece word → Starts separates piece
  starts [] word (inl h) = absurd h.0
  starts (c ∷ piece) word (inl h) = record { first = c; rest = piece; split = refl; dark = (both_false (separates c) (list_any separates piece) h.0.1).0 }
  starts piece word (inr (inl h)) = record { first = 34; rest = h.0 ++ (34 ∷ []); split = h.1; dark = sound.quote }
  starts piece word (inr (inr h)) = record { first = 123; rest = word ++ (125 ∷ []); split = h.0; dark = sound.brace }

  pub spells_past_blank : (c : ℕ) (text : List ℕ) (words : List Word) → separates c ≡ true → SpellsBy separates (c ∷ text) words → SpellsBy separates text words
  spells_past_blank c text [] e h = (both_true (separates c) (list_all separates text) h).1
  spells_past_blank c text (word ∷ words) e (g, piece, rest, split, blank, spelling, ends, others) = past g split blank
    where
      p : Starts separates piece
      p = starts piece word spelling

      past : (g : List ℕ) → (c ∷ text ≡ g ++ (piece ++ rest)) → AreSeparators separates g → SpellsBy separates text (word ∷ words)
      past [] s b = absurd (not_both separates c p.first (heads c p.first text (p.rest ++ rest) (s ∙ ap (λ (v : List ℕ). v ++ rest) p.split)).0 e p.dark)
      past (d ∷ g) s b = (g, piece, rest, (heads c d text (g ++ (piece ++ rest)) s).1, (both_true (separates d) (list_all separates g) b).1, spelling, ends, others)

  -- what stands after the blanks at the front spells the same words
  blanks_by : (b : Bool) (c : ℕ) (text : List ℕ) (words : List Word) → separates c ≡ b → (SpellsBy separates (after_blanks separates text) words → SpellsBy separates text words)
      → SpellsBy separates (drop (cond b (1 + prefix_len separates text) 0) (c ∷ text)) words → SpellsBy separates (c ∷ text) words
  blanks_by true c text words e ih h = spells_blank c text words e (ih (subst (λ n. SpellsBy separates (drop n (c ∷ text)) words) (one_more (prefix_len separates text)) h))
  blanks_by false c text words e ih h = h

  pub spells_after_blanks : (text : List ℕ) (words : List Word) → SpellsBy separates (after_blanks separates text) words → SpellsBy separates text words
  spells_after_blanks [] words h = h
  spells_after_blanks (c ∷ text) words h = blanks_by (separates c) c text words refl (spells_after_blanks text words) h

  past_blanks_by : (b : Bool) (c : ℕ) (text : List ℕ) (words : List Word) → separates c ≡ b → (SpellsBy separates text words → SpellsBy separates (after_blanks separates text) words)
      → SpellsBy separates (c ∷ text) words → SpellsBy separates (drop (cond b (1 + prefix_len separates text) 0) (c ∷ text)) words
  past_blanks_by true c text words e ih h = subst (λ n. SpellsBy separates (drop n (c ∷ text)) words) (sym (one_more (prefix_len separates text))) (ih (spells_past_blank c text words e h))
  past_blanks_by false c text words e ih h = h

  pub spells_past_blanks : (text : List ℕ) (words : List Word) → SpellsBy separates text words → SpellsBy separates (after_blanks separates text) words
  spells_past_blanks [] words h = h
  spells_past_blanks (c ∷ text) words h = past_blanks_by (separates c) c text words refl (spells_past_blanks text words) h

  -- two gaps at one place, each before a character that is no blank
  gaps_once : (g h x y : List ℕ) (c d : ℕ) → AreSeparators separates g → AreSeparators separates h → separates c ≡ false → separates d ≡ false → g ++ c ∷ x ≡ h ++ d ∷ y → c ∷ x ≡ d ∷ y
  gaps_once [] [] x y c d a b p q e = e
  gaps_once [] (k ∷ h) x y c d a b p q e = absurd (not_both separates k c (sym (heads c k x (h ++ d ∷ y) e).0) (both_true (separates k) (list_all separates h) b).0 p)
  gaps_once (k ∷ g) [] x y c d a b p q e = absurd (not_both separates k d (heads k d (g ++ c ∷ x) y e).0 (both_true (separates k) (list_all separates g) a).0 q)
  gaps_once (k ∷ g) (l ∷ h) x y c d a b p q e =
      gaps_once g h x y c d (both_true (separates k) (list_all separates g) a).1 (both_true (separates l) (list_all separates h) b).1 p q (heads k l (g ++ c ∷ x) (h ++ d ∷ y) e).1

  -- ---- one word

  quote_brace : (x y : List ℕ) → 34 ∷ x ≡ 123 ∷ y → ⊥
  quote_brace x y e = eqb-false 34 123 refl (heads 34 123 x y e).0

  -- two pieces at one place, each before a separator or the end, are one and spell the same word
  pub spelled_once : (p q r s : List ℕ) (v w : Word) → IsSpelling separates p v → IsSpelling separates q w → EndsWord separates r → EndsWord separates s → p ++ r ≡ q ++ s → (p ≡ q) × (v ≡ w)
  spelled_once p q r s v w (inl h) (inl k) f g e = let same = dark_once separates p q r s (bare_dark separates p h.0) (bare_dark separates q k.0) f g e in (same, h.1 ∙ same ∙ sym k.1)
  spelled_once p q r s v w (inl h) (inr (inl k)) f g e = absurd (bare_other separates p r ((k.0 ++ (34 ∷ [])) ++ s) 34 h.0 refl (e ∙ ap (λ (u : List ℕ). u ++ s) k.1))
  spelled_once p q r s v w (inl h) (inr (inr k)) f g e = absurd (bare_other separates p r ((w ++ (125 ∷ [])) ++ s) 123 h.0 refl (e ∙ ap (λ (u : List ℕ). u ++ s) k.0))
  spelled_once p q r s v w (inr (inl h)) (inl k) f g e = absurd (bare_other separates q s ((h.0 ++ (34 ∷ [])) ++ r) 34 k.0 refl (sym e ∙ ap (λ (u : List ℕ). u ++ r) h.1))
  spelled_once p q r s v w (inr (inl h)) (inr (inl k)) f g e = quoted_once p q r s v w h k e
  spelled_once p q r s v w (inr (inl h)) (inr (inr k)) f g e =
      absurd (quote_brace ((h.0 ++ (34 ∷ [])) ++ r) ((w ++ (125 ∷ [])) ++ s) (sym (ap (λ (u : List ℕ). u ++ r) h.1) ∙ e ∙ ap (λ (u : List ℕ). u ++ s) k.0))
  spelled_once p q r s v w (inr (inr h)) (inl k) f g e = absurd (bare_other separates q s ((v ++ (125 ∷ [])) ++ r) 123 k.0 refl (sym e ∙ ap (λ (u : List ℕ). u ++ r) h.0))
  spelled_once p q r s v w (inr (inr h)) (inr (inl k)) f g e =
      absurd (quote_brace ((k.0 ++ (34 ∷ [])) ++ s) ((v ++ (125 ∷ [])) ++ r) (sym (ap (λ (u : List ℕ). u ++ s) k.1) ∙ sym e ∙ ap (λ (u : List ℕ). u ++ r) h.0))
  spelled_once p q r s v w (inr (inr h)) (inr (inr k)) f g e = braced_once p q r s v w h k e

  -- ---- words

  nil_by : (line : List ℕ) (word : Word) (words : List Word) → AreSeparators separates line → SpellsBy separates line (word ∷ words) → ⊥
  nil_by [] word words b (gap, piece, rest, split, blank, spelling, ends, others) = none gap split
    where
      p : Starts separates piece
      p = starts piece word spelling

      none : (gap : List ℕ) → [] ≡ gap ++ (piece ++ rest) → ⊥
      none [] s = let e : [] ≡ p.first ∷ (p.rest ++ rest) = s ∙ ap (λ (v : List ℕ). v ++ rest) p.split in cc
      none (d ∷ gap) s = let e : [] ≡ d ∷ (gap ++ (piece ++ rest)) = s in cc
  nil_by (c ∷ line) word words b h =
      let p = both_true (separates c) (list_all separates line) b in nil_by line word words p.1 (spells_past_blank c line (word ∷ words) p.0 h)

  -- a text spells at most one list of words
  pub spells_one : (line : List ℕ) (a b : List Word) → SpellsBy separates line a → SpellsBy separates line b → a ≡ b
  spells_one line [] [] h k = refl
  spells_one line [] (w ∷ b) h k = absurd (nil_by line w b h k)
  spells_one line (v ∷ a) [] h k = absurd (nil_by line v a k h)
  spells_one line (v ∷ a) (w ∷ b) h k =
      let p = starts h.1 v h.5 in
      let q = starts k.1 w k.5 in
      let x : h.1 ++ h.2 ≡ p.first ∷ (p.rest ++ h.2) = ap (λ (u : List ℕ). u ++ h.2) p.split in
      let y : k.1 ++ k.2 ≡ q.first ∷ (q.rest ++ k.2) = ap (λ (u : List ℕ). u ++ k.2) q.split in
      let e = gaps_once h.0 k.0 (p.rest ++ h.2) (q.rest ++ k.2) p.first q.first h.4 k.4 p.dark q.dark
      (sym (ap (λ (u : List ℕ). h.0 ++ u) x) ∙ sym h.3 ∙ k.3 ∙ ap (λ (u : List ℕ). k.0 ++ u) y) in
      let whole : h.1 ++ h.2 ≡ k.1 ++ k.2 = x ∙ e ∙ sym y in
      let s = spelled_once h.1 k.1 h.2 k.2 v w h.5 k.5 h.6 k.6 whole in
      let rest : h.2 ≡ k.2 = append_cancel_left h.1 h.2 k.2 (whole ∙ ap (λ (u : List ℕ). u ++ k.2) (sym s.0)) in
      let t : a ≡ b = spells_one h.2 a b h.7 (subst (λ (u : List ℕ). SpellsBy separates u b) (sym rest) k.7) in
      ap (λ z. z ∷ a) s.1 ∙ ap (λ z. w ∷ z) t

  -- ---- the word at the front of a text

  -- it and the words that follow it
  pub spells_first : (text : List ℕ) (len : ℕ) (word : Word) (words : List Word) → IsFirstWord separates text len word → SpellsBy separates (drop len text) words → SpellsBy separates text (word ∷ words)
  spells_first text len word words h k = ([], take len text, drop len text, sym (take-append-drop len text), refl, h.1, h.2, k)

  pub not_nil : (c : ℕ) (rest : List ℕ) → separates c ≡ false → AreSeparators separates (c ∷ rest) → ⊥
  not_nil c rest d h = not_both separates c c refl (both_true (separates c) (list_all separates rest) h).0 d

  parts_of : (c : ℕ) (text : List ℕ) (word : Word) (words : List Word) → separates c ≡ false → SpellsBy separates (c ∷ text) (word ∷ words) → Parts separates (c ∷ text) word words
  parts_of c text word words d (gap, piece, rest, split, blank, spelling, ends, others) = by gap split blank
    where
      by : (gap : List ℕ) → c ∷ text ≡ gap ++ (piece ++ rest) → AreSeparators separates gap → Parts separates (c ∷ text) word words
      by [] s b = record { piece = piece; rest = rest; split = s; spelling = spelling; ends = ends; others = others }
      by (k ∷ gap) s b = absurd (not_both separates k c (sym (heads c k text (gap ++ (piece ++ rest)) s).0) (both_true (separates k) (list_all separates gap) b).0 d)

  first_of : (text : List ℕ) (word : Word) (words : List Word) → (p : Parts separates text word words) → IsFirstWord separates text (length p.piece) word
  first_of text word words p =
      let n : length text ≡ length p.piece + length p.rest = ap length p.split ∙ length-append p.piece p.rest in (
        omega (arith, n),
        subst (λ (u : List ℕ). IsSpelling separates u word) (sym (ap (take (length p.piece)) p.split ∙ take_at p.piece p.rest (length p.piece) refl)) p.spelling,
        subst (EndsWord separates) (sym (ap (drop (length p.piece)) p.split ∙ drop_at p.piece p.rest (length p.piece) refl)) p.ends,
      )

  -- a text that begins with no blank spells words only if it begins with one
  pub no_words : (text : List ℕ) → 0 < length text → separates (get_or text 0 0) ≡ false → HasNoFirstWord separates text → (words : List Word) → SpellsBy separates text words → ⊥
  no_words [] l d none words h = omega arith
  no_words (c ∷ text) l d none [] h = not_nil c text d h
  no_words (c ∷ text) l d none (word ∷ words) h = let p = parts_of c text word words d h in none (length p.piece) word (first_of (c ∷ text) word words p)

  -- and then what follows that word spells words
  pub after_first : (text : List ℕ) (len : ℕ) (word : Word) → 0 < length text → separates (get_or text 0 0) ≡ false → IsFirstWord separates text len word → (words : List Word) → SpellsBy separates text words
      → (more : List Word) × SpellsBy separates (drop len text) more
  after_first [] len word l d f words h = absurd (omega arith)
  after_first (c ∷ text) len word l d f [] h = absurd (not_nil c text d h)
  after_first (c ∷ text) len word l d f (w ∷ words) h =
      let p = parts_of c text w words d h in
      let whole : take len (c ∷ text) ++ drop len (c ∷ text) ≡ p.piece ++ p.rest = take-append-drop len (c ∷ text) ∙ p.split in
      let s = spelled_once (take len (c ∷ text)) p.piece (drop len (c ∷ text)) p.rest word w f.1 p.spelling f.2 p.ends whole in
      let rest : drop len (c ∷ text) ≡ p.rest = append_cancel_left (take len (c ∷ text)) (drop len (c ∷ text)) p.rest (whole ∙ ap (λ (u : List ℕ). u ++ p.rest) (sym s.0)) in
      (words, subst (λ (u : List ℕ). SpellsBy separates u words) (sym rest) p.others)

  -- ---- the three kinds

  front_whole : (text : List ℕ) (len c : ℕ) → BeginsWith text c → take len text ++ drop len text ≡ c ∷ drop 1 text
  front_whole text len c h = take-append-drop len text ∙ begins text c h

  quoted_kind : (text : List ℕ) (len : ℕ) (word : Word) → BeginsWith text 34 → IsSpelling separates (take len text) word → IsQuoted (take len text) word
  quoted_kind text len word b (inl h) = absurd (bare_other separates (take len text) (drop len text) (drop 1 text) 34 h.0 refl (front_whole text len 34 b))
  quoted_kind text len word b (inr (inl h)) = h
  quoted_kind text len word b (inr (inr h)) =
      absurd (quote_brace (drop 1 text) ((word ++ (125 ∷ [])) ++ drop len text) (sym (front_whole text len 34 b) ∙ ap (λ (u : List ℕ). u ++ drop len text) h.0))

  braced_kind : (text : List ℕ) (len : ℕ) (word : Word) → BeginsWith text 123 → IsSpelling separates (take len text) word → IsBraced (take len text) word
  braced_kind text len word b (inl h) = absurd (bare_other separates (take len text) (drop len text) (drop 1 text) 123 h.0 refl (front_whole text len 123 b))
  braced_kind text len word b (inr (inl h)) =
      absurd (quote_brace ((h.0 ++ (34 ∷ [])) ++ drop len text) (drop 1 text) (sym (ap (λ (u : List ℕ). u ++ drop len text) h.1) ∙ front_whole text len 123 b))
  braced_kind text len word b (inr (inr h)) = h

  -- fronts of one text
  same_len : (text : List ℕ) (m n : ℕ) → m ≤ length text → n ≤ length text → take m text ≡ take n text → m ≡ n
  same_len text m n l k e = sym (length-take-le m text l) ∙ ap length e ∙ length-take-le n text k

  pub bare_first : (text : List ℕ) → 0 < length text → separates (get_or text 0 0) ≡ false → get_or text 0 0 ≢ 34 → get_or text 0 0 ≢ 123
      → IsFirstWord separates text (prefix_len (is_dark separates) text) (take (prefix_len (is_dark separates) text) text)
  bare_first text l d q b = (prefix_len-le-length (is_dark separates) text, inl (bare_front separates text l d q b, refl), dark_ends separates text)

  pub no_quoted_first : (text : List ℕ) → BeginsWith text 34 → HasNoQuotedFront text → HasNoFirstWord separates text
  no_quoted_first text b none len word h = none len word (h.0, quoted_kind text len word b h.1)

  pub no_braced_first : (text : List ℕ) → BeginsWith text 123 → HasNoBracedFront text → HasNoFirstWord separates text
  no_braced_first text b none len word h = none len word (h.0, braced_kind text len word b h.1)

  -- text after the quote or the brace that closes
  pub quoted_followed : (text : List ℕ) (len : ℕ) (word : Word) → BeginsWith text 34 → IsQuotedFront text len word → (EndsWord separates (drop len text) → ⊥) → HasNoFirstWord separates text
  quoted_followed text len word b q not_end n w h =
      let same = quoted_once (take n text) (take len text) (drop n text) (drop len text) w word (quoted_kind text n w b h.1) q.1 (whole_twice text n len) in
      not_end (subst (λ k. EndsWord separates (drop k text)) (same_len text n len h.0 q.0 same.0) h.2)

  pub braced_followed : (text : List ℕ) (len : ℕ) (word : Word) → BeginsWith text 123 → IsBracedFront text len word → (EndsWord separates (drop len text) → ⊥) → HasNoFirstWord separates text
  braced_followed text len word b q not_end n w h =
      let same = braced_once (take n text) (take len text) (drop n text) (drop len text) w word (braced_kind text n w b h.1) q.1 (whole_twice text n len) in
      not_end (subst (λ k. EndsWord separates (drop k text)) (same_len text n len h.0 q.0 same.0) h.2)

-- ---- lines and lists

pub line_spells_one : (line : List ℕ) (a b : List Word) → Spells line a → Spells line b → a ≡ b
line_spells_one = spells_one is_blank (separating OfLine)

pub list_spells_one : (list : List ℕ) (a b : List Word) → SpellsList list a → SpellsList list b → a ≡ b
list_spells_one = spells_one is_list_blank (separating OfList)
