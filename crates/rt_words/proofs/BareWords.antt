-- Bare words: the characters before a separator or the end.
use Rattle.std.proofs.Common.{◌≡◌, ℕ, ◌+◌, ◌<◌, ◌≢◌, ◌==◌, ◌||◌, ◌&&◌, not, cond, suc, List, [], ◌∷◌, ◌++◌, Bool, true, false, true≢false, length, take, drop, get_or, refl, sym, ◌∙◌, ap, subst, arith}
use Rattle.std.specs.List.{list_any, prefix_len}
use Rattle.std.proofs.lemmas.Bool.Decides.{nat_tests}
use Rattle.rt_words.specs.Spelling.{EndsWord, IsBare}
use Rattle.rt_words.proofs.Fronts.{heads, one_more}

-- no separator
abbrev pub is_dark : (ℕ → Bool) → ℕ → Bool
is_dark separates c = not (separates c)

pub both_true : (a b : Bool) → (a && b) ≡ true → (a ≡ true) × (b ≡ true)
both_true true true h = (refl, refl)
both_true true false h = absurd (cc)
both_true false b h = absurd (cc)

pub both_false : (a b : Bool) → (a || b) ≡ false → (a ≡ false) × (b ≡ false)
both_false false false h = (refl, refl)
both_false false true h = absurd (cc)
both_false true b h = absurd (cc)

module _ (separates : ℕ → Bool) where
  -- a character that is both a separator and none
  pub not_both : (c d : ℕ) → c ≡ d → separates c ≡ true → separates d ≡ false → ⊥
  not_both c d e f g = true≢false (sym f ∙ ap separates e ∙ g)

  pub bare_dark : (piece : List ℕ) → IsBare separates piece → list_any separates piece ≡ false
  bare_dark [] h = refl
  bare_dark (c ∷ piece) h = h.1

  -- two pieces without separators at one place, each before a separator or the end
  pub dark_once : (p q r s : List ℕ) → list_any separates p ≡ false → list_any separates q ≡ false → EndsWord separates r → EndsWord separates s → p ++ r ≡ q ++ s → p ≡ q
  dark_once [] [] r s a b f g e = refl
  dark_once [] (d ∷ q) r s a b f g e = absurd (not_both d d refl (subst (EndsWord separates) e f) (both_false (separates d) (list_any separates q) b).0)
  dark_once (c ∷ p) [] r s a b f g e = absurd (not_both c c refl (subst (EndsWord separates) (sym e) g) (both_false (separates c) (list_any separates p) a).0)
  dark_once (c ∷ p) (d ∷ q) r s a b f g e =
      let h = heads c d (p ++ r) (q ++ s) e in
      let t = dark_once p q r s (both_false (separates c) (list_any separates p) a).1 (both_false (separates d) (list_any separates q) b).1 f g h.1 in
      ap (λ z. z ∷ p) h.0 ∙ ap (λ (z : List ℕ). d ∷ z) t

  -- a bare word begins with no quote or brace
  pub bare_other : (p r t : List ℕ) (x : ℕ) → IsBare separates p → ((x == 34) || (x == 123)) ≡ true → p ++ r ≡ x ∷ t → ⊥
  bare_other [] r t x b q e = b
  bare_other (c ∷ p) r t x b q e =
      let same = (heads c x (p ++ r) t e).0 in
      true≢false (sym q ∙ sym (ap (λ z. (z == 34) || (z == 123)) same) ∙ b.0)

  -- ---- the characters before the first separator

  dark_by : (b : Bool) (c : ℕ) (text : List ℕ) → separates c ≡ b → list_any separates (take (prefix_len (is_dark separates) text) text) ≡ false
      → list_any separates (take (cond (not b) (1 + prefix_len (is_dark separates) text) 0) (c ∷ text)) ≡ false
  dark_by true c text e ih = refl
  dark_by false c text e ih = rw (one_more (prefix_len (is_dark separates) text), e) ih

  pub dark_front : (text : List ℕ) → list_any separates (take (prefix_len (is_dark separates) text) text) ≡ false
  dark_front [] = refl
  dark_front (c ∷ text) = dark_by (separates c) c text refl (dark_front text)

  ends_by : (b : Bool) (c : ℕ) (text : List ℕ) → separates c ≡ b → EndsWord separates (drop (prefix_len (is_dark separates) text) text) → EndsWord separates (drop (cond (not b) (1 + prefix_len (is_dark separates) text) 0) (c ∷ text))
  ends_by true c text e ih = e
  ends_by false c text e ih = subst (λ n. EndsWord separates (drop n (c ∷ text))) (sym (one_more (prefix_len (is_dark separates) text))) ih

  pub dark_ends : (text : List ℕ) → EndsWord separates (drop (prefix_len (is_dark separates) text) text)
  dark_ends [] = tt
  dark_ends (c ∷ text) = ends_by (separates c) c text refl (dark_ends text)

  plain : (c : ℕ) → c ≢ 34 → c ≢ 123 → ((c == 34) || (c == 123)) ≡ false
  plain c q b = grind (arith, nat_tests)

  bare_by : (c : ℕ) (text : List ℕ) → separates c ≡ false → c ≢ 34 → c ≢ 123 → IsBare separates (take (prefix_len (is_dark separates) (c ∷ text)) (c ∷ text))
  bare_by c text d q b =
      subst (λ k. IsBare separates (take k (c ∷ text))) (sym n) (plain c q b, subst (λ k. list_any separates (take k (c ∷ text)) ≡ false) n (dark_front (c ∷ text)))
    where
      n : prefix_len (is_dark separates) (c ∷ text) ≡ suc (prefix_len (is_dark separates) text)
      n = rw d (one_more (prefix_len (is_dark separates) text))

  -- they are a bare word, but for a quote or a brace at the front
  pub bare_front : (text : List ℕ) → 0 < length text → separates (get_or text 0 0) ≡ false → get_or text 0 0 ≢ 34 → get_or text 0 0 ≢ 123 → IsBare separates (take (prefix_len (is_dark separates) text) text)
  bare_front [] l d q b = absurd (omega arith)
  bare_front (c ∷ text) l d q b = bare_by c text d q b
