-- Braces that match.
use Rattle.std.proofs.Common.{◌≡◌, ◌⊎◌, inl, inr, ℕ, ◌+◌, ◌<◌, ◌≤◌, ◌==◌, ◌∙◌, refl, sym, ap, subst, arith, List, [], ◌∷◌, ◌++◌, length, take, drop, get_or, append_assoc, cond}
use Rattle.std.proofs.lemmas.Bool.{cases_lt}
use Rattle.std.proofs.lemmas.List.{take-append-le, take-append-drop, take_at, length-append, get_or_at}
use Rattle.std.proofs.lemmas.List.Sums.{sum_by-append}
use Rattle.std.proofs.Math.Seq.{take-append-add}
use Rattle.rt_stamps.specs.Words.{Word}
use Rattle.rt_words.specs.Spelling.{opening, closing, IsBalanced, IsBraced}
use Rattle.rt_words.specs.FirstWord.{BeginsWith, ClosesAt, IsBracedFront, HasNoBracedFront}
use Rattle.rt_words.proofs.Fronts.{heads, begins}

-- a brace that closes, after a text
closing_one : (text : List ℕ) → closing (text ++ 125 ∷ []) ≡ closing text + 1
closing_one text = sum_by-append (λ c. cond (c == 125) 1 0) text (125 ∷ [])

opening_one : (text : List ℕ) → opening (text ++ 125 ∷ []) ≡ opening text + 0
opening_one text = sum_by-append (λ c. cond (c == 123) 1 0) text (125 ∷ [])

-- a balanced text ends before no brace that closes it
shorter : (v w r s : List ℕ) → IsBalanced v → IsBalanced w → v ++ 125 ∷ r ≡ w ++ 125 ∷ s → length v < length w → ⊥
shorter v w r s h k e l =
    let front : take (length v + 1) w ≡ v ++ 125 ∷ [] =
    sym (take-append-le (length v + 1) w (125 ∷ s) (omega arith)) ∙ ap (take (length v + 1)) (sym e) ∙ take-append-add v (125 ∷ r) 1 in
    let few : closing (v ++ 125 ∷ []) ≤ opening (v ++ 125 ∷ []) = subst (λ (u : List ℕ). closing u ≤ opening u) front (k.1 (length v + 1)) in
    omega (arith, few, closing_one v, opening_one v, h.0)

-- two balanced texts at one place, each before a brace that closes
pub balanced_once : (v w r s : List ℕ) → IsBalanced v → IsBalanced w → v ++ 125 ∷ r ≡ w ++ 125 ∷ s → v ≡ w
balanced_once v w r s h k e = by (cases_lt (length v) (length w)) (cases_lt (length w) (length v))
  where
    by : (length v < length w) ⊎ (length w ≤ length v) → (length w < length v) ⊎ (length v ≤ length w) → v ≡ w
    by (inl l) m = absurd (shorter v w r s h k e l)
    by (inr l) (inl m) = absurd (shorter w v s r k h (sym e) m)
    by (inr l) (inr m) =
        let n : length w ≡ length v = omega arith in
        sym (take_at v (125 ∷ r) (length v) refl) ∙ ap (take (length v)) e ∙ take_at w (125 ∷ s) (length v) n

-- two braced words at one place
pub braced_once : (p q r s : List ℕ) (v w : Word) → IsBraced p v → IsBraced q w → p ++ r ≡ q ++ s → (p ≡ q) × (v ≡ w)
braced_once p q r s v w h k e = (h.0 ∙ ap (λ (u : List ℕ). 123 ∷ u ++ (125 ∷ [])) same ∙ sym k.0, same)
  where
    tails : v ++ 125 ∷ r ≡ w ++ 125 ∷ s
    tails = sym (append_assoc v (125 ∷ []) r) ∙ (heads 123 123 ((v ++ 125 ∷ []) ++ r) ((w ++ 125 ∷ []) ++ s) (sym (ap (λ (u : List ℕ). u ++ r) h.0) ∙ e ∙ ap (λ (u : List ℕ). u ++ s) k.0)).1 ∙ append_assoc w (125 ∷ []) s

    same : v ≡ w
    same = balanced_once v w r s h.1 k.1 tails

-- ---- the brace that closes

-- At a place of a text so many of its braces are open, and up to there no more close than open.
pub record OpenAt (text : List ℕ) (place depth : ℕ) : Type 0 where
  pub level : depth + closing (take place text) ≡ opening (take place text)
  pub fronts : (n : ℕ) → n ≤ place → closing (take n text) ≤ opening (take n text)

-- ---- a braced word at the front of a text

unfront_by : (rest : List ℕ) (len : ℕ) (word : Word) → IsBracedFront (123 ∷ rest) len word → ClosesAt rest (length word)
unfront_by rest len word h =
    let whole : rest ≡ word ++ 125 ∷ drop len (123 ∷ rest) =
    (heads 123 123 rest (word ++ 125 ∷ drop len (123 ∷ rest)) (sym (take-append-drop len (123 ∷ rest)) ∙ ap (λ (z : List ℕ). z ++ drop len (123 ∷ rest)) h.1.0 ∙ ap (λ (z : List ℕ). 123 ∷ z) (append_assoc word (125 ∷ []) (drop len (123 ∷ rest))))).1 in
    let n : length rest ≡ length word + length (125 ∷ drop len (123 ∷ rest)) = ap length whole ∙ length-append word (125 ∷ drop len (123 ∷ rest)) in (
      omega (arith, n),
      ap (λ (z : List ℕ). get_or z (length word) 0) whole ∙ get_or_at word 125 (drop len (123 ∷ rest)) 0 (length word) refl,
      subst IsBalanced (sym (ap (take (length word)) whole ∙ take_at word (125 ∷ drop len (123 ∷ rest)) (length word) refl)) h.1.1,
    )

pub unbraced : (text : List ℕ) → BeginsWith text 123 → ((n : ℕ) → ClosesAt (drop 1 text) n → ⊥) → HasNoBracedFront text
unbraced text b none len word h =
    none (length word) (unfront_by (drop 1 text) len word (subst (λ (v : List ℕ). IsBracedFront v len word) (begins text 123 b) h))
