-- Fronts of texts.
use Rattle.std.proofs.Common.{◌≡◌, ℕ, ◌+◌, ◌<◌, ◌≤◌, suc, Bool, true, List, [], ◌∷◌, ◌++◌, take, drop, length, get_or, refl, sym, ◌∙◌, ap, arith, take-append-drop}
use Rattle.std.proofs.lemmas.List.{take_at, length-append}
use Rattle.std.specs.List.{prefix_len}
use Rattle.rt_words.specs.FirstWord.{BeginsWith}

pub heads : (c d : ℕ) (x y : List ℕ) → c ∷ x ≡ d ∷ y → (c ≡ d) × (x ≡ y)
heads c d x y e = let p : c ≡ d = cc in let q : x ≡ y = cc in (p, q)

pub one_more : (n : ℕ) → 1 + n ≡ suc n
one_more n = omega arith

pub begins : (text : List ℕ) (c : ℕ) → BeginsWith text c → text ≡ c ∷ drop 1 text
begins [] c h = absurd (let l = h.0 in omega arith)
begins (d ∷ text) c h = ap (λ z. z ∷ text) h.1

pub whole_twice : (text : List ℕ) (m n : ℕ) → take m text ++ drop m text ≡ take n text ++ drop n text
whole_twice text m n = take-append-drop m text ∙ sym (take-append-drop n text)

-- the characters of a kind that a text begins with, where the first is known to be one
pub past_first : (p : ℕ → Bool) (text : List ℕ) → 0 < length text → p (get_or text 0 0) ≡ true → 1 + prefix_len p (drop 1 text) ≡ prefix_len p text
past_first p [] l h = absurd (omega arith)
past_first p (c ∷ text) l h = rw h refl

-- a piece at the front of a text is so much of it
pub front_within : (text piece rest : List ℕ) → text ≡ piece ++ rest → length piece ≤ length text
front_within text piece rest e = let n : length text ≡ length piece + length rest = ap length e ∙ length-append piece rest in omega arith

pub front_is : (text piece rest : List ℕ) → text ≡ piece ++ rest → take (length piece) text ≡ piece
front_is text piece rest e = ap (take (length piece)) e ∙ take_at piece rest (length piece) refl
