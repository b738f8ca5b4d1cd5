-- The pattern stands at a place exactly where each of its characters agrees with the text's.
use Rattle.std.proofs.Common.{◌≡◌, ◌+◌, ◌<◌, ◌≤◌, ◌∷◌, [], ℕ, zero, suc, Bool, true, false, ◌&&◌, List, length, get_or, take, drop, arith, refl}
use Rattle.std.proofs.lemmas.List.{get_or-drop, length-drop}
use lib.Pointwise.{pointwise}
use Rattle.rt_search.specs.declared.search.Case.{Case}
use Rattle.rt_search.specs.Searches.{agree, stands_at}

both : (a b : Bool) → a ≡ true → b ≡ true → (a && b) ≡ true
both a b e h = rw (e, h) refl

second_false : (a b : Bool) → b ≡ false → (a && b) ≡ false
second_false true b e = e
second_false false b e = refl

all_agree : (E : ℕ → ℕ → Bool) (xs ys : List ℕ) → length xs ≤ length ys → ((j : ℕ) → j < length xs → E (get_or xs j 0) (get_or ys j 0) ≡ true)
    → pointwise E xs (take (length xs) ys) ≡ true
all_agree E [] ys h f = refl
all_agree E (x ∷ xs) [] h f = absurd (omega arith)
all_agree E (x ∷ xs) (y ∷ ys) h f =
    both (E x y) (pointwise E xs (take (length xs) ys)) (f 0 (omega arith)) (all_agree E xs ys (omega arith) (λ j p. f (suc j) (omega arith)))

one_differs : (E : ℕ → ℕ → Bool) (xs ys : List ℕ) (j : ℕ) → length xs ≤ length ys → j < length xs → E (get_or xs j 0) (get_or ys j 0) ≡ false
    → pointwise E xs (take (length xs) ys) ≡ false
one_differs E [] ys j h p e = absurd (omega arith)
one_differs E (x ∷ xs) [] j h p e = absurd (omega arith)
one_differs E (x ∷ xs) (y ∷ ys) zero h p e = rw e refl
one_differs E (x ∷ xs) (y ∷ ys) (suc j) h p e = second_false (E x y) (pointwise E xs (take (length xs) ys)) (one_differs E xs ys j (omega arith) (omega arith) e)

too_short : (E : ℕ → ℕ → Bool) (xs ys : List ℕ) → length ys < length xs → pointwise E xs (take (length xs) ys) ≡ false
too_short E [] ys h = absurd (omega arith)
too_short E (x ∷ xs) [] h = refl
too_short E (x ∷ xs) (y ∷ ys) h = second_false (E x y) (pointwise E xs (take (length xs) ys)) (too_short E xs ys (omega arith))

room : (text : List ℕ) (place m end : ℕ) → place + m ≤ end → end ≤ length text → m ≤ length (drop place text)
room text place m end h k = rw (length-drop place text) (omega arith)

pub stands : (case : Case) (pattern text : List ℕ) (place end : ℕ) → place + length pattern ≤ end → end ≤ length text
    → ((j : ℕ) → j < length pattern → agree case (get_or pattern j 0) (get_or text (place + j) 0) ≡ true) → stands_at case pattern text place ≡ true
stands case pattern text place end h k f =
    all_agree (agree case) pattern (drop place text) (room text place (length pattern) end h k) (λ j p. rw (get_or-drop place text j 0) (f j p))

pub differs : (case : Case) (pattern text : List ℕ) (place end j : ℕ) → place + length pattern ≤ end → end ≤ length text → j < length pattern
    → agree case (get_or pattern j 0) (get_or text (place + j) 0) ≡ false → stands_at case pattern text place ≡ false
differs case pattern text place end j h k p e =
    one_differs (agree case) pattern (drop place text) j (room text place (length pattern) end h k) p (rw (get_or-drop place text j 0) e)

-- a match ends in the text
pub runs_out : (case : Case) (pattern text : List ℕ) (place : ℕ) → place ≤ length text → length text < place + length pattern → stands_at case pattern text place ≡ false
runs_out case pattern text place h k = too_short (agree case) pattern (drop place text) (rw (length-drop place text) (omega arith))
