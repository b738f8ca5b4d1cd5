-- What `is_sorted_by` answers, as a test of each element and the next.
use Rattle.std.proofs.Common.{◌≡◌, ℕ, zero, suc, ◌<◌, Bool, true, false, ◌&&◌, List, [], ◌∷◌, length, map, get_or, refl, sym, ap, arith, add-one}
use Rattle.std.specs.List.{IsAllAdjacentAnswer, list_all}
use Rattle.std.specs.Str.{all_scalars}
use Rattle.std.proofs.Math.Utf8.{scalar}
use Rattle.rt_ops.specs.Rules.{each_next}

all_next : {X : Type 0} (e : X → X → Bool) (xs : List X) → ((k : ℕ) (d : X) → suc k < length xs → true ≡ e (get_or xs k d) (get_or xs (suc k) d)) → each_next e xs ≡ true
all_next e [] h = refl
all_next e (x ∷ []) h = refl
all_next e (x ∷ (y ∷ rest)) h =
    let a : e x y ≡ true = sym (h 0 x (omega arith)) in
    let b : each_next e (y ∷ rest) ≡ true = all_next e (y ∷ rest) (λ k d l. h (suc k) d (omega arith)) in
    rw (a, b)

and_false : (b : Bool) → (b && false) ≡ false
and_false true = refl
and_false false = refl

not_next : {X : Type 0} (e : X → X → Bool) (xs : List X) (k : ℕ) → suc k < length xs → ((d : X) → false ≡ e (get_or xs k d) (get_or xs (suc k) d)) → each_next e xs ≡ false
not_next e [] k l h = absurd (omega arith)
not_next e (x ∷ []) k l h = absurd (omega arith)
not_next e (x ∷ (y ∷ rest)) zero l h = let a : e x y ≡ false = sym (h x) in rw a
not_next e (x ∷ (y ∷ rest)) (suc k) l h =
    let b : each_next e (y ∷ rest) ≡ false = not_next e (y ∷ rest) k (omega arith) h in
    rw b (and_false (e x y))

pub each_next_is : {X : Type 0} (e : X → X → Bool) (xs : List X) (r : Bool) → IsAllAdjacentAnswer (λ x y b. b ≡ e x y) xs r → r ≡ each_next e xs
each_next_is e xs true h = sym (all_next e xs (λ k d l. rw (← add-one k) (h k d (rw (add-one k) l))))
each_next_is e xs false h = sym (not_next e xs h.0 (rw (← add-one h.0) h.1) (λ d. rw (← add-one h.0) (h.2 d)))

-- a test of what is seen of each element
pub all_map : {X Y : Type 0} (p : Y → Bool) (f : X → Y) (xs : List X) → list_all p (map f xs) ≡ list_all (λ x. p (f x)) xs
all_map p f [] = refl
all_map p f (x ∷ xs) = ap (λ b. p (f x) && b) (all_map p f xs)

pub each_next_map : {X Y : Type 0} (e : Y → Y → Bool) (f : X → Y) (xs : List X) → each_next e (map f xs) ≡ each_next (λ x y. e (f x) (f y)) xs
each_next_map e f [] = refl
each_next_map e f (x ∷ []) = refl
each_next_map e f (x ∷ (y ∷ rest)) = ap (λ b. e (f x) (f y) && b) (each_next_map e f (y ∷ rest))

pub scalars_are : (xs : List ℕ) → all_scalars xs ≡ list_all scalar xs
scalars_are [] = refl
scalars_are (x ∷ xs) = ap (λ b. scalar x && b) (scalars_are xs)
